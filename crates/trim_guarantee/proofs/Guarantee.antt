-- The limits of rules 2 and 3 hold: `trim_guarantee` is the theorem that specs/Guarantee.antt states. The readings are moved
-- up by 2^31; the laws of the two rules over naturals (crates/limit_laws/proofs/Trimmed.antt) do the rest.
-- Assumes nothing.
use mathlib.Core.Bool.{Bool, true}
use mathlib.Core.Path.{◌≡◌, sym, ap, ◌∙◌, subst, subst⁻¹}
use Prim.Native.Nat.{ℕ, ◌+◌, ◌*◌, ◌-◌, ◌≤◌, ◌<◌}
use native.Mathlib.Omega.{arith}
use mir.Syntax.{w32}
use mir.Val.{SFits}
use Rattle.arithmetic.specs.Counting.{count}
use Rattle.arithmetic.specs.Naturals.{down, up}
use Rattle.arithmetic.specs.Words.{two_to31}
use Rattle.arithmetic.proofs.Counting.{count-not}
use Rattle.arithmetic.proofs.Shift.{down-up}
use Rattle.model.specs.declared.Settings.{Settings}
use Rattle.model.specs.Ensemble.{ticks}
use Rattle.model.specs.RoundSheet.{trimmed_midpoint, trimmed_mean, trims, settings_at}
use Rattle.model.specs.AnswerSheet.{answer_length}
use Rattle.model.specs.Steps.{Round, trimmed_round, round_by, round_at}
use Rattle.model.specs.Calls.{granted}
use Rattle.refusal_laws.proofs.Limits.{Limits}
use Rattle.round_laws.specs.Naturals.{kept_nat, trimmed_nat}
use Rattle.round_laws.proofs.Local.{round-by_trimming}
use Rattle.round_laws.proofs.Represent.{raise}
use Rattle.round_laws.proofs.Shifted.{even_31}
use Rattle.value_laws.proofs.Estimates.{Between}
use Rattle.value_laws.proofs.Extremes.{LeastOf, GreatestOf, least, greatest}
use Rattle.value_laws.proofs.Sheets.{readings-fit}
use Rattle.value_laws.proofs.Trimmed.{trimmed-down, trimmed-within, trimmed-midpoint, trimmed-mean}
use Rattle.limit_laws.proofs.Means.{MeansClose}
use Rattle.limit_laws.proofs.Trimmed.{kept-bounds, midpoints-close, means-close}
use Rattle.demand_1_2.proofs.Refused.{passed-limits, passed-granted}
use Rattle.demand_1_2.proofs.Represented.{le-of-down}
use Rattle.demand_1_2.proofs.Demand2.{demand_2}
use Rattle.demand_3.specs.Guarantee.{apart}
use Rattle.demand_3.proofs.Distances.{dist_above, dist_of, fits-mag}
use Rattle.spread_guarantee.specs.Guarantee.{Cabinet, reading, settled, new_value, bad}
use Rattle.trim_guarantee.specs.Guarantee.{Reads, Alike, InRange, midpoint_gap, mean_gap, odd_mean_gap, TrimLimits, TrimGuarantee}

module _ (c : Settings) (δ : ℕ) (sound : ℕ → Bool) (trimmed : trims c.rule ≡ true) (few : bad c sound ≤ c.m) where
  -- ---- one cabinet

  module _ (p : Cabinet) (h : Reads c δ sound p) where
    within : Limits c
    within = subst Limits h.settings (passed-limits p.sheet 0 p.buffer h.passes)

    left : 2 * c.m < c.n
    left = omega (arith, within.faults)

    fits : (r : ℕ) → r < c.n → SFits w32 (ticks (reading p r))
    fits r l = readings-fit p.sheet h.bytes r (subst⁻¹ (λ (d : Settings). r < d.n) h.settings l)

    -- its readings as naturals
    abbrev x : ℕ → ℕ
    x = raise two_to31 (reading p)

    moved : (r : ℕ) → r < c.n → ticks (reading p r) ≡ down two_to31 (x r)
    moved r l = sym (down-up two_to31 (ticks (reading p r)) (fits-mag (ticks (reading p r)) (fits r l)))

    abbrev value : ℕ
    value = trimmed_nat c.rule c.n c.m x

    -- one is sound
    some-sound : 0 < count sound c.n
    some-sound = omega (arith, count-not sound c.n, few, within.faults)

    lo : LeastOf sound x c.n
    lo = least sound x c.n some-sound

    hi : GreatestOf sound x c.n
    hi = greatest sound x c.n some-sound

    -- the sound readings lie within δ of the lowest
    near-lowest : (r : ℕ) → r < c.n → sound r ≡ true → Between (x lo.index) (x lo.index + δ) (x r)
    near-lowest r l e =
        record {
          low = lo.first r l e;
          high =
              dist_above two_to31 δ (ticks (reading p r)) (ticks (reading p lo.index))
              (fits-mag (ticks (reading p r)) (fits r l))
              (fits-mag (ticks (reading p lo.index)) (fits lo.index lo.in_range))
              (h.precise r lo.index l lo.in_range e lo.passes);
        }

    value-range : Between (x lo.index) (x hi.index) value
    value-range =
        trimmed-within c.n c.m left x (x lo.index) (x hi.index)
        (kept-bounds c.n c.m sound few x (x lo.index) (x hi.index) (omega (arith, within.faults))
        (λ r l e. record { low = lo.first r l e; high = hi.first r l e }))
        c.rule

    -- the round of its sheet
    round_is : round_at p.sheet 0 ≡ trimmed_round c (reading p)
    unfolding round_at
    round_is =
        ap (λ (d : Settings). round_by d 0 (reading p)) h.settings ∙ round-by_trimming c 0 (reading p) trimmed

    some-counted : 0 < (trimmed_round c (reading p)).count
    unfolding trimmed_round
    some-counted = omega (arith, left)

    grants : (settled 0 p).verdict ≡ granted (answer_length (settings_at p.sheet).n)
    grants =
        passed-granted p.sheet 0 p.buffer h.passes
        (subst⁻¹ (λ (r : Round). 0 < r.count) round_is some-counted)

    no_refusal : (settled 0 p).verdict ≡ granted (answer_length c.n)
    no_refusal = grants ∙ ap (λ (d : Settings). granted (answer_length d.n)) h.settings

    round-value : (trimmed_round c (reading p)).value ≡ down two_to31 value
    unfolding trimmed_round
    round-value = trimmed-down two_to31 c.n (reading p) x moved c.m left even_31 c.rule

    -- its new value, from the bytes of its answer sheet
    value_is : new_value 0 p ≡ down two_to31 value
    value_is =
        (demand_2.shown p.sheet 0 p.buffer h.bytes (answer_length (settings_at p.sheet).n) grants).value
        ∙ ap (λ (r : Round). r.value) round_is
        ∙ round-value

    in_range_lem : InRange c sound p (new_value 0 p)
    in_range_lem =
        record {
          low = lo.index;
          low_sound = (lo.in_range, lo.passes);
          above =
              rw (value_is, moved lo.index lo.in_range)
              (le-of-down two_to31 (x lo.index) value value-range.low);
          high = hi.index;
          high_sound = (hi.in_range, hi.passes);
          below =
              rw (value_is, moved hi.index hi.in_range)
              (le-of-down two_to31 value (x hi.index) value-range.high);
        }

    -- what is left lies within δ of the lowest sound reading
    bounds : (r : ℕ) → r < c.n → kept_nat c.n c.m x r ≡ true → Between (x lo.index) (x lo.index + δ) (x r)
    bounds =
        kept-bounds c.n c.m sound few x (x lo.index) (x lo.index + δ) (omega (arith, within.faults)) near-lowest

  -- ---- two

  module _ (p q : Cabinet) (hp : Reads c δ sound p) (hq : Reads c δ sound q) (alike : Alike c sound p q) where
    same : (r : ℕ) → r < c.n → sound r ≡ true → x p hp r ≡ x q hq r
    same r l e = ap (up two_to31) (alike r l e)

    -- the lowest sound reading of the one bounds the other
    abbrev s : ℕ
    s = x p hp (lo p hp).index

    others : (r : ℕ) → r < c.n → kept_nat c.n c.m (x q hq) r ≡ true → Between s (s + δ) (x q hq r)
    others =
        kept-bounds c.n c.m sound few (x q hq) s (s + δ) (omega (arith, (within p hp).faults))
        (λ r l e.
        let b = near-lowest p hp r l e in
        let t = same r l e in
        record { low = omega (arith, b.low); high = omega (arith, b.high) })

    planned : 3 * c.m < c.n
    planned = omega (arith, (within p hp).faults)

    midpoints : c.rule ≡ trimmed_midpoint → MeansClose 2 (value p hp) (value q hq) δ
    midpoints rule =
        rw (trimmed-midpoint c.rule c.n c.m (x p hp) rule, trimmed-midpoint c.rule c.n c.m (x q hq) rule)
        (midpoints-close c.n c.m planned sound few (x p hp) (x q hq) same s δ (bounds p hp) others)

    not-midpoint : c.rule ≡ trimmed_mean → c.rule ≡ trimmed_midpoint → ⊥
    not-midpoint e f = omega arith

    means : c.rule ≡ trimmed_mean → MeansClose (c.n - 2 * c.m) (value p hp) (value q hq) (bad c sound * δ)
    means rule =
        rw (
          trimmed-mean c.rule c.n c.m (x p hp) (not-midpoint rule),
          trimmed-mean c.rule c.n c.m (x q hq) (not-midpoint rule),
        )
        (means-close c.n c.m planned sound few (x p hp) (x q hq) same s δ (bounds p hp) others)

    near_by : (d : ℕ) → value p hp ≤ value q hq + d → value q hq ≤ value p hp + d → apart (new_value 0 p) (new_value 0 q) ≤ d
    near_by d h i = rw (value_is p hp, value_is q hq) (dist_of two_to31 d (value p hp) (value q hq) h i)

  back : (p q : Cabinet) → Alike c sound p q → Alike c sound q p
  back p q alike r l e = sym (alike r l e)

  pub limits : TrimLimits c δ sound
  limits =
      record {
        unrefused = no_refusal;
        range = in_range_lem;
        midpoints = λ rule p q hp hq alike.
            near_by p q hp hq alike (midpoint_gap δ) (midpoints p q hp hq alike rule).past
            (midpoints q p hq hp (back p q alike) rule).past;
        means = λ rule p q hp hq alike.
            near_by p q hp hq alike (mean_gap c δ (bad c sound)) (means p q hp hq alike rule).past
            (means q p hq hp (back p q alike) rule).past;
        odd_means = λ rule odd p q hp hq alike.
            near_by p q hp hq alike (odd_mean_gap c δ (bad c sound)) ((means p q hp hq alike rule).odd odd)
            ((means q p hq hp (back p q alike) rule).odd odd);
      }

pub trim_guarantee : TrimGuarantee
trim_guarantee c δ sound trimmed few = limits c δ sound trimmed few
