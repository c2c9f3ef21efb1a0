-- The limits of a round in which cabinets fall back hold: `fallback-guarantee` is the theorem that specs/Guarantee.antt
-- states, and `fallback-exact` that of specs/Exact.antt. Each sheet is a receiver with an estimator of its own, and the
-- laws of one round hold of any two receivers, by whichever sheet.
-- Assumes nothing.
use mathlib.Core.Bool.{Bool}
use mathlib.Core.List.{List}
use mathlib.Core.Option.{none}
use mathlib.Core.Path.{◌≡◌, refl, ap, ◌∙◌, subst}
use Prim.Native.Nat.{ℕ, ◌+◌, ◌-◌, ◌≤◌, ◌<◌}
use native.Mathlib.Nat.{le_trans, lt_of_not-le}
use native.Mathlib.Omega.{arith}
use lib.IntN.{ℤ}
use lib.ListN.{length}
use mir.Syntax.{w32}
use mir.Val.{to_z}
use Rattle.arithmetic.specs.Naturals.{down, up}
use Rattle.arithmetic.proofs.Shift.{down-up}
use Rattle.model.specs.RoundSheet.{word, settings_at}
use Rattle.model.specs.AnswerSheet.{answer_length}
use Rattle.model.specs.Steps.{round_at}
use Rattle.model.specs.Refusals.{first_of, refusal, too_many_faults_number}
use Rattle.model.specs.Calls.{granted}
use Rattle.sheet_laws.proofs.Answer.{answer-value}
use Rattle.limit_laws.proofs.Settled.{Receiver, Spread, ReadsSome}
use Rattle.limit_laws.proofs.Means.{rise}
use Rattle.limit_laws.proofs.Limits.{accuracy-many, precision-many}
use Rattle.run.specs.Run.{Station, N, m, δ, κ}
use Rattle.demand_3.specs.Guarantee.{apart, Good, bad}
use Rattle.demand_3.specs.Exact.{excess, exact_gap, exact_error}
use Rattle.demand_3.proofs.Distances.{dist_of}
use Rattle.demand_3.proofs.Exact.{gap_is, error_is, sharper}
use Rattle.demand_3.proofs.Odd.{wide-odd}
use Rattle.sheet_pairs.specs.Fallback.{Source, crusaders, direct, sheet_by, source_of, pair_checks}
use Rattle.fallback_guarantee.specs.Guarantee.{Cabinet, new_value, Fits, ReadBy, Settles, Apart, Astray}
use Rattle.fallback_guarantee.specs.Guarantee.{FallbackLimits, Crusades, FallbackMeaning, FallbackGuarantee}
use Rattle.fallback_guarantee.specs.Exact.{FallbackExact, FallbackExactLimits}
use Rattle.fallback_guarantee.proofs.Checks.{by-crusaders, pair-limits, pair-rule, granted-source, granted-pair}
use Rattle.fallback_guarantee.proofs.Checks.{granted-buffer, granted-count, grants-crusaders, not-both}
use Rattle.fallback_guarantee.proofs.Checks.{refused-ten}
use Rattle.fallback_guarantee.proofs.Sheets.{Sheet, far, truth-near, close, true_time, held, has, value}
use Rattle.fallback_guarantee.proofs.Sheets.{value_is, value-fits, reads-some, some-accepted}

-- the checks of both sheets pass
abbrev Passing : Cabinet → Type 0
Passing p = first_of (pair_checks p.crusaders_sheet p.direct_sheet (length p.buffer)) ≡ none

abbrev sheet_of : Source → Cabinet → List ℕ
sheet_of i p = sheet_by i p.crusaders_sheet p.direct_sheet

module _ (st : Station) (good : ℕ → Bool) (truth : ℤ) (stand : Good st good truth) where
  sheet-of :
      (i : Source) (p : Cabinet) → Passing p → Fits st (sheet_of i p) → ReadBy st good i (sheet_of i p)
      → Sheet st good i (sheet_of i p)
  sheet-of i p pass fits reads =
      record {
        fits = fits;
        reads = reads;
        within = pair-limits p.crusaders_sheet p.direct_sheet (length p.buffer) pass i;
        rule = pair-rule p.crusaders_sheet p.direct_sheet (length p.buffer) pass i;
      }

  -- ---- a cabinet that is not refused

  module _ (i : Source) (p : Cabinet) (h : Settles st good i p) where
    abbrev a : List ℕ
    a = p.crusaders_sheet

    abbrev b : List ℕ
    b = p.direct_sheet

    abbrev s : List ℕ
    s = sheet_of i p

    sheet : Sheet st good i (sheet_of i p)
    sheet =
        sheet-of i p (granted-pair a b p.buffer i (answer_length (N st)) h.settles) h.fits h.reads

    some-acc : 0 < (round_at (sheet_of i p) 0).count
    some-acc = granted-count a b p.buffer i (answer_length (N st)) h.settles

    -- its readings, and its new value, as naturals
    abbrev receiver : Receiver
    receiver = has st good truth stand i s sheet

    abbrev natural : ℕ
    natural = value st good truth stand i s sheet

    new-value : new_value p ≡ down (far st good truth stand) natural
    new-value =
        ap (λ (answer : List ℕ). to_z w32 (word answer 6))
        (granted-buffer a b p.buffer i (answer_length (N st)) h.settles)
        ∙ answer-value (settings_at a).n (round_at s 0) p.buffer (value-fits st good truth stand i s sheet some-acc)
        ∙ value_is st good truth stand i s sheet some-acc

  -- ---- fewer than N-m bad

  module _ (many : bad st good < N st - m st) where
    abbrev t : ℕ
    t = bad st good

    some : 0 < N st
    some = omega (arith, many)

    spread : Spread (N st) (m st) (δ st) good (held st good truth stand)
    spread = record { many = many; close = close st good truth stand }

    reads :
        (i : Source) (p : Cabinet) (h : Settles st good i p)
        → ReadsSome (N st) (m st) (δ st) good (held st good truth stand) (receiver i p h)
    reads i p h =
        reads-some st good truth stand i (sheet_of i p) (sheet i p h) (some-acc i p h) many

    exact-astray : Astray st good truth (exact_error st t)
    exact-astray i p h =
        let k = far st good truth stand in
        let a =
        accuracy-many (N st) (m st) (δ st) good (held st good truth stand) spread (receiver i p h) (reads i p h)
        (up k truth) (κ st) (true_time st good truth stand) in
        rw (new-value i p h, error_is st t)
        (subst (λ (z : ℤ). apart (down k (natural i p h)) z ≤ κ st + rise (N st) (excess st t))
        (down-up k truth (truth-near st good truth stand))
        (dist_of k (κ st + rise (N st) (excess st t)) (natural i p h) (up k truth) a.above a.below))

    above :
        (i j : Source) (p q : Cabinet) (hp : Settles st good i p) (hq : Settles st good j q)
        → natural i p hp ≤ natural j q hq + exact_gap st t
    above i j p q hp hq =
        rw (gap_is st t)
        (precision-many (N st) (m st) (δ st) good (held st good truth stand) spread (receiver i p hp) (receiver j q hq)
        (reads i p hp) (reads j q hq))

    exact-apart : Apart st good (exact_gap st t)
    exact-apart i j p q hp hq =
        rw (new-value i p hp, new-value j q hq)
        (dist_of (far st good truth stand) (exact_gap st t) (natural i p hp) (natural j q hq) (above i j p q hp hq)
        (above j i q p hq hp))

    limits : FallbackLimits st good truth
    limits =
        record {
          precise = λ i j p q hp hq. le_trans (exact-apart i j p q hp hq) (sharper st some t).gap;
          accurate = λ i p h. le_trans (exact-astray i p h) (sharper st some t).error;
        }

    to_the_tick : FallbackExact st good truth
    to_the_tick =
        record {
          precise = exact-apart;
          accurate = exact-astray;
          odd = λ odd i j p q hp hq. le_trans (exact-apart i j p q hp hq) (wide-odd st some odd t);
        }

  -- ---- what a fallback means

  module _ (p : Cabinet) (h : Crusades st good p) where
    accepts : Passing p → bad st good ≤ m st → 0 < (round_at p.crusaders_sheet 0).count
    accepts pass =
        some-accepted st good truth stand crusaders p.crusaders_sheet
        (sheet-of crusaders p pass h.fits h.relayed)

    -- a round that falls to the direct sheet
    falls : Passing p → source_of p.crusaders_sheet ≡ direct → m st < bad st good
    falls pass e = lt_of_not-le (λ few. not-both (by-crusaders p.crusaders_sheet (accepts pass few)) e)

  meaning : FallbackMeaning st good
  meaning =
      record {
        fallen = λ p h size g.
            falls p h (granted-pair p.crusaders_sheet p.direct_sheet p.buffer direct size g)
            (granted-source p.crusaders_sheet p.direct_sheet p.buffer direct size g);
        refused_10 = λ p h e.
            let ten = refusal too_many_faults_number 0 in
            let last = refused-ten p.crusaders_sheet p.direct_sheet p.buffer ten e refl in
            falls p h last.0 last.1;
        planned = λ p h few pass entries.
            grants-crusaders p.crusaders_sheet p.direct_sheet p.buffer pass entries (accepts p h pass few)
            ∙ ap (λ (n : ℕ). granted (record { source = crusaders; size = answer_length n })) h.fits.cabinets;
      }

pub fallback-guarantee : FallbackGuarantee
fallback-guarantee st good truth stand = (meaning st good truth stand, limits st good truth stand)

pub fallback-exact : FallbackExactLimits
fallback-exact = to_the_tick
