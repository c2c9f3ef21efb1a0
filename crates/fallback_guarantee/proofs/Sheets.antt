-- What a sheet of a station's round reads of the good cabinets, and what it settles to, as naturals moved up by an even
-- number. A good cabinet is read as what it holds, or, on a crusaders sheet where more than m are bad, perhaps not at
-- all. With at most m bad some reading is accepted.
--   mag-near           a number reaches no further than another and their distance
--   Sheet              a sheet of the station, with its own rule, that reads the good ones
-- Assumes nothing.
use mathlib.Core.Bool.{Bool, true, false}
use mathlib.Core.List.{List}
use mathlib.Core.Logic.{◌⊎◌, inl, inr, ⊎_elim}
use mathlib.Core.Path.{◌≡◌, refl, sym, ap, ◌∙◌, subst, subst⁻¹}
use Prim.Native.Nat.{ℕ, suc, ◌+◌, ◌*◌, ◌-◌, ◌≤◌, ◌<◌}
use native.Mathlib.Nat.{add-zero}
use native.Mathlib.Omega.{arith}
use lib.IntN.{ℤ, pos, negsuc}
use lib.Signed.{mag}
use mir.Syntax.{w32}
use mir.Val.{SFits}
use Rattle.arithmetic.specs.Counting.{count}
use Rattle.arithmetic.specs.Naturals.{down, up}
use Rattle.arithmetic.proofs.Bools.{clash}
use Rattle.model.specs.declared.Settings.{Settings}
use Rattle.model.specs.Ensemble.{Reading, missing, present, Readings, is_present, ticks}
use Rattle.model.specs.RoundSheet.{settings_at, trims}
use Rattle.model.specs.Steps.{readings_of, Round, round_of, round_by, round_at}
use Rattle.decision_laws.proofs.Rows.{held-read, held-read_or_not, read-direct, read-decided}
use Rattle.refusal_laws.proofs.Limits.{Limits}
use Rattle.round_laws.proofs.Local.{round-by-spans}
use Rattle.value_laws.proofs.Fits as values
use Rattle.value_laws.proofs.Sheets.{readings-fit}
use Rattle.limit_laws.proofs.Settled.{Receiver, accepts, value_by, CloseValues, GoodAlike, ReadsSome, Reads, Truth}
use Rattle.limit_laws.proofs.Limits.{unrefused}
use Rattle.run.specs.Run.{Station, N, m, δ, κ}
use Rattle.demand_3.specs.Guarantee.{apart, Good, bad}
use Rattle.demand_3.proofs.Distances.{dist_up, dist_above, dist_below, even-far, far-most, far-near, far-twice}
use Rattle.demand_3.proofs.Received.{received, received-count, received-value}
use Rattle.demand_3.proofs.Round.{present-ticks}
use Rattle.sheet_pairs.specs.Fallback.{Source, crusaders, direct}
use Rattle.fallback_guarantee.specs.Guarantee.{entry, Fits, ReadBy}
use Rattle.fallback_guarantee.proofs.Checks.{rule_of}

mag-near : (a b : ℤ) → mag a ≤ mag b + apart a b
unfolding up
mag-near (pos x) (pos y) = omega (arith, dist_up (suc (x + y)) (pos x) (pos y) (omega arith) (omega arith))
mag-near (pos x) (negsuc y) = omega (arith, dist_up (suc (x + y)) (pos x) (negsuc y) (omega arith) (omega arith))
mag-near (negsuc x) (pos y) = omega (arith, dist_up (suc (x + y)) (negsuc x) (pos y) (omega arith) (omega arith))
mag-near (negsuc x) (negsuc y) = omega (arith, dist_up (suc (x + y)) (negsuc x) (negsuc y) (omega arith) (omega arith))

pub record Sheet (st : Station) (good : ℕ → Bool) (i : Source) (s : List ℕ) : Type 0 where
  pub fits : Fits st s
  pub reads : ReadBy st good i s
  pub within : Limits (settings_at s)
  pub rule : (settings_at s).rule ≡ rule_of i

module _ (st : Station) (good : ℕ → Bool) (truth : ℤ) (stand : Good st good truth) where
  -- ---- what the good ones hold

  -- what they are moved up by: far enough for them, and for true time
  abbrev reach : ℤ
  reach = pos (mag truth + κ st)

  abbrev pub far : ℕ
  far = even-far reach

  pub truth-near : mag truth < far
  truth-near = omega (arith, far-near reach)

  abbrev pub held : ℕ → ℕ
  held r = up far (ticks (st.first r))

  held-near : (r : ℕ) → r < N st → good r ≡ true → mag (ticks (st.first r)) < far
  held-near r l e = omega (arith, mag-near (ticks (st.first r)) truth, stand.accurate r l e, far-near reach)

  pub close : CloseValues (N st) (δ st) good held
  close r s lr ls er es =
      dist_above far (δ st) (ticks (st.first r)) (ticks (st.first s)) (held-near r lr er) (held-near s ls es)
      (stand.precise r s lr ls er es)

  pub true_time : Truth (N st) good held (up far truth) (κ st)
  true_time =
      record {
        above = λ r l e.
            dist_above far (κ st) (ticks (st.first r)) truth (held-near r l e) truth-near (stand.accurate r l e);
        below = λ r l e.
            dist_below far (κ st) (ticks (st.first r)) truth (held-near r l e) truth-near (stand.accurate r l e);
      }

  first-here : (r : ℕ) → r < N st → good r ≡ true → st.first r ≡ present (ticks (st.first r))
  first-here r l e = present-ticks (st.first r) (stand.present r l e)

  -- ---- a sheet

  -- its settings
  abbrev own : Source → List ℕ → Settings
  own i s =
      record { n = N st; m = m st; rule = rule_of i; estimator = (settings_at s).estimator; window = δ st }

  -- what it reads
  abbrev reading : Source → List ℕ → Readings
  reading i s = readings_of (own i s) (entry s)

  module _ (s : List ℕ) (planned : 3 * m st < N st) (r : ℕ) (l : r < N st) (e : good r ≡ true) where
    row_or_not :
        bad st good < N st - m st → (i : Source) → ReadBy st good i s
        → (reading i s r ≡ st.first r) ⊎ (reading i s r ≡ missing)
    row_or_not many crusaders reads =
        ⊎_elim
        (λ d. inl (read-decided (own crusaders s) (entry s) r refl ∙ d ∙ sym (first-here r l e)))
        (λ d. inr (read-decided (own crusaders s) (entry s) r refl ∙ d))
        (held-read_or_not good (N st) (m st) planned (λ i. entry s (r * N st + i)) (ticks (st.first r))
        (λ i k f. reads r i l k e f ∙ first-here r l e) many)
    row_or_not many direct reads = inl (read-direct (own direct s) (entry s) r refl ∙ reads r l e)

    row-held : bad st good ≤ m st → (i : Source) → ReadBy st good i s → reading i s r ≡ st.first r
    row-held few crusaders reads =
        read-decided (own crusaders s) (entry s) r refl
        ∙ held-read good (N st) (m st) planned (λ i. entry s (r * N st + i)) (ticks (st.first r))
        (λ i k f. reads r i l k e f ∙ first-here r l e) few
        ∙ sym (first-here r l e)
    row-held few direct reads = read-direct (own direct s) (entry s) r refl ∙ reads r l e

  spans : (i : Source) → trims (rule_of i) ≡ false
  spans crusaders = refl
  spans direct = refl

  module _ (i : Source) (s : List ℕ) (h : Sheet st good i s) where
    abbrev c : Settings
    c = own i s

    abbrev v : Readings
    v = reading i s

    own_is : settings_at s ≡ c
    own_is =
        λ j. record {
          n = h.fits.cabinets j;
          m = h.fits.faults j;
          rule = h.rule j;
          estimator = (settings_at s).estimator;
          window = h.fits.window j;
        }

    planned : 3 * m st < N st
    planned = omega (arith, h.within.faults, h.fits.cabinets, h.fits.faults)

    fits : (r : ℕ) → r < N st → SFits w32 (ticks (v r))
    fits r l =
        subst (λ (d : Settings). SFits w32 (ticks (readings_of d (entry s) r))) own_is
        (readings-fit s h.fits.bytes r (subst⁻¹ (λ (n : ℕ). r < n) h.fits.cabinets l))

    -- the readings as naturals, and the value that they settle to
    abbrev pub has : Receiver
    has = received (own i s) (reading i s) far

    abbrev pub value : ℕ
    value = value_by (N st) (m st) (δ st) has

    round_is : round_at s 0 ≡ round_of c 0 v
    unfolding round_at
    round_is =
        ap (λ (d : Settings). round_by d 0 (readings_of d (entry s))) own_is ∙ round-by-spans c 0 v (spans i)

    counts : (round_at s 0).count ≡ count (accepts (N st) (m st) (δ st) has) (N st)
    counts =
        ap (λ (x : Round). x.count) round_is
        ∙ received-count c 0 (δ st) (add-zero (δ st)) v fits far (far-most reach)

    module _ (some-acc : 0 < (round_at s 0).count) where
      some-here : 0 < (round_of c 0 v).count
      some-here = subst (λ (x : Round). 0 < x.count) round_is some-acc

      pub value_is : (round_at s 0).value ≡ down far value
      value_is =
          ap (λ (x : Round). x.value) round_is
          ∙ received-value c 0 (δ st) (add-zero (δ st)) v fits far (far-most reach) (omega (arith, planned))
          (far-twice reach) some-here

      pub value-fits : SFits w32 (round_at s 0).value
      value-fits =
          subst⁻¹ (λ (x : Round). SFits w32 x.value) round_is
          (values.value-fits c 0 v fits some-here (omega (arith, planned)))

      pub reads-some : bad st good < N st - m st → ReadsSome (N st) (m st) (δ st) good held has
      reads-some many = record { alike = alike; unrefused = subst (λ (a : ℕ). 0 < a) counts some-acc }
        where
          alike : GoodAlike (N st) good held has
          alike r l e here =
              ⊎_elim
              (λ d. ap (λ (y : Reading). up far (ticks y)) d)
              (λ d. clash here (ap is_present d))
              (row_or_not s planned r l e many i h.reads)

    -- with at most m bad
    pub some-accepted : bad st good ≤ m st → 0 < (round_at s 0).count
    some-accepted few =
        subst⁻¹ (λ (a : ℕ). 0 < a) counts
        (unrefused (N st) (m st) (δ st) good held (record { planned = planned; few = few; close = close }) has all_read)
      where
        row : (r : ℕ) → r < N st → good r ≡ true → v r ≡ st.first r
        row r l e = row-held s planned r l e few i h.reads

        all_read : Reads (N st) good held has
        all_read =
            record {
              alike = λ r l e here. ap (λ (y : Reading). up far (ticks y)) (row r l e);
              here = λ r l e. ap is_present (row r l e) ∙ stand.present r l e;
            }
