-- The sheets of a run's first round. The sheet that a sound cabinet fills is of bytes, has the station's settings,
-- passes its checks, and its entries are what the cabinet was sent. The same station by FCA starts too, and the two
-- sheets of a cabinet are a pair.
-- Assumes nothing.
use mathlib.Core.Bool.{Bool, true}
use mathlib.Core.List.{List, [], ◌∷◌, ◌++◌}
use mathlib.Core.Option.{none}
use mathlib.Core.Path.{◌≡◌, refl, ap, ◌∙◌, subst⁻¹}
use Prim.Native.Nat.{ℕ, zero, suc, ◌+◌, ◌*◌, ◌/◌, ◌%◌, ◌≤◌, ◌<◌}
use native.Mathlib.Nat.{mod-lt}
use native.Mathlib.Omega.{arith}
use borrow.Author.Tests.{eq-eqb, lt-ltb, le-ltb, ltb-false}
use lib.Arith.{digits_div, digits_mod, digits_lt}
use lib.Dec.{ltb, lit<}
use lib.IntN.{ℤ}
use lib.ListN.{replicate, length-replicate}
use mir.Syntax.{w32}
use mir.Val.{SFits, of_z}
use Rattle.arithmetic.specs.Counting.{bit}
use Rattle.arithmetic.specs.Writing.{table}
use Rattle.arithmetic.proofs.Bools.{and_left, and_right, and_intro, or_right}
use Rattle.arithmetic.proofs.Counting.{bit-le-one}
use Rattle.model.specs.declared.Settings.{Settings}
use Rattle.model.specs.Ensemble.{Readings, is_present, ticks}
use Rattle.model.specs.RoundSheet.{fca, cca, midpoint, trims, settings_at, entry_count, sheet_length, entry_at, bytes4}
use Rattle.model.specs.RoundSheet.{reading_bytes, size_bytes, sheet_bytes}
use Rattle.model.specs.AnswerSheet.{answer_length}
use Rattle.model.specs.Refusals.{first_of, settings_checks, sheet_checks, entry_checks}
use Rattle.model.specs.Calls.{Outcome}
use Rattle.refusal_laws.proofs.Checks.{first_append}
use Rattle.refusal_laws.proofs.Limits.{Planned, limits-pass, planned-limits, planned-spans}
use Rattle.planner_laws.proofs.Checks.{MayStart, none-may-start, may-start-none}
use Rattle.sheet_laws.proofs.Checks.{room-pass}
use Rattle.sheet_laws.proofs.Words.{all-bytes, bytes-tested}
use Rattle.sheet_laws.proofs.Written.{WellFormed, settings-back, sheet-passes, entries-pass}
use Rattle.sheet_pairs.specs.Fallback.{bad_pair, pair_checks}
use Rattle.demand_1_2.specs.Demand2.{Bytes}
use Rattle.run.specs.Run.{Station, N, m, κ, Start, Sends, Allowed, start, heard, entry_of, sheet_of}
use Rattle.run.proofs.Entries.{entry-fits}
use Rattle.run.proofs.Filled.{marks_from, ticks_from, filled_well_formed, filled-entry, filled-write}
use Rattle.fallback_guarantee.specs.Guarantee.{entry, Fits, Relayed, Heard}
use Rattle.fallback_guarantee.specs.Stations.{direct_station}

-- ---- lists of bytes

bytes_append : (s t : List ℕ) → all-bytes s ≡ true → all-bytes t ≡ true → all-bytes (s ++ t) ≡ true
bytes_append [] t hs ht = ht
bytes_append (x ∷ s) t hs ht =
    and_intro (and_left (ltb x 256) (all-bytes s) hs) (bytes_append s t (and_right (ltb x 256) (all-bytes s) hs) ht)

byte_of : (x : ℕ) → ltb (x % 256) 256 ≡ true
byte_of x = lt-ltb (x % 256) 256 (mod-lt x (lit< tt))

bytes-four : (x : ℕ) → all-bytes (bytes4 x) ≡ true
unfolding bytes4
bytes-four x =
    and_intro (byte_of x)
    (and_intro (byte_of (x / 256)) (and_intro (byte_of (x / 65536)) (and_intro (byte_of (x / 16777216)) refl)))

bytes-readings : (zs : List ℤ) → all-bytes (reading_bytes zs) ≡ true
unfolding reading_bytes
bytes-readings [] = refl
bytes-readings (z ∷ zs) =
    bytes_append (bytes4 (of_z w32 z)) (reading_bytes zs) (bytes-four (of_z w32 z)) (bytes-readings zs)

bytes-marks : (b : ℕ → Bool) (n : ℕ) → all-bytes (table (λ e. bit (b e)) n) ≡ true
unfolding table
bytes-marks b zero = refl
bytes-marks b (suc n) =
    bytes_append (table (λ e. bit (b e)) n) (bit (b n) ∷ []) (bytes-marks b n)
    (and_intro (lt-ltb (bit (b n)) 256 (omega (arith, bit-le-one (b n)))) refl)

bytes-sizes : (c : Settings) → Planned c → all-bytes (size_bytes c) ≡ true
unfolding size_bytes
bytes-sizes c l =
    let rule = ltb-false cca c.rule (planned-spans c l) in
    let kind = ltb-false midpoint c.estimator (or_right (trims c.rule) _ l.method) in
    bytes_append (c.n ∷ c.m ∷ c.rule ∷ c.estimator ∷ []) (bytes4 c.window)
    (and_intro (lt-ltb c.n 256 (omega (arith, l.cabinets)))
    (and_intro (lt-ltb c.m 256 (omega (arith, l.cabinets, l.faults)))
    (and_intro (lt-ltb c.rule 256 (omega arith)) (and_intro (lt-ltb c.estimator 256 (omega arith)) refl))))
    (bytes-four c.window)

-- ---- a cabinet's sheet

module _ (st : Station) (begins : Start st) (x : Sends) (allowed : Allowed st x) (p : ℕ) where
  abbrev c : Settings
  c = st.settings

  pub start-planned : Planned st.settings
  start-planned = (none-may-start st.settings (κ st) 0 begins.grants).passes

  abbrev entries : Readings
  entries = entry_of st (start st) x p

  abbrev sheet : List ℕ
  sheet = sheet_of st (start st) x p

  abbrev marks : List ℕ
  marks = marks_from c entries

  abbrev readings : List ℤ
  readings = ticks_from c entries

  passes : first_of (settings_checks st.settings) ≡ none
  passes = limits-pass c (planned-limits c start-planned)

  fits : (e : ℕ) → e < entry_count st.settings → SFits w32 (ticks (entry_of st (start st) x p e))
  fits e l = entry-fits st (start st) x allowed (λ r _ _. begins.readings r) p e l start-planned.some_cabinet

  formed : WellFormed c marks readings
  formed = filled_well_formed c entries passes fits

  sheet_is : sheet_of st (start st) x p ≡ sheet_bytes c marks readings
  unfolding sheet_of
  sheet_is =
      ap (λ (z : Outcome). z.buffer)
      (filled-write c entries passes fits (replicate (sheet_length c) 0) (length-replicate (sheet_length c) 0))

  pub sheet-settings : settings_at (sheet_of st (start st) x p) ≡ st.settings
  sheet-settings = ap settings_at sheet_is ∙ settings-back c marks readings formed

  pub sheet-fits : Fits st (sheet_of st (start st) x p)
  unfolding sheet_bytes
  sheet-fits =
      record {
        bytes =
            subst⁻¹ Bytes sheet_is
            (bytes-tested (sheet_bytes c marks readings)
            (bytes_append (size_bytes c) (marks ++ reading_bytes readings) (bytes-sizes c start-planned)
            (bytes_append marks (reading_bytes readings) (bytes-marks (λ e. is_present (entries e)) (entry_count c))
            (bytes-readings readings))));
        cabinets = ap (λ (d : Settings). d.n) sheet-settings;
        faults = ap (λ (d : Settings). d.m) sheet-settings;
        window = ap (λ (d : Settings). d.window) sheet-settings;
      }

  pub sheet_checked : first_of (sheet_checks (sheet_of st (start st) x p)) ≡ none
  sheet_checked = ap (λ (s : List ℕ). first_of (sheet_checks s)) sheet_is ∙ sheet-passes c marks readings formed

  pub entries_checked : first_of (entry_checks (sheet_of st (start st) x p)) ≡ none
  entries_checked = ap (λ (s : List ℕ). first_of (entry_checks s)) sheet_is ∙ entries-pass c marks readings formed

  sheet-entry :
      (e : ℕ) → e < entry_count st.settings → entry (sheet_of st (start st) x p) e ≡ entry_of st (start st) x p e
  sheet-entry e l =
      ap (λ (d : Settings). entry_at sheet (entry_count d) e) sheet-settings
      ∙ ap (λ (s : List ℕ). entry_at s (entry_count c) e) sheet_is
      ∙ filled-entry c entries passes fits e l

  -- what sound cabinets hold is relayed, or heard
  pub sheet-relayed : st.settings.rule ≡ cca → Relayed st st.sound (sheet_of st (start st) x p)
  unfolding entry_count entry_of heard
  sheet-relayed rule r i lr li er ei =
      let crusaders = eq-eqb st.settings.rule cca rule in
      sheet-entry (r * N st + i) (rw crusaders (digits_lt lr li))
      ∙ rw (crusaders, digits_div r li, digits_mod r li, ei, er)

  pub sheet-heard : st.settings.rule ≡ fca → Heard st st.sound (sheet_of st (start st) x p)
  unfolding entry_count entry_of heard
  sheet-heard rule r lr er = sheet-entry r (rw rule lr) ∙ rw (rule, er)

-- ---- the two sheets of a cabinet

pub direct-start :
    (st : Station) → Start st → (estimator : ℕ) → estimator ≤ midpoint → Start (direct_station st estimator)
direct-start st begins estimator known =
    record {
      grants =
          may-start-none (direct_station st estimator).settings (κ st) 0
          (record {
            passes =
                record {
                  some_cabinet = may.passes.some_cabinet;
                  cabinets = may.passes.cabinets;
                  faults = may.passes.faults;
                  method = le-ltb midpoint estimator known;
                  window = may.passes.window;
                };
            accurate = may.accurate;
            few = may.few;
          });
      readings = begins.readings;
    }
  where
    may : MayStart st.settings (κ st) 0
    may = none-may-start st.settings (κ st) 0 begins.grants

pub pair-passes :
    (a b : List ℕ) (room : ℕ) → first_of (sheet_checks a) ≡ none → first_of (sheet_checks b) ≡ none
    → bad_pair (settings_at a) (settings_at b) ≡ none → answer_length (settings_at a).n ≤ room
    → first_of (pair_checks a b room) ≡ none
unfolding pair_checks first_of
pair-passes a b room pa pb fit roomy =
    first_append (sheet_checks a) _
    ∙ rw (pa, first_append, pb, fit, room-pass room (answer_length (settings_at a).n) roomy)
