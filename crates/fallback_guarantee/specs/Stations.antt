-- Document 02, "Paper 7. Fall back to the direct sheet": the first round of a run of demand 3 by CCA, in which every
-- sound cabinet has its direct sheet too, "what was heard directly". Whatever faulty cabinets send to whom, and relay
-- to whom, each sound cabinet settles its crusaders sheet, falls back to its direct sheet, or is refused under 10; and
-- those that are not refused keep the limits of Guarantee.antt and Exact.antt. The theorem is `fallback_stations` of
-- proofs/Stations.antt.
--
--   direct_station         the same station, settling by FCA with an estimator
--   cabinet_of             a sound cabinet's two sheets and its answer buffer, as document 01 fills them
--   FallbackStation       what holds of the first round
--   FallbackStations      of every station by CCA, every estimator of the direct sheets, all that is sent
use Rattle.std.specs.Prelude.{Bool, ◌⊎◌, ◌≡◌, ℕ, ◌-◌, ◌%◌, ◌≤◌, ◌<◌, ℤ}
use Rattle.model.specs.RoundSheet.{fca, cca, midpoint}
use Rattle.model.specs.AnswerSheet.{answer_length}
use Rattle.model.specs.Refusals.{refusal, too_many_faults_number}
use Rattle.model.specs.Calls.{granted, refused}
use Rattle.sheet_pairs.specs.Fallback.{Source, crusaders, direct}
use Rattle.run.specs.Run.{Station, N, m, Start, Sends, Allowed, start, sheet_of, Sound}
use Rattle.demand_3.specs.Guarantee.{apart, Good, bad, close_gap, close_error, wide_gap, wide_error}
use Rattle.demand_3.specs.Exact.{exact_gap, exact_error}
use Rattle.demand_3.specs.Odd.{odd_wide_gap}
use Rattle.fallback_guarantee.specs.Guarantee.{Cabinet, outcome, new_value}

-- "FCA tried on what was heard directly": N, m and δ are the same, the estimator may be another
abbrev pub direct_station : Station → ℕ → Station
direct_station st estimator =
    record {
      settings =
          record {
            n = st.settings.n;
            m = st.settings.m;
            rule = fca;
            estimator = estimator;
            window = st.settings.window;
          };
      accuracy = st.accuracy;
      sound = st.sound;
      first = st.first;
    }

-- in the first round: "FCA: entry s is what s sent p. CCA: entry r × N + s is what r sent s, if s is sound; a faulty s
-- relays anything or nothing, to each p apart"
abbrev pub cabinet_of : Station → ℕ → Sends → ℕ → Cabinet
cabinet_of st estimator x p =
    record {
      crusaders_sheet = sheet_of st (start st) x p;
      direct_sheet = sheet_of (direct_station st estimator) (start (direct_station st estimator)) x p;
      buffer = x.buffer p;
    }

module _ (st : Station) (estimator : ℕ → ℕ) (x : Sends) where
  abbrev pub SettlesBy : Source → ℕ → Type 0
  SettlesBy source p =
      (outcome (cabinet_of st (estimator p) x p)).verdict
      ≡ granted (record { source = source; size = answer_length (N st) })

  -- p is sound, and not refused
  pub record Unrefused (p : ℕ) : Type 0 where
    pub sound : Sound st p
    pub settled : SettlesBy crusaders p ⊎ SettlesBy direct p

  abbrev pub value : ℕ → ℤ
  value p = new_value (cabinet_of st (estimator p) x p)

  pub record FallbackStation (good : ℕ → Bool) (true-value : ℤ) : Type 0 where
    -- no other refusal is met
    pub settles :
        (p : ℕ) → Sound st p
        → Unrefused p
        ⊎ ((outcome (cabinet_of st (estimator p) x p)).verdict ≡ refused (refusal too_many_faults_number 0))
    -- nobody falls back, and nobody is refused, where at most m are bad; so the planned limits of demand 3 hold
    pub planned : bad st good ≤ m st → (p : ℕ) → Sound st p → SettlesBy crusaders p
    pub planned_precise :
        bad st good ≤ m st → (p q : ℕ) → Sound st p → Sound st q → apart (value p) (value q) ≤ close_gap st (start st) x
    pub planned_accurate :
        bad st good ≤ m st → (p : ℕ) → Sound st p → apart (value p) true-value ≤ close_error st (start st) x
    pub precise :
        bad st good < N st - m st → (p q : ℕ) → Unrefused p → Unrefused q
        → apart (value p) (value q) ≤ wide_gap st (bad st good)
    pub accurate :
        bad st good < N st - m st → (p : ℕ) → Unrefused p → apart (value p) true-value ≤ wide_error st (bad st good)
    pub odd :
        N st % 2 ≡ 1 → bad st good < N st - m st → (p q : ℕ) → Unrefused p → Unrefused q
        → apart (value p) (value q) ≤ odd_wide_gap st (bad st good)
    pub exact_precise :
        bad st good < N st - m st → (p q : ℕ) → Unrefused p → Unrefused q
        → apart (value p) (value q) ≤ exact_gap st (bad st good)
    pub exact_accurate :
        bad st good < N st - m st → (p : ℕ) → Unrefused p → apart (value p) true-value ≤ exact_error st (bad st good)

-- each cabinet's direct sheet has an estimator of its own
abbrev pub FallbackStations : Type 0
FallbackStations =
    (st : Station) → Start st → st.settings.rule ≡ cca
    → (estimator : ℕ → ℕ) → ((p : ℕ) → estimator p ≤ midpoint)
    → (x : Sends) → Allowed st x
    → (good : ℕ → Bool) (true-value : ℤ) → Good st good true-value
    → FallbackStation st estimator x good true-value
