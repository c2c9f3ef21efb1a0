-- The first round of a run in which cabinets fall back: `fallback_stations` is the theorem that specs/Stations.antt
-- states. A cabinet's two sheets are a pair that passes its checks, so that what settling each alone gives decides; and
-- they read the good cabinets as `fallback-guarantee` asks.
-- Assumes nothing.
use mathlib.Core.Bool.{Bool}
use mathlib.Core.List.{List, [], ◌∷◌}
use mathlib.Core.Logic.{◌⊎◌, inl, inr, ⊎_elim}
use mathlib.Core.Option.{none}
use mathlib.Core.Path.{◌≡◌, refl, sym, ap, ap₂, ◌∙◌, subst⁻¹}
use Prim.Native.Nat.{ℕ, ◌-◌, ◌≤◌, ◌<◌}
use borrow.Author.Tests.{eq-eqb}
use lib.Dec.{lit≤}
use lib.IntN.{ℤ}
use lib.ListN.{length}
use mir.Syntax.{w32}
use mir.Val.{to_z}
use Rattle.model.specs.Refusals.{Refusal}
use Rattle.model.specs.Ensemble.{ticks}
use Rattle.model.specs.RoundSheet.{cca, midpoint, word}
use Rattle.model.specs.AnswerSheet.{answer_length}
use Rattle.model.specs.Refusals.{first_of, refusal, too_many_faults_number}
use Rattle.model.specs.Calls.{Verdict, granted, refused, settle}
use Rattle.sheet_pairs.specs.Fallback.{Source, crusaders, direct, bad_pair, pair_checks}
use Rattle.sheet_pairs.specs.Results.{Results}
use Rattle.sheet_pairs.proofs.Results.{fallback-results}
use Rattle.run.specs.Run.{Station, N, m, Start, Sends, Allowed, start, sheet_of, settled, holds, next, Sound}
use Rattle.run.proofs.Ready.{ready_start, passes}
use Rattle.demand_3.specs.Guarantee.{new_value, apart, Good, bad, Close}
use Rattle.demand_3.proofs.Guarantee.{guarantee}
use Rattle.fallback_guarantee.specs.Guarantee.{outcome, Fits, Heard, Settles, Apart, Astray, FallbackLimits}
use Rattle.fallback_guarantee.specs.Guarantee.{Crusades}
use Rattle.fallback_guarantee.specs.Exact.{FallbackExact}
use Rattle.fallback_guarantee.specs.Stations.{direct_station, cabinet_of, SettlesBy, Unrefused, value}
use Rattle.fallback_guarantee.specs.Stations.{FallbackStation, FallbackStations}
use Rattle.fallback_guarantee.proofs.First.{sheet-settings, sheet-fits, sheet_checked, entries_checked}
use Rattle.fallback_guarantee.proofs.First.{sheet-relayed, sheet-heard, direct-start, pair-passes}
use Rattle.fallback_guarantee.proofs.Guarantee.{fallback-guarantee, fallback-exact}

module _ (st : Station) (begins : Start st) (rule : st.settings.rule ≡ cca) (estimator : ℕ → ℕ)
    (known : (p : ℕ) → estimator p ≤ midpoint) (x : Sends) (allowed : Allowed st x) where
  -- ---- a cabinet's call

  module _ (p : ℕ) where
    abbrev d : Station
    d = direct_station st (estimator p)

    abbrev a : List ℕ
    a = sheet_of st (start st) x p

    abbrev b : List ℕ
    b = sheet_of d (start d) x p

    abbrev room : ℕ
    room = length (x.buffer p)

    begins_direct : Start (direct_station st (estimator p))
    begins_direct = direct-start st begins (estimator p) (known p)

    allowed-direct : Allowed (direct_station st (estimator p)) x
    allowed-direct = record { sent = allowed.sent; relayed = allowed.relayed; room = allowed.room }

    fit : bad_pair st.settings (direct_station st (estimator p)).settings ≡ none
    unfolding bad_pair
    fit =
        rw (
          eq-eqb (N st) (N st) refl,
          eq-eqb (m st) (m st) refl,
          eq-eqb st.settings.window st.settings.window refl,
          eq-eqb st.settings.rule cca rule,
        )

    pair : first_of (pair_checks a b room) ≡ none
    pair =
        pair-passes a b room (sheet_checked st begins x allowed p) (sheet_checked d begins_direct x allowed-direct p)
        (ap₂ bad_pair (sheet-settings st begins x allowed p) (sheet-settings d begins_direct x allowed-direct p) ∙ fit)
        (subst⁻¹ (λ (n : ℕ). answer_length n ≤ room) (sheet-fits st begins x allowed p).cabinets (allowed.room p))

    results : Results a b (x.buffer p)
    results = fallback-results a b (x.buffer p)

    -- by what settling each sheet alone gives
    gives :
        (SettlesBy st estimator x crusaders p ⊎ SettlesBy st estimator x direct p)
        ⊎ ((outcome (cabinet_of st (estimator p) x p)).verdict ≡ refused (refusal too_many_faults_number 0))
    unfolding settled
    gives =
        ⊎_elim
        (λ g. inl (inl (results.settles pair (answer_length (N st)) g).verdict))
        (λ e.
        ⊎_elim
        (λ g. inl (inr (results.falls-back pair ten e refl (answer_length (N st)) g).verdict))
        (λ f. inr (results.refuses pair ten e refl ten f).verdict)
        (passes d begins_direct 0 (start d) (ready_start d begins_direct) x allowed-direct p))
        (passes st begins 0 (start st) (ready_start st begins) x allowed p)
      where
        ten : Refusal
        ten = refusal too_many_faults_number 0

    settles : Sound st p
        → Unrefused st estimator x p
        ⊎ ((outcome (cabinet_of st (estimator p) x p)).verdict ≡ refused (refusal too_many_faults_number 0))
    settles sound = ⊎_elim (λ g. inl (record { sound = sound; settled = g })) inr gives

  -- ---- a good set

  module _ (good : ℕ → Bool) (truth : ℤ) (stand : Good st good truth) where
    crusades : (p : ℕ) → Crusades st good (cabinet_of st (estimator p) x p)
    crusades p =
        record {
          fits = sheet-fits st begins x allowed p;
          relayed = λ r i lr li er ei.
              sheet-relayed st begins x allowed p rule r i lr li (stand.sound r lr er) (stand.sound i li ei);
        }

    by-either :
        (p : ℕ) → Unrefused st estimator x p
        → (i : Source) × Settles st good i (cabinet_of st (estimator p) x p)
    by-either p u =
        ⊎_elim
        (λ g. (crusaders, record { fits = (crusades p).fits; reads = (crusades p).relayed; settles = g }))
        (λ g. (direct, record { fits = fits; reads = heard; settles = g }))
        u.settled
      where
        own : Fits (d p) (b p)
        own = sheet-fits (d p) (begins_direct p) x (allowed-direct p) p

        fits : Fits st (b p)
        fits = record { bytes = own.bytes; cabinets = own.cabinets; faults = own.faults; window = own.window }

        heard : Heard st good (b p)
        heard r l e =
            sheet-heard (d p) (begins_direct p) x (allowed-direct p) p refl r l (stand.sound r l e)

    two :
        (limit : ℕ) → Apart st good limit → (p q : ℕ) → Unrefused st estimator x p → Unrefused st estimator x q
        → apart (value st estimator x p) (value st estimator x q) ≤ limit
    two limit within p q up uq =
        let hp = by-either p up in
        let hq = by-either q uq in
        within hp.0 hq.0 (cabinet_of st (estimator p) x p) (cabinet_of st (estimator q) x q) hp.1 hq.1

    one :
        (limit : ℕ) → Astray st good truth limit → (p : ℕ) → Unrefused st estimator x p
        → apart (value st estimator x p) truth ≤ limit
    one limit within p u = let h = by-either p u in within h.0 (cabinet_of st (estimator p) x p) h.1

    -- ---- at most m bad: each settles its crusaders sheet, as in the round of demand 3

    closes : bad st good ≤ m st → Close st truth (start st) x
    closes few = ((guarantee st begins (x ∷ []) (lit≤ tt) (allowed, tt) good truth stand).few few).0

    same-value : bad st good ≤ m st → (p : ℕ) → Sound st p → value st estimator x p ≡ new_value st (start st) x p
    unfolding settled next
    same-value few p sound =
        let grants : (settle (a p) (x.buffer p)).verdict ≡ granted (answer_length (N st)) = (closes few).unrefused p sound in
        ap (λ (answer : List ℕ). to_z w32 (word answer 6))
        ((results p).settles (pair p) (answer_length (N st)) grants).buffer
        ∙ sym (ap (λ (v : Verdict ℕ). ticks (holds v (settle (a p) (x.buffer p)).buffer)) grants)

    limits : bad st good < N st - m st → FallbackLimits st good truth
    limits = (fallback-guarantee st good truth stand).1

    exact : bad st good < N st - m st → FallbackExact st good truth
    exact = fallback-exact st good truth stand

    station : FallbackStation st estimator x good truth
    station =
        record {
          settles = settles;
          planned = λ few p sound.
              (fallback-guarantee st good truth stand).0.planned (cabinet_of st (estimator p) x p) (crusades p) few
              (pair p) (entries_checked st begins x allowed p);
          planned_precise = λ few p q sp sq.
              rw (same-value few p sp, same-value few q sq) ((closes few).precise p q sp sq);
          planned_accurate = λ few p sound. rw (same-value few p sound) ((closes few).accurate p sound);
          precise = λ many. two _ (limits many).precise;
          accurate = λ many. one _ (limits many).accurate;
          odd = λ odd many. two _ ((exact many).odd odd);
          exact_precise = λ many. two _ (exact many).precise;
          exact_accurate = λ many. one _ (exact many).accurate;
        }

pub fallback_stations : FallbackStations
fallback_stations st begins rule estimator known x allowed good truth stand =
    station st begins rule estimator known x allowed good truth stand
