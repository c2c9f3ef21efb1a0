-- A round of a trace by its parts: what a cabinet hears in them is what the recorded run has it hear. So the first that
-- meets too many faults is the run's, and the values taken over are those that sound cabinets hold next.
-- Assumes nothing.
use mathlib.Core.Bool.{Bool, true, false, cond, ◌&&◌}
use mathlib.Core.List.{List}
use mathlib.Core.Option.{Option, none, some}
use mathlib.Core.Path.{◌≡◌, refl, sym, ap, ap₂, ◌∙◌, subst}
use Prim.Native.Nat.{ℕ, zero, suc, ◌+◌, ◌*◌, ◌≤◌, ◌<◌}
use native.Mathlib.Nat.{add-mul, mul_assoc}
use native.Mathlib.Omega.{arith}
use borrow.Author.Tests.{lt-ltb, le-ltb}
use lib.Arith.{digits_lt}
use lib.Dec.{eqb, ltb, lit≤}
use lib.IntN.{ℤ}
use lib.Signed.{mag}
use lib.ListN.{length, get_or}
use Rattle.arithmetic.specs.Counting.{lowest}
use Rattle.arithmetic.specs.Naturals.{down, up}
use Rattle.arithmetic.specs.Words.{two_to31}
use Rattle.arithmetic.specs.Writing.{table, overwrite}
use Rattle.arithmetic.proofs.Bools.{clash}
use Rattle.arithmetic.proofs.Counting.{lowest_ext, lowest-found, lowest-missed}
use Rattle.arithmetic.proofs.Shift.{down-up}
use Rattle.arithmetic.proofs.Writing.{length-table, get_d_table, get_d_overwrite}
use Rattle.model.specs.declared.Settings.{Settings}
use Rattle.model.specs.Ensemble.{present}
use Rattle.model.specs.RoundSheet.{byte, word, settings_at}
use Rattle.model.specs.Planner.{max_rounds, with_window}
use Rattle.model.specs.Steps.{Round, round_of}
use Rattle.round_laws.proofs.Local.{EqualRounds, round_local}
use Rattle.held.specs.Held.{entry_reading}
use Rattle.hearing.specs.Heard.{heard_from}
use Rattle.station_rounds.specs.Rounds.{heard_round, meets_too_many, next_value, place_of, first_refused}
use Rattle.run.specs.Run.{IsReading, Station, heard}
use Rattle.trace.specs.Trace.{rounds_at, role_at, entry_number, traced_mark, traced_bits, traced_entry}
use Rattle.trace.specs.Trace.{sound_at, traced_station, traced_sends}
use Rattle.trace.specs.Replay.{state_to, refused_in}
use Rattle.run.proofs.Entries.{seen}
use Rattle.refusal_laws.proofs.Limits.{Planned}
use Rattle.run.proofs.Ready.{plan-settings, limits_hold}
use Rattle.trace.proofs.Traced.{Recorded, traced-start, traced_ready, traced-seen, traced-holds, window_in, found_in, replay-refuses}
use Rattle.playing.specs.Playing.{HeldTo, Playable}

-- a number as an index below n
abbrev pub below : ℕ → ℕ → Option ℕ
below n r = cond (ltb r n) (some r) none

-- what is some is not none
abbrev has : {A : Type 0} → Option A → Bool
has (some x) = true
has none = false

pub no_some : {A B : Type 0} (x : A) → some x ≡ none → B
no_some x e = clash refl (ap has e)

-- the entry's number by its round and its number in the round
entry-split : (n k r p : ℕ) → k * (n * n) + (r * n + p) ≡ entry_number n k r p
entry-split n k r p =
    let a = add-mul (k * n) r n in
    let b = mul_assoc k n n in
    omega arith

-- ---- a round

module _ (s : List ℕ) (small : (j : ℕ) → byte s j < 256) (ok : Playable s) where
  pub recorded : Recorded s
  recorded = record { bytes = small; passes = ok.passes; direct = ok.direct }

  module _ (k : ℕ) (early : k < rounds_at s) where
    abbrev n : ℕ
    n = (settings_at s).n

    abbrev st : Station
    st = traced_station s 0

    soon : k < max_rounds
    soon = omega (arith, ok.few)

    -- the parts of the trace that have the roles, and round k's marks and readings
    pub record Parts (roles sent readings : List ℕ) : Type 0 where
      pub long : length roles ≡ (settings_at s).n
      pub role : (r : ℕ) → r < (settings_at s).n → get_or roles r 0 ≡ role_at s r
      pub mark :
          (e : ℕ) → e < (settings_at s).n * (settings_at s).n
          → byte sent e ≡ traced_mark s (settings_at s).n (k * ((settings_at s).n * (settings_at s).n) + e)
      pub bits :
          (e : ℕ) → e < (settings_at s).n * (settings_at s).n
          → word readings (4 * e)
          ≡ traced_bits s (settings_at s).n (rounds_at s) (k * ((settings_at s).n * (settings_at s).n) + e)

    -- the round of what p reads in the run, at the round's settings
    abbrev run-round : ℕ → Round
    run-round p = found_in s recorded 0 (lit≤ tt) k p

    pub planned : (state_to s k).plan.settings ≡ with_window (settings_at s) (window_in s recorded 0 (lit≤ tt) k)
    planned =
        plan-settings st (traced-start s recorded 0 (lit≤ tt)) k (state_to s k)
        (traced_ready s recorded 0 (lit≤ tt) k (omega (arith, soon)))

    pub planned-within : Planned (with_window (settings_at s) (window_in s recorded 0 (lit≤ tt) k))
    planned-within =
        limits_hold st (traced-start s recorded 0 (lit≤ tt)) k (state_to s k)
        (traced_ready s recorded 0 (lit≤ tt) k (omega (arith, soon)))

    module _ (roles sent readings : List ℕ) (parts : Parts roles sent readings) (held : List ℕ)
        (holds : HeldTo s k held) where
      sound_is : (r : ℕ) → r < n → eqb (get_or roles r 0) 1 ≡ sound_at s r
      sound_is r l = ap (λ (x : ℕ). eqb x 1) (parts.role r l)

      -- by its number in the round
      abbrev spot : ℕ → ℕ → ℕ
      spot p r = r * length roles + p

      spot_is : (p r : ℕ) → spot p r ≡ r * n + p
      spot_is p r = ap (λ (m : ℕ). r * m + p) parts.long

      entry_is :
          (p r : ℕ) → p < n → r < n
          → entry_reading (byte sent (spot p r)) (word readings (4 * spot p r))
          ≡ traced_entry s n (rounds_at s) (entry_number n k r p)
      unfolding traced_entry
      entry_is p r lp lr =
          let lies = digits_lt lr lp in
          ap₂ entry_reading
          (ap (byte sent) (spot_is p r) ∙ parts.mark (r * n + p) lies ∙ ap (traced_mark s n) (entry-split n k r p))
          (ap (λ (e : ℕ). word readings (4 * e)) (spot_is p r)
          ∙ parts.bits (r * n + p) lies
          ∙ ap (traced_bits s n (rounds_at s)) (entry-split n k r p))

      heard_is :
          (p r : ℕ) → p < n → r < n
          → heard_from roles held sent readings p r ≡ heard st (state_to s k) (traced_sends s k) r p
      unfolding heard
      heard_is p r lp lr =
          ap
          (λ (b : Bool).
          cond b (present (down two_to31 (get_or held r 0)))
          (entry_reading (byte sent (spot p r)) (word readings (4 * spot p r))))
          (sound_is r lr)
          ∙ go (sound_at s r) refl
        where
          go :
              (b : Bool) → sound_at s r ≡ b
              → cond b (present (down two_to31 (get_or held r 0)))
              (entry_reading (byte sent (spot p r)) (word readings (4 * spot p r)))
              ≡ cond b ((state_to s k).held r) (traced_entry s n (rounds_at s) (entry_number n k r p))
          go true e = sym (holds r lr e)
          go false e = entry_is p r lp lr

      module _ (c : Settings) (own : c ≡ (state_to s k).plan.settings) where
        round_is : (p : ℕ) → p < n → EqualRounds n (heard_round c roles held sent readings p) (run-round p)
        round_is p lp =
            subst
            (λ (d : Settings). EqualRounds n (round_of d 0 (heard_from roles held sent readings p)) (run-round p))
            (sym (own ∙ planned))
            (round_local (with_window (settings_at s) (window_in s recorded 0 (lit≤ tt) k)) 0
            (heard_from roles held sent readings p)
            (seen st (state_to s k) (traced_sends s k) (window_in s recorded 0 (lit≤ tt) k) p)
            (λ r lr. heard_is p r lp lr ∙ sym (traced-seen s recorded 0 (lit≤ tt) k p r)))

        meets_is : (p : ℕ) → p < n → meets_too_many c roles held sent readings p ≡ refused_in s k p
        unfolding meets_too_many
        meets_is p lp =
            ap₂ (λ (b : Bool) (x : ℕ). b && eqb x 0) (sound_is p lp) (round_is p lp).count
            ∙ sym (replay-refuses s recorded k p soon)

        -- the first that meets too many faults
        lowest_is : lowest (meets_too_many c roles held sent readings) (length roles) ≡ lowest (refused_in s k) n
        lowest_is =
            ap (lowest (meets_too_many c roles held sent readings)) parts.long
            ∙ lowest_ext (meets_too_many c roles held sent readings) (refused_in s k) n meets_is

        place-below :
            (o : Option ℕ) → lowest (refused_in s k) n ≡ o
            → lowest (refused_in s k) n ≡ below n (place_of c roles held sent readings o)
        place-below (some p) e =
            e ∙ rw (lt-ltb p n (lowest-found (refused_in s k) n p e).in_range)
        place-below none e = e ∙ rw (parts.long, le-ltb n n (omega arith))

        pub first_is : lowest (refused_in s k) n ≡ below n (first_refused c roles held sent readings)
        unfolding first_refused
        first_is =
            place-below (lowest (refused_in s k) n) refl
            ∙ ap (λ (o : Option ℕ). below n (place_of c roles held sent readings o)) (sym lowest_is)

        -- none did
        module _ (all : n ≤ first_refused c roles held sent readings) where
          none-stops : lowest (refused_in s k) n ≡ none
          none-stops = first_is ∙ rw (le-ltb (first_refused c roles held sent readings) n all)

          whole : first_refused c roles held sent readings ≡ length roles
          unfolding first_refused
          whole = ap (place_of c roles held sent readings) (lowest_is ∙ none-stops)

          value_is :
              (p : ℕ) → p < n → sound_at s p ≡ true
              → (state_to s (suc k)).held p ≡ present (down two_to31 (next_value c roles held sent readings p))
          unfolding next_value
          value_is p lp e =
              holds-next
              ∙ ap present
              (sym (down-up two_to31 (run-round p).value fits)
              ∙ ap (λ (z : ℤ). down two_to31 (up two_to31 z)) (sym (round_is p lp).value))
              ∙ ap
              (λ (b : Bool).
              present (down two_to31 (cond b (up two_to31 (heard_round c roles held sent readings p).value) 0)))
              (sym (sound_is p lp ∙ e))
            where
              counts : 0 < (run-round p).count
              counts = go (run-round p).count refl
                where
                  missed : (sound_at s p && eqb (run-round p).count 0) ≡ false
                  missed = sym (replay-refuses s recorded k p soon) ∙ lowest-missed (refused_in s k) n none-stops p lp

                  go : (x : ℕ) → (run-round p).count ≡ x → 0 < x
                  go zero z = clash (rw (e, z)) missed
                  go (suc x) z = omega arith

              holds-next : (state_to s (suc k)).held p ≡ present (run-round p).value
              holds-next = traced-holds s recorded 0 (lit≤ tt) k p soon counts

              fits : mag (run-round p).value < two_to31
              fits =
                  (subst IsReading holds-next
                  ((traced_ready s recorded 0 (lit≤ tt) (suc k) (omega (arith, soon))).readings p (lp, e))
                  ).sfits

          -- the values that are taken over
          pub holds-next :
              (next next₀ : List ℕ) → length next₀ ≡ n
              → next ≡ overwrite (table (next_value c roles held sent readings) (first_refused c roles held sent readings)) next₀
              → (later : List ℕ)
              → later ≡ table (λ p. cond (eqb (get_or roles p 0) 1) (get_or next p 0) (get_or held p 0)) (length roles)
              → HeldTo s (suc k) later
          holds-next next next₀ room e later f p lp sound =
              value_is p lp sound ∙ ap (λ (x : ℕ). present (down two_to31 x)) (sym shown)
            where
              taken : ℕ → ℕ
              taken q = cond (eqb (get_or roles q 0) 1) (get_or next q 0) (get_or held q 0)

              here : p < length roles
              here = rw parts.long lp

              values : List ℕ
              values = table (next_value c roles held sent readings) (first_refused c roles held sent readings)

              shown : get_or later p 0 ≡ next_value c roles held sent readings p
              shown =
                  ap (λ (l : List ℕ). get_or l p 0) f
                  ∙ get_d_table taken (length roles) p 0 here
                  ∙ ap (λ (b : Bool). cond b (get_or next p 0) (get_or held p 0)) (sound_is p lp ∙ sound)
                  ∙ ap (λ (l : List ℕ). get_or l p 0) e
                  ∙ get_d_overwrite values next₀ p 0
                  (rw (length-table (next_value c roles held sent readings) (first_refused c roles held sent readings), whole)
                  here)
                  ∙ get_d_table (next_value c roles held sent readings) (first_refused c roles held sent readings) p 0
                  (rw whole here)
