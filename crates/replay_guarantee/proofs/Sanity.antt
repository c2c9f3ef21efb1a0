-- The theorems are not empty: `replay_guaranteed` and `faulty_ignored` apply to traces of specs/Witnesses.antt, of
-- which all their hypotheses hold.
-- Assumes nothing.
use mathlib.Core.Bool.{Bool, true, false, not, cond, ◌&&◌}
use mathlib.Core.List.{List}
use mathlib.Core.Path.{◌≡◌, refl, ap, ap₂, ◌∙◌}
use Prim.Native.Nat.{ℕ, ◌+◌, ◌*◌, ◌%◌, ◌<◌}
use native.Mathlib.Nat.{mul_assoc}
use borrow.Author.Tests.{eqb-true}
use lib.Arith.{digits_lt, digits_mod}
use lib.Dec.{eqb, lit≤}
use lib.IntN.{ℤ, pos}
use mir.Syntax.{w32}
use mir.Val.{to_z}
use Rattle.arithmetic.specs.Counting.{any_below}
use Rattle.arithmetic.proofs.Bools.{and_left, and_right}
use Rattle.model.specs.Ensemble.{missing, present}
use Rattle.model.specs.declared.Settings.{Settings}
use Rattle.model.specs.RoundSheet.{word, settings_at}
use Rattle.trace.specs.Trace.{trace_header_size, rounds_at, role_at, sound_at, trace_entries, entry_number}
use Rattle.trace.specs.Trace.{traced_mark, traced_bits, traced_entry}
use Rattle.run.specs.Rounds.{below}
use Rattle.trace.specs.Traces.{lent17, once_trace, direct_trace_with, direct_trace, other_trace}
use Rattle.trace.proofs.ComputedTraces.{replayed}
use Rattle.demand_3.proofs.Computed.Tested.{tested}
use Rattle.replay_guarantee.specs.Replayed.{Bytes, AlikeForSound, Passes, FewBad, Replays}
use Rattle.replay_guarantee.specs.Witnesses.{Meets, OtherIgnored}
use Rattle.sheet_laws.proofs.Words.{bytes-tested}
use Rattle.replay_guarantee.proofs.Computed.{once-reached, direct-reached}
use Rattle.replay_guarantee.proofs.Replayed.{faulty_ignored, replay_guaranteed}

-- ---- two traces alike, by tests that compute

-- the bits of a first reading; an entry's mark, and the bits of its reading
abbrev first_bits : List ℕ → ℕ → ℕ
first_bits s p = word s (trace_header_size + (settings_at s).n + 4 * p)

abbrev mark_in : List ℕ → ℕ → ℕ
mark_in s e = traced_mark s (settings_at s).n e

abbrev bits_in : List ℕ → ℕ → ℕ
bits_in s e = traced_bits s (settings_at s).n (rounds_at s) e

module _ (s t : List ℕ) where
  abbrev n : ℕ
  n = (settings_at s).n

  abbrev same-role : ℕ → Bool
  same-role p = eqb (role_at s p) (role_at t p)

  abbrev same_first : ℕ → Bool
  same_first p = eqb (first_bits s p) (first_bits t p)

  abbrev same-entry : ℕ → Bool
  same-entry e = eqb (mark_in s e) (mark_in t e) && eqb (bits_in s e) (bits_in t e)

  entry-tested :
      (e : ℕ) → same-entry e ≡ true
      → traced_entry s (settings_at s).n (rounds_at s) e ≡ traced_entry t (settings_at t).n (rounds_at t) e
  unfolding traced_entry
  entry-tested e h =
      ap₂ (λ (mark bits : ℕ). cond (eqb mark 1) (present (to_z w32 bits)) missing)
      (eqb-true (mark_in s e) (mark_in t e) (and_left _ _ h))
      (eqb-true (bits_in s e) (bits_in t e) (and_right (eqb (mark_in s e) (mark_in t e)) _ h))

  entry-inside :
      (k r p : ℕ) → k < rounds_at s → r < n → p < n → entry_number n k r p < trace_entries n (rounds_at s)
  entry-inside k r p lk lr lp = rw (mul_assoc (rounds_at s) n n) at (digits_lt (digits_lt lk lr) lp)

  -- no role differs, no sound cabinet's first reading and no entry to one
  alike-tested :
      (settings_at s ≡ settings_at t)
      × (rounds_at s ≡ rounds_at t)
      × (any_below (λ p. not (same-role p)) n ≡ false)
      × (any_below (λ p. sound_at s p && not (same_first p)) n ≡ false)
      × (any_below (λ e. sound_at s (e % n) && not (same-entry e)) (trace_entries n (rounds_at s)) ≡ false)
      → AlikeForSound s t
  alike-tested (settings, rounds, same_roles, same-firsts, same_entries) =
      record {
        settings = settings;
        rounds = rounds;
        roles = λ p l. eqb-true (role_at s p) (role_at t p) (tested (λ i. true) same-role n same_roles p l refl);
        first = λ p l h.
            ap (to_z w32)
            (eqb-true (first_bits s p) (first_bits t p) (tested (sound_at s) same_first n same-firsts p l h));
        sent = λ k r p lk lr lp h.
            entry-tested (entry_number n k r p)
            (tested (λ e. sound_at s (e % n)) same-entry (trace_entries n (rounds_at s)) same_entries (entry_number n k r p)
            (entry-inside k r p lk lr lp) (ap (sound_at s) (digits_mod (k * n + r) lp) ∙ h))
            ∙ ap (λ (c : Settings). traced_entry t (settings_at t).n (rounds_at t) (entry_number c.n k r p)) settings;
      }

-- ---- the theorems applied

promised :
    (s : List ℕ) (good : ℕ → Bool) (truth : ℤ) → Meets s 0 good truth → FewBad s 0 good
    → Replays s lent17 0 truth
promised s good truth m few =
    replay_guaranteed s lent17 m.bytes m.passes 0 (lit≤ tt) good truth m.goodness few

pub once-promised : Replays once_trace lent17 0 (pos 0)
once-promised = promised once_trace (below 3) (pos 0) once-reached.meets once-reached.few

pub direct-promised : Replays direct_trace lent17 0 (pos 0)
direct-promised = promised direct_trace (below 3) (pos 0) direct-reached.meets direct-reached.few

alike : AlikeForSound direct_trace other_trace
unfolding replayed direct_trace_with direct_trace other_trace
alike = alike-tested direct_trace other_trace (refl, refl, refl, refl, refl)

other-bytes : Bytes other_trace
unfolding replayed direct_trace_with other_trace
other-bytes = bytes-tested other_trace refl

other-passes : Passes other_trace lent17
unfolding replayed direct_trace_with other_trace
other-passes = refl

pub other_ignored : OtherIgnored
other_ignored =
    record {
      alike = alike;
      first = unfold replayed direct_trace_with direct_trace in refl;
      other-first = unfold replayed direct_trace_with other_trace in refl;
      received = unfold replayed direct_trace_with direct_trace in refl;
      other-received = unfold replayed direct_trace_with other_trace in refl;
      same =
          faulty_ignored direct_trace other_trace lent17 direct-reached.meets.bytes other-bytes alike
          direct-reached.meets.passes other-passes;
    }
