-- The text that `replay` writes is that of the bytes which a replay leaves, or of its refusal.
-- Assumes nothing.
use mathlib.Core.List.{List}
use mathlib.Core.Option.{none, some}
use mathlib.Core.Path.{◌≡◌, refl, ap}
use Prim.Native.Nat.{ℕ, zero, suc, ◌≤◌, ◌<◌}
use native.Mathlib.Nat.{le_trans}
use borrow.Author.Tests.{le-ltb}
use lib.Dec.{lit≤}
use lib.IntN.{ℤ}
use lib.ListN.{length}
use Rattle.arithmetic.proofs.Counting.{initial, last}
use Rattle.model.specs.Refusals.{Refusal}
use Rattle.model.specs.RoundSheet.{settings_at}
use Rattle.model.specs.Refusals.{first_of}
use Rattle.trace.specs.Trace.{rounds_at, role_at}
use Rattle.trace.specs.Replay.{replay_checks, shown_after}
use Rattle.trace.specs.ReplayText.{value_lines, final_text, listed_room, replay_listing}
use Rattle.text.specs.Text.{text_in, refusal_capacity, refusal_written}
use Rattle.value_lines.specs.Values.{value_at}
use Rattle.replay_text.specs.Final.{final_capacity, final_written}

-- a text depends on the values of cabinets 0 to n-1
module _ (role : ℕ → ℕ) (a b : ℕ → ℤ) where
  values-alike : (n : ℕ) → ((p : ℕ) → p < n → a p ≡ b p) → value_lines role a n ≡ value_lines role b n
  unfolding value_lines
  values-alike zero same = refl
  values-alike (suc n) same = rw (values-alike n (initial same), last same)

  final_alike :
      (n rounds : ℕ) → ((p : ℕ) → p < n → a p ≡ b p) → final_text n rounds role a ≡ final_text n rounds role b
  unfolding final_text
  final_alike n rounds same = rw (values-alike n same)

module _ (s buffer : List ℕ) where
  pub final_listed :
      (values : List ℕ) → first_of (replay_checks s (rounds_at s) listed_room) ≡ none
      → ((p : ℕ) → p < (settings_at s).n → value_at values p ≡ shown_after s (rounds_at s) p)
      → final_written s values buffer ≡ text_in final_capacity (replay_listing s) buffer
  unfolding final_written replay_listing
  final_listed values passes shows =
      rw passes
      (ap (λ (l : List ℕ). text_in final_capacity l buffer)
      (final_alike (role_at s) (value_at values) (shown_after s (rounds_at s)) (settings_at s).n (rounds_at s) shows))

  -- a buffer that has room for final values has room for a refusal
  pub refusal-listed :
      (r : Refusal) → first_of (replay_checks s (rounds_at s) listed_room) ≡ some r → final_capacity ≤ length buffer
      → refusal_written r.number r.place buffer ≡ text_in final_capacity (replay_listing s) buffer
  unfolding refusal_written replay_listing
  refusal-listed r refuses room =
      let less = le-ltb (length buffer) refusal_capacity (le_trans (lit≤ tt) room) in
      rw (refuses, less, le-ltb (length buffer) final_capacity room)
