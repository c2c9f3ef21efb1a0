-- What a replay left in the buffer of values, or its refusal, has the listing as its text.
-- Assumes nothing.
use mathlib.Core.List.{List}
use mathlib.Core.Path.{◌≡◌}
use Prim.Native.Nat.{ℕ, ◌≤◌, ◌<◌}
use native.Mathlib.Nat.{le_refl}
use lib.ListN.{length}
use Rattle.model.specs.Refusals.{Refusal}
use Rattle.model.specs.Calls.{granted, refused}
use Rattle.model.specs.RoundSheet.{byte}
use Rattle.trace.specs.Trace.{rounds_at}
use Rattle.trace.specs.Replay.{replay}
use Rattle.trace.specs.ReplayText.{listed_room, replay_listing}
use Rattle.trace.proofs.Shown.{replay-refused, replay-granted, replay-shows}
use Rattle.text.specs.Text.{refusal_written}
use Rattle.text.proofs.Texts.{text_fits}
use Rattle.replay_text.specs.Final.{final_capacity, final_written}
use Rattle.replay_text.proofs.Listings as text
use Rattle.replay_listing.specs.Listed.{replay_listed}

module _ (s buffer values left : List ℕ) (room : length values ≡ listed_room) where
  pub refusal-listed :
      (r : Refusal) → record { verdict = refused r; buffer = left } ≡ replay s values → final_capacity ≤ length buffer
      → refusal_written r.number r.place buffer ≡ replay_listed s buffer
  unfolding replay_listed replay
  refusal-listed r e spacious =
      text.refusal-listed s buffer r (rw room at (replay-refused s values left (rounds_at s) r e)) spacious

  pub final_listed :
      ((j : ℕ) → byte s j < 256) → (size : ℕ) → record { verdict = granted size; buffer = left } ≡ replay s values
      → final_written s left buffer ≡ replay_listed s buffer
  unfolding replay_listed replay
  final_listed small size e =
      text.final_listed s buffer left
      (rw room at (replay-granted s values left (rounds_at s) size e))
      (replay-shows s values left (rounds_at s) size e small (le_refl (rounds_at s)))

-- a buffer that keeps its length holds the whole listing
pub listing-fits :
    (s buffer new : List ℕ) (size : ℕ) → size ≡ (replay_listed s buffer).size → new ≡ (replay_listed s buffer).buffer
    → length new ≡ length buffer
    → size ≤ length new
unfolding replay_listed
listing-fits s buffer new size = text_fits final_capacity (replay_listing s) buffer new size
