-- The listing that `settle` writes is the text of the answer sheet that settling leaves, or of its refusal.
-- Assumes nothing.
use mathlib.Core.List.{List}
use mathlib.Core.Option.{none, some}
use mathlib.Core.Path.{◌≡◌}
use Prim.Native.Nat.{ℕ, ◌<◌}
use lib.ListN.{length, take}
use mir.Syntax.{w32}
use mir.Val.{SFits}
use Rattle.model.specs.Refusals.{Refusal}
use Rattle.model.specs.RoundSheet.{settings_at}
use Rattle.model.specs.Steps.{round_at}
use Rattle.model.specs.Refusals.{first_of, settle_checks}
use Rattle.model.specs.Calls.{settle_spread, settle}
use Rattle.model.specs.Listing.{max_input, listing_buffer, listing}
use Rattle.text.specs.Text.{round_capacity, refusal_capacity, text_in, round_written, refusal_written}
use Rattle.text.proofs.Answers.{settled-written}

module _ (input buffer : List ℕ) where
  -- the bytes of the sheet that are read
  abbrev sheet : List ℕ
  sheet = take max_input input

  pub listing-refused : (r : Refusal) → first_of (settle_checks sheet 0 (length listing_buffer)) ≡ some r
      → refusal_written r.number r.place buffer ≡ text_in refusal_capacity (listing input) buffer
  unfolding refusal_written listing
  listing-refused r refused = rw refused

  pub listing-settled : first_of (settle_checks sheet 0 (length listing_buffer)) ≡ none → SFits w32 (round_at sheet 0).estimate
      → SFits w32 (round_at sheet 0).value → ((r : ℕ) → r < (settings_at sheet).n → SFits w32 ((round_at sheet 0).used r))
      → round_written (settle sheet listing_buffer).buffer buffer ≡ text_in round_capacity (listing input) buffer
  unfolding listing settle settle_spread
  listing-settled granted estimate value used =
      rw granted (settled-written (settings_at sheet).n (round_at sheet 0) listing_buffer estimate value used buffer)
