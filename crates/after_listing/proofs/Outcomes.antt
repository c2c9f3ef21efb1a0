-- What a replay of some rounds left in the buffer of values has the line as its text; where the trace has fewer rounds,
-- or the replay is refused, there is none.
-- Assumes nothing.
use mathlib.Core.Bool.{true}
use mathlib.Core.List.{List, []}
use mathlib.Core.Path.{◌≡◌, refl, ap, ◌∙◌}
use Prim.Native.Nat.{ℕ, ◌≤◌, ◌<◌, min}
use native.Mathlib.Nat.{min-eq_left}
use borrow.Author.Tests.{le-ltb}
use lib.Dec.{ltb}
use lib.IntN.{ℤ}
use lib.ListN.{length}
use Rattle.arithmetic.specs.Writing.{overwrite}
use Rattle.arithmetic.proofs.Writing.{table_ext}
use Rattle.model.specs.Refusals.{Refusal}
use Rattle.model.specs.RoundSheet.{byte, settings_at}
use Rattle.model.specs.Listing.{signed_decimal}
use Rattle.model.specs.Calls.{Outcome, granted, refused}
use Rattle.trace.specs.Trace.{rounds_at}
use Rattle.trace.specs.Replay.{shown_after, replay_to}
use Rattle.trace.specs.ReplayText.{listed_room, after_text, after_listing}
use Rattle.trace.proofs.Shown.{replay-refused, replay-granted, replay-shows}
use Rattle.text.specs.Text.{text_in}
use Rattle.text.proofs.Texts.{text_fits}
use Rattle.value_lines.specs.Values.{value_at}
use Rattle.after_text.specs.After.{after_capacity, after_written}
use Rattle.after_listing.specs.Listed.{after_listed}

-- a line depends on the values of cabinets 0 to n-1
after-alike :
    (n k : ℕ) (a b : ℕ → ℤ) → ((p : ℕ) → p < n → a p ≡ b p) → after_text n k a ≡ after_text n k b
unfolding after_text
after-alike n k a b same =
    rw (table_ext (λ p. signed_decimal (a p)) (λ p. signed_decimal (b p)) n (λ p l. ap signed_decimal (same p l)))

module _ (s : List ℕ) (k : ℕ) (buffer : List ℕ) where
  -- no text is written
  nothing :
      after_listing s k ≡ [] → after_capacity ≤ length buffer
      → (0 ≡ (after_listed s k buffer).size) × (buffer ≡ (after_listed s k buffer).buffer)
  unfolding after_listed overwrite
  nothing e room = rw (e, le-ltb (length buffer) after_capacity room) (refl, refl)

  pub too_few :
      ltb (rounds_at s) k ≡ true → after_capacity ≤ length buffer
      → (0 ≡ (after_listed s k buffer).size) × (buffer ≡ (after_listed s k buffer).buffer)
  unfolding after_listing
  too_few few room = nothing none room
    where
      none : after_listing s k ≡ []
      none = rw few

  module _ (values left : List ℕ) (early : k ≤ rounds_at s) (room : length values ≡ listed_room) where
    played : (w : Outcome) → w ≡ replay_to s (min k (rounds_at s)) values → w ≡ replay_to s k values
    played w e = e ∙ ap (λ (j : ℕ). replay_to s j values) (min-eq_left early)

    pub refusal-listed :
        (r : Refusal) → record { verdict = refused r; buffer = left } ≡ replay_to s (min k (rounds_at s)) values
        → after_capacity ≤ length buffer
        → (0 ≡ (after_listed s k buffer).size) × (buffer ≡ (after_listed s k buffer).buffer)
    unfolding after_listing
    refusal-listed r e spacious = nothing none spacious
      where
        none : after_listing s k ≡ []
        none =
            rw (
              le-ltb (rounds_at s) k early,
              rw room at (replay-refused s values left k r (played (record { verdict = refused r; buffer = left }) e)),
            )

    pub line-listed :
        (n : ℕ) → n ≡ byte s 0 → ((j : ℕ) → byte s j < 256)
        → (size : ℕ) → record { verdict = granted size; buffer = left } ≡ replay_to s (min k (rounds_at s)) values
        → after_written n k left buffer ≡ after_listed s k buffer
    unfolding after_written after_listed after_listing
    line-listed n cabinets small size e =
        let same = played (record { verdict = granted size; buffer = left }) e in
        rw (le-ltb (rounds_at s) k early, rw room at (replay-granted s values left k size same), cabinets)
        (ap (λ (l : List ℕ). text_in after_capacity l buffer)
        (after-alike (settings_at s).n k (value_at left) (shown_after s k)
        (replay-shows s values left k size same small early)))

-- a buffer that keeps its length holds the whole line
pub line-fits :
    (s : List ℕ) (k : ℕ) (buffer new : List ℕ) (size : ℕ) → size ≡ (after_listed s k buffer).size
    → new ≡ (after_listed s k buffer).buffer
    → length new ≡ length buffer
    → size ≤ length new
unfolding after_listed
line-fits s k buffer new size = text_fits after_capacity (after_listing s k) buffer new size
