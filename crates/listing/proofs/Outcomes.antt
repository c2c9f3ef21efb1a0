-- What settling left in the answer buffer, or its refusal, has the listing as its text.
-- Assumes nothing.
use mathlib.Core.List.{List}
use Rattle.std.specs.Prelude.{Ok, Err}
use mathlib.Core.Option.{none}
use mathlib.Core.Path.{◌≡◌, sym, ap, ap₂, ◌∙◌}
use Prim.Native.Nat.{ℕ, ◌≤◌, ◌<◌, min}
use native.Mathlib.Nat.{min-eq_left, min-eq_right, min-le_left, le_trans}
use native.Mathlib.Decide.{dec_le}
use native.Mathlib.Omega.{arith}
use borrow.Author.Tests.{le-ltb}
use lib.Dec.{lit<, lit≤}
use lib.ListN.{length, take, length-take, get_or-eq_default}
use lib.Seq.{take_all, take-length, get_or-take, length-take-le}
use Rattle.model.specs.RoundSheet.{byte, settings_at}
use Rattle.model.specs.AnswerSheet.{answer_length}
use Rattle.model.specs.Refusals.{first_of, settle_checks}
use Rattle.model.specs.Calls.{Verdict, granted, refused, verdict, Outcome, settle_spread, settle}
use Rattle.model.specs.Listing.{max_input, listing_buffer, listing}
use Rattle.sheet_laws.proofs.Outcomes.{refused-some, granted-none}
use Rattle.refusals.specs.declared.Refusal.{Refusal}
use Rattle.refusals.specs.Answers.{refusal_of, outcome_of}
use Rattle.text.specs.Text.{text_in, round_capacity, refusal_capacity, round_written, refusal_written}
use Rattle.text.proofs.Texts.{text_shown, text_fits}
use Rattle.text.proofs.Listings.{listing-refused, listing-settled}
use Rattle.listing.specs.Listed.{listing_in}
use Rattle.value_laws.proofs.Sheets.{settled-estimate, settled-value, settled-used}

-- ---- the part of the input that is read

read_all : (input : List ℕ) → take (min (length input) max_input) input ≡ take max_input input
read_all input = go (dec_le (length input) max_input)
  where
    go : Dec (length input ≤ max_input) → take (min (length input) max_input) input ≡ take max_input input
    go (yes h) = ap (λ (k : ℕ). take k input) (min-eq_left h) ∙ take-length input ∙ sym (take_all max_input input h)
    go (no h) = let long : max_input ≤ length input = omega arith in ap (λ (k : ℕ). take k input) (min-eq_right long)

module _ (input : List ℕ) (end : ℕ) (size : end ≡ min (length input) max_input) where
  pub read_length : end ≡ length (take end input)
  read_length = sym (length-take-le end input (rw size (min-le_left (length input) max_input)))

  pub read-part : take end input ≡ take max_input input
  read-part = ap (λ (k : ℕ). take k input) size ∙ read_all input

-- bytes stay bytes
part_small : (k : ℕ) (l : List ℕ) → ((j : ℕ) → byte l j < 256) → (j : ℕ) → byte (take k l) j < 256
part_small k l small j = go (dec_le k j)
  where
    go : Dec (k ≤ j) → byte (take k l) j < 256
    go (yes h) = rw (get_or-eq_default (take k l) 0 (short h)) (lit< tt)
      where
        short : k ≤ j → length (take k l) ≤ j
        short h = le_trans (rw (length-take k l) (min-le_left k (length l))) h
    go (no h) = rw (get_or-take k l j 0 (omega arith)) (small j)

-- ---- the text of what settling gives

module _ (input buffer answer left : List ℕ) (end : ℕ) (size : end ≡ min (length input) max_input)
    (zeros : answer ≡ listing_buffer) (room : round_capacity ≤ length buffer) where
  abbrev sheet : List ℕ
  sheet = take max_input input

  settled_here : (w : Outcome) → w ≡ settle (take end input) answer → w ≡ settle sheet listing_buffer
  settled_here w e = e ∙ ap₂ settle (read-part input end size) zeros

  verdict-here : (v : Verdict ℕ) → record { verdict = v; buffer = left } ≡ settle (take end input) answer
      → verdict (first_of (settle_checks sheet 0 (length listing_buffer))) (answer_length (settings_at sheet).n) ≡ v
  unfolding settle settle_spread
  verdict-here v e = sym (ap (λ (w : Outcome). w.verdict) (settled_here (record { verdict = v; buffer = left }) e))

  -- a buffer that has room for a round's text has room for a refusal's
  refusal-room : (text : List ℕ) → text_in refusal_capacity text buffer ≡ text_in round_capacity text buffer
  refusal-room text =
      let less = le-ltb (length buffer) refusal_capacity (le_trans (lit≤ tt) room) in
      rw (less, le-ltb (length buffer) round_capacity room)

  pub refusal-listed : (r : Refusal) → outcome_of (Err r) left ≡ settle (take end input) answer
      → refusal_written (refusal_of r).number (refusal_of r).place buffer ≡ listing_in input buffer
  unfolding listing_in
  refusal-listed r e =
      listing-refused input buffer (refusal_of r)
      (refused-some (first_of (settle_checks sheet 0 (length listing_buffer))) (answer_length (settings_at sheet).n) (refusal_of r)
      (verdict-here (refused (refusal_of r)) e))
      ∙ refusal-room (listing input)

  pub round-listed : ((j : ℕ) → byte input j < 256) → (n : ℕ)
      → outcome_of (Ok n) left ≡ settle (take end input) answer
      → round_written left buffer ≡ listing_in input buffer
  unfolding listing_in
  round-listed small n e =
      ap (λ (l : List ℕ). round_written l buffer) (ap (λ (w : Outcome). w.buffer) (settled_here _ e))
      ∙ listing-settled input buffer passed
      (settled-estimate sheet bytes 0 listing_buffer passed)
      (settled-value sheet bytes 0 listing_buffer passed)
      (settled-used sheet bytes 0 listing_buffer passed)
    where
      bytes : (j : ℕ) → byte sheet j < 256
      bytes = part_small max_input input small

      passed : first_of (settle_checks sheet 0 (length listing_buffer)) ≡ none
      passed =
          granted-none (first_of (settle_checks sheet 0 (length listing_buffer))) (answer_length (settings_at sheet).n) n
          (verdict-here (granted n) e)

-- the bytes up to the answered length are the listing
pub listing-shown : (input buffer : List ℕ) → round_capacity ≤ length buffer
    → take (listing_in input buffer).size (listing_in input buffer).buffer ≡ listing input
unfolding listing_in
listing-shown input buffer room = text_shown round_capacity (listing input) buffer room

-- a buffer that keeps its length holds the whole listing
pub listing-fits : (input buffer new : List ℕ) (size : ℕ) → size ≡ (listing_in input buffer).size
    → new ≡ (listing_in input buffer).buffer
    → length new ≡ length buffer
    → size ≤ length new
unfolding listing_in
listing-fits input buffer new size = text_fits round_capacity (listing input) buffer new size
