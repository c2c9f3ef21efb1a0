-- What the calls of the C interface answer, in document 01's terms: a number below 2^32, or a refusal.
--   upper_half, lower_half          an answer over 2^32, and what is left: a refusal's number and place, a part's start
--                                 and length
--   packed_refusal, packed         a refusal as number × 2^32 + place; a length or a count, or a refusal
--   TargetPacked                  a count for a target, or a refusal, packed
use Rattle.std.specs.Prelude.{◌≡◌, ℕ, ◌+◌, ◌*◌, ◌/◌, ◌%◌}
use Rattle.arithmetic.specs.Words.{two_to32}
use Rattle.model.specs.Refusals.{Refusal}
use Rattle.model.specs.declared.Settings.{Settings}
use Rattle.model.specs.Calls.{Verdict, granted, refused, Target}

abbrev pub upper_half : ℕ → ℕ
upper_half answer = answer / two_to32

abbrev pub lower_half : ℕ → ℕ
lower_half answer = answer % two_to32

abbrev pub packed_refusal : Refusal → ℕ
packed_refusal r = r.number * two_to32 + r.place

abbrev pub packed : Verdict ℕ → ℕ
packed (granted size) = size
packed (refused r) = packed_refusal r

-- which count that reaches the target is free
pub record TargetPacked (c : Settings) (κ target answer : ℕ) : Type 0 where
  pub verdict : Verdict ℕ
  pub is_packed : answer ≡ packed verdict
  pub is_target : Target c κ target verdict
