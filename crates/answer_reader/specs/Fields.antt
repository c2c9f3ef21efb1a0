-- Document 01, "The answer sheet", read field by field from any bytes.
--   answer_checks, cabinet_checks    the checks of the bytes, and of a cabinet (answer_checks/specs/Checks.antt)
--   cabinets_in, count_in, estimate_in, value_in    N, the accepted count, the estimate, the new value
--   mark_in, used_in   a cabinet's mark and used value
--   signed_field      the number that 32 bits in two's complement are
-- Estimate, new value and used value are given by their 32 bits.
use Rattle.std.specs.Prelude.{List, ℕ, ◌+◌, ◌*◌, ℤ}
use Rattle.std.specs.Int.{w32}
use Rattle.std.proofs.Common.{to_z}
use Rattle.model.specs.RoundSheet.{byte, word}
use Rattle.model.specs.AnswerSheet.{answer_header_size}
use Rattle.model.specs.Refusals.{first_of}
use Rattle.model.specs.Calls.{Verdict, granted, refused, verdict}
unfoldable pub use Rattle.answer_checks.specs.Checks.{answer_checks, cabinet_checks}

-- "Byte 0 N; byte 1 the accepted count; bytes 2 to 5 the estimate; bytes 6 to 9 the new value"
unfoldable pub cabinets_in : List ℕ → Verdict ℕ
cabinets_in a = verdict (first_of (answer_checks a)) (byte a 0)

unfoldable pub count_in : List ℕ → Verdict ℕ
count_in a = verdict (first_of (answer_checks a)) (byte a 1)

unfoldable pub estimate_in : List ℕ → Verdict ℕ
estimate_in a = verdict (first_of (answer_checks a)) (word a 2)

unfoldable pub value_in : List ℕ → Verdict ℕ
value_in a = verdict (first_of (answer_checks a)) (word a 6)

-- "then N marks"; "The used values fill the tail of the answer sheet, from byte 10 + N"
unfoldable pub mark_in : List ℕ → ℕ → Verdict ℕ
mark_in a r = verdict (first_of (cabinet_checks a r)) (byte a (answer_header_size + r))

unfoldable pub used_in : List ℕ → ℕ → Verdict ℕ
used_in a r = verdict (first_of (cabinet_checks a r)) (word a (answer_header_size + byte a 0 + 4 * r))

-- "signed numbers in two's complement"
abbrev pub signed_field : Verdict ℕ → Verdict ℤ
signed_field (granted bits) = granted (to_z w32 bits)
signed_field (refused r) = refused r
