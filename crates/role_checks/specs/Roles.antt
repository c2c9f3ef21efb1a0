-- INNER: no reader needs this page to believe a public promise.
-- Check 14 of a list of roles, and of marks in rows of as many marks as there are roles.
--   strange_in   a role is not 0 or 1
--   roles_in     the check
use Rattle.std.specs.Prelude.{Bool, ◌||◌, List, ℕ, ltb, length}
use Rattle.arithmetic.specs.Counting.{any_below}
use Rattle.model.specs.RoundSheet.{byte}
use Rattle.model.specs.Refusals.{Check, refuse_if, bad_roles_number}
use Rattle.sender_checks.specs.Senders.{sent_in}

unfoldable pub strange_in : List ℕ → Bool
strange_in roles = any_below (λ p. ltb 1 (byte roles p)) (length roles)

unfoldable pub roles_in : List ℕ → List ℕ → Check
roles_in roles marks = refuse_if (strange_in roles || sent_in roles marks) bad_roles_number
