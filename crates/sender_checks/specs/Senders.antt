-- INNER: no reader needs this page to believe a public promise.
-- Whether a sound sender's entry is present, of a list of roles, and of marks in rows of as many marks as there are
-- roles.
--   present_in   a mark is 1
--   sent_at      a mark in a row of a sound sender is 1
--   sent_in      one of the marks is such
use Rattle.std.specs.Prelude.{Bool, ◌&&◌, List, ℕ, eqb, length}
use Rattle.arithmetic.specs.Counting.{any_below}
use Rattle.model.specs.RoundSheet.{byte}
use Rattle.trace.specs.Trace.{sender_of}

unfoldable pub present_in : List ℕ → Bool
present_in marks = any_below (λ e. eqb (byte marks e) 1) (length marks)

abbrev pub sent_at : List ℕ → List ℕ → ℕ → Bool
sent_at roles marks e = eqb (byte roles (sender_of (length roles) e)) 1 && eqb (byte marks e) 1

unfoldable pub sent_in : List ℕ → List ℕ → Bool
sent_in roles marks = any_below (sent_at roles marks) (length marks)
