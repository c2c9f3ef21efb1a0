-- A buffer below the capacity is left as it was, a trace of fewer rounds has no line, and any other is handed on with a
-- buffer for the values.
use Rattle.std.proofs.Common.{◌≡◌, sym, ap, ◌∙◌, ℕ, Bool}
use lib.Dec.{ltb}
use Rattle.trace.specs.ReplayText.{after_listing}
use Rattle.text.proofs.Texts.{text_refused}
use Rattle.after_text.specs.After.{after_capacity}
use Rattle.after_listing.specs.Listed.{after_listed}
use Rattle.after_listing.proofs.Outcomes.{too_few}
use Rattle.after_listing.proofs.line.Goals as goal

-- whether the trace has fewer rounds
fewer : {b : Bool} {rounds x : ℕ} (k : ℕ) → x ≡ rounds → b ≡ ltb x k → ltb rounds k ≡ b
fewer k read test = sym (test ∙ ap (λ (y : ℕ). ltb y k) read)

pub returns-then-text-lt-AFTER_CAPACITY : goal.returns-then-text-lt-AFTER_CAPACITY
unfolding after_listed
returns-then-text-lt-AFTER_CAPACITY c =
    let a = c.args in
    let left = text_refused after_capacity (after_listing a.trace.now a.k) a.text.now c.if-text-lt-AFTER_CAPACITY.true in
    record { value = left.0; text_after = left.1 }

pub returns-then-is_past : goal.returns-then-is_past
returns-then-is_past c =
    let a = c.args in
    let none =
    too_few a.trace.now a.k a.text.now (fewer a.k c.byte_at.ensures c.is_past.ensures ∙ c.if-is_past.true)
    c.if-text-lt-AFTER_CAPACITY.false in
    record { value = none.0; text_after = none.1 }
