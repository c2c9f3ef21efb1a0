-- An entry at fault where none before it is, is the lowest; where the loop ends, there is none.
use Rattle.std.proofs.Common.{ℕ, ℤ, pos, Bool, List, length, get_or, w32, of_z, sym, ap, ◌∙◌, arith}
use Rattle.std.proofs.Math.Option.{some}
use Rattle.model.specs.RoundSheet.{byte, bits_in}
use Rattle.model.specs.Refusals.{not_zero, bad_missing, bad_missing_number}
use Rattle.sheet_laws.proofs.Readings.{bits_again}
use Rattle.sheet_laws.proofs.Searching.{search_none, search_more, check_found, check_ended}
use Rattle.writer_checks.proofs.check_missing.Goals as goal

-- what is asked of an entry
abbrev fault : List ℕ → List ℤ → ℕ → Bool
fault marks readings i = not_zero (byte marks i) (bits_in readings i)

pub entries-init : goal.entries-init
entries-init c = search_none (fault c.args.marks.now c.args.readings.now)

pub returns-then-not_zero : goal.returns-then-not_zero
unfolding bad_missing
returns-then-not_zero c =
    let a = c.args in
    ap some c.at.ensures
    ∙ check_found (fault a.marks.now a.readings.now) bad_missing_number (length a.marks.now) c.entries.e (omega arith)
    c.entries.invariant
    (ap (λ (z : ℤ). not_zero (byte a.marks.now c.entries.e) (of_z w32 z))
    (sym (bits_again (get_or a.readings.now c.entries.e (pos 0)) (omega arith)))
    ∙ sym c.not_zero.ensures ∙ c.if-not_zero.true)

pub entries-preserved : goal.entries-preserved
entries-preserved c =
    let a = c.args in
    search_more (fault a.marks.now a.readings.now) c.entries.e c.entries.invariant
    (ap (λ (z : ℤ). not_zero (byte a.marks.now c.entries.e) (of_z w32 z))
    (sym (bits_again (get_or a.readings.now c.entries.e (pos 0)) (omega arith)))
    ∙ sym c.not_zero.ensures ∙ c.if-not_zero.false)

pub returns : goal.returns
unfolding bad_missing
returns c =
    let a = c.args in
    check_ended (fault a.marks.now a.readings.now) bad_missing_number (length a.marks.now) c.entries.e
    (omega arith) (omega arith) c.entries.invariant
