-- The role says which of the two is heard, and the four bytes read are the entry's number.
use Rattle.std.proofs.Common.{ℕ, ◌+◌, ◌*◌, ◌<◌, length, get_or, sym, ap, ◌∙◌, arith}
use Rattle.std.proofs.Math.Arith.{digits_lt}
use Rattle.model.specs.RoundSheet.{byte}
use Rattle.held.specs.Held.{entry_reading, held_value}
use Rattle.hearing.specs.Heard.{spoken}
use Rattle.hearing.proofs.Audible.{sound-value, faulty_speaks}
use Rattle.hearing.proofs.hear_one.Goals as goal

pub returns-then-is_sound-clause-value : goal.returns-then-is_sound-clause-value
returns-then-is_sound-clause-value c =
    let a = c.args in
    sound-value (get_or a.round.roles.now a.r 0) (get_or a.round.held.now a.r 0) a.round.sent.now a.round.readings.now
    (a.r * length a.round.roles.now + a.p)
    (sym c.is_sound.ensures ∙ c.if-is_sound.true)

pub returns-clause-value : goal.returns-clause-value
returns-clause-value c =
    let a = c.args in
    let e = c.entry_number-e.result in
    let role = get_or a.round.roles.now a.r 0 in
    let value = get_or a.round.held.now a.r 0 in
    let lies : e < length a.round.sent.now =
    omega (arith, digits_lt c.requires.0 c.requires.1, c.entry_number-e.ensures, a.round.pairs) in
    c.hear_entry.ensures.value
    ∙ ap (λ (bits : ℕ). held_value (entry_reading (byte a.round.sent.now e) bits)) (c.bits.ensures.here lies)
    ∙ ap held_value
    (sym (faulty_speaks role value a.round.sent.now a.round.readings.now e (sym c.is_sound.ensures ∙ c.if-is_sound.false)))
    ∙ ap (λ (i : ℕ). held_value (spoken role value a.round.sent.now a.round.readings.now i)) c.entry_number-e.ensures
