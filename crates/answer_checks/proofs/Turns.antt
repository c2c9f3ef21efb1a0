-- The checks of an answer sheet, one after the other.
-- Assumes nothing.
use Rattle.std.proofs.Common.{◌≡◌, List, ℕ, refl, not, ◌||◌, ◌+◌, eqb, ltb, length, ap, ◌∙◌, [], ◌∷◌}
use Rattle.std.proofs.Math.Option.{none}
use Rattle.model.specs.Ensemble.{max_cabinets}
use Rattle.model.specs.RoundSheet.{byte}
use Rattle.model.specs.AnswerSheet.{answer_length}
use Rattle.model.specs.Refusals.{refuse_if, or_next, first_of, bad_cabinets, bad_length, no_room}
use Rattle.model.specs.Refusals.{bad_cabinets_number, bad_length_number, no_room_number}
use Rattle.answer_checks.specs.Checks.{answer_checks, cabinet_checks}

pub in_turn :
    (a : List ℕ)
    → first_of (answer_checks a)
    ≡ or_next (refuse_if (eqb (byte a 0) 0 || ltb max_cabinets (byte a 0)) bad_cabinets_number)
    (or_next (refuse_if (not (eqb (length a) (answer_length (byte a 0)))) bad_length_number) none)
unfolding answer_checks first_of bad_cabinets bad_length
in_turn a = refl

pub cabinet_in_turn :
    (a : List ℕ) (r : ℕ)
    → first_of (cabinet_checks a r)
    ≡ or_next (refuse_if (eqb (byte a 0) 0 || ltb max_cabinets (byte a 0)) bad_cabinets_number)
    (or_next (refuse_if (not (eqb (length a) (answer_length (byte a 0)))) bad_length_number)
    (or_next (refuse_if (ltb (byte a 0) (r + 1)) no_room_number) none))
unfolding cabinet_checks answer_checks first_of bad_cabinets bad_length no_room
cabinet_in_turn a r = refl

pub ruleset turns = (in_turn, cabinet_in_turn)
