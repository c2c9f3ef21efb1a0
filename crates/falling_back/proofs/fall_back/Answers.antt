-- What its calls gave is what the definition gives (Outcomes.antt).
use Rattle.std.proofs.Common.{rules}
use Rattle.falling_back.specs.Answers.{pair_settled_of}
use Rattle.refusals.specs.Answers.{refusal_of}
use Rattle.falling_back.proofs.Outcomes.{turned_away, crusaders-settle, after-direct}
use Rattle.falling_back.proofs.fall_back.Goals as goal

pub returns-in_err-check_pair : goal.returns-in_err-check_pair
returns-in_err-check_pair c =
    let a = c.args in
    let own = c.in_err-check_pair in
    let h = turned_away a.crusaders.now a.direct.now a.answer.now (refusal_of own.field-0.0) own.ensures in
    record { result_value = search (rules, h.0); answer_after = h.1 }

pub returns-in-Ok : goal.returns-in-Ok
returns-in-Ok c =
    let a = c.args in
    let h = crusaders-settle a.crusaders.now a.direct.now a.answer.now c.in_ok-check_pair.ensures
    c.settle_unpacked.new.answer c.in-Ok.size c.in-Ok.ensures in
    record { result_value = h.0; answer_after = h.1 }

pub returns-in-Err : goal.returns-in-Err
returns-in-Err c =
    let a = c.args in
    let t = c.try_direct in
    let h = after-direct a.crusaders.now a.direct.now a.answer.now c.in_ok-check_pair.ensures
    c.settle_unpacked.new.answer c.in-Err.refusal c.in-Err.ensures (pair_settled_of t.result) t.new.answer
    t.ensures.result_value t.ensures.answer_after in
    record { result_value = h.0; answer_after = h.1 }
