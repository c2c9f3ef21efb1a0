-- What was packed is got back.
use Rattle.refusals.specs.Answers.{verdict_of}
use Rattle.packed_settling.proofs.Unpacking.{settle-packs, settled_back}
use Rattle.packed_settling.proofs.settle_unpacked.Goals as goal

pub returns : goal.returns
returns c =
    let a = c.args in
    settled_back a.sheet.now a.answer.now (verdict_of c.unpack.result) c.settle_packed.result
    c.settle_packed.new.answer
    c.unpack.ensures
    c.settle_packed.ensures.value
    c.settle_packed.ensures.answer_after

pub unpack-requires : goal.unpack-requires
unpack-requires c = settle-packs c.args.sheet.now c.args.answer.now c.settle_packed.result c.settle_packed.ensures.value
