-- Each turn stores one reading more.
use Rattle.std.proofs.Common.{ℕ, ap, ◌∙◌, length, arith}
use mir.Syntax.{w32}
use mir.Val.{to_z}
use Rattle.arithmetic.specs.Naturals.{up}
use Rattle.arithmetic.specs.Words.{two_to31}
use Rattle.trace.specs.Trace.{first_at}
use Rattle.playing.proofs.Filling.{begin, fill, filled}
use Rattle.playing.proofs.first_readings.Goals as goal

pub cabinets-init : goal.cabinets-init
cabinets-init c =
    let a = c.args in
    begin (λ q. up two_to31 (first_at a.trace.now (length a.held.now) q)) a.held.now

pub cabinets-preserved : goal.cabinets-preserved
cabinets-preserved c =
    let a = c.args in
    fill (λ q. up two_to31 (first_at a.trace.now (length a.held.now) q)) a.held.now
    c.cabinets.held
    c.cabinets.p
    c.cabinets.invariant
    (omega (arith, c.cabinets.invariant.room))
    c.bias.result
    (c.bias.ensures ∙ ap (λ (x : ℕ). up two_to31 (to_z w32 x)) c.word_at.ensures)

pub returns : goal.returns
returns c =
    let a = c.args in
    filled (λ q. up two_to31 (first_at a.trace.now (length a.held.now) q)) a.held.now
    c.cabinets.held
    c.cabinets.p
    c.cabinets.invariant
    (omega (arith, c.cabinets.invariant.room))
