-- By whether the number is below 2^32; if not, its upper half is a reason's number.
use Rattle.std.proofs.Common.{◌≡◌, ◌/◌, ◌%◌, lt-ltb, le-ltb, ap, ap₂, ◌∙◌, refl, arith}
use Rattle.arithmetic.specs.Words.{two_to32}
use Rattle.model.specs.Refusals.{refusal}
use Rattle.model.specs.Calls.{refused}
use Rattle.packed_refusals.specs.Answers.{upper_half}
use Rattle.packed_settling.specs.Unpacking.{unpacked}
use Rattle.packed_settling.proofs.unpack.Goals as goal

pub returns-then-said-lt4294967296 : goal.returns-then-said-lt4294967296
unfolding unpacked
returns-then-said-lt4294967296 c = rw (lt-ltb c.args.said two_to32 c.if-said-lt4294967296.true)

pub returns : goal.returns
unfolding unpacked
returns c =
    let listed = c.requires c.if-said-lt4294967296.false in
    let number : c.args.said / two_to32 ≡ upper_half c.args.said % 256 = omega (arith, listed.1) in
    rw (le-ltb c.args.said two_to32 c.if-said-lt4294967296.false)
    (ap refused (c.at.ensures ∙ ap₂ refusal (c.in-Ok.ensures.0 ∙ number) refl))
