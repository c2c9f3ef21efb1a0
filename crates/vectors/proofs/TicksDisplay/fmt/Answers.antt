-- The text of a number's bytes is written, and that of what is left follows.
use Rattle.std.proofs.Common.{ℕ, List, ◌++◌, ap, ◌∙◌, append_assoc, arith, rules}
use Rattle.std.proofs.Output.{has_written_append}
use Rattle.std.proofs.lemmas.Grind.{common_steps}
use Rattle.std.specs.Slice.Iter.{chunks_rest}
use Rattle.vectors.specs.Texts.{tick_text}
use Rattle.vectors.proofs.Fours.{tick_first}
use Rattle.vectors.proofs.TicksDisplay.fmt.Goals as goal

pub numbers-preserved : goal.numbers-preserved
numbers-preserved g c =
    let steps = c.in-Some.ensures.steps in
    let size = c.numbers.invariant.2 in (
      search rules,
      tt,
      steps.0 ∙ size,
      λ plain.
          let so_far = c.numbers.invariant.3 plain in (
            so_far.0 ++ tick_text c.in-Some.bytes.now,
            has_written_append _ _ _ _ _ _ so_far.1 (first_of (search rules, grind (arith, common_steps))),
            append_assoc so_far.0 _ _
                ∙ ap (λ (t : List ℕ). so_far.0 ++ t)
                (tick_first _ c.in-Some.bytes.now (chunks_rest c.next.new.self) steps.1.0 (rw size at steps.1.1) steps.1.2)
                ∙ so_far.2,
          ),
    )
