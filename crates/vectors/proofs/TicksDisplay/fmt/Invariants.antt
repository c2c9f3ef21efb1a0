-- What was written so far, and that the text of what is left follows.
use Rattle.std.proofs.Common.{◌≡◌, ℕ, List, ◌++◌}
use Rattle.std.specs.Fmt.{HasWritten, IsPlainFormatter}
use Rattle.std.specs.Slice.Iter.{chunks_rest, chunks_size}
use Rattle.vectors.specs.Texts.{ticks_text}
use Rattle.vectors.proofs.TicksDisplay.fmt.Given as goal

abbrev pub invariant-numbers : goal.invariant-numbers
invariant-numbers g l =
    (goal.iterator-numbers g).can_next l.bytes-iterator
    × (goal.iterator-numbers g).is_finite l.bytes-iterator
    × (chunks_size l.bytes-iterator ≡ 4)
    × (IsPlainFormatter l.initial.f → (done : List ℕ) × HasWritten g.W.Write.write_str_gives l.initial.f done l.f
    × (done ++ ticks_text (chunks_rest l.bytes-iterator) ≡ ticks_text l.fn.self.0.now))
