-- All readings are counted at once, or the next one is.
use Rattle.std.proofs.Common.{length, arith}
use Rattle.arithmetic.proofs.Counting.{count-le}
use Rattle.spans.specs.Spans.{held_at}
use Rattle.span_counts.specs.Places.{places}
use Rattle.acceptance.proofs.Spans.{counted-few, counted-all, counted-one}
use Rattle.acceptance.proofs.counted.Goals as goal

pub overflow_add-result : goal.overflow_add-result
overflow_add-result c =
    let a = c.args in
    omega (
      arith,
      a.all.now.few,
      counted-few a.all.now.span a.all.now.marks.now a.all.now.values.now a.start a.found a.t c.requires.0 c.requires.1,
      count-le (held_at a.start a.all.now.span a.all.now.marks.now a.all.now.values.now)
          (places (length a.all.now.marks.now) (length a.all.now.values.now)),
      c.held_of_all.ensures,
    )

pub one_more-requires : goal.one_more-requires
one_more-requires c =
    let a = c.args in
    let few =
    counted-few a.all.now.span a.all.now.marks.now a.all.now.values.now a.start a.found a.t c.requires.0 c.requires.1 in
    (c.requires.1, omega (arith, few, a.all.now.few))

pub returns-then-all-ge-WIDE : goal.returns-then-all-ge-WIDE
returns-then-all-ge-WIDE c =
    let a = c.args in
    counted-all a.all.now.span a.all.now.marks.now a.all.now.values.now a.start a.found a.t c.requires.0 c.requires.1
    a.all.now.even
    a.all.now.few
    c.if-all-ge-WIDE.true
    c.held_of_all.result
    c.held_of_all.ensures

pub returns-else-all-ge-WIDE : goal.returns-else-all-ge-WIDE
returns-else-all-ge-WIDE c =
    let a = c.args in
    counted-one a.all.now.span a.all.now.marks.now a.all.now.values.now a.start a.found a.t c.requires.0 c.requires.1
    c.if-all-ge-WIDE.false
    c.one_more.result
    c.one_more.ensures
