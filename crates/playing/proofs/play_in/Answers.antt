-- What settling a round leaves on the trace's parts is the run's round.
use Rattle.std.proofs.Common.{◌≡◌, sym, ap, ◌∙◌, ℕ, List, ◌+◌, ◌*◌, length, arith}
use Rattle.trace.specs.Trace.{trace_header_size, rounds_at, trace_entries}
use Rattle.trace_parts.specs.Parts.{part_from}
use Rattle.playing.proofs.Parting.{few}
use Rattle.playing.proofs.Turn.{roles-room, next-long, round-stops, round-passes}
use Rattle.playing.proofs.play_in.Goals as goal

-- the readings, of as many rounds as the trace has
readings-are :
    (trace : List ℕ) (n rounds k : ℕ) (readings : List ℕ) → rounds ≡ rounds_at trace
    → readings
    ≡ part_from trace (trace_header_size + 5 * n + trace_entries n rounds + 4 * trace_entries n k)
    (4 * trace_entries n 1)
    → readings
    ≡ part_from trace (trace_header_size + 5 * n + trace_entries n (rounds_at trace) + 4 * trace_entries n k)
    (4 * trace_entries n 1)
readings-are trace n rounds k readings all e =
    e
    ∙ ap
    (λ (r : ℕ).
    part_from trace (trace_header_size + 5 * n + trace_entries n r + 4 * trace_entries n k) (4 * trace_entries n 1))
    all

pub overflow_cast-result : goal.overflow_cast-result
overflow_cast-result c =
    let a = c.args in
    let room = roles-room a.run.trace.now c.args.run.bytes c.args.run.playable a.k
    (omega (arith, c.args.run.counted, c.requires.early)) a.settings c.requires.planned
    c.roles-roles.result.now c.marks-sent.result.now c.readings-readings.result.now
    c.roles-roles.ensures c.marks-sent.ensures
    (readings-are a.run.trace.now a.settings.n a.run.rounds a.k _ c.args.run.counted c.readings-readings.ensures) in
    let small =
    few a.run.trace.now c.args.run.bytes c.args.run.playable a.k
    (omega (arith, c.args.run.counted, c.requires.early)) a.settings c.requires.planned in
    omega (arith, room, small, c.in-Some.ensures.one)

pub returns-in-Some : goal.returns-in-Some
returns-in-Some c =
    let a = c.args in
    let room = roles-room a.run.trace.now c.args.run.bytes c.args.run.playable a.k
    (omega (arith, c.args.run.counted, c.requires.early)) a.settings c.requires.planned
    c.roles-roles.result.now c.marks-sent.result.now c.readings-readings.result.now
    c.roles-roles.ensures c.marks-sent.ensures
    (readings-are a.run.trace.now a.settings.n a.run.rounds a.k _ c.args.run.counted c.readings-readings.ensures) in
    round-stops a.run.trace.now c.args.run.bytes c.args.run.playable a.k
    (omega (arith, c.args.run.counted, c.requires.early)) a.settings c.requires.planned
    c.roles-roles.result.now c.marks-sent.result.now c.readings-readings.result.now
    c.roles-roles.ensures c.marks-sent.ensures
    (readings-are a.run.trace.now a.settings.n a.run.rounds a.k _ c.args.run.counted c.readings-readings.ensures)
    a.held.now
    a.next.now
    c.requires.next_len.1
    c.requires.next_len.0
    c.requires.held_to
    c.in-Some.p
    c.settle_round-refused.new.next
    c.in-Some.ensures.value
    c.in-Some.ensures.next_after
    (omega (arith, room, c.in-Some.ensures.one))

pub take_over-requires : goal.take_over-requires
take_over-requires c =
    let a = c.args in
    let r = c.settle_round-refused in
    let room = roles-room a.run.trace.now c.args.run.bytes c.args.run.playable a.k
    (omega (arith, c.args.run.counted, c.requires.early)) a.settings c.requires.planned
    c.roles-roles.result.now c.marks-sent.result.now c.readings-readings.result.now
    c.roles-roles.ensures c.marks-sent.ensures
    (readings-are a.run.trace.now a.settings.n a.run.rounds a.k _ c.args.run.counted c.readings-readings.ensures) in
    let long = next-long a.run.trace.now c.args.run.bytes c.args.run.playable a.k
    (omega (arith, c.args.run.counted, c.requires.early)) a.settings c.requires.planned
    c.roles-roles.result.now c.marks-sent.result.now c.readings-readings.result.now
    c.roles-roles.ensures c.marks-sent.ensures
    (readings-are a.run.trace.now a.settings.n a.run.rounds a.k _ c.args.run.counted c.readings-readings.ensures)
    a.held.now
    a.next.now
    c.requires.next_len.1
    c.requires.next_len.0
    c.requires.held_to
    _
    r.new.next
    r.ensures.value
    r.ensures.next_after in
    (long ∙ sym room, c.requires.next_len.1 ∙ sym room)

pub returns : goal.returns
returns c =
    let a = c.args in
    let r = c.settle_round-refused in
    let room = roles-room a.run.trace.now c.args.run.bytes c.args.run.playable a.k
    (omega (arith, c.args.run.counted, c.requires.early)) a.settings c.requires.planned
    c.roles-roles.result.now c.marks-sent.result.now c.readings-readings.result.now
    c.roles-roles.ensures c.marks-sent.ensures
    (readings-are a.run.trace.now a.settings.n a.run.rounds a.k _ c.args.run.counted c.readings-readings.ensures) in
    round-passes a.run.trace.now c.args.run.bytes c.args.run.playable a.k
    (omega (arith, c.args.run.counted, c.requires.early)) a.settings c.requires.planned
    c.roles-roles.result.now c.marks-sent.result.now c.readings-readings.result.now
    c.roles-roles.ensures c.marks-sent.ensures
    (readings-are a.run.trace.now a.settings.n a.run.rounds a.k _ c.args.run.counted c.readings-readings.ensures)
    a.held.now
    a.next.now
    c.requires.next_len.1
    c.requires.next_len.0
    c.requires.held_to
    (length c.roles-roles.result.now)
    r.new.next
    c.in_default.ensures.value
    r.ensures.next_after
    (omega (arith, room))
    c.take_over.new.held
    c.take_over.ensures
