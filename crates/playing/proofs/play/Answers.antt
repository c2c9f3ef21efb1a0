-- The checks before 15 decide first, and then the rounds.
use Rattle.std.proofs.Common.{sym, ap, ℕ, ◌≤◌, length, List, arith}
use Rattle.std.proofs.Math.Seq.{length-take-le}
use Rattle.model.specs.declared.Settings.{Settings}
use Rattle.trace_checks.proofs.Traced.{Traced, traced}
use Rattle.playing.proofs.Outcomes.{playable, playable-few, large, run_granted}
use Rattle.playing.proofs.play.Goals as goal

-- the first places are there
room-here :
    (trace : List ℕ) (room : ℕ) (settings : Settings) (long : ℕ) → Traced trace room settings → 64 ≤ long
    → settings.n ≤ long
room-here trace room settings long o large =
    let few = playable-few trace (playable trace room o.head) in
    omega (arith, ap (λ (d : Settings). d.n) o.settings, large)

pub slice_bounds-play_from_start-end : goal.slice_bounds-play_from_start-end
slice_bounds-play_from_start-end c =
    let a = c.args in
    room-here a.trace.now a.room c.in_ok-settings.settings (length a.held.now)
    (traced a.trace.now a.room c.in_ok-settings.settings (sym c.in_ok-settings.ensures))
    (large a.trace.now a.most a.room (length a.held.now) c.in_ok-refuse_if.ensures)

pub slice_bounds-play_from_start-end-2 : goal.slice_bounds-play_from_start-end-2
slice_bounds-play_from_start-end-2 c =
    let a = c.args in
    sym (length-take-le c.in_ok-settings.settings.n a.held.now
    (room-here a.trace.now a.room c.in_ok-settings.settings (length a.held.now)
    (traced a.trace.now a.room c.in_ok-settings.settings (sym c.in_ok-settings.ensures))
    (large a.trace.now a.most a.room (length a.held.now) c.in_ok-refuse_if.ensures)))

pub invariant_of-run : goal.invariant_of-run
invariant_of-run c =
    let a = c.args in
    let o = traced a.trace.now a.room c.in_ok-settings.settings (sym c.in_ok-settings.ensures) in
    record {
      bytes = λ j. (c.type_inv.trace j).fits;
      playable = playable a.trace.now a.room o.head;
      sized = sym o.settings;
      counted = c.byte_at.ensures;
    }

pub play_from_start-requires : goal.play_from_start-requires
play_from_start-requires c =
    let a = c.args in
    let o = traced a.trace.now a.room c.in_ok-settings.settings (sym c.in_ok-settings.ensures) in
    length-take-le c.in_ok-settings.settings.n a.held.now
    (room-here a.trace.now a.room c.in_ok-settings.settings (length a.held.now) o
    (large a.trace.now a.most a.room (length a.held.now) c.in_ok-refuse_if.ensures))

pub returns-clause-result_value : goal.returns-clause-result_value
returns-clause-result_value c =
    let a = c.args in
    run_granted a.trace.now a.most a.room (length a.held.now) c.in_ok-refuse_if.ensures c.in_ok-settings.settings
    c.in_ok-settings.ensures c.in_ok-play_from_start.ensures.stops
