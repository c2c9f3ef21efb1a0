-- A round that is played is the run's next one, at the plan's window.
use Rattle.std.proofs.Common.{sym, ap, ◌∙◌, ◌<◌, length, arith}
use Rattle.model.specs.declared.Settings.{Settings}
use Rattle.model.specs.Planner.{Plan}
use Rattle.model.specs.Refusals.{refusal, run_stopped_number}
use Rattle.planner.specs.Answers.{plan_of}
use Rattle.trace.specs.Trace.{rounds_at}
use Rattle.playing.proofs.Parting.{cabinets, few}
use Rattle.playing.proofs.Rounds.{going_first, going_next, stops-here, played-all}
use Rattle.playing.proofs.play_rounds.Goals as goal

pub rounds-init : goal.rounds-init
rounds-init c =
    let a = c.args in
    going_first a.run.trace.now a.most a.run.settings a.held.now c.args.run.sized c.requires.held_to

pub play_round-requires-clause-early : goal.play_round-requires-clause-early
play_round-requires-clause-early c =
    let a = c.args in
    let early = c.rounds-test.true in
    let soon : c.rounds.k < rounds_at a.run.trace.now = omega (arith, early, c.requires.most_rounds.0, a.run.counted) in
    let own = ap (λ (p : Plan). p.settings) c.rounds.invariant.planned in
    let same =
    cabinets a.run.trace.now c.args.run.bytes c.args.run.playable c.rounds.k soon
    c.rounds.plan.settings own in
    let long =
    c.rounds.invariant.long ∙ c.requires.most_rounds.1 ∙ ap (λ (d : Settings). d.n) c.args.run.sized ∙ sym same in
    (omega (arith, early, c.requires.most_rounds.0), long)

pub play_round-requires-clause-n_le_max_cabinets : goal.play_round-requires-clause-n_le_max_cabinets
play_round-requires-clause-n_le_max_cabinets c =
    let a = c.args in
    let early = c.rounds-test.true in
    let soon : c.rounds.k < rounds_at a.run.trace.now = omega (arith, early, c.requires.most_rounds.0, a.run.counted) in
    let own = ap (λ (p : Plan). p.settings) c.rounds.invariant.planned in
    let small =
    few a.run.trace.now c.args.run.bytes c.args.run.playable c.rounds.k soon
    c.rounds.plan.settings own in
    (small, c.rounds.invariant.holds)

pub returns-in-Some : goal.returns-in-Some
returns-in-Some c =
    stops-here c.args.run.trace.now c.rounds.k c.in-Some.p c.args.most c.play_round.new.held c.in-Some.ensures
    c.rounds.invariant.before
    c.rounds-test.true
    _
    (c.at.ensures ∙ ap (refusal run_stopped_number) c.stop_place.ensures)

pub rounds-preserved : goal.rounds-preserved
rounds-preserved c =
    let a = c.args in
    going_next a.run.trace.now a.most (length a.held.now) (plan_of c.rounds.plan) (plan_of c.stepped-plan.result)
    c.rounds.k
    c.rounds.held
    c.play_round.new.held
    c.rounds.invariant
    c.rounds-test.true
    c.in_default.ensures
    c.stepped-plan.ensures
    c.play_round.auto.held

pub returns : goal.returns
returns c =
    let a = c.args in
    played-all a.run.trace.now c.rounds.k a.most c.rounds.held
    c.rounds.invariant.before
    c.rounds.invariant.holds
    c.rounds.invariant.up_to
    c.rounds-test.false
