-- At each answer the inspections that led there say which check refuses first, or that only check 10 is left.
use Rattle.std.proofs.Common.{◌≡◌, ap, ◌∙◌, ℕ, ◌+◌, ◌-◌, ◌≤◌, length, arith}
use Rattle.model.specs.Refusals.{Refusal}
use Rattle.model.specs.AnswerSheet.{answer_length}
use Rattle.model.specs.Calls.{refused}
use Rattle.settling.proofs.Checking.{room-refuses}
use Rattle.settling.proofs.Checking.{opened_settings, opened_spread, opened_narrow, checks-pass}
use Rattle.settling.proofs.settle_spread.Goals as goal

-- the spread that makes a span so wide is the caller's
same-spread : (window spread span : ℕ) → span ≡ window + spread → span - window ≡ spread
same-spread window spread span e = omega arith

pub span_width-span-requires : goal.span_width-span-requires
span_width-span-requires c =
    let a = c.args in
    opened_narrow a.sheet.now a.spread a.answer.now c.in_ok-settings.settings c.in_ok-settings.ensures

pub returns-then-answer-size : goal.returns-then-answer-size
returns-then-answer-size c =
    let a = c.args in
    ap (λ (f : Refusal). record { verdict = refused f; buffer = a.answer.now }) c.into.ensures
    ∙ room-refuses a.sheet.now a.spread a.answer.now c.in_ok-settings.settings c.in_ok-settings.ensures
    (omega (arith, c.if-answer-size.true, c.answer_length-size.ensures))

pub settle_valid-requires : goal.settle_valid-requires
settle_valid-requires c =
    let a = c.args in
    let settings = c.in_ok-settings.settings in
    let large : answer_length settings.n ≤ length a.answer.now =
    omega (arith, c.if-answer-size.false, c.answer_length-size.ensures) in (
      record {
        passes =
            checks-pass a.sheet.now a.spread a.answer.now settings c.in_ok-settings.ensures large c.in_ok-check_entries.ensures;
        spread =
            rw (same-spread settings.window a.spread _ c.span_width-span.ensures)
            (opened_spread a.sheet.now a.spread a.answer.now settings c.in_ok-settings.ensures);
        own = opened_settings a.sheet.now a.spread a.answer.now settings c.in_ok-settings.ensures;
        room = large;
      },
      omega (arith, c.span_width-span.ensures),
    )
