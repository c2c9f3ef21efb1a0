-- What the calls of the C interface hand over beside an answer, in document 01's terms. "Nothing lent is written" by a
-- refusal, and the settings and the plan that it hands over are zeros, which every call refuses.
--   no_settings, no_plan            the zeros beside a refusal
--   opening_of                     the reader's answer: the number of entries, with the settings
--   handed                        an answer with a plan
--   planning_of                    the answer of the planner and of a step: the rounds done, with the plan
use Rattle.std.specs.Prelude.{ℕ}
use Rattle.model.specs.declared.Settings.{Settings}
use Rattle.model.specs.RoundSheet.{entry_count}
use Rattle.model.specs.Planner.{Plan, plan_from}
use Rattle.model.specs.Calls.{Verdict, granted, refused}
use Rattle.packed_refusals.specs.Answers.{packed_refusal}
use Rattle.packed_records.specs.declared.Opening.{Opening}
use Rattle.packed_records.specs.declared.Planning.{Planning}

abbrev pub no_settings : Settings
no_settings = record { n = 0; m = 0; rule = 0; estimator = 0; window = 0 }

abbrev pub no_plan : Plan
no_plan = plan_from no_settings 0

abbrev pub opening_of : Verdict Settings → Opening
opening_of (granted c) = record { answer = entry_count c; settings = c }
opening_of (refused r) = record { answer = packed_refusal r; settings = no_settings }

abbrev pub handed : ℕ → Plan → Planning
handed answer p =
    record { answer = answer; plan = record { settings = p.settings; accuracy = p.accuracy; rounds = p.rounds } }

abbrev pub planning_of : Verdict Plan → Planning
planning_of (granted p) = handed p.rounds p
planning_of (refused r) = handed (packed_refusal r) no_plan
