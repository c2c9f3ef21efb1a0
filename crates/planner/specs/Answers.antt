-- What the struct of this crate, and what the planner answers, say in document 01's terms.
--   plan_of                  a plan
--   planned_of               a plan or a refusal
use Rattle.std.specs.Prelude.{Result, Ok, Err}
use Rattle.model.specs.Planner as planner
use Rattle.model.specs.Calls.{Verdict, granted, refused}
use Rattle.refusals.specs.declared.Refusal.{Refusal}
use Rattle.refusals.specs.Answers.{refusal_of}
use Rattle.planner.specs.declared.Plan.{Plan}

abbrev pub plan_of : Plan → planner.Plan
plan_of p = record { settings = p.settings; accuracy = p.accuracy; rounds = p.rounds }

-- granted is the plan, with its window, accuracy and rounds; refused is the refusal's number and place
abbrev pub planned_of : Result Plan Refusal → Verdict planner.Plan
planned_of (Ok p) = granted (plan_of p)
planned_of (Err r) = refused (refusal_of r)
