-- What the answers of the code say in document 01's terms.
--   number_of                the number of each reason
--   Listed                   a reason has one of the numbers 1 to 19
--   Numbers                  whether a number is a listed reason's
--   refusal_of               a refusal: its number and its place
--   check_of                 what a check says: nothing, or its refusal
--   verdict_of               what a call answers: what it grants, or the refusal
--   outcome_of               the same of a length, with the buffer that the call was lent
use Rattle.std.specs.Prelude.{◌≡◌, ◌⊎◌, ◌≤◌, ◌<◌, List, Result, Ok, Err, MatchResult, ⊤, ℕ}
use Rattle.std.proofs.Math.Option.{none, some}
use Rattle.model.specs.Refusals.{too_short_number, bad_cabinets_number, bad_faults_number, bad_method_number, bad_window_number, bad_length_number}
use Rattle.model.specs.Refusals.{no_room_number, bad_mark_number, bad_missing_number, too_many_faults_number, bad_plan_number, target_missed_number}
use Rattle.model.specs.Refusals.{bad_trace_number, bad_roles_number, run_stopped_number, bad_spread_number, bad_interval_number, no_interval_number, bad_pair_number}
use Rattle.model.specs.Refusals.{Refusal, Check}
use Rattle.model.specs.Calls.{Verdict, granted, refused, Outcome}
use Rattle.refusals.specs.declared.Refusal as code
use Rattle.refusals.specs.declared.Reason.{Reason}
use Rattle.refusals.specs.declared.UnknownNumber.{UnknownNumber}
use Rattle.refusals.specs.declared.Reason.TheVariants.{TooShort, BadCabinets, BadFaults, BadMethod, BadWindow, BadLength, NoRoom, BadMark, BadMissing, TooManyFaults, BadPlan, TargetMissed, BadTrace, BadRoles, RunStopped, BadSpread, BadInterval, NoInterval, BadPair, Other}

abbrev pub number_of : Reason → ℕ
number_of TooShort = too_short_number
number_of BadCabinets = bad_cabinets_number
number_of BadFaults = bad_faults_number
number_of BadMethod = bad_method_number
number_of BadWindow = bad_window_number
number_of BadLength = bad_length_number
number_of NoRoom = no_room_number
number_of BadMark = bad_mark_number
number_of BadMissing = bad_missing_number
number_of TooManyFaults = too_many_faults_number
number_of BadPlan = bad_plan_number
number_of TargetMissed = target_missed_number
number_of BadTrace = bad_trace_number
number_of BadRoles = bad_roles_number
number_of RunStopped = run_stopped_number
number_of BadSpread = bad_spread_number
number_of BadInterval = bad_interval_number
number_of NoInterval = no_interval_number
number_of BadPair = bad_pair_number
number_of (Other u) = u.number

-- a reason that documents 01 and 02 number, which `Other` is not
abbrev pub Listed : Reason → Type 0
Listed reason = (1 ≤ number_of reason) × (number_of reason ≤ 19)

-- the listed reason that has a number; from 1 to 19 there is one, and of no other number
abbrev pub Numbers : ℕ → Result Reason UnknownNumber → Type 0
Numbers number r =
    MatchResult r (λ reason. (number_of reason ≡ number) × Listed reason) (λ e. (number ≡ 0) ⊎ (19 < number))

abbrev pub refusal_of : code.Refusal → Refusal
refusal_of r = record { number = number_of r.reason; place = r.place }

-- no check refuses, or the first that does
abbrev pub check_of : Result ⊤ code.Refusal → Check
check_of (Ok u) = none
check_of (Err r) = some (refusal_of r)

module _ {A : Type 0} where
  abbrev pub verdict_of : Result A code.Refusal → Verdict A
  verdict_of (Ok a) = granted a
  verdict_of (Err r) = refused (refusal_of r)

-- a length or the refusal, with the buffer as the call leaves it
abbrev pub outcome_of : Result ℕ code.Refusal → List ℕ → Outcome
outcome_of r buffer = record { verdict = verdict_of r; buffer = buffer }
