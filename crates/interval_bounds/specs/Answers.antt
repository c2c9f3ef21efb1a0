-- What the struct of this crate, and what the call answers, say in document 02's terms.
--   interval_of     an interval
--   scheduled_of    an interval or a refusal
use Rattle.std.specs.Prelude.{Result, Ok, Err}
use Rattle.model.specs.Calls.{Verdict, granted, refused}
use Rattle.interval.specs.Interval as interval
use Rattle.refusals.specs.declared.Refusal.{Refusal}
use Rattle.refusals.specs.Answers.{refusal_of}
use Rattle.interval_bounds.specs.declared.Interval.{Interval}

abbrev pub interval_of : Interval → interval.Interval
interval_of i = record { least = i.least; greatest = i.greatest }

-- granted is the least and the greatest interval; refused is the refusal's number and place
abbrev pub scheduled_of : Result Interval Refusal → Verdict interval.Interval
scheduled_of (Ok i) = granted (interval_of i)
scheduled_of (Err r) = refused (refusal_of r)
