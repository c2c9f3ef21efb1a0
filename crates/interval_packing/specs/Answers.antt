-- What the call for the interval hands over, in document 02's terms: 0 with the least and the greatest interval, or a
-- refusal with zeros.
use Rattle.model.specs.Calls.{Verdict, granted, refused}
use Rattle.interval.specs.Interval.{Interval}
use Rattle.packed_refusals.specs.Answers.{packed_refusal}
use Rattle.interval_packing.specs.declared.Scheduling.{Scheduling}

abbrev pub scheduling_of : Verdict Interval → Scheduling
scheduling_of (granted i) = record { answer = 0; least = i.least; greatest = i.greatest }
scheduling_of (refused r) = record { answer = packed_refusal r; least = 0; greatest = 0 }
