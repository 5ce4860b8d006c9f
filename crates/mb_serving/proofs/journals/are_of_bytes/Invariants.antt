use Rattle.std.proofs.Common.{take}
use Rattle.std.specs.List.{AllByRecursion}
use Rattle.mb_sched.specs.Records.{EventFits}
use Rattle.mb_serving.proofs.journals.are_of_bytes.Given as goal

abbrev pub invariant-loop-event : goal.invariant-loop-event
invariant-loop-event l = AllByRecursion EventFits (take l.event-index l.events)
