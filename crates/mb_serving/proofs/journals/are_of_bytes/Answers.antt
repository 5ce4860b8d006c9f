use Rattle.std.proofs.Common.{subst, arith}
use Rattle.std.specs.List.{AllByRecursion}
use Rattle.std.proofs.lemmas.List.{take_all}
use Rattle.mb_sched.specs.Records.{EventFits}
use Rattle.mb_serving.proofs.JournalLaws.{events_more}
use Rattle.mb_serving.proofs.journals.are_of_bytes.Goals as goal

pub loop-event-init : goal.loop-event-init
loop-event-init c = tt

pub loop-event-preserved : goal.loop-event-preserved
loop-event-preserved c = events_more c.args.events.now c.loop-event.event-index c.event-item.result c.loop-event-test.true c.event-item.is c.loop-event.invariant c.is_of_bytes.ensures

pub returns : goal.returns
returns c = subst (AllByRecursion EventFits) (take_all c.loop-event.event-index c.args.events.now (omega (arith, c.loop-event-test.false))) c.loop-event.invariant
