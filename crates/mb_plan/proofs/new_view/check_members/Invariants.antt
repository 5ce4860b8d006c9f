use Rattle.mb_plan.specs.Looked.{AreFound}
use Rattle.mb_plan.proofs.MemberFaults.{FaultFrom}
use Rattle.mb_plan.proofs.new_view.check_members.Given as goal

abbrev pub invariant-loop-index : goal.invariant-loop-index
invariant-loop-index l = record {
  members : FaultFrom l.shape l.usig.secret l.view l.members l.index;
  places : AreFound l.shape l.usig.secret l.places;
}
