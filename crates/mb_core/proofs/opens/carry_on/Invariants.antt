use Rattle.mb_core.proofs.Carrying.{CarriedTo}
use Rattle.mb_core.proofs.opens.carry_on.Given as goal

abbrev pub invariant-loop-index : goal.invariant-loop-index
invariant-loop-index g l = CarriedTo l.view l.evidence l.index l.initial.replica l.replica
