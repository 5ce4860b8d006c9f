use Rattle.std.proofs.Common.{take}
use Rattle.std.specs.List.{flat_map}
use Rattle.mb_model.specs.Inside.{stamped_claims}
use Rattle.mb_certified.specs.Certified.{Adds}
use Rattle.mb_certified.proofs.certified.add_all.Given as goal

abbrev pub invariant-loop-entry : goal.invariant-loop-entry
invariant-loop-entry l = Adds l.shape l.initial.out.items l.out.items (flat_map (stamped_claims l.shape) (take l.entry-index l.entries))
