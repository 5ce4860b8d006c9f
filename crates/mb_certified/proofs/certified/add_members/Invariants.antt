use Rattle.std.proofs.Common.{take}
use Rattle.std.specs.List.{flat_map}
use Rattle.mb_model.specs.Inside.{member_claims}
use Rattle.mb_certified.specs.Certified.{Adds}
use Rattle.mb_certified.proofs.certified.add_members.Given as goal

abbrev pub invariant-loop-member : goal.invariant-loop-member
invariant-loop-member l = Adds l.shape l.initial.out.items l.out.items (flat_map (member_claims l.shape) (take l.member-index l.members))
