use Rattle.std.specs.List.{flat_map}
use Rattle.mb_model.specs.Inside.{change_requests}
use Rattle.mb_forgery.proofs.Walks.{TagsLeft}
use Rattle.mb_forgery.proofs.checker.Checker.forged_in_members.Given as goal

abbrev pub invariant-loop-member : goal.invariant-loop-member
invariant-loop-member l = TagsLeft l.self (flat_map change_requests) l.members l.member-index
