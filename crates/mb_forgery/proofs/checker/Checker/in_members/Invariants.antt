use Rattle.std.specs.List.{flat_map}
use Rattle.mb_model.specs.Inside.{member_claims}
use Rattle.mb_forgery.proofs.Walks.{Left}
use Rattle.mb_forgery.proofs.checker.Checker.in_members.Given as goal

abbrev pub invariant-loop-member : goal.invariant-loop-member
invariant-loop-member l = Left l.self (λ s. flat_map (member_claims s.shape)) l.members l.member-index
