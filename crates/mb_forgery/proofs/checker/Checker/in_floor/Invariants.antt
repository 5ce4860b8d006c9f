use Rattle.std.proofs.Common.{◌≡◌}
use Rattle.mb_forgery.proofs.Walks.{Left, floor_with}
use Rattle.mb_forgery.proofs.checker.Checker.in_floor.Given as goal

abbrev pub invariant-loop-member : goal.invariant-loop-member
invariant-loop-member l = record {
  items : l.member-items ≡ l.cert.members;
  left : Left l.self (floor_with l.cert) l.cert.members l.member-index;
}
