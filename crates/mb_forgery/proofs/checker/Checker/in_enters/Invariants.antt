use Rattle.std.proofs.Common.{◌≡◌}
use Rattle.mb_forgery.proofs.Walks.{Left, enters_with}
use Rattle.mb_forgery.proofs.checker.Checker.in_enters.Given as goal

abbrev pub invariant-loop-member : goal.invariant-loop-member
invariant-loop-member l = record {
  items : l.member-items ≡ l.e.members;
  left : Left l.self (enters_with l.e) l.e.members l.member-index;
}
