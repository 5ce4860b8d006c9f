use Rattle.std.proofs.Common.{◌≡◌}
use Rattle.mb_forgery.proofs.Walks.{Left, stable_with}
use Rattle.mb_forgery.proofs.checker.Checker.in_stable.Given as goal

abbrev pub invariant-loop-member : goal.invariant-loop-member
invariant-loop-member l = record {
  items : l.member-items ≡ l.cert.members;
  left : Left l.self (stable_with l.cert) l.cert.members l.member-index;
}
