use Rattle.mb_forgery.proofs.Walks.{TagsLeft}
use Rattle.mb_forgery.proofs.checker.Checker.forged_in_requests.Given as goal

abbrev pub invariant-loop-request : goal.invariant-loop-request
invariant-loop-request l = TagsLeft l.self (λ rs. rs) l.requests l.request-index
