use Rattle.std.specs.List.{flat_map}
use Rattle.mb_model.specs.Inside.{stamped_claims}
use Rattle.mb_forgery.proofs.Walks.{Left}
use Rattle.mb_forgery.proofs.checker.Checker.in_all.Given as goal

abbrev pub invariant-loop-entry : goal.invariant-loop-entry
invariant-loop-entry l = Left l.self (λ s. flat_map (stamped_claims s.shape)) l.entries l.entry-index
