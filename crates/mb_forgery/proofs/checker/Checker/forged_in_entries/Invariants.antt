use Rattle.std.specs.List.{flat_map}
use Rattle.mb_model.specs.Inside.{stamped_requests}
use Rattle.mb_forgery.proofs.Walks.{TagsLeft}
use Rattle.mb_forgery.proofs.checker.Checker.forged_in_entries.Given as goal

abbrev pub invariant-loop-entry : goal.invariant-loop-entry
invariant-loop-entry l = TagsLeft l.self (flat_map stamped_requests) l.entries l.entry-index
