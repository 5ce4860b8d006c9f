use Rattle.std.proofs.Common.{◌≡◌, drop}
use Rattle.mb_checkpoints.specs.Agreement.{alike, first_with}
use Rattle.mb_checkpoints.proofs.agreement.first_agreed.Given as goal

abbrev pub invariant-loop-said : goal.invariant-loop-said
invariant-loop-said l = first_with alike l.many l.all (drop l.said-index l.all) ≡ first_with alike l.many l.all l.all
