use Rattle.std.proofs.Common.{◌≡◌}
use Rattle.mb_model.specs.PlainChecks.{wrong_part}
use Rattle.mb_fetch.proofs.WrongParts.{wrong_from}
use Rattle.mb_fetch.proofs.checking.check_parts.Given as goal

abbrev pub invariant-loop-index : goal.invariant-loop-index
invariant-loop-index l = wrong_from l.state l.index ≡ wrong_part l.state.digests l.state.first l.state.parts
