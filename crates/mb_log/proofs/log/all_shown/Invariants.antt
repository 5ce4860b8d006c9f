use Rattle.std.proofs.Common.{◌≡◌, map, take}
use Rattle.mb_model.specs.OwnLog.{as_shown}
use Rattle.mb_log.proofs.log.all_shown.Given as goal

abbrev pub invariant-loop-index : goal.invariant-loop-index
invariant-loop-index l = l.shown ≡ map as_shown (take l.index l.entries.items)
