use Rattle.std.proofs.Common.{take}
use Rattle.std.specs.List.{AllByRecursion}
use Rattle.mb_msg.specs.Fits.{FitsMember}
use Rattle.mb_msg.proofs.change_bytes.are_whole.Given as goal

abbrev pub invariant-loop-change : goal.invariant-loop-change
invariant-loop-change l = AllByRecursion (FitsMember l.shape) (take l.change-index l.changes)
