use Rattle.std.proofs.Common.{take}
use Rattle.std.specs.List.{AllByRecursion}
use Rattle.mb_parts.specs.Fits.{FitsBackup}
use Rattle.mb_parts.proofs.evidence.are_backups.Given as goal

abbrev pub invariant-loop-member : goal.invariant-loop-member
invariant-loop-member l = AllByRecursion (FitsBackup l.shape l.view) (take l.member-index l.members)
