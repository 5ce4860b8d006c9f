use Rattle.std.proofs.Common.{take}
use Rattle.std.specs.List.{flat_map}
use Rattle.mb_learn.specs.Hearing.{Holds}
use Rattle.mb_learn.specs.Shown.{log_shown}
use Rattle.mb_learn.proofs.heard.Heard.hold_changes.Given as goal

abbrev pub invariant-loop-change : goal.invariant-loop-change
invariant-loop-change l = Holds (flat_map log_shown (take l.change-index l.changes)) l.initial.self l.self
