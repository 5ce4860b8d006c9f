use Rattle.std.proofs.Common.{take}
use Rattle.std.specs.List.{flat_map}
use Rattle.mb_learn.specs.Hearing.{Holds}
use Rattle.mb_learn.specs.Shown.{shown_by}
use Rattle.mb_learn.proofs.heard.Heard.hold_all.Given as goal

abbrev pub invariant-loop-entry : goal.invariant-loop-entry
invariant-loop-entry l = Holds (flat_map shown_by (take l.entry-index l.entries)) l.initial.self l.self
