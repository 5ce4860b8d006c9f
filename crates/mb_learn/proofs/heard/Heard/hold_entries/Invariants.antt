use Rattle.std.proofs.Common.{take}
use Rattle.mb_learn.specs.Hearing.{Holds}
use Rattle.mb_learn.proofs.heard.Heard.hold_entries.Given as goal

abbrev pub invariant-loop-entry : goal.invariant-loop-entry
invariant-loop-entry l = Holds (take l.entry-index l.entries) l.initial.self l.self
