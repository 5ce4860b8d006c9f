use Rattle.std.proofs.Common.{map, take}
use Rattle.mb_model.specs.GateChecks.{stamp_claim}
use Rattle.mb_learn.specs.Hearing.{Takes}
use Rattle.mb_learn.proofs.heard.Heard.take_stamps.Given as goal

abbrev pub invariant-loop-stamp : goal.invariant-loop-stamp
invariant-loop-stamp l = Takes (map stamp_claim (take l.stamp-index l.stamps)) l.initial.self l.self
