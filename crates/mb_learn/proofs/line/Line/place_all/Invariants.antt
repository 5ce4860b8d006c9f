use Rattle.mb_cache.specs.Represents.{machine_of}
use Rattle.mb_learn.proofs.Executing.{Places}
use Rattle.mb_learn.proofs.line.Line.place_all.Given as goal

abbrev pub invariant-loop-request : goal.invariant-loop-request
invariant-loop-request g l = Places (machine_of g.V.Service.machine) l.initial.self l.self l.pos l.requests l.request-index l.placed
