use Rattle.std.proofs.Common.{[], take}
use Rattle.mb_sched.specs.declared.records.Record.{Record}
use Rattle.mb_audit.specs.Stamps.{texts}
use Rattle.mb_learn.specs.Learners.{Represents}
use Rattle.mb_reviewing.specs.Learning.{machine, snapshots}
use Rattle.mb_reviewing.proofs.LearntAll.{Took}
use Rattle.mb_reviewing.proofs.learning.learn_all.Given as goal

abbrev pub invariant-loop-bytes : goal.invariant-loop-bytes
invariant-loop-bytes l = (r : Record) → Represents r.config.shape r.config.secret machine snapshots [] [] [] l.initial.learner → Took r (texts (take l.bytes-index l.given)) l.learner
