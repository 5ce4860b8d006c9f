use Rattle.std.proofs.Common.{◌≡◌, true}
use Rattle.std.specs.BTreeMap.{btree_map_len}
use Rattle.mb_cache.specs.Represents.{machine_of, snapshots_of}
use Rattle.mb_learn.proofs.Finishing.{Executing}
use Rattle.mb_learn.proofs.learner.Learner.execute_proved.Given as goal

abbrev pub invariant-loop-batch : goal.invariant-loop-batch
invariant-loop-batch g l = Executing (machine_of g.V.Service.machine) (snapshots_of g.V.Service.machine) l.initial.self.heard l.initial.self.line l.self.heard l.self.line × (l.self.halted ≡ true)

abbrev pub decreases-loop-batch : goal.decreases-loop-batch
decreases-loop-batch g l = btree_map_len l.self.heard.votes.by_position
