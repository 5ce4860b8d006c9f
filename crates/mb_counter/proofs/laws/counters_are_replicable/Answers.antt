use Rattle.std.proofs.Common.{arith}
use Rattle.mb_counter.proofs.laws.counters_are_replicable.Goals as goal

pub returns : goal.returns
returns c = c.services_are_replicable.ensures 0 (omega arith)
