use Rattle.std.proofs.Common.{◌≡◌, ◌≤◌}
use Rattle.mb_base.specs.Shapes.{tally}
use Rattle.mb_learn.specs.Tables.{says}
use Rattle.mb_learn.proofs.checkpoints.sayers.Given as goal

abbrev pub invariant-loop-host : goal.invariant-loop-host
invariant-loop-host l = (l.count ≤ l.host) × (l.count ≡ tally (λ h. says l.all h l.state) l.host)
