use Rattle.std.proofs.Common.{◌≡◌, Some, None, filter_map}
use Rattle.mb_base.specs.Shapes.{quorum}
use Rattle.mb_model.specs.Stable.{stable_member}
use Rattle.mb_checkpoints.specs.Agreement.{says}
use Rattle.mb_checkpoints.specs.Certificates.{message_at}
use Rattle.mb_checkpoints.proofs.Rows.{chosen}
use Rattle.mb_checkpoints.proofs.checkpoints.Checkpoints.stable_members.Given as goal

abbrev pub invariant-loop-host : goal.invariant-loop-host
invariant-loop-host l = l.members ≡ filter_map (λ m. Some (stable_member l.self.shape m)) (chosen (says None l.said) (quorum l.self.shape) (message_at l.self l.number) l.host)
