use Rattle.std.proofs.Common.{◌≡◌, Some, filter_map}
use Rattle.std.specs.Prelude.{option_map}
use Rattle.mb_base.specs.Shapes.{quorum}
use Rattle.mb_model.specs.Stable.{kept_floor, floor_member}
use Rattle.mb_checkpoints.specs.Agreement.{says}
use Rattle.mb_checkpoints.specs.Certificates.{message_at}
use Rattle.mb_checkpoints.proofs.Rows.{chosen}
use Rattle.mb_checkpoints.proofs.checkpoints.Checkpoints.floor_members.Given as goal

abbrev pub invariant-loop-host : goal.invariant-loop-host
invariant-loop-host l = l.members ≡ filter_map (λ m. option_map (floor_member l.self.shape) (kept_floor l.owner m)) (chosen (says (Some l.owner) l.said) (quorum l.self.shape) (message_at l.self l.number) l.host)
