use Rattle.mb_pins.proofs.Batches.{hosts_order_in_turn}
use Rattle.mb_pins.proofs.batches_are_in_turn.Goals as goal

pub returns : goal.returns
returns g c = hosts_order_in_turn _
