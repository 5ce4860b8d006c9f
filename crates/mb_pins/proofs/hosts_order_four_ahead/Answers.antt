use Rattle.mb_pins.proofs.Ahead.{hosts_order_ahead}
use Rattle.mb_pins.proofs.hosts_order_four_ahead.Goals as goal

pub returns : goal.returns
returns g c = hosts_order_ahead _
