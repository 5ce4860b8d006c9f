use Rattle.mb_pins.proofs.Silent.{hosts_take_only_valid}
use Rattle.mb_pins.proofs.hosts_take_only_valid.Goals as goal

pub returns : goal.returns
returns g c = hosts_take_only_valid _
