use Rattle.mb_pins.proofs.TellsWhy.{hosts_tell_why}
use Rattle.mb_pins.proofs.outcomes_tell_why.Goals as goal

pub returns : goal.returns
returns g c = hosts_tell_why _
