use Rattle.mb_restart.proofs.GoneOn.{hosts_go_on}
use Rattle.mb_restart.proofs.hosts_go_on_as_one.Goals as goal

pub returns : goal.returns
returns g c = hosts_go_on _
