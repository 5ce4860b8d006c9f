use Rattle.mb_restart.proofs.InWorlds.{hosts_are_in_worlds}
use Rattle.mb_restart.proofs.hosts_are_those_of_a_world.Goals as goal

pub returns : goal.returns
returns g c = hosts_are_in_worlds _
