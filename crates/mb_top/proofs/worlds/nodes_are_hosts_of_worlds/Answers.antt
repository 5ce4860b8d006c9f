use Rattle.mb_top.proofs.NodesInWorlds.{hosts_are_one, nodes_are_in_worlds}
use Rattle.mb_top.proofs.worlds.nodes_are_hosts_of_worlds.Goals as goal

pub returns : goal.returns
returns c = record { one = hosts_are_one; worlds = nodes_are_in_worlds }
