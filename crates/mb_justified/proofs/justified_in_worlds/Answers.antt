use Rattle.mb_justified.proofs.InWorlds.{worlds_are_justified}
use Rattle.mb_justified.proofs.justified_in_worlds.Goals as goal

pub returns : goal.returns
returns g c = worlds_are_justified _
