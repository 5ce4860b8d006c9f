use Rattle.mb_one_log.proofs.InWorlds.{worlds_have_one_list}
use Rattle.mb_one_log.proofs.one_list_in_worlds.Goals as goal

pub returns : goal.returns
returns g c = worlds_have_one_list _
