use Rattle.mb_views.proofs.InWorlds.{worlds_agree}
use Rattle.mb_views.proofs.views_agree_in_worlds.Goals as goal

pub returns : goal.returns
returns g c = worlds_agree _
