use Rattle.mb_change.proofs.Following.{tables_follow}
use Rattle.mb_change.proofs.laws.tables_follow.Goals as goal

pub returns : goal.returns
returns g c = tables_follow _
