use Rattle.mb_change.proofs.Following.{tables_begin}
use Rattle.mb_change.proofs.laws.tables_begin.Goals as goal

pub returns : goal.returns
returns g c = tables_begin _
