use Rattle.mb_change.proofs.Following.{tables_answer}
use Rattle.mb_change.proofs.laws.tables_answer.Goals as goal

pub returns : goal.returns
returns g c = tables_answer _
