use Rattle.mb_fetch.proofs.Histories.{tables_answer}
use Rattle.mb_fetch.proofs.laws.tables_answer_for_histories.Goals as goal

pub returns : goal.returns
returns g c = tables_answer _
