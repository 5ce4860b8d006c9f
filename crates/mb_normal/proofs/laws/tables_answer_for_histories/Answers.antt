use Rattle.mb_normal.proofs.InHistories.{answers}
use Rattle.mb_normal.proofs.laws.tables_answer_for_histories.Goals as goal

pub returns : goal.returns
returns g c = λ self d. answers self d
