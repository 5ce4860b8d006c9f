use Rattle.mb_log.proofs.Histories.{logs_answer}
use Rattle.mb_log.proofs.laws.logs_answer_for_histories.Goals as goal

pub returns : goal.returns
returns g c = logs_answer _
