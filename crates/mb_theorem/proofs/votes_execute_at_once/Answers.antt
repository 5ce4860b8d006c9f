use Rattle.mb_theorem.proofs.Promised.{all_execute_at_once}
use Rattle.mb_theorem.proofs.votes_execute_at_once.Goals as goal

pub returns : goal.returns
returns g c = all_execute_at_once _
