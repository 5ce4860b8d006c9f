use Rattle.mb_theorem.proofs.Promised.{all_stay_one}
use Rattle.mb_theorem.proofs.hosts_stay_one.Goals as goal

pub returns : goal.returns
returns g c = all_stay_one _
