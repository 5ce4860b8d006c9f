use Rattle.mb_theorem.proofs.Promised.{nothing_left}
use Rattle.mb_theorem.proofs.hosts_leave_nothing.Goals as goal

pub returns : goal.returns
returns g c = nothing_left _
