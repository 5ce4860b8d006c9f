use Rattle.mb_each_host.proofs.LogLimits.{hosts_keep_limits}
use Rattle.mb_each_host.proofs.hosts_keep_limits.Goals as goal

pub returns : goal.returns
returns g c = hosts_keep_limits _
