use Rattle.mb_pins.proofs.Logs.{hosts_keep_logs}
use Rattle.mb_pins.proofs.hosts_keep_logs_full.Goals as goal

pub returns : goal.returns
returns g c = hosts_keep_logs _
