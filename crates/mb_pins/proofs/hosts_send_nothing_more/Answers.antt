use Rattle.mb_pins.proofs.Sent.{hosts_send_no_more}
use Rattle.mb_pins.proofs.hosts_send_nothing_more.Goals as goal

pub returns : goal.returns
returns g c = hosts_send_no_more _
