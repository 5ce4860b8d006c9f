use Rattle.mb_pins.proofs.Joins.{hosts_show_in_joins}
use Rattle.mb_pins.proofs.joins_show_evidence.Goals as goal

pub returns : goal.returns
returns g c = hosts_show_in_joins _
