use Rattle.mb_each_host.proofs.CarriedOut.{hosts_carry_out}
use Rattle.mb_each_host.proofs.hosts_carry_out_their_rules.Goals as goal

pub returns : goal.returns
returns g c = hosts_carry_out _
