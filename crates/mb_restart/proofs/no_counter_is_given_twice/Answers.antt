use Rattle.mb_restart.proofs.GoneOn.{no_counter_twice}
use Rattle.mb_restart.proofs.no_counter_is_given_twice.Goals as goal

pub returns : goal.returns
returns g c = no_counter_twice _
