use Rattle.mb_restart.proofs.Witness.{runs_are_met}
use Rattle.mb_restart.proofs.runs_are_met.Goals as goal

pub returns : goal.returns
returns g c = runs_are_met _
