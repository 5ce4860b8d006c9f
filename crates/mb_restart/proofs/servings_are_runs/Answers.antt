use Rattle.mb_restart.proofs.Served.{servings_are_runs}
use Rattle.mb_restart.proofs.servings_are_runs.Goals as goal

pub returns : goal.returns
returns g c = servings_are_runs g.V.Service.machine
