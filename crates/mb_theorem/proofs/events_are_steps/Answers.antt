use Rattle.mb_theorem.proofs.Promised.{all_are_steps}
use Rattle.mb_theorem.proofs.events_are_steps.Goals as goal

pub returns : goal.returns
returns g c = all_are_steps _
