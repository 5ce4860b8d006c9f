use Rattle.mb_theorem.proofs.Promised.{none_is_blame}
use Rattle.mb_theorem.proofs.no_event_is_blame.Goals as goal

pub returns : goal.returns
returns g c = none_is_blame _
