use Rattle.mb_steps.proofs.NothingUndone.{nothing_undone}
use Rattle.mb_steps.proofs.laws.nothing_is_left_undone.Goals as goal

pub returns : goal.returns
returns g c = nothing_undone _
