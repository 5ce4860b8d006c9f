use Rattle.mb_steps.proofs.OwnListsOrdered.{own_lists}
use Rattle.mb_steps.proofs.laws.own_lists_are_ordered.Goals as goal

pub returns : goal.returns
returns g c = own_lists _
