use Rattle.mb_model.proofs.ByHost.{plans_ignore_order}
use Rattle.mb_model.proofs.laws.plans_ignore_order.Goals as goal

pub returns : goal.returns
returns c = plans_ignore_order
