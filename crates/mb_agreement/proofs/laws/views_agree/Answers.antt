use Rattle.mb_agreement.proofs.Agree.{agrees}
use Rattle.mb_agreement.proofs.laws.views_agree.Goals as goal

pub returns : goal.returns
returns c = agrees
