use Rattle.mb_change.proofs.Agreeing.{rules_agree}
use Rattle.mb_change.proofs.laws.rules_agree.Goals as goal

pub returns : goal.returns
returns g c = rules_agree _
