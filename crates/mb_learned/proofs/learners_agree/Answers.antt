use Rattle.mb_learned.proofs.Learned as learned
use Rattle.mb_learned.proofs.learners_agree.Goals as goal

pub returns : goal.returns
returns g c = learned.learners_agree _
