use Rattle.mb_restart.proofs.Reopened.{journals_keep}
use Rattle.mb_restart.proofs.journals_keep_what_was_acknowledged.Goals as goal

pub returns : goal.returns
returns g c = journals_keep _
