use Rattle.mb_restart.proofs.Reopened.{resting_files_are_left}
use Rattle.mb_restart.proofs.resting_files_are_left.Goals as goal

pub returns : goal.returns
returns c = resting_files_are_left
