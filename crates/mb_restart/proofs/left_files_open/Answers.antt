use Rattle.mb_restart.proofs.Reopened.{left_files_open}
use Rattle.mb_restart.proofs.left_files_open.Goals as goal

pub returns : goal.returns
returns c = left_files_open
