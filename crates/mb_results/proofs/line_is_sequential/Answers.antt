use Rattle.mb_results.proofs.Results.{lines_are_sequential}
use Rattle.mb_results.proofs.line_is_sequential.Goals as goal

pub returns : goal.returns
returns g c = lines_are_sequential _
