use Rattle.mb_normal.proofs.Lent.{commit_lent, execute_lent, prepare_lent}
use Rattle.mb_normal.proofs.laws.rules_are_lent.Goals as goal

pub returns : goal.returns
returns c = λ s host x at exec room. (commit_lent s host x at exec room, execute_lent s host x at exec room, prepare_lent s host x at exec room)
