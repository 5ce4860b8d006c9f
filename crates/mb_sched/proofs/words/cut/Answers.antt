use Rattle.std.proofs.Common.{◌+◌, refl}
use Rattle.std.proofs.lemmas.List.{take_rest}
use Rattle.mb_sched.proofs.Pieces.{found, not_found}
use Rattle.mb_sched.proofs.words.cut.Goals as goal

pub returns-in-Some-clause-parts : goal.returns-in-Some-clause-parts
returns-in-Some-clause-parts c = rw (take_rest c.args.text.now (c.in-Some.at + 1)) (found _ _ _ c.in-Some.ensures).1

pub returns-in-None-clause-parts : goal.returns-in-None-clause-parts
returns-in-None-clause-parts c = (not_found _ _ c.in-None.ensures, refl)
