use Rattle.mb_frag.proofs.ReadingLemmas.{count_fits}
use Rattle.mb_frag.proofs.piece.Header.read.Goals as goal

pub returns-clause-fits : goal.returns-clause-fits
returns-clause-fits c = count_fits _ _ _ _ c.in_ok-count.ensures
