use Rattle.mb_frag.proofs.CuttingLemmas.{part_given}
use Rattle.mb_frag.proofs.cutting.part_of.Goals as goal

pub returns-clause-value : goal.returns-clause-value
returns-clause-value c = part_given c.args.message.now _ c.min.result c.min.ensures
