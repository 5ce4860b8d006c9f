use Rattle.std.proofs.Common.{◌∙◌}
use Rattle.mb_normal.proofs.Tables.{kept_raised}
use Rattle.mb_tables_tests.proofs.kept.raise.Goals as goal

pub returns-clause-shape : goal.returns-clause-shape
returns-clause-shape g c = (kept_raised c.args.kept.now c.raise.new.self c.args.above c.raise.ensures.stands).0 ∙ c.requires.shape

pub returns-clause-low : goal.returns-clause-low
returns-clause-low g c = (kept_raised c.args.kept.now c.raise.new.self c.args.above c.raise.ensures.stands).1
