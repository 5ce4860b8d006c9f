use Rattle.mb_program.specs.Obeying.{with_devices}
use Rattle.mb_program.proofs.obey.Goals as goal

pub returns-clause-obeys : goal.returns-clause-obeys
returns-clause-obeys g c = with_devices _ _ _ _ c.minbft.ensures.does c.minbft.ensures.ends
