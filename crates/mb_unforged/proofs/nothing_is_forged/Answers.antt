use Rattle.mb_unforged.proofs.NoneForged.{none_is_forged}
use Rattle.mb_unforged.proofs.nothing_is_forged.Goals as goal

pub returns : goal.returns
returns g c = none_is_forged _
