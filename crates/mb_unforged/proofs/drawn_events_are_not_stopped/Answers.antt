use Rattle.mb_unforged.proofs.Soaked.{soaks_are_unstopped}
use Rattle.mb_unforged.proofs.drawn_events_are_not_stopped.Goals as goal

pub returns : goal.returns
returns g c = soaks_are_unstopped _
