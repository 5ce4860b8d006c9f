use Rattle.mb_pins.proofs.WorldAdds.{events_add_no_more}
use Rattle.mb_pins.proofs.events_add_no_more.Goals as goal

pub returns : goal.returns
returns g c = events_add_no_more _
