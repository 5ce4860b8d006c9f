use Rattle.mb_pins.proofs.Rooms.{hosts_act}
use Rattle.mb_pins.proofs.hosts_act_with_room.Goals as goal

pub returns : goal.returns
returns g c = hosts_act _
