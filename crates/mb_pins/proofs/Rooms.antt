-- What is due with room is due with room in numbers.
use Rattle.mb_model.specs.Histories.{History, Identity}
use Rattle.mb_promise.specs.NothingLeft.{HasRoom, HasOtherRoom}
use Rattle.mb_promise.specs.CarriedOut.{HasCarriedOut}
use Rattle.mb_world_model.specs.World.{self_of}
use Rattle.mb_world_model.specs.WorldSteps.{world}
use Rattle.mb_each_host.proofs.CarriedOut.{hosts_carry_out}
use Rattle.mb_pins.specs.Rooms.{HasVotesRoom, HasOthersRoom, ActsWithRoom, HostsActWithRoom}

module _ {S : Type 0} (self : Identity S) (d : History) where
  pub votes_room : HasVotesRoom self d → HasRoom self d
  votes_room x = record { place = x.place; counter = x.counter }

  others_room : HasOthersRoom self d → HasOtherRoom self d
  others_room x = record { place = x.place; counter = x.counter }

  acts : HasCarriedOut self d → ActsWithRoom self d
  acts x = record {
    commits = λ k b room opened backs there. x.commits k b opened backs (votes_room room) there;
    leaves = λ v room below cause. x.leaves v below (others_room room) cause;
    enters = λ room backs changing there. x.enters backs changing (others_room room) there;
  }

pub hosts_act : (S : Type 0) → HostsActWithRoom S
hosts_act S system k h = acts (self_of system h) ((world system k).histories h) (hosts_carry_out S system k h)
