-- What is hashed and read once of a given stamped message.
use Rattle.std.specs.Prelude.{◌≡◌}
use Rattle.mb_base.specs.declared.shape.Shape.{Shape}
use Rattle.mb_msg.specs.Fits.{FitsStamped}
use Rattle.mb_msg.specs.Stamps.{ui_of, mark_of}
use Rattle.mb_msg.specs.AsStamped.{stamped_digest}
use Rattle.mb_replica.specs.declared.arrival.Arrival.{Arrival}

pub record IsArrival (s : Shape) (a : Arrival) : Type 0 where
  pub fits : FitsStamped s a.message
  pub ui : a.ui ≡ ui_of a.message
  pub mark : a.mark ≡ mark_of a.message
  pub body : a.body ≡ stamped_digest a.message
