-- The messages behind which some that stand before them lose their bodies.
use Rattle.std.specs.Prelude.{Bool, true, false}
use Rattle.mb_msg.specs.declared.stamped.Stamped.{Stamped as StampedMessage}
use Rattle.mb_msg.specs.declared.stamped.Stamped.TheVariants as stamped

abbrev pub takes_bodies : StampedMessage → Bool
takes_bodies (stamped.ViewChange m) = true
takes_bodies (stamped.Open m) = true
takes_bodies (stamped.Join m) = true
takes_bodies _ = false
