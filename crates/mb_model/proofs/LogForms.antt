-- The forms in which the own log is kept change no kind.
use Rattle.std.proofs.Common.{◌≡◌, refl}
use Rattle.mb_msg.specs.declared.stamped.Stamped.{Stamped as StampedMessage}
use Rattle.mb_msg.specs.declared.stamped.Stamped.TheVariants as stamped
use Rattle.mb_model.specs.OwnLog.{is_normal, behind_opening, behind_change, behind}

normal_opening : (x : StampedMessage) → is_normal (behind_opening x) ≡ is_normal x
normal_opening (stamped.Prepare m) = refl
normal_opening (stamped.Commit m) = refl
normal_opening (stamped.Checkpoint m) = refl
normal_opening (stamped.ViewChange m) = refl
normal_opening (stamped.NewView m) = refl
normal_opening (stamped.Enter m) = refl
normal_opening (stamped.Open m) = refl
normal_opening (stamped.Join m) = refl

normal_change : (x : StampedMessage) → is_normal (behind_change x) ≡ is_normal x
normal_change (stamped.Prepare m) = refl
normal_change (stamped.Commit m) = refl
normal_change (stamped.Checkpoint m) = refl
normal_change (stamped.ViewChange m) = refl
normal_change (stamped.NewView m) = refl
normal_change (stamped.Enter m) = refl
normal_change (stamped.Open m) = refl
normal_change (stamped.Join m) = refl

pub normal_behind : (m x : StampedMessage) → is_normal (behind m x) ≡ is_normal x
normal_behind (stamped.Open m) x = normal_opening x
normal_behind (stamped.Join m) x = normal_opening x
normal_behind (stamped.ViewChange m) x = normal_change x
normal_behind (stamped.Prepare m) x = refl
normal_behind (stamped.Commit m) x = refl
normal_behind (stamped.Checkpoint m) x = refl
normal_behind (stamped.NewView m) x = refl
normal_behind (stamped.Enter m) x = refl
