-- That a message has allowed values is one fact at most.
use Rattle.std.proofs.Common.{ℕ, zero, suc, ◌+◌, List, [], ◌∷◌, Option, Some, None}
use Rattle.std.proofs.Props.{props}
use Rattle.mb_base.specs.Shapes.{Bytes}
use Rattle.mb_base.specs.Spelling.{Rises}
use Rattle.mb_base.specs.declared.shape.Shape.{Shape}
use Rattle.mb_parts.specs.declared.certificates.StableMember.{StableMember}
use Rattle.mb_parts.specs.declared.certificates.Evidence.{Evidence}
use Rattle.mb_parts.specs.Fits.{FitsHeld, FitsJoined}
use Rattle.mb_msg.specs.declared.message.Body.{Body}
use Rattle.mb_msg.specs.declared.message.Body.TheVariants.{Whole, Bare as Short}
use Rattle.mb_msg.specs.declared.stamped.Shown.{Shown}
use Rattle.mb_msg.specs.declared.stamped.Shown.TheVariants as shown
use Rattle.mb_msg.specs.declared.stamped.Stamped.{Stamped}
use Rattle.mb_msg.specs.declared.stamped.Stamped.TheVariants as stamped
use Rattle.mb_msg.specs.Bodies.{FitsBody}
use Rattle.mb_msg.specs.Fits.{FitsShown, FitsStamped}

rises_prop : (least : ℕ) (l : List ℕ) → IsProp (Rises least l)
rises_prop least [] = hlevel props
rises_prop least (n ∷ l) = let rest : IsProp (Rises (n + 1) l) = rises_prop (n + 1) l in hlevel (props, rest)

held_prop : (s : Shape) (pos : ℕ) (state : Bytes) (members : List StableMember) → IsProp (FitsHeld s pos state members)
held_prop s zero state members = hlevel props
held_prop s (suc pos) state members = hlevel (props, rises_prop)

joined_prop : (s : Shape) (view : ℕ) (o : Option Evidence) → IsProp (FitsJoined s view o)
joined_prop s view None = hlevel props
joined_prop s view (Some e) = hlevel (props, rises_prop)

body_prop : {B : Type 0} (fits : B → Type 0) → ((b : B) → IsProp (fits b)) → (x : Body B) → IsProp (FitsBody fits x)
body_prop fits each (Whole b) = each b
body_prop fits each (Short d) = hlevel props

shown_prop : (s : Shape) (e : Shown) → IsProp (FitsShown s e)
shown_prop s (shown.Prepare m) = hlevel (props, body_prop)
shown_prop s (shown.Commit m) = hlevel (props, body_prop)
shown_prop s (shown.Checkpoint m) = hlevel props
shown_prop s (shown.ViewChange m) = hlevel props
shown_prop s (shown.NewView m) = hlevel props
shown_prop s (shown.Enter m) = hlevel props
shown_prop s (shown.Open m) = hlevel (props, body_prop, rises_prop, held_prop)
shown_prop s (shown.Join m) = hlevel (props, rises_prop, held_prop, joined_prop)

pub stamped_prop : (s : Shape) (m : Stamped) → IsProp (FitsStamped s m)
stamped_prop s (stamped.Prepare m) = hlevel (props, body_prop)
stamped_prop s (stamped.Commit m) = hlevel (props, body_prop)
stamped_prop s (stamped.Checkpoint m) = hlevel (props, body_prop)
stamped_prop s (stamped.ViewChange m) = hlevel (props, body_prop, rises_prop, held_prop, shown_prop)
stamped_prop s (stamped.NewView m) = hlevel (props, body_prop, rises_prop, held_prop, shown_prop)
stamped_prop s (stamped.Enter m) = hlevel props
stamped_prop s (stamped.Open m) = hlevel (props, body_prop, rises_prop, held_prop)
stamped_prop s (stamped.Join m) = hlevel (props, rises_prop, held_prop, joined_prop)
