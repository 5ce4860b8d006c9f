-- What stands whole in byte strings: the votes and OPENs of a message, with their batches and plans.
use Rattle.std.specs.Prelude.{List, [], ◌∷◌}
use Rattle.std.specs.List.{flat_map}
use Rattle.mb_base.specs.Shapes.{Bytes}
use Rattle.mb_base.specs.declared.shape.Shape.{Shape}
use Rattle.mb_msg.specs.declared.message.Message.{Message}
use Rattle.mb_msg.specs.declared.message.Message.TheVariants as message
use Rattle.mb_msg.specs.declared.change.ViewChange.{ViewChange}
use Rattle.mb_msg.specs.declared.stamped.Shown.{Shown}
use Rattle.mb_msg.specs.declared.stamped.Shown.TheVariants as shown
use Rattle.mb_msg.specs.declared.stamped.Stamped.{Stamped}
use Rattle.mb_msg.specs.declared.stamped.Stamped.TheVariants as stamped
use Rattle.mb_msg.specs.Bodies.{inside_whole}
use Rattle.mb_msg.specs.Reading.{message_of}
use Rattle.mb_msg.specs.Stamps.{as_stamped}
use Rattle.mb_model.specs.Compared.{inside_some}
use Rattle.mb_model.specs.Inside.{if_read}

-- the log that a VIEW_CHANGE shows
abbrev pub log_shown : ViewChange → List Shown
log_shown m = inside_whole (λ b. b.entries) m.body

-- in a stamped message: itself, where it is a vote or an OPEN, or the logs that it shows
abbrev pub shown_by : Stamped → List Shown
shown_by (stamped.Prepare m) = shown.Prepare m ∷ []
shown_by (stamped.Commit m) = shown.Commit m ∷ []
shown_by (stamped.Checkpoint m) = []
shown_by (stamped.ViewChange m) = log_shown m
shown_by (stamped.NewView m) = inside_whole (λ b. flat_map log_shown b.changes) m.body
shown_by (stamped.Enter m) = []
shown_by (stamped.Open m) = shown.Open m ∷ []
shown_by (stamped.Join m) = []

-- in a message
abbrev pub shown_in : Message → List Shown
shown_in (message.Log m) = flat_map shown_by m.entries
shown_in m = inside_some shown_by (as_stamped m)

-- in the message that the bytes are; in bytes that are no message nothing stands
abbrev pub shown_of : Shape → Bytes → List Shown
shown_of s bytes = inside_some shown_in (if_read (message_of s bytes))

-- in all messages among byte strings, in order
abbrev pub shown_among : Shape → List Bytes → List Shown
shown_among s = flat_map (shown_of s)
