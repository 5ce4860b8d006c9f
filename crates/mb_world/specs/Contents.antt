-- What an event has a faulty host stamp, where it names a content.
use Rattle.std.specs.Prelude.{◌≡◌, ℕ, Option, Some, None, option_map, option_and_then}
use Rattle.std.specs.Bool.{then_some}
use Rattle.mb_base.specs.Shapes.{host_count}
use Rattle.mb_msg.specs.declared.message.Message.{Message}
use Rattle.mb_msg.specs.declared.stamped.Stamped.{Stamped}
use Rattle.mb_msg.specs.Stamps.{as_stamped}
use Rattle.mb_schedule.specs.declared.schedule.Schedule.{Schedule}
use Rattle.mb_schedule.specs.declared.schedule.WorldEvent.{WorldEvent}
use Rattle.mb_schedule.specs.declared.schedule.WorldEvent.TheVariants.{StampPrepare, StampCommit, StampCheckpoint, StampChange, StampAs}
use Rattle.mb_world_model.specs.World.{World}
use Rattle.mb_world_model.specs.FaultyHosts.{prepare_of, commit_for, checkpoint_with, content, change_after}
use Rattle.std.specs.Option.{option_or}
use Rattle.mb_world_model.specs.Stops.{WorldStop as Stop, Forged, ForgedTag, event_number, kind_stop, delivered_message, stop_of}
use Rattle.mb_world_model.specs.Forged.{forged_claim, has_forged_tag}
use Rattle.mb_forgery.specs.Contents.{unstamped}

-- the content that an event names
abbrev pub content_of : Schedule → World → WorldEvent → Option Stamped
content_of s x (StampPrepare h view pos messages) = prepare_of s x view pos messages
content_of s x (StampCommit h m) = content s x m commit_for
content_of s x (StampCheckpoint h pos digest) = Some (checkpoint_with (host_count s.shape) pos digest)
content_of s x (StampChange h view counter) = Some (change_after s x h view counter)
content_of s x (StampAs h m) = content s x m as_stamped
content_of s x _ = None

-- The code's content is this one, whatever identifiers are in both.
abbrev pub Gives : Option Stamped → Option Stamped → Type 0
Gives content found = option_map unstamped found ≡ option_map unstamped content

abbrev pub Stamps : Schedule → World → WorldEvent → Option Stamped → Type 0
Stamps s x e found = Gives (content_of s x e) found

-- what is forged in a message that is delivered, if one is
abbrev pub found_in : Schedule → World → Option Message → Option Stop
found_in s x m = option_or (option_map (λ c. Forged (event_number s x) c.host c.counter) (option_and_then (forged_claim s x) m))
    (option_and_then (λ m. then_some (has_forged_tag s x m) (ForgedTag (event_number s x))) m)

-- what stands in the way of an event, where all that it names is there
abbrev pub rest_stop : Schedule → World → WorldEvent → Option Stop
rest_stop s x e = option_or (kind_stop s x e) (found_in s x (delivered_message s x e))

-- Nothing stands in the way of an event, and this is the content that it names.
pub record IsAllowed (s : Schedule) (x : World) (e : WorldEvent) (found : Option Stamped) : Type 0 where
  pub stop : stop_of s x e ≡ None
  pub content : Stamps s x e found

-- the faulty host of an event that names a content
abbrev pub stamping_host : WorldEvent → Option ℕ
stamping_host (StampPrepare h view pos messages) = Some h
stamping_host (StampCommit h m) = Some h
stamping_host (StampCheckpoint h pos digest) = Some h
stamping_host (StampChange h view counter) = Some h
stamping_host (StampAs h m) = Some h
stamping_host e = None
