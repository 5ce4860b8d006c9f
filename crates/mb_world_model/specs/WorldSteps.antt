-- The fifteen events, and the world after the first events of a schedule.
use Rattle.std.specs.Prelude.{ℕ, zero, suc, Bool, Option, Some, None, if◌then◌else◌, slice_get}
use Rattle.mb_base.specs.Shapes.{Bytes, host_count}
use Rattle.mb_msg.specs.declared.message.Message.TheVariants as message
use Rattle.mb_msg.specs.Spelling.{spelling}
use Rattle.mb_msg.specs.declared.stamped.Stamped.{Stamped as StampedMessage}
use Rattle.mb_msg.specs.Stamps.{as_stamped}
use Rattle.mb_msg.specs.declared.event.Event.TheVariants as host
use Rattle.mb_schedule.specs.declared.schedule.Name.TheVariants as name
use Rattle.mb_schedule.specs.declared.schedule.WorldEvent.{WorldEvent}
use Rattle.mb_schedule.specs.declared.schedule.WorldEvent.TheVariants.{Ask, Give, Take, Raw, Patience, Nudge, Sign, TagReply, TagWish, StampPrepare, StampCommit, StampCheckpoint, StampChange, StampAs, StampRaw}
use Rattle.mb_schedule.specs.declared.schedule.Schedule.{Schedule}
use Rattle.mb_schedule.specs.Limits.{is_faulty, is_faulty_client}
use Rattle.mb_world_model.specs.World.{numbered, World, System, nothing_happened, made, request_of, client_asks, give_client, give_host, signal}
use Rattle.mb_world_model.specs.FaultyHosts.{prepare_of, commit_for, checkpoint_with, stamp_some, reply_of_host, wish_of_host, stamp_content, stamp_bytes, content, change_after}

-- Someone correct does nothing of the kind.
abbrev pub where_faulty : Bool → (World → World) → World → World
where_faulty faulty f w = if faulty then f w else w

-- A message that was not made is not given.
abbrev pub with_message : (Bytes → World → World) → Option Bytes → World → World
with_message f None w = w
with_message f (Some bytes) w = f bytes w

module _ {S : Type 0} (system : System S) where
  -- what happens
  abbrev pub schedule : Schedule
  schedule = system.schedule

  -- A faulty host does this.
  abbrev pub by_host : ℕ → (World → World) → World → World
  by_host h f w = where_faulty (is_faulty schedule h) f w

  -- A faulty host stamps this content, where there is one.
  abbrev pub stamps_some : ℕ → Option StampedMessage → World → World
  stamps_some h m w = by_host h (stamp_some (stamp_content schedule h) m) w

  -- Where a stop stands in the way of an event, the run ends before it, and nobody asks this.
  unfoldable pub happens : World → WorldEvent → World
  happens w (Ask c op) = client_asks schedule c op w
  happens w (Give m h) = with_message (give_host system h) (numbered w.pool m) w
  happens w (Take m c) = with_message (give_client schedule c) (numbered w.pool m) w
  happens w (Raw (name.Host h) bytes) = give_host system h bytes w
  happens w (Raw (name.Client c) bytes) = give_client schedule c bytes w
  happens w (Patience h) = signal system h host.Patience w
  happens w (Nudge h) = signal system h host.Nudge w
  happens w (Sign c seq op) = where_faulty (is_faulty_client schedule c) (made schedule (spelling (message.Request (request_of schedule c seq op)))) w
  happens w (TagReply h c seq pos result) = by_host h (made schedule (spelling (reply_of_host schedule h c seq pos result))) w
  happens w (TagWish h view) = by_host h (made schedule (spelling (wish_of_host schedule h view))) w
  happens w (StampPrepare h view pos messages) = stamps_some h (prepare_of schedule w view pos messages) w
  happens w (StampCommit h m) = stamps_some h (content schedule w m commit_for) w
  happens w (StampCheckpoint h pos digest) = by_host h (stamp_content schedule h (checkpoint_with (host_count schedule.shape) pos digest)) w
  happens w (StampChange h view counter) = by_host h (stamp_content schedule h (change_after schedule w h view counter)) w
  happens w (StampAs h m) = stamps_some h (content schedule w m as_stamped) w
  happens w (StampRaw h bytes) = by_host h (stamp_bytes schedule h bytes) w

  -- behind the last event nothing more happens
  abbrev pub after : World → Option WorldEvent → World
  after w None = w
  after w (Some e) = happens w e

  -- after the first k events
  unfoldable pub world : ℕ → World
  world zero = nothing_happened
  world (suc k) = after (world k) (slice_get schedule.events k)
