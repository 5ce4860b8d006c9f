-- What clients asked for: no event but a client's own adds to it.
use Rattle.std.proofs.Common.{◌≡◌, ℕ, Bool, true, false, refl, inl, inr, Option, Some, None, Result, Ok, Err}
use Rattle.std.proofs.lemmas.Bool.{cases_Bool}
use Rattle.mb_base.specs.Shapes.{Bytes, host_count}
use Rattle.mb_msg.specs.declared.message.Message.{Message}
use Rattle.mb_msg.specs.declared.message.Message.TheVariants as message
use Rattle.mb_msg.specs.declared.stamped.Stamped.{Stamped as StampedMessage}
use Rattle.mb_msg.specs.declared.event.Event.{Event}
use Rattle.mb_msg.specs.declared.event.Event.TheVariants as event
use Rattle.mb_msg.specs.Reading.{message_of}
use Rattle.mb_msg.specs.Spelling.{spelling}
use Rattle.mb_msg.specs.Stamps.{as_stamped}
use Rattle.mb_schedule.specs.declared.schedule.Name.TheVariants as name
use Rattle.mb_schedule.specs.declared.schedule.WorldEvent.{WorldEvent}
use Rattle.mb_schedule.specs.declared.schedule.WorldEvent.TheVariants.{Ask, Give, Take, Raw, Patience, Nudge, Sign, TagReply, TagWish, StampPrepare, StampCommit, StampCheckpoint, StampChange, StampAs, StampRaw}
use Rattle.mb_schedule.specs.declared.schedule.Schedule.{Schedule}
use Rattle.mb_schedule.specs.Limits.{is_faulty, is_faulty_client}
use Rattle.mb_world_model.specs.World.{numbered, World, System, request_of, made, heard, client_reads, give_client, give_host, signal}
use Rattle.mb_world_model.specs.FaultyHosts.{stamp_some, stamp_content, stamp_bytes, content, prepare_of, commit_for, checkpoint_with, change_after, reply_of_host, wish_of_host}
use Rattle.mb_world_model.specs.WorldSteps.{where_faulty, with_message, stamps_some, happens}

module _ {S : Type 0} (system : System S) (w : World) where
  abbrev s : Schedule
  s = system.schedule

  asked_host : (h : ℕ) (bytes : Bytes) → (give_host system h bytes w).asked ≡ w.asked
  unfolding give_host
  asked_host h bytes = elim (cases_Bool (is_faulty s h)) [ inl faulty ↦ rw faulty refl | inr correct ↦ rw correct refl ]

  asked_signal : (h : ℕ) (x : Event) → (signal system h x w).asked ≡ w.asked
  unfolding signal
  asked_signal h x = elim (cases_Bool (is_faulty s h)) [ inl faulty ↦ rw faulty refl | inr correct ↦ rw correct refl ]

  asked_reads : (c : ℕ) (bytes : Bytes) (r : Result Message ℕ) → (client_reads s c r (heard s bytes w)).asked ≡ w.asked
  asked_reads c bytes (Err at) = refl
  asked_reads c bytes (Ok (message.Reply r)) = refl
  asked_reads c bytes (Ok m) = refl

  asked_client : (c : ℕ) (bytes : Bytes) → (give_client s c bytes w).asked ≡ w.asked
  unfolding give_client
  asked_client c bytes = elim (cases_Bool (is_faulty_client s c)) [ inl faulty ↦ rw faulty refl | inr correct ↦ rw correct (asked_reads c bytes (message_of s.shape bytes)) ]

  asked_given : (h : ℕ) (o : Option Bytes) → (with_message (give_host system h) o w).asked ≡ w.asked
  asked_given h None = refl
  asked_given h (Some bytes) = asked_host h bytes

  asked_taken : (c : ℕ) (o : Option Bytes) → (with_message (give_client s c) o w).asked ≡ w.asked
  asked_taken c None = refl
  asked_taken c (Some bytes) = asked_client c bytes

  asked_faulty : (t : Bool) (f : World → World) → (f w).asked ≡ w.asked → (where_faulty t f w).asked ≡ w.asked
  asked_faulty true f e = e
  asked_faulty false f e = refl

  asked_some : (h : ℕ) (m : Option StampedMessage) → (stamps_some system h m w).asked ≡ w.asked
  asked_some h m = asked_faulty (is_faulty s h) (stamp_some (stamp_content s h) m) (go m) where
    go : (o : Option StampedMessage) → (stamp_some (stamp_content s h) o w).asked ≡ w.asked
    go None = refl
    go (Some x) = refl

  pub not_asked : (e : WorldEvent) → ((c : ℕ) (op : Bytes) → e ≡ Ask c op → ⊥) → (happens system w e).asked ≡ w.asked
  unfolding happens
  not_asked (Ask c op) none = absurd (none c op refl)
  not_asked (Give m h) none = asked_given h (numbered w.pool m)
  not_asked (Raw (name.Host h) bytes) none = asked_host h bytes
  not_asked (Patience h) none = asked_signal h event.Patience
  not_asked (Nudge h) none = asked_signal h event.Nudge
  not_asked (Take m c) none = asked_taken c (numbered w.pool m)
  not_asked (Raw (name.Client c) bytes) none = asked_client c bytes
  not_asked (Sign c seq op) none = asked_faulty (is_faulty_client s c) (made s (spelling (message.Request (request_of s c seq op)))) refl
  not_asked (TagReply h c seq pos result) none = asked_faulty (is_faulty s h) (made s (spelling (reply_of_host s h c seq pos result))) refl
  not_asked (TagWish h view) none = asked_faulty (is_faulty s h) (made s (spelling (wish_of_host s h view))) refl
  not_asked (StampPrepare h view pos messages) none = asked_some h (prepare_of s w view pos messages)
  not_asked (StampCommit h m) none = asked_some h (content s w m commit_for)
  not_asked (StampCheckpoint h pos digest) none = asked_faulty (is_faulty s h) (stamp_content s h (checkpoint_with (host_count s.shape) pos digest)) refl
  not_asked (StampChange h view counter) none = asked_faulty (is_faulty s h) (stamp_content s h (change_after s w h view counter)) refl
  not_asked (StampAs h m) none = asked_some h (content s w m as_stamped)
  not_asked (StampRaw h bytes) none = asked_faulty (is_faulty s h) (stamp_bytes s h bytes) refl
