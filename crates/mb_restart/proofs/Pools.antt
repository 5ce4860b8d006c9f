-- No event takes away a message that was made.
use Rattle.std.proofs.Common.{◌≡◌, ℕ, Bool, true, false, List, [], ◌∷◌, ◌++◌, map, refl, append-nil, inl, inr, Option, Some, None, Ok, Err}
use Rattle.std.specs.Prelude.{slice_get, Result}
use Rattle.std.proofs.lemmas.Bool.{cases_Bool}
use Rattle.mb_base.specs.Shapes.{Bytes, host_count}
use Rattle.mb_msg.specs.declared.message.Message.{Message}
use Rattle.mb_msg.specs.declared.message.Message.TheVariants as message
use Rattle.mb_msg.specs.declared.stamped.Stamped.{Stamped as StampedMessage}
use Rattle.mb_msg.specs.Reading.{message_of}
use Rattle.mb_msg.specs.Spelling.{spelling}
use Rattle.mb_msg.specs.Stamps.{as_stamped}
use Rattle.mb_msg.specs.declared.event.Event.{Event}
use Rattle.mb_msg.specs.declared.event.Event.TheVariants as event
use Rattle.mb_model.specs.Sending.{Letter}
use Rattle.mb_model.specs.HostStep.{transition}
use Rattle.mb_schedule.specs.declared.schedule.Name.TheVariants as name
use Rattle.mb_schedule.specs.declared.schedule.WorldEvent.{WorldEvent}
use Rattle.mb_schedule.specs.declared.schedule.WorldEvent.TheVariants.{Ask, Give, Take, Raw, Patience, Nudge, Sign, TagReply, TagWish, StampPrepare, StampCommit, StampCheckpoint, StampChange, StampAs, StampRaw}
use Rattle.mb_schedule.specs.Limits.{is_faulty, is_faulty_client}
use Rattle.mb_world_model.specs.World.{numbered, World, System, self_of, give_host, give_client, client_reads, heard, signal, made, request_of}
use Rattle.mb_world_model.specs.FaultyHosts.{stamp_some, stamp_content, stamp_bytes, content, prepare_of, commit_for, checkpoint_with, change_after, reply_of_host, wish_of_host}
use Rattle.mb_world_model.specs.WorldSteps.{where_faulty, with_message, stamps_some, happens}

-- more messages behind those
pub record Grows (old new : List Bytes) : Type 0 where
  pub more : List Bytes
  pub is : old ++ more ≡ new

stays : (l : List Bytes) → Grows l l
stays l = record { more = []; is = append-nil l }

one_behind : (l : List Bytes) (bytes : Bytes) → Grows l (l ++ bytes ∷ [])
one_behind l bytes = record { more = bytes ∷ []; is = refl }

module _ {S : Type 0} (system : System S) (w : World) where
  -- the letters of a host's step
  abbrev letters : ℕ → Event → List Bytes
  letters h e = map (λ (letter : Letter). spelling letter.says) (transition (self_of system h) (w.histories h) e).left.sent

  abbrev Leads : World → Type 0
  Leads v = Grows w.pool v.pool

  host_grows : (h : ℕ) (bytes : Bytes) → Leads (give_host system h bytes w)
  unfolding give_host
  host_grows h bytes = elim (cases_Bool (is_faulty system.schedule h)) [
    | inl faulty ↦ rw faulty (stays w.pool)
    | inr correct ↦ rw correct (record { more = letters h (event.Given bytes); is = refl })
  ]

  signal_grows : (h : ℕ) (e : Event) → Leads (signal system h e w)
  unfolding signal
  signal_grows h e = elim (cases_Bool (is_faulty system.schedule h)) [
    | inl faulty ↦ rw faulty (stays w.pool)
    | inr correct ↦ rw correct (record { more = letters h e; is = refl })
  ]

  given_grows : (h : ℕ) (o : Option Bytes) → Leads (with_message (give_host system h) o w)
  given_grows h None = stays w.pool
  given_grows h (Some bytes) = host_grows h bytes

  reads_grow : (c : ℕ) (bytes : Bytes) (r : Result Message ℕ) → Leads (client_reads system.schedule c r (heard system.schedule bytes w))
  reads_grow c bytes (Err at) = stays w.pool
  reads_grow c bytes (Ok (message.Reply r)) = stays w.pool
  reads_grow c bytes (Ok m) = stays w.pool

  client_grows : (c : ℕ) (bytes : Bytes) → Leads (give_client system.schedule c bytes w)
  unfolding give_client
  client_grows c bytes = elim (cases_Bool (is_faulty_client system.schedule c)) [
    | inl faulty ↦ rw faulty (stays w.pool)
    | inr correct ↦ rw correct (reads_grow c bytes (message_of system.schedule.shape bytes))
  ]

  taken_grows : (c : ℕ) (o : Option Bytes) → Leads (with_message (give_client system.schedule c) o w)
  taken_grows c None = stays w.pool
  taken_grows c (Some bytes) = client_grows c bytes

  faulty_grows : (t : Bool) (f : World → World) → Leads (f w) → Leads (where_faulty t f w)
  faulty_grows true f grows = grows
  faulty_grows false f grows = stays w.pool

  stamp_grows : (h : ℕ) (m : Option StampedMessage) → Leads (stamps_some system h m w)
  stamp_grows h m = faulty_grows (is_faulty system.schedule h) (stamp_some (stamp_content system.schedule h) m) (go m) where
    go : (o : Option StampedMessage) → Leads (stamp_some (stamp_content system.schedule h) o w)
    go None = stays w.pool
    go (Some x) = one_behind w.pool _

  pub event_grows : (e : WorldEvent) → Grows w.pool (happens system w e).pool
  unfolding happens
  event_grows (Ask c op) = one_behind w.pool _
  event_grows (Give m h) = given_grows h (numbered w.pool m)
  event_grows (Take m c) = taken_grows c (numbered w.pool m)
  event_grows (Raw (name.Host h) bytes) = host_grows h bytes
  event_grows (Raw (name.Client c) bytes) = client_grows c bytes
  event_grows (Patience h) = signal_grows h event.Patience
  event_grows (Nudge h) = signal_grows h event.Nudge
  event_grows (Sign c seq op) = faulty_grows (is_faulty_client system.schedule c) (made system.schedule (spelling (message.Request (request_of system.schedule c seq op)))) (one_behind w.pool _)
  event_grows (TagReply h c seq pos result) = faulty_grows (is_faulty system.schedule h) (made system.schedule (spelling (reply_of_host system.schedule h c seq pos result))) (one_behind w.pool _)
  event_grows (TagWish h view) = faulty_grows (is_faulty system.schedule h) (made system.schedule (spelling (wish_of_host system.schedule h view))) (one_behind w.pool _)
  event_grows (StampPrepare h view pos messages) = stamp_grows h (prepare_of system.schedule w view pos messages)
  event_grows (StampCommit h m) = stamp_grows h (content system.schedule w m commit_for)
  event_grows (StampCheckpoint h pos digest) = faulty_grows (is_faulty system.schedule h) (stamp_content system.schedule h (checkpoint_with (host_count system.schedule.shape) pos digest)) (one_behind w.pool _)
  event_grows (StampChange h view counter) = faulty_grows (is_faulty system.schedule h) (stamp_content system.schedule h (change_after system.schedule w h view counter)) (one_behind w.pool _)
  event_grows (StampAs h m) = stamp_grows h (content system.schedule w m as_stamped)
  event_grows (StampRaw h bytes) = faulty_grows (is_faulty system.schedule h) (stamp_bytes system.schedule h bytes) (one_behind w.pool _)
