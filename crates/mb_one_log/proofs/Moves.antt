-- What an event does to histories, to the line and to what hosts tagged: nothing, or what one step of a correct host does.
use Rattle.std.proofs.Common.{◌≡◌, ℕ, suc, ◌⊎◌, ◌<◌, Bool, true, false, refl, inl, inr, Option, Some, None, Ok, Err}
use Rattle.std.specs.Prelude.{fold, slice_get, Result}
use Rattle.std.proofs.lemmas.Bool.{cases_Bool}
use Rattle.mb_base.specs.Shapes.{Bytes, host_count}
use Rattle.mb_msg.specs.declared.message.Message.{Message}
use Rattle.mb_msg.specs.declared.message.Message.TheVariants as message
use Rattle.mb_msg.specs.declared.stamped.Stamped.{Stamped as StampedMessage}
use Rattle.mb_msg.specs.Reading.{message_of}
use Rattle.mb_msg.specs.Spelling.{spelling}
use Rattle.mb_msg.specs.Stamps.{as_stamped}
use Rattle.mb_msg.specs.declared.event.Event.{Event}
use Rattle.mb_msg.specs.declared.event.Event.TheVariants as event
use Rattle.mb_model.specs.HostStep.{transition}
use Rattle.mb_schedule.specs.declared.schedule.Name.TheVariants as name
use Rattle.mb_schedule.specs.declared.schedule.WorldEvent.{WorldEvent}
use Rattle.mb_schedule.specs.declared.schedule.WorldEvent.TheVariants.{Ask, Give, Take, Raw, Patience, Nudge, Sign, TagReply, TagWish, StampPrepare, StampCommit, StampCheckpoint, StampChange, StampAs, StampRaw}
use Rattle.mb_schedule.specs.Limits.{is_faulty, is_faulty_client, EventFits, IsSchedule}
use Rattle.mb_world_model.specs.WorldEvents.{IsCorrect}
use Rattle.mb_world_model.specs.World.{update, numbered, World, System, self_of, give_host, give_client, client_reads, heard, signal, made, request_of, with_tagged, extended}
use Rattle.mb_world_model.specs.FaultyHosts.{stamp_some, stamp_content, stamp_bytes, content, prepare_of, commit_for, checkpoint_with, change_after, reply_of_host, wish_of_host}
use Rattle.mb_world_model.specs.WorldSteps.{where_faulty, with_message, stamps_some, happens, after, world}

module _ {S : Type 0} (system : System S) (w : World) where
  pub record IsSame (v : World) : Type 0 where
    pub histories : (g : ℕ) → v.histories g ≡ w.histories g
    pub line : v.line ≡ w.line
    pub tagged : v.tagged ≡ w.tagged

  -- A correct host made a step.
  pub record IsStep (v : World) : Type 0 where
    pub host : ℕ
    pub correct : IsCorrect system.schedule host
    pub seen : Event
    pub histories : (g : ℕ) → v.histories g ≡ update w.histories host (transition (self_of system host) (w.histories host) seen).left.history g
    pub line : v.line ≡ fold extended w.line (transition (self_of system host) (w.histories host) seen).left.executed
    pub tagged : v.tagged ≡ fold with_tagged w.tagged (transition (self_of system host) (w.histories host) seen).left.sent

  abbrev pub Moves : World → Type 0
  Moves v = IsSame v ⊎ IsStep v

  abbrev Same : World → Type 0
  Same v = IsSame v

  same_world : Same w
  same_world = record { histories = λ g. refl; line = refl; tagged = refl }

  host_moves : (h : ℕ) (bytes : Bytes) → h < host_count system.schedule.shape → Moves (give_host system h bytes w)
  unfolding give_host
  host_moves h bytes lt = elim (cases_Bool (is_faulty system.schedule h)) [
    | inl faulty ↦ rw faulty (inl (record { histories = λ g. refl; line = refl; tagged = refl }))
    | inr correct ↦ rw correct (inr (record { host = h; correct = (lt, correct); seen = event.Given bytes; histories = λ g. refl; line = refl; tagged = refl }))
  ]

  signal_moves : (h : ℕ) (e : Event) → h < host_count system.schedule.shape → Moves (signal system h e w)
  unfolding signal
  signal_moves h e lt = elim (cases_Bool (is_faulty system.schedule h)) [
    | inl faulty ↦ rw faulty (inl (record { histories = λ g. refl; line = refl; tagged = refl }))
    | inr correct ↦ rw correct (inr (record { host = h; correct = (lt, correct); seen = e; histories = λ g. refl; line = refl; tagged = refl }))
  ]

  reads_same : (c : ℕ) (bytes : Bytes) (r : Result Message ℕ) → Same (client_reads system.schedule c r (heard system.schedule bytes w))
  reads_same c bytes (Err at) = record { histories = λ g. refl; line = refl; tagged = refl }
  reads_same c bytes (Ok (message.Reply r)) = record { histories = λ g. refl; line = refl; tagged = refl }
  reads_same c bytes (Ok m) = record { histories = λ g. refl; line = refl; tagged = refl }

  pub client_same : (c : ℕ) (bytes : Bytes) → Same (give_client system.schedule c bytes w)
  unfolding give_client
  client_same c bytes = elim (cases_Bool (is_faulty_client system.schedule c)) [
    | inl faulty ↦ rw faulty (record { histories = λ g. refl; line = refl; tagged = refl })
    | inr correct ↦ rw correct (reads_same c bytes (message_of system.schedule.shape bytes))
  ]

  given_moves : (h : ℕ) (o : Option Bytes) → h < host_count system.schedule.shape → Moves (with_message (give_host system h) o w)
  given_moves h None lt = inl same_world
  given_moves h (Some bytes) lt = host_moves h bytes lt

  pub taken_same : (c : ℕ) (o : Option Bytes) → Same (with_message (give_client system.schedule c) o w)
  taken_same c None = same_world
  taken_same c (Some bytes) = client_same c bytes

  faulty_same : (t : Bool) (f : World → World) → Same (f w) → Same (where_faulty t f w)
  faulty_same true f s = s
  faulty_same false f s = same_world

  pub stamp_same : (h : ℕ) (m : Option StampedMessage) → Same (stamps_some system h m w)
  stamp_same h m = faulty_same (is_faulty system.schedule h) (stamp_some (stamp_content system.schedule h) m) (go m) where
    go : (o : Option StampedMessage) → Same (stamp_some (stamp_content system.schedule h) o w)
    go None = same_world
    go (Some x) = record { histories = λ g. refl; line = refl; tagged = refl }

  event_moves : (e : WorldEvent) → EventFits system.schedule.shape e → Moves (happens system w e)
  unfolding happens
  event_moves (Ask c op) fits = inl (record { histories = λ g. refl; line = refl; tagged = refl })
  event_moves (Give m h) fits = given_moves h (numbered w.pool m) fits
  event_moves (Take m c) fits = inl (taken_same c (numbered w.pool m))
  event_moves (Raw (name.Host h) bytes) fits = host_moves h bytes fits
  event_moves (Raw (name.Client c) bytes) fits = inl (client_same c bytes)
  event_moves (Patience h) fits = signal_moves h event.Patience fits
  event_moves (Nudge h) fits = signal_moves h event.Nudge fits
  event_moves (Sign c seq op) fits = inl (faulty_same (is_faulty_client system.schedule c) (made system.schedule (spelling (message.Request (request_of system.schedule c seq op)))) (record { histories = λ g. refl; line = refl; tagged = refl }))
  event_moves (TagReply h c seq pos result) fits = inl (faulty_same (is_faulty system.schedule h) (made system.schedule (spelling (reply_of_host system.schedule h c seq pos result))) (record { histories = λ g. refl; line = refl; tagged = refl }))
  event_moves (TagWish h view) fits = inl (faulty_same (is_faulty system.schedule h) (made system.schedule (spelling (wish_of_host system.schedule h view))) (record { histories = λ g. refl; line = refl; tagged = refl }))
  event_moves (StampPrepare h view pos messages) fits = inl (stamp_same h (prepare_of system.schedule w view pos messages))
  event_moves (StampCommit h m) fits = inl (stamp_same h (content system.schedule w m commit_for))
  event_moves (StampCheckpoint h pos digest) fits = inl (faulty_same (is_faulty system.schedule h) (stamp_content system.schedule h (checkpoint_with (host_count system.schedule.shape) pos digest)) (record { histories = λ g. refl; line = refl; tagged = refl }))
  event_moves (StampChange h view counter) fits = inl (faulty_same (is_faulty system.schedule h) (stamp_content system.schedule h (change_after system.schedule w h view counter)) (record { histories = λ g. refl; line = refl; tagged = refl }))
  event_moves (StampAs h m) fits = inl (stamp_same h (content system.schedule w m as_stamped))
  event_moves (StampRaw h bytes) fits = inl (faulty_same (is_faulty system.schedule h) (stamp_bytes system.schedule h bytes) (record { histories = λ g. refl; line = refl; tagged = refl }))

  after_moves : (o : Option WorldEvent) → ((e : WorldEvent) → o ≡ Some e → EventFits system.schedule.shape e) → Moves (after system w o)
  after_moves None fits = inl same_world
  after_moves (Some e) fits = event_moves e (fits e refl)

module _ {S : Type 0} (system : System S) where
  pub world_moves : IsSchedule system.schedule → (k : ℕ) → Moves system (world system k) (world system (suc k))
  unfolding world
  world_moves fits k = after_moves system (world system k) (slice_get system.schedule.events k) (λ e at. fits.events k e at)
