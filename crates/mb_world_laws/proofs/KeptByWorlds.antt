-- What all worlds keep: what holds of each host at first, and is kept by each event at a host, holds of each host in each world.
use Rattle.std.proofs.Common.{◌≡◌, ℕ, zero, suc, Bool, true, false, [], refl, sym, subst, inl, inr, eqb, Option, Some, None, Ok, Err}
use Rattle.std.specs.Prelude.{slice_get, Result}
use Rattle.std.proofs.lemmas.Bool.{cases_Bool, eqb-true}
use Rattle.mb_base.specs.Shapes.{Bytes, host_count}
use Rattle.mb_msg.specs.declared.message.Message.{Message}
use Rattle.mb_msg.specs.declared.message.Message.TheVariants as message
use Rattle.mb_msg.specs.declared.stamped.Stamped.{Stamped as StampedMessage}
use Rattle.mb_msg.specs.Reading.{message_of}
use Rattle.mb_msg.specs.Spelling.{spelling}
use Rattle.mb_msg.specs.Stamps.{as_stamped}
use Rattle.mb_msg.specs.declared.event.Event.{Event}
use Rattle.mb_msg.specs.declared.event.Event.TheVariants as event
use Rattle.mb_model.specs.Histories.{History}
use Rattle.mb_model.specs.HostStep.{transition}
use Rattle.mb_steps.specs.Arises.{Arises}
use Rattle.mb_steps.proofs.StepArises.{ArisesWhole}
use Rattle.mb_steps.proofs.StepEventsArise.{transition_arises}
use Rattle.mb_schedule.specs.declared.schedule.Name.TheVariants as name
use Rattle.mb_schedule.specs.declared.schedule.WorldEvent.{WorldEvent}
use Rattle.mb_schedule.specs.declared.schedule.WorldEvent.TheVariants.{Ask, Give, Take, Raw, Patience, Nudge, Sign, TagReply, TagWish, StampPrepare, StampCommit, StampCheckpoint, StampChange, StampAs, StampRaw}
use Rattle.mb_schedule.specs.Limits.{is_faulty, is_faulty_client}
use Rattle.mb_world_model.specs.World.{update, numbered, World, System, self_of, steps, give_host, give_client, client_reads, heard, signal, arrives, made, request_of}
use Rattle.mb_world_model.specs.FaultyHosts.{stamp_some, stamp_content, stamp_bytes, content, prepare_of, commit_for, checkpoint_with, change_after, reply_of_host, wish_of_host}
use Rattle.mb_world_model.specs.WorldSteps.{where_faulty, with_message, stamps_some, happens, after, world}

-- Where an event comes to a host, it is one with this property.
abbrev pub ComesTo : (ℕ → Type 0) → WorldEvent → Type 0
ComesTo P (Give m h) = P h
ComesTo P (Raw (name.Host h) bytes) = P h
ComesTo P (Patience h) = P h
ComesTo P (Nudge h) = P h
ComesTo P e = Unit {0}

module _ {S : Type 0} (system : System S) (Q : ℕ → History → Type 0) (P : ℕ → Type 0) (begins : (h : ℕ) → Q h [])
    (keeps : (h : ℕ) (d : History) (e : Event) → P h → Q h d → Q h (transition (self_of system h) d e).left.history) where
  -- It holds of each host.
  abbrev AllHave : World → Type 0
  AllHave w = (h : ℕ) → Q h (w.histories h)

  updated : (f : ℕ → History) (h : ℕ) (d : History) → ((g : ℕ) → Q g (f g)) → Q h d → (g : ℕ) → Q g (update f h d g)
  updated f h d all new g = elim (cases_Bool (eqb g h)) [
    | inl same ↦ rw same (subst (λ (x : ℕ). Q x d) (sym (eqb-true g h same)) new)
    | inr other ↦ rw other (all g)
  ]

  steps_keeps : (h : ℕ) (e : Event) (w : World) → P h → AllHave w → AllHave (steps system h e w)
  steps_keeps h e w p q = updated w.histories h (transition (self_of system h) (w.histories h) e).left.history q (keeps h (w.histories h) e p (q h))

  host_keeps : (h : ℕ) (bytes : Bytes) (w : World) → P h → AllHave w → AllHave (give_host system h bytes w)
  unfolding give_host
  host_keeps h bytes w p q = elim (cases_Bool (is_faulty system.schedule h)) [
    | inl faulty ↦ rw faulty q
    | inr correct ↦ rw correct (steps_keeps h (event.Given bytes) (arrives system.schedule h bytes w) p q)
  ]

  signal_keeps : (h : ℕ) (e : Event) (w : World) → P h → AllHave w → AllHave (signal system h e w)
  unfolding signal
  signal_keeps h e w p q = elim (cases_Bool (is_faulty system.schedule h)) [
    | inl faulty ↦ rw faulty q
    | inr correct ↦ rw correct (steps_keeps h e w p q)
  ]

  reads_keeps : (c : ℕ) (r : Result Message ℕ) (w : World) → AllHave w → AllHave (client_reads system.schedule c r w)
  reads_keeps c (Err at) w q = q
  reads_keeps c (Ok (message.Reply r)) w q = q
  reads_keeps c (Ok m) w q = q

  client_keeps : (c : ℕ) (bytes : Bytes) (w : World) → AllHave w → AllHave (give_client system.schedule c bytes w)
  unfolding give_client
  client_keeps c bytes w q = elim (cases_Bool (is_faulty_client system.schedule c)) [
    | inl faulty ↦ rw faulty q
    | inr correct ↦ rw correct (reads_keeps c (message_of system.schedule.shape bytes) (heard system.schedule bytes w) q)
  ]

  message_keeps : (f : Bytes → World → World) (bytes : Option Bytes) (w : World) → ((b : Bytes) → AllHave (f b w)) → AllHave w → AllHave (with_message f bytes w)
  message_keeps f None w all q = q
  message_keeps f (Some bytes) w all q = all bytes

  -- What faulty hosts and clients do changes no history.
  faulty_keeps : (t : Bool) (f : World → World) (w : World) → AllHave (f w) → AllHave w → AllHave (where_faulty t f w)
  faulty_keeps true f w q r = q
  faulty_keeps false f w q r = r

  stamp_keeps : (h : ℕ) (m : Option StampedMessage) (w : World) → AllHave w → AllHave (stamp_some (stamp_content system.schedule h) m w)
  stamp_keeps h None w q = q
  stamp_keeps h (Some m) w q = q

  stamps_keeps : (h : ℕ) (m : Option StampedMessage) (w : World) → AllHave w → AllHave (stamps_some system h m w)
  stamps_keeps h m w q = faulty_keeps (is_faulty system.schedule h) (stamp_some (stamp_content system.schedule h) m) w (stamp_keeps h m w q) q

  happens_keeps : (w : World) (e : WorldEvent) → ComesTo P e → AllHave w → AllHave (happens system w e)
  unfolding happens
  happens_keeps w (Ask c op) p q = q
  happens_keeps w (Give m h) p q = message_keeps (give_host system h) (numbered w.pool m) w (λ b. host_keeps h b w p q) q
  happens_keeps w (Take m c) p q = message_keeps (give_client system.schedule c) (numbered w.pool m) w (λ b. client_keeps c b w q) q
  happens_keeps w (Raw (name.Host h) bytes) p q = host_keeps h bytes w p q
  happens_keeps w (Raw (name.Client c) bytes) p q = client_keeps c bytes w q
  happens_keeps w (Patience h) p q = signal_keeps h event.Patience w p q
  happens_keeps w (Nudge h) p q = signal_keeps h event.Nudge w p q
  happens_keeps w (Sign c seq op) p q = faulty_keeps (is_faulty_client system.schedule c) (made system.schedule (spelling (message.Request (request_of system.schedule c seq op)))) w q q
  happens_keeps w (TagReply h c seq pos result) p q = faulty_keeps (is_faulty system.schedule h) (made system.schedule (spelling (reply_of_host system.schedule h c seq pos result))) w q q
  happens_keeps w (TagWish h view) p q = faulty_keeps (is_faulty system.schedule h) (made system.schedule (spelling (wish_of_host system.schedule h view))) w q q
  happens_keeps w (StampPrepare h view pos messages) p q = stamps_keeps h (prepare_of system.schedule w view pos messages) w q
  happens_keeps w (StampCommit h m) p q = stamps_keeps h (content system.schedule w m commit_for) w q
  happens_keeps w (StampCheckpoint h pos digest) p q = faulty_keeps (is_faulty system.schedule h) (stamp_content system.schedule h (checkpoint_with (host_count system.schedule.shape) pos digest)) w q q
  happens_keeps w (StampChange h view counter) p q = faulty_keeps (is_faulty system.schedule h) (stamp_content system.schedule h (change_after system.schedule w h view counter)) w q q
  happens_keeps w (StampAs h m) p q = stamps_keeps h (content system.schedule w m as_stamped) w q
  happens_keeps w (StampRaw h bytes) p q = faulty_keeps (is_faulty system.schedule h) (stamp_bytes system.schedule h bytes) w q q

  after_keeps : (w : World) (e : Option WorldEvent) → ((x : WorldEvent) → e ≡ Some x → ComesTo P x) → AllHave w → AllHave (after system w e)
  after_keeps w None c q = q
  after_keeps w (Some e) c q = happens_keeps w e (c e refl) q

  pub world_keeps_of : ((k : ℕ) (e : WorldEvent) → slice_get system.schedule.events k ≡ Some e → ComesTo P e) → (k : ℕ) → AllHave (world system k)
  unfolding world
  world_keeps_of comes zero = λ h. begins h
  world_keeps_of comes (suc k) = after_keeps (world system k) (slice_get system.schedule.events k) (comes k) (world_keeps_of comes k)

-- So it is where each host keeps it.
module _ {S : Type 0} (system : System S) (Q : ℕ → History → Type 0) (begins : (h : ℕ) → Q h [])
    (keeps : (h : ℕ) (d : History) (e : Event) → Q h d → Q h (transition (self_of system h) d e).left.history) where
  comes_to_any : (e : WorldEvent) → ComesTo (λ (h : ℕ). Unit {0}) e
  comes_to_any (Give m h) = tt
  comes_to_any (Raw (name.Host h) bytes) = tt
  comes_to_any (Raw (name.Client c) bytes) = tt
  comes_to_any (Patience h) = tt
  comes_to_any (Nudge h) = tt
  comes_to_any e = tt

  pub world_keeps : (k h : ℕ) → Q h ((world system k).histories h)
  world_keeps = world_keeps_of system Q (λ (h : ℕ). Unit {0}) begins (λ h d e p q. keeps h d e q) (λ k e is. comes_to_any e)

-- Each history arose by events.
pub world_arises : {S : Type 0} (system : System S) (k h : ℕ) → Arises (self_of system h) ((world system k).histories h)
world_arises system k h = (world_keeps system (λ g d. ArisesWhole (self_of system g) d) (λ g. (tt, tt)) (λ g d e a. transition_arises (self_of system g) d e a) k h).0
