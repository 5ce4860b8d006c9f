-- What an event brings to a correct host is a step of this host: so it is of each event that brings something, by what happens in the world.
use Rattle.std.proofs.Common.{◌≡◌, ℕ, Bool, true, false, refl, sym, ap, subst, ◌∙◌, inl, inr, Option, Some, None}
use Rattle.std.specs.Prelude.{option_map}
use Rattle.std.proofs.lemmas.Bool.{cases_Bool}
use Rattle.mb_base.specs.Shapes.{Bytes, host_count}
use Rattle.mb_msg.specs.declared.message.Message.TheVariants as message
use Rattle.mb_msg.specs.Spelling.{spelling}
use Rattle.mb_msg.specs.Stamps.{as_stamped}
use Rattle.mb_msg.specs.declared.event.Event.{Event}
use Rattle.mb_msg.specs.declared.event.Event.TheVariants as event
use Rattle.mb_schedule.specs.declared.schedule.Name.TheVariants as name
use Rattle.mb_schedule.specs.declared.schedule.WorldEvent.{WorldEvent}
use Rattle.mb_schedule.specs.declared.schedule.WorldEvent.TheVariants.{Ask, Give, Take, Raw, Patience, Nudge, Sign, TagReply, TagWish, StampPrepare, StampCommit, StampCheckpoint, StampChange, StampAs, StampRaw}
use Rattle.mb_schedule.specs.Limits.{is_faulty, is_faulty_client}
use Rattle.mb_world_model.specs.World.{numbered, World, System, steps, give_host, signal, made, request_of}
use Rattle.mb_world_model.specs.FaultyHosts.{stamp_content, stamp_bytes, content, prepare_of, commit_for, checkpoint_with, change_after, reply_of_host, wish_of_host}
use Rattle.mb_world_model.specs.WorldSteps.{where_faulty, with_message, happens}
use Rattle.mb_world_model.specs.EventsStep.{arrival, EventsStep}
use Rattle.mb_world_laws.proofs.StepsMade.{happens_so}
use Rattle.mb_one_log.proofs.Moves.{client_same, taken_same, stamp_same}

module _ {S : Type 0} (system : System S) where
  -- ---- where nothing comes to a correct host

  lost_host : (w : World) (h : ℕ) (bytes : Bytes) (g : ℕ) → is_faulty system.schedule h ≡ true → (give_host system h bytes w).histories g ≡ w.histories g
  unfolding give_host
  lost_host w h bytes g faulty = rw faulty refl

  lost_signal : (w : World) (h : ℕ) (x : Event) (g : ℕ) → is_faulty system.schedule h ≡ true → (signal system h x w).histories g ≡ w.histories g
  unfolding signal
  lost_signal w h x g faulty = rw faulty refl

  lost_message : (w : World) (h : ℕ) (o : Option Bytes) (g : ℕ) → ((bytes : Bytes) → o ≡ Some bytes → is_faulty system.schedule h ≡ true) → (with_message (give_host system h) o w).histories g ≡ w.histories g
  lost_message w h None g faulty = refl
  lost_message w h (Some bytes) g faulty = lost_host w h bytes g (faulty bytes refl)

  -- what faulty hosts and clients do, and what comes to a client
  same_by : (t : Bool) (f : World → World) (w : World) (g : ℕ) → (f w).histories g ≡ w.histories g → (where_faulty t f w).histories g ≡ w.histories g
  same_by true f w g same = same
  same_by false f w g same = refl

  otherwise_so : (w : World) (e : WorldEvent) (g : ℕ) → ((h : ℕ) (x : Event) → arrival w e ≡ Some (h, x) → is_faulty system.schedule h ≡ true) → (happens system w e).histories g ≡ w.histories g
  unfolding happens
  otherwise_so w (Give m h) g none = lost_message w h (numbered w.pool m) g (λ bytes at. none h (event.Given bytes) (ap (option_map {U = ℕ × Event} (λ (b : Bytes). (h, event.Given b))) at))
  otherwise_so w (Raw (name.Host h) bytes) g none = lost_host w h bytes g (none h (event.Given bytes) refl)
  otherwise_so w (Patience h) g none = lost_signal w h event.Patience g (none h event.Patience refl)
  otherwise_so w (Nudge h) g none = lost_signal w h event.Nudge g (none h event.Nudge refl)
  otherwise_so w (Raw (name.Client c) bytes) g none = let same = client_same system w c bytes in same.histories g
  otherwise_so w (Take m c) g none = let same = taken_same system w c (numbered w.pool m) in same.histories g
  otherwise_so w (Ask c op) g none = refl
  otherwise_so w (Sign c seq op) g none = same_by (is_faulty_client system.schedule c) (made system.schedule (spelling (message.Request (request_of system.schedule c seq op)))) w g refl
  otherwise_so w (TagReply h c seq pos result) g none = same_by (is_faulty system.schedule h) (made system.schedule (spelling (reply_of_host system.schedule h c seq pos result))) w g refl
  otherwise_so w (TagWish h view) g none = same_by (is_faulty system.schedule h) (made system.schedule (spelling (wish_of_host system.schedule h view))) w g refl
  otherwise_so w (StampPrepare h view pos messages) g none = let same = stamp_same system w h (prepare_of system.schedule w view pos messages) in same.histories g
  otherwise_so w (StampCommit h m) g none = let same = stamp_same system w h (content system.schedule w m commit_for) in same.histories g
  otherwise_so w (StampCheckpoint h pos digest) g none = same_by (is_faulty system.schedule h) (stamp_content system.schedule h (checkpoint_with (host_count system.schedule.shape) pos digest)) w g refl
  otherwise_so w (StampChange h view counter) g none = same_by (is_faulty system.schedule h) (stamp_content system.schedule h (change_after system.schedule w h view counter)) w g refl
  otherwise_so w (StampAs h m) g none = let same = stamp_same system w h (content system.schedule w m as_stamped) in same.histories g
  otherwise_so w (StampRaw h bytes) g none = same_by (is_faulty system.schedule h) (stamp_bytes system.schedule h bytes) w g refl

  -- what comes is one thing, to one host
  first_of : Option (ℕ × Event) → ℕ
  first_of None = 0
  first_of (Some p) = p.0

  nothing_comes : (w : World) (e : WorldEvent) (h : ℕ) (x : Event) → arrival w e ≡ None → arrival w e ≡ Some (h, x) → ⊥
  nothing_comes w e h x at comes = absurd cc

  stays_by : (w : World) (e : WorldEvent) (g : ℕ) (o : Option (ℕ × Event)) → arrival w e ≡ o → ((x : Event) → arrival w e ≡ Some (g, x) → ⊥) → (happens system w e).histories g ≡ w.histories g
  unfolding first_of
  stays_by w e g None at none = otherwise_so w e g (λ h x comes. absurd (nothing_comes w e h x at comes))
  stays_by w e g (Some p) at none = elim (cases_Bool (is_faulty system.schedule p.0)) [
    | inl faulty ↦ otherwise_so w e g (λ h y comes. subst (λ (n : ℕ). is_faulty system.schedule n ≡ true) (ap first_of (sym at ∙ comes)) faulty)
    | inr correct ↦ (happens_so system w e p.0 p.1 at correct).others g (λ same. none p.1 (at ∙ ap (λ (n : ℕ). Some (n, p.1)) (sym same)))
  ]

  pub events_step : (w : World) → EventsStep system w
  events_step w = record { steps = λ e h x comes correct. happens_so system w e h x comes correct.1; stays = λ e g none. stays_by w e g (arrival w e) refl none }
