-- What an event brings to a correct host is a step of this host, whatever the event is.
use Rattle.std.proofs.Common.{◌≡◌, ℕ, false, refl, subst, Option, Some, None}
use Rattle.std.specs.Prelude.{option_map}
use Rattle.std.proofs.lemmas.Bool.{eq-eqb, ne_eqb}
use Rattle.mb_base.specs.Shapes.{Bytes}
use Rattle.mb_msg.specs.declared.event.Event.{Event}
use Rattle.mb_msg.specs.declared.event.Event.TheVariants as event
use Rattle.mb_model.specs.Histories.{History}
use Rattle.mb_model.specs.HostStep.{transition}
use Rattle.mb_schedule.specs.declared.schedule.Name.TheVariants as name
use Rattle.mb_schedule.specs.declared.schedule.WorldEvent.{WorldEvent}
use Rattle.mb_schedule.specs.declared.schedule.WorldEvent.TheVariants.{Ask, Give, Take, Raw, Patience, Nudge, Sign, TagReply, TagWish, StampPrepare, StampCommit, StampCheckpoint, StampChange, StampAs, StampRaw}
use Rattle.mb_schedule.specs.Limits.{is_faulty}
use Rattle.mb_world_model.specs.World.{update, numbered, World, System, self_of, steps, arrives, give_host, signal}
use Rattle.mb_world_model.specs.WorldSteps.{with_message, happens}
use Rattle.mb_world_model.specs.EventsStep.{arrival, MakesStep}

module _ {S : Type 0} (system : System S) where
  updated_here : (f : ℕ → History) (h : ℕ) (d : History) → update f h d h ≡ d
  updated_here f h d = rw (eq-eqb h h refl) refl

  updated_other : (f : ℕ → History) (h : ℕ) (d : History) (g : ℕ) → (g ≡ h → ⊥) → update f h d g ≡ f g
  updated_other f h d g differs = rw (ne_eqb g h differs) refl

  steps_so : (h : ℕ) (x : Event) (w : World) → MakesStep system h x w (steps system h x w)
  steps_so h x w = record {
    history = updated_here w.histories h (transition (self_of system h) (w.histories h) x).left.history;
    others = updated_other w.histories h (transition (self_of system h) (w.histories h) x).left.history;
    sends = refl;
    tagged = refl;
    answers = refl;
  }

  given_so : (h : ℕ) (bytes : Bytes) (w : World) → is_faulty system.schedule h ≡ false → MakesStep system h (event.Given bytes) w (give_host system h bytes w)
  unfolding give_host
  given_so h bytes w correct =
      let y : MakesStep system h (event.Given bytes) (arrives system.schedule h bytes w) (steps system h (event.Given bytes) (arrives system.schedule h bytes w)) = steps_so h (event.Given bytes) (arrives system.schedule h bytes w) in
      rw correct (record { history = y.history; others = y.others; sends = y.sends; tagged = y.tagged; answers = y.answers })

  signal_so : (h : ℕ) (x : Event) (w : World) → is_faulty system.schedule h ≡ false → MakesStep system h x w (signal system h x w)
  unfolding signal
  signal_so h x w correct = rw correct (steps_so h x w)

  moved : (a b : ℕ × Event) (w v : World) → Some a ≡ Some b → (is_faulty system.schedule a.0 ≡ false → MakesStep system a.0 a.1 w v) → is_faulty system.schedule b.0 ≡ false → MakesStep system b.0 b.1 w v
  moved a b w v e f = subst (λ (p : ℕ × Event). is_faulty system.schedule p.0 ≡ false → MakesStep system p.0 p.1 w v) (same a b e) f where
    same : (a b : ℕ × Event) → Some a ≡ Some b → a ≡ b
    same a b e = cc

  message_so : (g h : ℕ) (x : Event) (w : World) (o : Option Bytes) → option_map {U = ℕ × Event} (λ bytes. (g, event.Given bytes)) o ≡ Some (h, x) → is_faulty system.schedule h ≡ false → MakesStep system h x w (with_message (give_host system g) o w)
  message_so g h x w None e correct = absurd cc
  message_so g h x w (Some bytes) e correct = moved (g, event.Given bytes) (h, x) w (give_host system g bytes w) e (given_so g bytes w) correct

  pub happens_so : (w : World) (e : WorldEvent) (h : ℕ) (x : Event) → arrival w e ≡ Some (h, x) → is_faulty system.schedule h ≡ false → MakesStep system h x w (happens system w e)
  unfolding happens
  happens_so w (Give m g) h x e correct = message_so g h x w (numbered w.pool m) e correct
  happens_so w (Raw (name.Host g) bytes) h x e correct = moved (g, event.Given bytes) (h, x) w (give_host system g bytes w) e (given_so g bytes w) correct
  happens_so w (Patience g) h x e correct = moved (g, event.Patience) (h, x) w (signal system g event.Patience w) e (signal_so g event.Patience w) correct
  happens_so w (Nudge g) h x e correct = moved (g, event.Nudge) (h, x) w (signal system g event.Nudge w) e (signal_so g event.Nudge w) correct
  happens_so w (Raw (name.Client c) bytes) h x e correct = absurd cc
  happens_so w (Ask c op) h x e correct = absurd cc
  happens_so w (Take m c) h x e correct = absurd cc
  happens_so w (Sign c seq op) h x e correct = absurd cc
  happens_so w (TagReply g c seq pos result) h x e correct = absurd cc
  happens_so w (TagWish g view) h x e correct = absurd cc
  happens_so w (StampPrepare g view pos messages) h x e correct = absurd cc
  happens_so w (StampCommit g m) h x e correct = absurd cc
  happens_so w (StampCheckpoint g pos digest) h x e correct = absurd cc
  happens_so w (StampChange g view counter) h x e correct = absurd cc
  happens_so w (StampAs g m) h x e correct = absurd cc
  happens_so w (StampRaw g bytes) h x e correct = absurd cc
