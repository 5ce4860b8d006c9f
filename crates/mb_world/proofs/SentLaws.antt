-- What a correct host sends of an event that nothing stops is not forged, in each world to which events lead that nothing stopped.
use Rattle.std.proofs.Common.{◌≡◌, ◌<◌, ℕ, [], refl, ap, subst, Some, None}
use Rattle.std.specs.Prelude.{option_map}
use Rattle.mb_base.specs.Shapes.{Bytes, host_count}
use Rattle.mb_msg.specs.declared.event.Event.{Event}
use Rattle.mb_msg.specs.declared.event.Event.TheVariants as event
use Rattle.mb_msg.specs.declared.message.Message.{Message}
use Rattle.mb_model.specs.HostStep.{transition}
use Rattle.mb_model.proofs.Members.{in_contained}
use Rattle.mb_schedule.specs.declared.schedule.Name.TheVariants as name
use Rattle.mb_schedule.specs.declared.schedule.WorldEvent.{WorldEvent}
use Rattle.mb_schedule.specs.declared.schedule.WorldEvent.TheVariants.{Give, Raw, Patience, Nudge}
use Rattle.mb_world_model.specs.World.{World as WorldState, System, self_of, numbered, arrives, partway, steps, give_host, signal}
use Rattle.mb_world_model.specs.WorldSteps.{happens}
use Rattle.mb_world_model.specs.EventsStep.{arrival}
use Rattle.mb_world_model.specs.Stops.{stop_of}
use Rattle.mb_world_model.specs.Forged.{IsUnforged}
use Rattle.mb_forgery.proofs.CleanLaws.{clean_stays}
use Rattle.mb_unforged.specs.Reached.{IsReached}
use Rattle.mb_unforged.proofs.Sent.{sent_unforged}
use Rattle.mb_world.specs.Sent.{SendsClean}

module _ {V : Type 0} (y : System V) (x : WorldState) (r : IsReached y x) (e : WorldEvent) (none : stop_of y.schedule x e ≡ None) (h : ℕ) (there : h < host_count y.schedule.shape) where
  -- The answer is no part of what was made.
  unanswered : (z v : WorldState) (seen : Event) (m : Message) → v ≡ steps y h seen z → IsUnforged y.schedule v m → IsUnforged y.schedule (partway y.schedule h (transition (self_of y h) (z.histories h) seen).left z) m
  unanswered z v seen m is u =
      let now : IsUnforged y.schedule (steps y h seen z) m = subst (λ (w : WorldState). IsUnforged y.schedule w m) is u in
      clean_stays y.schedule (steps y h seen z) (partway y.schedule h (transition (self_of y h) (z.histories h) seen).left z) m
      (record { stamps = λ g. ([], refl); asked = ([], refl); tagged = ([], refl) }) now

  pub given_sends : (bytes : Bytes) → arrival x e ≡ Some (h, event.Given bytes) → happens y x e ≡ give_host y h bytes x → SendsClean y (arrives y.schedule h bytes x) h (event.Given bytes)
  unfolding give_host
  given_sends bytes comes same correct l m i reads =
      unanswered (arrives y.schedule h bytes x) (happens y x e) (event.Given bytes) m (rw correct at same)
      (sent_unforged y x r e none h (event.Given bytes) comes (there, correct) l (in_contained _ l i) m reads)

  pub signal_sends : (seen : Event) → arrival x e ≡ Some (h, seen) → happens y x e ≡ signal y h seen x → SendsClean y x h seen
  unfolding signal
  signal_sends seen comes same correct l m i reads =
      unanswered x (happens y x e) seen m (rw correct at same)
      (sent_unforged y x r e none h seen comes (there, correct) l (in_contained _ l i) m reads)

module _ {V : Type 0} (y : System V) (x : WorldState) (r : IsReached y x) (h : ℕ) (there : h < host_count y.schedule.shape) where
  -- a message that was made
  pub message_sends : (n : ℕ) (bytes : Bytes) → stop_of y.schedule x (Give n h) ≡ None → numbered x.pool n ≡ Some bytes → SendsClean y (arrives y.schedule h bytes x) h (event.Given bytes)
  unfolding happens
  message_sends n bytes none at = given_sends y x r (Give n h) none h there bytes (ap (option_map {U = ℕ × Event} (λ (b : Bytes). (h, event.Given b))) at) (rw at refl)

  -- any bytes
  pub raw_sends : (bytes : Bytes) → stop_of y.schedule x (Raw (name.Host h) bytes) ≡ None → SendsClean y (arrives y.schedule h bytes x) h (event.Given bytes)
  unfolding happens
  raw_sends bytes none = given_sends y x r (Raw (name.Host h) bytes) none h there bytes refl refl

  pub patience_sends : stop_of y.schedule x (Patience h) ≡ None → SendsClean y x h event.Patience
  unfolding happens
  patience_sends none = signal_sends y x r (Patience h) none h there event.Patience refl refl

  pub nudge_sends : stop_of y.schedule x (Nudge h) ≡ None → SendsClean y x h event.Nudge
  unfolding happens
  nudge_sends none = signal_sends y x r (Nudge h) none h there event.Nudge refl refl
