-- The facts of each world that nothing stopped, while no two of its hashed strings share a digest.
use Rattle.std.proofs.Common.{◌≡◌, ℕ, true, List, [], ◌∷◌, refl, ap, subst, Some, Ok, Err}
use Rattle.std.specs.Prelude.{Result}
use Rattle.mb_base.specs.Shapes.{IsShape}
use Rattle.mb_msg.specs.declared.message.Message.{Message}
use Rattle.mb_msg.specs.declared.event.Event.{Event}
use Rattle.mb_msg.specs.Reading.{message_of}
use Rattle.mb_msg.specs.Fits.{FitsFields}
use Rattle.mb_model.specs.Histories.{History, stamped}
use Rattle.mb_steps.specs.OwnLists.{AreNumbered}
use Rattle.mb_model.specs.HostStep.{transition, after as after_events}
use Rattle.mb_model.proofs.ShapesFit.{shape_fits}
use Rattle.mb_steps.specs.Arises.{Arises}
use Rattle.mb_steps.proofs.StepEventsArise.{after_arises}
use Rattle.mb_steps.proofs.OwnListsOrdered.{own_lists}
use Rattle.mb_world_model.specs.Hashed.{HashesApart}
use Rattle.mb_schedule.specs.Limits.{IsSchedule}
use Rattle.mb_world_model.specs.World.{World, System, self_of}
use Rattle.mb_model.specs.Inside.{if_read}
use Rattle.mb_world_model.specs.WorldSteps.{world}
use Rattle.mb_world_model.specs.Stops.{IsUnstopped}
use Rattle.mb_world_laws.proofs.KeptByWorlds.{world_keeps}
use Rattle.mb_host_laws.proofs.Cases.{some_is}
use Rattle.mb_world_laws.proofs.Grown.{IsGivenTo}
use Rattle.mb_world_laws.proofs.Standings.{Standing, standing}
use Rattle.mb_reading_laws.proofs.ReadFits.{read_fits}
use Rattle.mb_world_laws.proofs.OwnStamps.{own_fits, own_floors, own_knows, own_changes}
use Rattle.mb_world_laws.proofs.Facts.{Facts}
use Rattle.mb_world_laws.proofs.NobodyThere.{nobody_there}
use Rattle.mb_world_laws.proofs.Unspent.{unspent_in}

module _ {S : Type 0} (system : System S) where
  -- Each history is what some events leave.
  pub record IsLeft (h : ℕ) (d : History) : Type 0 where
    pub events : List Event
    pub is : after_events (self_of system h) events ≡ d

  begins_left : (h : ℕ) → IsLeft h []
  unfolding after_events
  begins_left h = record { events = []; is = refl }

  event_left : (h : ℕ) (d : History) (e : Event) → IsLeft h d → IsLeft h (transition (self_of system h) d e).left.history
  unfolding after_events
  event_left h d e x = record { events = e ∷ x.events; is = ap (λ (y : History). (transition (self_of system h) y e).left.history) x.is }

  pub left_in : (k h : ℕ) → IsLeft h ((world system k).histories h)
  left_in k h = world_keeps system IsLeft begins_left event_left k h

  arises_in : (k h : ℕ) → Arises (self_of system h) ((world system k).histories h)
  arises_in k h = let x = left_in k h in subst (λ (d : History). Arises (self_of system h) d) x.is (after_arises (self_of system h) x.events)

  numbered_in : (k h : ℕ) → AreNumbered (self_of system h) (stamped ((world system k).histories h))
  numbered_in k h = let x = left_in k h in subst (λ (d : History). AreNumbered (self_of system h) (stamped d)) x.is ((own_lists S).numbered (self_of system h) x.events)

  read_is : (r : Result Message ℕ) (m : Message) → if_read r ≡ Some m → r ≡ Ok m
  read_is (Ok n) m e = ap Ok (some_is n m e)
  read_is (Err at) m e = absurd cc

  read_in : (w : World) (h : ℕ) (m : Message) → IsGivenTo system.schedule w h m → FitsFields system.schedule.shape m
  read_in w h m x = read_fits system.schedule.shape (shape_fits system.schedule.shape) x.bytes m (read_is (message_of system.schedule.shape x.bytes) m x.reads)

  -- So the facts hold.
  pub facts_in : IsSchedule system.schedule → (k : ℕ) → IsUnstopped system k → HashesApart (world system k).hashed → Facts system (world system k)
  facts_in fits k none apart =
      let w : World = world system k in
      let s : Standing system w = standing system k none in
      let shape : IsShape system.schedule.shape = shape_fits system.schedule.shape in
      record {
        shape = shape;
        few = fits.few;
        apart = apart;
        standing = s;
        arises = arises_in k;
        nobody = nobody_there system fits k;
        numbered = numbered_in k;
        read = read_in w;
        fits = own_fits system w shape s (numbered_in k) (read_in w) (unspent_in system k) (arises_in k);
        knows = own_knows system w shape s (numbered_in k) (read_in w) (unspent_in system k) (arises_in k);
        floors = own_floors system w shape s (numbered_in k) (read_in w) (unspent_in system k) (arises_in k);
        changes = own_changes system w shape s (numbered_in k) (read_in w) (unspent_in system k) (arises_in k);
      }
