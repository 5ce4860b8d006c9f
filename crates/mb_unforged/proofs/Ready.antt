-- What is known of each world that nothing stopped, without a word of digests: how histories arose, that they are sound and fit, and that what they were made
-- of was delivered.
use Rattle.std.proofs.Common.{◌≡◌, ℕ, ◌^◌, ◌<◌, List, [], ◌∷◌, ap, subst, Some, Ok, Err}
use Rattle.std.specs.Prelude.{Result}
use Rattle.mb_base.specs.Shapes.{IsShape, host_count}
use Rattle.mb_msg.specs.declared.message.Message.{Message}
use Rattle.mb_msg.specs.declared.event.Event.{Event}
use Rattle.mb_msg.specs.Reading.{message_of}
use Rattle.mb_msg.specs.Fits.{FitsFields}
use Rattle.mb_model.specs.Histories.{History, Identity, counter_of, stamped as all_stamped}
use Rattle.mb_steps.specs.OwnLists.{AreNumbered}
use Rattle.mb_model.specs.HostStep.{after as after_events}
use Rattle.mb_model.proofs.ShapesFit.{shape_fits}
use Rattle.mb_steps.proofs.OwnListsOrdered.{own_lists}
use Rattle.mb_steps.specs.Arises.{Arises, IsWhole}
use Rattle.mb_steps.proofs.StepEventsArise.{after_arises}
use Rattle.mb_world_model.specs.WorldEvents.{IsCorrect}
use Rattle.mb_world_model.specs.World.{World, System, self_of}
use Rattle.mb_model.specs.Inside.{if_read}
use Rattle.mb_world_model.specs.WorldSteps.{world}
use Rattle.mb_world_model.specs.Stops.{IsUnstopped}
use Rattle.mb_host_laws.proofs.Cases.{some_is}
use Rattle.mb_world_laws.proofs.FactsOf.{left_in}
use Rattle.mb_world_laws.proofs.Grown.{IsGivenTo}
use Rattle.mb_reading_laws.proofs.ReadFits.{read_fits}
use Rattle.mb_world_laws.proofs.Standings.{Standing, standing}
use Rattle.mb_world_laws.proofs.Unspent.{unspent_in}
use Rattle.mb_history_laws.specs.Sound.{IsSound}
use Rattle.mb_history_laws.proofs.Sound.{begins_sound}
use Rattle.mb_history_laws.proofs.SoundRules.{transition_sound}
use Rattle.mb_encodable.specs.Fitting.{AreFit}
use Rattle.mb_encodable.proofs.Fit.{begins_fit, transition_fit}

-- ---- a host's histories

module _ {S : Type 0} (self : Identity S) (there : self.host < host_count self.shape) where
  pub record IsKept (d : History) : Type 0 where
    pub sound : IsSound self d
    pub whole : IsWhole d
    pub fit : AreFit self d

  after_kept : (events : List Event) → IsKept (after_events self events)
  unfolding after_events
  after_kept [] = record { sound = begins_sound self; whole = tt; fit = begins_fit self }
  after_kept (e ∷ events) =
      let k : IsKept (after_events self events) = after_kept events in
      let s = transition_sound self (after_events self events) e k.sound k.whole in
      record { sound = s.0; whole = s.1; fit = transition_fit self there (after_events self events) e k.sound k.whole k.fit }

-- ---- what is read

pub read_is : (r : Result Message ℕ) (m : Message) → if_read r ≡ Some m → r ≡ Ok m
read_is (Ok n) m e = ap Ok (some_is n m e)
read_is (Err at) m e = absurd cc

module _ {S : Type 0} (system : System S) where
  pub record IsReady (w : World) : Type 0 where
    pub shape : IsShape system.schedule.shape
    pub standing : Standing system w
    pub arises : (h : ℕ) → Arises (self_of system h) (w.histories h)
    pub numbered : (h : ℕ) → AreNumbered (self_of system h) (all_stamped (w.histories h))
    pub low : (h : ℕ) → counter_of (w.histories h) < 2 ^ 64
    pub kept : (h : ℕ) (c : IsCorrect system.schedule h) → IsKept (self_of system h) c.0 (w.histories h)

  pub given_fits : (w : World) (h : ℕ) (m : Message) → IsGivenTo system.schedule w h m → FitsFields system.schedule.shape m
  given_fits w h m x = read_fits system.schedule.shape (shape_fits system.schedule.shape) x.bytes m (read_is (message_of system.schedule.shape x.bytes) m x.reads)

  pub ready : (k : ℕ) → IsUnstopped system k → IsReady (world system k)
  ready k none =
      record {
        shape = shape_fits system.schedule.shape;
        standing = standing system k none;
        arises = λ h. let x = left_in system k h in subst (λ (d : History). Arises (self_of system h) d) x.is (after_arises (self_of system h) x.events);
        numbered = λ h. let x = left_in system k h in subst (λ (d : History). AreNumbered (self_of system h) (all_stamped d)) x.is ((own_lists S).numbered (self_of system h) x.events);
        low = unspent_in system k;
        kept = λ h c. let x = left_in system k h in subst (IsKept (self_of system h) c.0) x.is (after_kept (self_of system h) c.0 x.events);
      }
