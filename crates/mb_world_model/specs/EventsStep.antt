-- What an event does in the world: the correct host to which it comes makes the step of `transition`, and no other does anything.
use Rattle.std.specs.Prelude.{◌≡◌, ℕ, ◌++◌, ◌∷◌, map, fold, Option, Some, None, option_map}
use Rattle.mb_msg.specs.Spelling.{spelling}
use Rattle.mb_msg.specs.declared.event.Event.{Event}
use Rattle.mb_msg.specs.declared.event.Event.TheVariants as host
use Rattle.mb_model.specs.Sending.{Letter}
use Rattle.mb_model.specs.HostStep.{transition}
use Rattle.mb_schedule.specs.declared.schedule.Name.TheVariants as name
use Rattle.mb_schedule.specs.declared.schedule.WorldEvent.{WorldEvent}
use Rattle.mb_schedule.specs.declared.schedule.WorldEvent.TheVariants.{Give, Raw, Patience, Nudge}
use Rattle.mb_world_model.specs.WorldEvents.{IsCorrect}
use Rattle.mb_world_model.specs.World.{OfHost, World, System, numbered, self_of, with_tagged}
use Rattle.mb_world_model.specs.WorldSteps.{happens}

-- the host to which an event comes, and what comes to it
abbrev pub arrival : World → WorldEvent → Option (ℕ × Event)
arrival w (Give m h) = option_map {U = ℕ × Event} (λ bytes. (h, host.Given bytes)) (numbered w.pool m)
arrival w (Raw (name.Host h) bytes) = Some (h, host.Given bytes)
arrival w (Patience h) = Some (h, host.Patience)
arrival w (Nudge h) = Some (h, host.Nudge)
arrival w e = None

module _ {S : Type 0} (system : System S) where
  -- From one world to the next a host makes the step of what came: its history is the one that the step leaves, the messages that it sends
  -- go to the end of the pool, those of them that it tagged are noted, and what it answers is seen. The other hosts' histories stay.
  pub record MakesStep (h : ℕ) (x : Event) (w next : World) : Type 0 where
    pub history : next.histories h ≡ (transition (self_of system h) (w.histories h) x).left.history
    pub others : (g : ℕ) → (g ≡ h → ⊥) → next.histories g ≡ w.histories g
    pub sends : next.pool ≡ w.pool ++ map (λ (letter : Letter). spelling letter.says) (transition (self_of system h) (w.histories h) x).left.sent
    pub tagged : next.tagged ≡ fold with_tagged w.tagged (transition (self_of system h) (w.histories h) x).left.sent
    pub answers : next.seen ≡ OfHost (transition (self_of system h) (w.histories h) x).outcome ∷ w.seen

  -- What an event brings to a correct host is a step of this host. Of a host to which it brings nothing the history stays as it is.
  pub record EventsStep (w : World) : Type 0 where
    pub steps : (e : WorldEvent) (h : ℕ) (x : Event) → arrival w e ≡ Some (h, x) → IsCorrect system.schedule h → MakesStep h x w (happens system w e)
    pub stays : (e : WorldEvent) (g : ℕ) → ((x : Event) → arrival w e ≡ Some (g, x) → ⊥) → (happens system w e).histories g ≡ w.histories g
