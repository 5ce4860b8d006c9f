-- Whom an audit of what a correct host was given can accuse.
use Rattle.std.specs.Prelude.{◌≡◌, ℕ, ◌<◌, true, List, reverse}
use Rattle.mb_base.specs.Shapes.{Bytes, host_count}
use Rattle.mb_schedule.specs.Limits.{is_faulty}
use Rattle.mb_world_model.specs.Stops.{IsUnstopped}
use Rattle.mb_world_model.specs.World.{World, System}
use Rattle.mb_world_model.specs.WorldEvents.{IsCorrect}
use Rattle.mb_world_model.specs.WorldSteps.{world}
use Rattle.mb_audit.specs.declared.auditing.Verdict.TheVariants.{Double, Illegal}
use Rattle.mb_audit.specs.Verdicts.{IsVerdict}

module _ {S : Type 0} (system : System S) (w : World) (id : ℕ) where
  -- all byte strings that were delivered to the host, oldest first
  abbrev pub given_to : List Bytes
  given_to = reverse (w.given id)

  -- Of no host two messages have one counter. Whose message may not stand there is faulty.
  pub record AccusesRightly : Type 0 where
    pub single : (host counter : ℕ) → IsVerdict system.schedule.shape system.schedule.secret given_to host (Double counter) → ⊥
    pub guilty : (host counter rule : ℕ) → host < host_count system.schedule.shape → IsVerdict system.schedule.shape system.schedule.secret given_to host (Illegal counter rule)
        → is_faulty system.schedule host ≡ true

-- For every service and every schedule, however many hosts are faulty: after each event, while nothing was forged or refused by the world.
abbrev pub AuditsAccuseRightly : Type 0 → Type 0
AuditsAccuseRightly S = (system : System S) (k : ℕ) → IsUnstopped system k → (id : ℕ) → IsCorrect system.schedule id → AccusesRightly system (world system k) id
