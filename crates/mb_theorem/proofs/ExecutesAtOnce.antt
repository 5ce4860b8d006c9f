-- The event that brings the vote is a step of the host, and the step executes.
use Rattle.std.proofs.Common.{◌≡◌, ℕ, sym, subst}
use Rattle.mb_base.specs.Shapes.{Bytes}
use Rattle.mb_parts.specs.declared.batch.Batch.{Batch}
use Rattle.mb_model.specs.Histories.{History}
use Rattle.mb_schedule.specs.declared.schedule.WorldEvent.{WorldEvent}
use Rattle.mb_world_model.specs.World.{World, System, self_of}
use Rattle.mb_promise.specs.NothingLeft.{HasExecuted, Executes}
use Rattle.mb_promise.specs.AllDue.{LeavesNothing}
use Rattle.mb_promise.specs.ExecutesAtOnce.{Brings, ExecutesBehind, ExecutesAtOnce}
use Rattle.mb_theorem.proofs.EventsStep.{events_step}

module _ {S : Type 0} (system : System S) (w : World) where
  behind : (e : WorldEvent) (h : ℕ) (bytes : Bytes) (pos : ℕ) (b : Batch) → Brings system w e h bytes → Executes (self_of system h) (w.histories h) bytes pos b → ExecutesBehind system w e h pos b
  behind e h bytes pos b r x = subst (λ (d : History). HasExecuted d pos b) (sym ((events_step system w).steps e h _ r.arrives r.correct).history) x

  pub executes_at_once : ((h : ℕ) → LeavesNothing (self_of system h) (w.histories h)) → ExecutesAtOnce system w
  executes_at_once done = record {
    by_commit = λ e h bytes m k b c r x. behind e h bytes m.pos b r ((done h).executes_with_commit bytes m k b c x);
    by_prepare = λ e h bytes m b r x. behind e h bytes m.pos b r ((done h).executes_with_prepare bytes m b x);
    by_both = λ e h bytes m b r x. behind e h bytes m.pos b r ((done h).executes_with_both bytes m b x);
    by_open = λ e h bytes m plan pos k b c r x. behind e h bytes pos b r ((done h).executes_with_open bytes m plan pos k b c x);
  }
