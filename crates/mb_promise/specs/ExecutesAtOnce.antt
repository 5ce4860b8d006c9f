-- The vote that completes f+1 is executed by the very event that brings it.
use Rattle.std.specs.Prelude.{◌≡◌, ℕ, Some}
use Rattle.mb_base.specs.Shapes.{Bytes}
use Rattle.mb_parts.specs.declared.batch.Batch.{Batch}
use Rattle.mb_msg.specs.declared.event.Event.TheVariants as host
use Rattle.mb_msg.specs.declared.normal.Prepare.{Prepare}
use Rattle.mb_msg.specs.declared.normal.Commit.{Commit}
use Rattle.mb_msg.specs.declared.change.Open.{Open}
use Rattle.mb_msg.specs.declared.change.Plan.{Plan}
use Rattle.mb_model.specs.declared.known.KnownSlot.{KnownSlot}
use Rattle.mb_schedule.specs.declared.schedule.WorldEvent.{WorldEvent}
use Rattle.mb_world_model.specs.WorldEvents.{IsCorrect}
use Rattle.mb_world_model.specs.World.{World, System, self_of}
use Rattle.mb_world_model.specs.WorldSteps.{happens}
use Rattle.mb_promise.specs.NothingLeft.{HasExecuted, CommitCompletes, PrepareCompletes, BothComplete, OpenCompletes}
use Rattle.mb_world_model.specs.EventsStep.{arrival}

module _ {S : Type 0} (system : System S) (w : World) where
  -- The event brings a correct host these bytes.
  pub record Brings (e : WorldEvent) (h : ℕ) (bytes : Bytes) : Type 0 where
    pub arrives : arrival w e ≡ Some (h, host.Given bytes)
    pub correct : IsCorrect system.schedule h

  -- In the world behind the event the host has executed this batch at the position.
  abbrev pub ExecutesBehind : WorldEvent → ℕ → ℕ → Batch → Type 0
  ExecutesBehind e h pos b = HasExecuted ((happens system w e).histories h) pos b

  -- Where an event brings a correct host, in its open view and as a message of its own, the vote of another host that completes f+1 for the position behind
  -- the last executed one, this position is executed in the world behind the event: by a COMMIT, by the PREPARE, by a COMMIT that brings its PREPARE, and by
  -- an OPEN.
  pub record ExecutesAtOnce : Type 0 where
    pub by_commit : (e : WorldEvent) (h : ℕ) (bytes : Bytes) (m : Commit) (k : KnownSlot) (b c : Batch) → Brings e h bytes
        → CommitCompletes (self_of system h) (w.histories h) bytes m k b c → ExecutesBehind e h m.pos b
    pub by_prepare : (e : WorldEvent) (h : ℕ) (bytes : Bytes) (m : Prepare) (b : Batch) → Brings e h bytes
        → PrepareCompletes (self_of system h) (w.histories h) bytes m b → ExecutesBehind e h m.pos b
    pub by_both : (e : WorldEvent) (h : ℕ) (bytes : Bytes) (m : Commit) (b : Batch) → Brings e h bytes
        → BothComplete (self_of system h) (w.histories h) bytes m b → ExecutesBehind e h m.pos b
    pub by_open : (e : WorldEvent) (h : ℕ) (bytes : Bytes) (m : Open) (plan : Plan) (pos : ℕ) (k : KnownSlot) (b c : Batch) → Brings e h bytes
        → OpenCompletes (self_of system h) (w.histories h) bytes m plan pos k b c → ExecutesBehind e h pos b
