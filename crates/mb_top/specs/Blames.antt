-- Whom an audit can accuse, where the record says what a correct host was given in a world; and what it shows, whatever was forged.
use Rattle.std.specs.Prelude.{◌≡◌, ℕ, true, Option}
use Rattle.std.specs.Io.KnownBytes.{Appends}
use Rattle.mb_base.specs.Shapes.{Bytes}
use Rattle.mb_audit.specs.declared.auditing.Verdict.TheVariants.{Illegal}
use Rattle.mb_audit.specs.Verdicts.{AreDisordered}
use Rattle.mb_audited.specs.Blame.{given_to}
use Rattle.mb_schedule.specs.declared.schedule.Schedule.{Schedule}
use Rattle.mb_schedule.specs.Limits.{is_faulty}
use Rattle.mb_sched.specs.declared.records.Record.{Record}
use Rattle.mb_world_model.specs.Stops.{IsUnstopped}
use Rattle.mb_world_model.specs.World.{World}
use Rattle.mb_world_model.specs.WorldEvents.{IsCorrect}
use Rattle.mb_reviewing.specs.Audits.{verdict_text}
use Rattle.mb_reviewing.specs.Given.{given_in}
use Rattle.mb_top.specs.Systems.{system_of, world}

-- The record has the settings of the schedule, its host is correct, and was given just this in the world.
pub record IsRecordIn (s : Schedule) (w : World) (r : Record) : Type 0 where
  pub shape : r.config.shape ≡ s.shape
  pub secret : r.config.secret ≡ s.secret
  pub correct : IsCorrect s r.id
  pub given : given_in r.entries ≡ given_to (system_of s) w r.id

-- Whatever schedule it is, however many hosts are faulty, while nothing is forged or refused by the world: at status 12 the host is faulty, and status 3 never
-- comes.
abbrev pub ConvictsRightly : ℕ → ℕ → Record → Type 0
ConvictsRightly host status r = (s : Schedule) (k : ℕ) → IsUnstopped (system_of s) k → IsRecordIn s (world s k) r → (status ≡ 12 → is_faulty s host ≡ true) × ¬ (status ≡ 3)

-- What was written tells a counter up to which all that the host stamped, as the record's host was given it, is no list in order.
pub record TellsDisorder (host : ℕ) (r : Record) (old new : Option Bytes) : Type 0 where
  pub counter : ℕ
  pub rule : ℕ
  pub wrote : Appends old new (verdict_text host (Illegal counter rule))
  pub disorder : AreDisordered r.config.shape r.config.secret (given_in r.entries) host counter
