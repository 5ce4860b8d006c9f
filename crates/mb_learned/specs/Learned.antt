-- What is learnt of byte strings that a correct host was given is the history.
use Rattle.std.specs.Prelude.{◌≡◌, ℕ, ◌+◌, ◌≤◌, ◌⊎◌, List, [], ◌∷◌, ◌++◌, length, map, slice_get, Some, Contains}
use Rattle.std.specs.List.{flat_map}
use Rattle.mb_base.specs.Shapes.{Bytes}
use Rattle.mb_base.specs.declared.shape.Shape.{Shape}
use Rattle.mb_parts.specs.declared.batch.Batch.{Batch}
use Rattle.mb_parts.specs.declared.certificates.Evidence.{Evidence}
use Rattle.mb_parts.specs.Bares.{batch_digest}
use Rattle.mb_msg.specs.declared.change.OpenBody.{OpenBody}
use Rattle.mb_msg.specs.declared.event.Slot.{Slot}
use Rattle.mb_msg.specs.declared.stamped.Shown.{Shown}
use Rattle.mb_msg.specs.declared.stamped.Shown.TheVariants as shown
use Rattle.mb_msg.specs.Bodies.{inside_whole}
use Rattle.mb_msg.specs.Plans.{plan_string}
use Rattle.mb_model.specs.Committed.{IsCommitted}
use Rattle.mb_model.specs.Service.{batch_of}
use Rattle.mb_schedule.specs.declared.schedule.Schedule.{Schedule}
use Rattle.mb_schedule.specs.Limits.{IsSchedule}
use Rattle.mb_world_model.specs.Hashed.{HashesApart}
use Rattle.mb_promise.specs.Headline.{IsService}
use Rattle.mb_world_model.specs.Stops.{IsUnstopped}
use Rattle.mb_world_model.specs.World.{World, System}
use Rattle.mb_world_model.specs.WorldEvents.{IsCorrect}
use Rattle.mb_world_model.specs.WorldRecord.{plans, prefix}
use Rattle.mb_world_model.specs.WorldSteps.{world}
use Rattle.mb_audited.specs.Blame.{given_to}
use Rattle.mb_learn.specs.Proved.{IsLearnt, DiffersAt}
use Rattle.mb_learn.specs.Shown.{shown_among}

-- ---- plans

-- the string of the plan that the body of an OPEN with this evidence shows
abbrev pub string_of : Evidence → OpenBody → Bytes
string_of e b = plan_string e.base b.stable.state (map batch_digest b.batches)

-- of a whole OPEN
abbrev pub plan_strings : Shown → List Bytes
plan_strings (shown.Open m) = inside_whole (λ b. string_of m.evidence b ∷ []) m.body
plan_strings _ = []

-- of all whole OPENs in byte strings
abbrev pub plans_shown : Shape → List Bytes → List Bytes
plans_shown s given = flat_map plan_strings (shown_among s given)

-- ---- what is committed

-- In some view of the world this batch is committed at a position, by what the hosts stamped and the plans that are known there.
pub record IsCommittedAt (s : Schedule) (w : World) (position : ℕ) (b : Batch) : Type 0 where
  pub view : ℕ
  pub counter : ℕ
  pub committed : IsCommitted (plans s w) s.shape (prefix s w) view position (record { counter = counter; request = batch_digest b })

-- ---- lists

-- One list begins with the other.
pub record BeginsWith {A : Type 0} (whole part : List A) : Type 0 where
  pub rest : List A
  pub is : part ++ rest ≡ whole

module _ {S : Type 0} (system : System S) (w : World) (id : ℕ) where
  -- all strings of the premise: those that were hashed, and those of the plans that are shown to the host
  abbrev pub strings : List Bytes
  strings = w.hashed ++ plans_shown system.schedule.shape (given_to system w id)

  -- The host was given each of these.
  abbrev pub WereGiven : List Bytes → Type 0
  WereGiven taken = (bytes : Bytes) → Contains taken bytes → Contains (given_to system w id) bytes

  -- This is learnt from them, from the service with which the hosts started.
  abbrev pub Learns : List Bytes → List Slot → Type 0
  Learns = IsLearnt system.schedule.shape system.machine system.initial system.schedule.secret

  -- Each learnt batch is committed. Of the learnt slots and the line one begins with the other. Nothing that hosts say of their states differs.
  pub record LearnsRightly : Type 0 where
    pub committed : (taken : List Bytes) (slots : List Slot) → WereGiven taken → Learns taken slots → (q : ℕ) (slot : Slot) → slice_get slots q ≡ Some slot → IsCommittedAt system.schedule w (q + 1) (batch_of slot)
    pub one_history : (taken : List Bytes) (slots : List Slot) → WereGiven taken → Learns taken slots → BeginsWith w.line slots ⊎ BeginsWith slots w.line
    pub same_states : (taken : List Bytes) (slots : List Slot) (position : ℕ) (certified : Bytes) → WereGiven taken → Learns taken slots
        → DiffersAt system.schedule.shape system.machine system.initial system.snapshots system.schedule.secret taken slots position certified → ⊥

-- For every service that can be replicated and every schedule with at most f faulty hosts: after each event, while nothing was forged or refused by the
-- world and no two of the strings share a digest.
abbrev pub LearnersAgree : Type 0 → Type 0
LearnersAgree S = (system : System S) → IsService system.machine system.snapshots system.initial → IsSchedule system.schedule
    → (k : ℕ) → k ≤ length system.schedule.events → IsUnstopped system k → (id : ℕ) → IsCorrect system.schedule id → HashesApart (strings system (world system k) id)
    → LearnsRightly system (world system k) id
