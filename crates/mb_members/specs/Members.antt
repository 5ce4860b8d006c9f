-- What the code's list of hosts is: a correct one represents a history of its own, a faulty one has what it stamped.
use Rattle.std.specs.Prelude.{◌≡◌, ℕ, ◌<◌, ◌≤◌, Bool, true, false, List, length, map, reverse, Option, Some, None, Result, IfOk, slice_get}
use Rattle.mb_base.specs.Shapes.{host_count}
use Rattle.mb_base.specs.declared.shape.Shape.{Shape}
use Rattle.mb_service.specs.Machine.{ServiceMachine}
use Rattle.mb_msg.specs.declared.event.Event.{Event}
use Rattle.mb_model.specs.Histories.{History}
use Rattle.mb_model.specs.Given.{Answer}
use Rattle.mb_steps.specs.Arises.{IsWhole}
use Rattle.mb_model.specs.HostStep.{transition}
use Rattle.mb_schedule.specs.declared.schedule.Schedule.{Schedule}
use Rattle.mb_schedule.specs.Limits.{is_faulty}
use Rattle.mb_core.specs.declared.replica.Replica.{Replica}
use Rattle.mb_replica.specs.declared.told.StepRecord.{StepRecord}
use Rattle.mb_core.specs.Represents.{Represents, IsAtRest}
use Rattle.mb_replica.specs.Represents.{IsTold}
use Rattle.mb_world_model.specs.World.{System, FaultyStamp, self_of, update}
use Rattle.mb_members.specs.declared.members.FaultyHost.{FaultyHost}
use Rattle.mb_members.specs.declared.members.Member.{Member}
use Rattle.mb_members.specs.declared.members.Member.TheVariants as member
use Rattle.mb_members.specs.Hosts.{IsSystem}
use Rattle.mb_members.specs.Stamps.{FitsWhereStamped}

-- ---- invariants

module _ {V : Type 0} where
  -- whether it ran out of memory
  abbrev pub has_halted : Member V → Bool
  has_halted (member.Correct r) = r.halted
  has_halted (member.Faulty f) = false

  -- how often a faulty one stamped
  abbrev pub stamped_by : Member V → ℕ
  stamped_by (member.Correct r) = 0
  stamped_by (member.Faulty f) = f.usig.counter

  -- the size of the system that its trusted part is of; this one for a correct one, which tells it itself
  abbrev pub shape_of : Shape → Member V → Shape
  shape_of s (member.Correct r) = s
  shape_of s (member.Faulty f) = f.usig.shape

  abbrev pub AllRun : List (Member V) → Type 0
  AllRun members = (h : ℕ) (m : Member V) → slice_get members h ≡ Some m → has_halted m ≡ false

  abbrev pub StampedWithin : ℕ → List (Member V) → Type 0
  StampedWithin n members = (h : ℕ) (m : Member V) → slice_get members h ≡ Some m → stamped_by m ≤ n

  abbrev pub AreOf : Shape → List (Member V) → Type 0
  AreOf s members = (h : ℕ) (m : Member V) → slice_get members h ≡ Some m → shape_of s m ≡ s

-- ---- hosts

-- this faulty host, with what it stamped, newest first
pub record IsStamper (s : Schedule) (h : ℕ) (f : FaultyHost) (stamps : List FaultyStamp) : Type 0 where
  pub trusted : f.usig ≡ record { shape = s.shape; host = h; secret = s.secret; counter = length stamps }
  pub messages : reverse f.messages.items ≡ map (λ x. x.message) stamps

module _ {V : Type 0} (y : System V) where
  -- a correct host between two events, with its history
  pub record IsCorrectHost (h : ℕ) (r : Replica V) (d : History) : Type 0 where
    pub correct : is_faulty y.schedule h ≡ false
    pub represents : Represents (self_of y h) r d
    pub whole : IsWhole d

  -- this host, with its history, or with what it stamped, newest first
  abbrev pub IsMember : ℕ → Member V → History → List FaultyStamp → Type 0
  IsMember h (member.Correct r) d stamps = IsCorrectHost h r d
  IsMember h (member.Faulty f) d stamps = (is_faulty y.schedule h ≡ true) × IsStamper y.schedule h f stamps

  -- the replica of a correct host; a faulty one has none
  abbrev pub IsHost : ℕ → History → Option (Replica V) → Type 0
  IsHost h d None = is_faulty y.schedule h ≡ true
  IsHost h d (Some r) = IsCorrectHost h r d

  -- each host
  abbrev pub RepresentsMembers : List (Member V) → (ℕ → History) → (ℕ → List FaultyStamp) → Type 0
  RepresentsMembers members histories stamps = (h : ℕ) (m : Member V) → slice_get members h ≡ Some m → IsMember h m (histories h) (stamps h)

  -- ---- a step

  -- what a host makes of an event
  abbrev pub answer_at : ℕ → Event → (ℕ → History) → Answer
  answer_at h e d = transition (self_of y h) (d h) e

  -- A correct host with this history made the step of an event, and has the longer history. What it stamped can be read again.
  pub record Goes (h : ℕ) (d : History) (e : Event) (made : StepRecord) (r : Replica V) : Type 0 where
    pub step : IsTold made (transition (self_of y h) d e)
    pub fit : FitsWhereStamped y.schedule.shape (transition (self_of y h) d e).left.sent
    pub stands : IsCorrectHost h r (transition (self_of y h) d e).left.history

  -- the same of one of all hosts
  pub record MadeStep (h : ℕ) (a : Answer) (d : ℕ → History) (stamps : ℕ → List FaultyStamp) (made : StepRecord) (after : List (Member V)) : Type 0 where
    pub correct : is_faulty y.schedule h ≡ false
    pub step : IsTold made a
    pub fit : FitsWhereStamped y.schedule.shape a.left.sent
    pub members : RepresentsMembers after (update d h a.left.history) stamps

  -- A faulty host makes none.
  abbrev pub StepsAt : ℕ → Event → (ℕ → History) → (ℕ → List FaultyStamp) → Option StepRecord → List (Member V) → Type 0
  StepsAt h e d stamps None members = (is_faulty y.schedule h ≡ true) × RepresentsMembers members d stamps
  StepsAt h e d stamps (Some step) members = MadeStep h (answer_at h e d) d stamps step members

-- Each correct host is between two events.
abbrev pub AllRest : {V : Type 0} → ServiceMachine V → List (Member V) → Type 0
AllRest machine members = (h : ℕ) (r : Replica _) → slice_get members h ≡ Some (member.Correct r) → IsAtRest machine r

-- In each system one of the members makes the step of an event, whatever they stand for.
abbrev pub MakesStep : {V E : Type 0} → ServiceMachine V → ℕ → Event → List (Member V) → Result (Option StepRecord) E → List (Member V) → Type 0
MakesStep {V} m host event old result new = (y : System V) (d : ℕ → History) (stamps : ℕ → List FaultyStamp) → IsSystem m y → host < host_count y.schedule.shape
    → RepresentsMembers y old d stamps → IfOk result (λ o. StepsAt y host event d stamps o new)
