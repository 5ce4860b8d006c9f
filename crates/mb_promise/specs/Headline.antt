-- All that is promised of each world, under which premises, as one statement.
use Rattle.std.specs.Prelude.{◌≡◌, ℕ, ◌≤◌, List, [], ◌∷◌, length, map, Ok}
use Rattle.std.specs.List.{AllByRecursion, range_with_len}
use Rattle.mb_base.specs.Limits.{service_parts}
use Rattle.mb_base.specs.Shapes.{Bytes}
use Rattle.mb_parts.specs.Fits.{FitsText}
use Rattle.mb_model.specs.Service.{Machine}
use Rattle.mb_model.specs.States.{Snapshots}
use Rattle.mb_world_model.specs.Hashed.{HashesApart}
use Rattle.mb_schedule.specs.Limits.{IsSchedule}
use Rattle.mb_world_model.specs.WorldEvents.{IsCorrect}
use Rattle.mb_world_model.specs.World.{World, System, self_of}
use Rattle.mb_world_model.specs.WorldSteps.{world}
use Rattle.mb_world_model.specs.WorldRecord.{ViewsAgree}
use Rattle.mb_world_model.specs.Stops.{IsUnstopped}
use Rattle.mb_promise.specs.Justification.{IsJustified}
use Rattle.mb_promise.specs.AllDue.{LeavesNothing}
use Rattle.mb_promise.specs.Safety.{IsSafe, AreServedResults}
use Rattle.mb_promise.specs.Bounds.{AreBounded, IsBlameless}
use Rattle.mb_world_model.specs.EventsStep.{EventsStep}
use Rattle.mb_promise.specs.ExecutesAtOnce.{ExecutesAtOnce}
use Rattle.mb_promise.specs.NoEventBlames.{NoEventBlames}

-- ---- the service

-- the state after these operations, the first of them first
unfoldable pub state_after : {S : Type 0} → Machine S → S → List Bytes → S
state_after m x [] = x
state_after m x (op ∷ ops) = state_after m (m.after x op) ops

-- A service can be replicated: wherever operations lead from its initial state, results fit into replies, and the parts of a state give
-- that state back.
pub record IsService {S : Type 0} (machine : Machine S) (snapshots : Snapshots S) (initial : S) : Type 0 where
  pub short : (ops : List Bytes) (op : Bytes) → AllByRecursion FitsText ops → FitsText op → FitsText (machine.result (state_after machine initial ops) op)
  pub whole : (ops : List Bytes) → AllByRecursion FitsText ops
      → snapshots.restored (map (snapshots.part (state_after machine initial ops)) (range_with_len 0 service_parts)) ≡ Ok (state_after machine initial ops)

-- ---- all promises

module _ {S : Type 0} (system : System S) where
  -- Views agree; correct hosts execute beginnings of one list; accepted results are the service's; each execution is justified by what the
  -- host was given; nothing due is left undone; logs keep their limits; the correct are never blamed, and no correct host's message was
  -- answered with blame by the event before; each event that may be next is a step of the correct host to which it comes; and the event that
  -- brings it the vote that completes f+1 has the position executed.
  pub record Promises (w : World) : Type 0 where
    pub agrees : ViewsAgree system.schedule w
    pub safe : IsSafe system w
    pub results : AreServedResults system w
    pub justified : IsJustified system.schedule w
    pub done : (h : ℕ) → IsCorrect system.schedule h → LeavesNothing (self_of system h) (w.histories h)
    pub bounded : AreBounded system w
    pub blameless : IsBlameless system w
    pub unblamed : NoEventBlames system w
    pub steps : EventsStep system w
    pub executes_at_once : ExecutesAtOnce system w

  -- after each event that nothing stopped, while no two of the strings hashed so far share a digest
  abbrev pub HoldsAtEachEvent : Type 0
  HoldsAtEachEvent = (k : ℕ) → k ≤ length system.schedule.events → IsUnstopped system k → HashesApart (world system k).hashed → Promises (world system k)

-- For every service and every schedule with at most f faulty hosts and nothing forged, whatever is lost, repeated and reordered.
abbrev pub HostsStayOne : Type 0 → Type 0
HostsStayOne S = (system : System S) → IsService system.machine system.snapshots system.initial → IsSchedule system.schedule → HoldsAtEachEvent system
