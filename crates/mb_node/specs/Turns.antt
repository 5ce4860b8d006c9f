-- One event of a node.
use Rattle.std.specs.Prelude.{◌≡◌, ℕ, ◌&&◌, not, ◌+◌, ◌%◌, ◌^◌, length, Result, Ok, Err}
use Rattle.mb_base.specs.Shapes.{host_count}
use Rattle.mb_service.specs.Machine.{ServiceMachine}
use Rattle.mb_msg.specs.declared.event.Event.{Event}
use Rattle.mb_msg.specs.declared.event.Step.{Step}
use Rattle.mb_model.specs.Histories.{History, Identity, here, view_of}
use Rattle.mb_model.specs.HostStep.{transition}
use Rattle.mb_steps.specs.Arises.{IsWhole}
use Rattle.mb_core.specs.declared.replica.Replica.{Replica}
use Rattle.mb_core.specs.Represents.{Represents}
use Rattle.mb_replica.specs.Represents.{Serves, IsStep}
use Rattle.mb_replica.specs.Waiting.{wants}
use Rattle.mb_node.specs.declared.outbox.Outbox.{Outbox}
use Rattle.mb_node.specs.declared.patience.Shown.{Shown}
use Rattle.mb_node.specs.declared.patience.Standing.{Standing}
use Rattle.mb_node.specs.declared.stops.ServeStop.{ServeStop}
use Rattle.mb_node.specs.declared.stops.ServeStop.TheVariants as stop
use Rattle.mb_node.specs.declared.turn.Turn.{Turn}
use Rattle.mb_node.specs.Events.{is_patience, is_again, quiets_in, next, stops, answers_again, begins_to_wait}
use Rattle.mb_node.specs.Patience.{course_of}
use Rattle.mb_node.specs.Recording.{sent_at}
use Rattle.mb_node.specs.Outside.{Outside}
use Rattle.mb_node.specs.Serving.{IsDone, IsCutOff}

-- what an event shows by its step, where the host stood before it, and where it stands behind it
abbrev pub shown_of : Event → Step → Standing → Standing → Shown
shown_of e s before after = record {
  quiets = quiets_in e;
  lost = is_patience e;
  again = is_again s.outcome;
  begins = not before.waits && after.waits;
  course = course_of s.executed s.adopted before.at after.at;
  view = after.at.view;
  waits = after.waits;
}

module _ {V : Type 0} (me : Identity V) (d : History) where
  -- the step of an event, and where the host stands then
  pub record Steps (e : Event) (s : Step) (r : Replica V) : Type 0 where
    pub step : IsStep s (transition me d e)
    pub represents : Represents me r (transition me d e).left.history
    pub whole : IsWhole (transition me d e).left.history

  -- what an event shows
  abbrev pub shown_by : Event → Shown
  shown_by e = record {
    quiets = quiets_in e;
    lost = is_patience e;
    again = answers_again me d e;
    begins = begins_to_wait me d e;
    course = course_of (transition me d e).left.executed (transition me d e).left.installed (here me d) (here me (next me d e));
    view = view_of me (next me d e);
    waits = wants me (next me d e);
  }

  -- a whole event
  pub record HasTurned (number : ℕ) (e : Event) (before now : Outside) (r : Replica V) (outbox : Outbox) (t : Turn) : Type 0 where
    pub done : IsDone me before now number d e
    pub represents : Represents me r (transition me d e).left.history
    pub whole : IsWhole (transition me d e).left.history
    pub numbers : outbox.number ≡ (number + length (sent_at me d e)) % 2 ^ 32
    pub stopping : t.stops ≡ stops me d e
    pub showing : t.shown ≡ shown_by e

  abbrev pub Turned : ℕ → Event → Outside → Outside → Replica V → Outbox → Result Turn ServeStop → Type 0
  Turned number e before now r outbox (Ok t) = HasTurned number e before now r outbox t
  Turned number e before now r outbox (Err (stop.Budget n)) = ⊥
  Turned number e before now r outbox (Err s) = IsCutOff me before now r.halted number d e

-- So it is whatever history a whole host of this service stands for, and whatever number comes next.
abbrev pub TakesTurn : {V : Type 0} → ServiceMachine V → Event → Replica V → Outbox → Outside → Outside → Replica V → Outbox → Result Turn ServeStop → Type 0
TakesTurn {V} machine event r outbox before now r' outbox' result = (me : Identity V) (d : History) (n : ℕ) → Serves machine me → Represents me r d → IsWhole d
    → outbox.hosts ≡ host_count me.shape → outbox.host ≡ me.host → outbox.number ≡ n % 2 ^ 32 → Turned me d n event before now r' outbox' result
