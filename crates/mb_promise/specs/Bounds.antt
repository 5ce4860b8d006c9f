-- Logs stay within their limits, and correct hosts are never blamed.
use Rattle.std.specs.Prelude.{◌≡◌, ℕ, ◌+◌, ◌≤◌, ◌<◌, true, not, length, Some, None, count_by, Contains}
use Rattle.mb_base.specs.Limits.{other_limit}
use Rattle.mb_base.specs.Shapes.{span}
use Rattle.mb_parts.specs.declared.floor.Floor.{Floor}
use Rattle.mb_parts.specs.declared.certificates.FloorCert.{FloorCert}
use Rattle.mb_parts.specs.Certificates.{certified_floor}
use Rattle.mb_parts.specs.Ordered.{initial_floor, is_ordered}
use Rattle.mb_msg.specs.declared.message.Body.TheVariants.{Whole}
use Rattle.mb_msg.specs.declared.change.ChangeBody.{ChangeBody}
use Rattle.mb_msg.specs.declared.change.ViewChange.{ViewChange}
use Rattle.mb_msg.specs.declared.stamped.Stamped.TheVariants as stamped
use Rattle.mb_model.specs.declared.known.Vote.{Vote}
use Rattle.mb_model.specs.Verified.{verifies}
use Rattle.mb_model.specs.Committed.{vote_in}
use Rattle.mb_model.specs.UsableLogs.{normal_limit, log_fault}
use Rattle.mb_model.specs.Histories.{Stamped, History, Identity, said, closed_at, counter_of}
use Rattle.mb_model.specs.Stable.{low_of, log_floor}
use Rattle.mb_model.specs.OwnLog.{own_log, log_start, is_normal}
use Rattle.mb_model.specs.Positions.{vote_of, vote_at}
use Rattle.mb_world_model.specs.WorldEvents.{IsCorrect}
use Rattle.mb_world_model.specs.World.{World, System, self_of}
use Rattle.mb_world_model.specs.WorldSteps.{world}
use Rattle.mb_world_model.specs.WorldRecord.{plans}
use Rattle.mb_promise.specs.Justification.{is_sound}

-- ---- one host

-- f+1 hosts certified that this host's list stood at this floor, behind which its log begins.
pub record IsFloor {S : Type 0} (self : Identity S) (d : History) (c : FloorCert) : Type 0 where
  pub floor : Floor
  pub certified : certified_floor self.shape (verifies self.secret) self.host c ≡ Some floor
  pub begins : log_start self d ≡ floor.counter

-- A host's log has at most six intervals of PREPAREs, COMMITs and CHECKPOINTs, and at most 768 other messages. It is all that the host
-- stamped since its floor. Votes are taken at most two intervals above the stable position, and count only above it.
pub record KeepsLimits {S : Type 0} (self : Identity S) (d : History) : Type 0 where
  pub normal : count_by is_normal (own_log self d) ≤ normal_limit self.shape
  pub others : count_by (λ m. not (is_normal m)) (own_log self d) ≤ other_limit
  pub since : log_start self d + length (own_log self d) ≡ counter_of d
  pub floor : (c : FloorCert) → log_floor self d ≡ Some c → IsFloor self d c
  pub taken : (g view pos : ℕ) (x : Vote) → vote_of self d g view pos ≡ Some x → pos ≤ low_of self d + span self.shape
  pub counted : (g pos : ℕ) (x : Vote) → vote_at self d g pos ≡ Some x → (low_of self d < pos) × (pos ≤ low_of self d + span self.shape)

-- After any events the log of each correct host keeps its limits, whoever is faulty and whatever is forged.
abbrev pub HostsKeepLimits : Type 0 → Type 0
HostsKeepLimits S = (system : System S) (k h : ℕ) → KeepsLimits (self_of system h) ((world system k).histories h)

-- ---- all hosts

module _ {S : Type 0} (system : System S) (w : World) where
  -- The log of a correct host keeps its limits, and the host itself votes at most two intervals above its stable position.
  pub record IsBounded (h : ℕ) : Type 0 where
    pub limits : KeepsLimits (self_of system h) (w.histories h)
    pub votes : (view pos : ℕ) (x : Vote) → vote_in (plans system.schedule w) (said (w.histories h)) view pos ≡ Some x
        → pos ≤ low_of (self_of system h) (w.histories h) + span system.schedule.shape

  -- So it is for all of them.
  abbrev pub AreBounded : Type 0
  AreBounded = (h : ℕ) → IsCorrect system.schedule h → IsBounded h

  -- ---- blame

  -- All that a correct host stamped stands in order, no correct host's gate for it is closed, and each VIEW_CHANGE of it is usable.
  pub record IsBlameless : Type 0 where
    pub ordered : (h : ℕ) → IsCorrect system.schedule h → is_ordered initial_floor system.schedule.shape h (is_sound system.schedule w) (said (w.histories h)) ≡ true
    pub free : (g h : ℕ) → IsCorrect system.schedule g → IsCorrect system.schedule h → closed_at (w.histories g) h ≡ None
    pub usable : (h : ℕ) (m : ViewChange) (b : ChangeBody) → IsCorrect system.schedule h → Contains (w.histories h) (Stamped (stamped.ViewChange m)) → m.body ≡ Whole b
        → log_fault system.schedule.shape system.schedule.secret (verifies system.schedule.secret) h m.view m.ui.counter b ≡ None
