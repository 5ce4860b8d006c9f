-- The own log is cut: once f+1 whole CHECKPOINTs that a host keeps agree on the state and on a floor for it, its log begins there or further on, for ever.
use Rattle.std.specs.Prelude.{◌≡◌, ℕ, ◌+◌, ◌≤◌, ◌<◌, ◌⊎◌, Bool, false, ◌&&◌, ◌∷◌, ◌++◌, Option, Some, None, option_and_then, slice_get}
use Rattle.mb_base.specs.Shapes.{Bytes, HasQuorum, interval, span}
use Rattle.mb_usig.specs.Tags.{same_bytes}
use Rattle.mb_parts.specs.declared.floor.Floor.{Floor}
use Rattle.mb_parts.specs.Certificates.{same_floor}
use Rattle.mb_msg.specs.declared.message.Body.{Body}
use Rattle.mb_msg.specs.declared.message.Body.TheVariants.{Whole, Bare as Short}
use Rattle.mb_msg.specs.declared.normal.Floors.{Floors}
use Rattle.mb_msg.specs.declared.normal.Checkpoint.{Checkpoint}
use Rattle.mb_model.specs.Histories.{Entry, History, Identity, counter_of}
use Rattle.mb_model.specs.Stable.{checkpoint_of, low_of}
use Rattle.mb_model.specs.OwnLog.{log_start}
use Rattle.mb_promise.specs.KeepsTables.{IsCheckpoint}

-- the floor for a host in the body of a CHECKPOINT, where it came whole and has one
abbrev pub floor_told : ℕ → Body Floors → Option Floor
floor_told h (Whole b) = option_and_then (λ f. f) (slice_get b.floors h)
floor_told h (Short digest) = None

-- a CHECKPOINT that came whole names this state, and tells this floor for a host
abbrev pub tells_floor : ℕ → Bytes → Floor → Option Checkpoint → Bool
tells_floor h state floor None = false
tells_floor h state floor (Some m) = same_bytes state m.state && same_floor (Some floor) (floor_told h m.body)

module _ {S : Type 0} (self : Identity S) where
  -- CHECKPOINTs are kept at the stable position, and one and two intervals above it.
  abbrev pub IsKeptAt : History → ℕ → Type 0
  IsKeptAt d pos = (pos ≡ low_of self d) ⊎ ((pos ≡ low_of self d + interval self.shape) ⊎ (pos ≡ low_of self d + span self.shape))

  -- The last CHECKPOINTs of f+1 hosts at a position agree on this state and on this floor for this host.
  abbrev pub AgreeOnFloor : History → ℕ → Bytes → Floor → Type 0
  AgreeOnFloor d pos state floor = HasQuorum self.shape (λ h. tells_floor self.host state floor (checkpoint_of d h pos))

  -- the floor for this host on which f+1 agree at the greatest position at which f+1 agree on any
  pub record IsLastAgreed (d : History) (floor : Floor) : Type 0 where
    pub pos : ℕ
    pub state : Bytes
    pub kept : IsKeptAt d pos
    pub agree : AgreeOnFloor d pos state floor
    pub last : (q : ℕ) (other : Bytes) (f : Floor) → IsKeptAt d q → pos < q → AgreeOnFloor d q other f → ⊥

  -- With this entry a CHECKPOINT comes, not below the stable position; this is then the floor, and the host's counter has reached it.
  pub record BringsFloor (e : Entry) (before : History) (floor : Floor) : Type 0 where
    pub message : Checkpoint
    pub comes : IsCheckpoint e message
    pub above : low_of self before ≤ message.pos
    pub agreed : IsLastAgreed (e ∷ before) floor
    pub reached : floor.counter ≤ counter_of (e ∷ before)

  -- From then on the own log begins at this floor or further on.
  abbrev pub CutsLog : History → Type 0
  CutsLog d = (later before : History) (e : Entry) (floor : Floor) → d ≡ later ++ e ∷ before → BringsFloor e before floor → floor.counter ≤ log_start self d
