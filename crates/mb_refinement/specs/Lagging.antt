-- Snapshots and fetched parts while they do not follow the stable position yet: this rises as messages are taken and made, and they follow behind all of
-- that.
use Rattle.std.specs.Prelude.{◌≡◌, ℕ, ◌<◌, ◌≤◌, ◌%◌, ◌&&◌, ◌==◌, nat_lt, nat_le, List, Option, Some, None, if◌then◌else◌}
use Rattle.mb_base.specs.Shapes.{Bytes, interval}
use Rattle.mb_model.specs.Histories.{History, Identity, counter_of}
use Rattle.mb_model.specs.Stable.{stable_of, low_of}
use Rattle.mb_model.specs.Positions.{exec_of}
use Rattle.mb_model.specs.Execution.{state_of, parts_after, part_of, asked_host}
use Rattle.mb_fetch.specs.Snapshots.{Snapshot, Represents as ShelfRepresents}
use Rattle.mb_fetch.specs.Fetched.{Fetched, part_at}
use Rattle.mb_history_laws.specs.Sound.{IsSound}
use Rattle.mb_refinement.specs.Tables.{Tables}
use Rattle.mb_refinement.specs.Stands.{GatesStand, LogStands, NormalStands, ChangeStands}

-- without those of a lower position
abbrev pub dropped_below : ℕ → Option Fetched → Option Fetched
dropped_below low None = None
dropped_below low (Some t) = if nat_lt t.pos low then None else Some t

module _ {S : Type 0} (self : Identity S) where
  -- the parts of executed multiples of the interval, from a position on
  abbrev pub snapshots_from : ℕ → History → ℕ → Option (List Bytes)
  snapshots_from low d p = if p % interval self.shape == 0 && nat_le low p then parts_after self d p else None

  -- The snapshots are those from an earlier stable position on.
  pub record ShelfLags (low : ℕ) (shelf : List Snapshot) (d : History) : Type 0 where
    pub earlier : low ≤ low_of self d
    pub represents : ShelfRepresents shelf (snapshots_from low d)

  -- They are those of a position; of its state digest while this is the stable position.
  pub record IsOf (low : ℕ) (t : Fetched) (d : History) : Type 0 where
    pub pos : t.pos ≡ low
    pub finds : (i : ℕ) → part_at t i ≡ part_of self d low i
    pub digest : low ≡ low_of self d → t.digest ≡ (stable_of self d).state

  abbrev pub AreOf : ℕ → Option Fetched → History → Type 0
  AreOf low None d = (i : ℕ) → part_of self d low i ≡ None
  AreOf low (Some t) d = IsOf low t d

  -- They are those of an earlier stable position, and none came of a position above it.
  pub record HeldLag (low : ℕ) (held : Option Fetched) (d : History) : Type 0 where
    pub earlier : low ≤ low_of self d
    pub none_above : (p i : ℕ) → low < p → part_of self d p i ≡ None
    pub are : AreOf low held d

  -- All other tables stand, and these two lag.
  pub record StandLags (low : ℕ) (t : Tables S) (d : History) : Type 0 where
    pub sound : IsSound self d
    pub counter : t.counter ≡ counter_of d
    pub gates : GatesStand self t.gates d
    pub log : LogStands self t.log d
    pub normal : NormalStands self t.normal d
    pub change : ChangeStands self t.change d
    pub stable : t.stable ≡ stable_of self d
    pub exec : t.exec ≡ exec_of d
    pub service : t.service ≡ state_of self d
    pub shelf : ShelfLags low t.shelf d
    pub parts : HeldLag low t.parts d
    pub asked : t.asked ≡ asked_host self d
