-- Each table stands for its searches in a host's history.
use Rattle.std.specs.Prelude.{◌≡◌, ℕ, List, Option, Some, None, slice_get, length}
use Rattle.mb_base.specs.Shapes.{host_count}
use Rattle.mb_model.specs.Histories.{History, Identity, stamped, counter_of}
use Rattle.mb_model.specs.Stable.{stable_of, low_of, log_floor}
use Rattle.mb_model.specs.OwnLog.{log_longest}
use Rattle.mb_model.specs.Positions.{exec_of}
use Rattle.mb_model.specs.Execution.{state_of, snapshot_of, part_held, asked_host}
use Rattle.mb_history_laws.specs.Gates.{log_of}
use Rattle.mb_history_laws.specs.Sound.{IsSound}
use Rattle.mb_gate.specs.declared.gate.Gate.{Gate}
use Rattle.mb_gate.specs.Represents.{Represents as GateRepresents}
use Rattle.mb_log.specs.Logs.{Log}
use Rattle.mb_log.specs.Represents.{Represents as LogRepresents}
use Rattle.mb_normal.specs.declared.normal.Normal.{Normal}
use Rattle.mb_normal.specs.Searches.{searches_in}
use Rattle.mb_normal.specs.Tables.{Represents as NormalRepresents}
use Rattle.mb_change.specs.Tables.{Table as ChangeTable}
use Rattle.mb_change.specs.Represents.{Represents as ChangeRepresents, searches_of}
use Rattle.mb_fetch.specs.Snapshots.{Snapshot, Represents as ShelfRepresents}
use Rattle.mb_fetch.specs.Fetched.{Fetched}
use Rattle.mb_fetch.specs.Parts.{Represents as PartsRepresent}
use Rattle.mb_refinement.specs.Tables.{Tables}

module _ {S : Type 0} (self : Identity S) where
  -- There is a gate for each host, and each stands for what came of its sender.
  pub record GatesStand (gates : List Gate) (d : History) : Type 0 where
    pub count : length gates ≡ host_count self.shape
    pub each : (h : ℕ) (gate : Gate) → slice_get gates h ≡ Some gate → GateRepresents gate (log_of self d h)

  pub record LogStands (log : Log) (d : History) : Type 0 where
    pub shape : log.shape ≡ self.shape
    pub host : log.host ≡ self.host
    pub represents : LogRepresents log (log_floor self d) (stamped d) (log_longest self d)

  abbrev pub NormalStands : Normal → History → Type 0
  NormalStands t d = NormalRepresents self.shape self.host t (searches_in self d)

  pub record ChangeStands (t : ChangeTable) (d : History) : Type 0 where
    pub shape : t.shape ≡ self.shape
    pub host : t.host ≡ self.host
    pub represents : ChangeRepresents t (searches_of self d)

  abbrev pub ShelfStands : List Snapshot → History → Type 0
  ShelfStands shelf d = ShelfRepresents shelf (snapshot_of self d)

  abbrev pub PartsStand : Fetched → History → Type 0
  PartsStand parts d = PartsRepresent parts (low_of self d) (stable_of self d).state (part_held self d)

  -- those that are held, where any are
  abbrev pub HeldStand : Option Fetched → History → Type 0
  HeldStand None d = (i : ℕ) → part_held self d i ≡ None
  HeldStand (Some t) d = PartsStand t d

  -- All tables stand for a history to which a host's steps lead.
  pub record Stand (t : Tables S) (d : History) : Type 0 where
    pub sound : IsSound self d
    pub counter : t.counter ≡ counter_of d
    pub gates : GatesStand t.gates d
    pub log : LogStands t.log d
    pub normal : NormalStands t.normal d
    pub change : ChangeStands t.change d
    pub stable : t.stable ≡ stable_of self d
    pub exec : t.exec ≡ exec_of d
    pub service : t.service ≡ state_of self d
    pub shelf : ShelfStands t.shelf d
    pub parts : HeldStand t.parts d
    pub asked : t.asked ≡ asked_host self d
