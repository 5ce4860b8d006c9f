-- The tables of a host that was just made.
use Rattle.std.specs.Prelude.{◌≡◌, ℕ, ◌+◌, ◌%◌, length, Some, None, slice_get}
use Rattle.mb_base.specs.Shapes.{host_count, client_count}
use Rattle.mb_parts.specs.Ordered.{initial_floor}
use Rattle.mb_gate.specs.declared.gate.Gate.{Gate}
use Rattle.mb_gate.specs.SenderLogs.{log_from}
use Rattle.mb_gate.specs.Represents.{Represents as GateRepresents}
use Rattle.mb_model.specs.Plans.{no_base}
use Rattle.mb_model.specs.Service.{start}
use Rattle.mb_model.specs.Histories.{Identity}
use Rattle.mb_log.specs.Logs.{empty_log}
use Rattle.mb_change.specs.Tables.{empty_table}
use Rattle.mb_fetch.specs.Snapshots.{Represents as ShelfRepresents}
use Rattle.mb_normal.specs.Searches.{nothing_above}
use Rattle.mb_normal.specs.Tables.{Represents as NormalRepresents}
use Rattle.mb_refinement.specs.Tables.{Tables}

pub record IsNew {S : Type 0} (self : Identity S) (t : Tables S) : Type 0 where
  pub counter : t.counter ≡ 0
  pub gates_count : length t.gates ≡ host_count self.shape
  pub gates : (h : ℕ) (gate : Gate) → slice_get t.gates h ≡ Some gate → GateRepresents gate (log_from self.shape h initial_floor)
  pub log : t.log ≡ empty_log self.shape self.host
  pub normal : NormalRepresents self.shape self.host t.normal (nothing_above 0)
  pub change : t.change ≡ empty_table self.shape self.host
  pub stable : t.stable ≡ no_base
  pub exec : t.exec ≡ 0
  pub service : t.service ≡ start self.machine self.initial (client_count self.shape)
  pub shelf : ShelfRepresents t.shelf (λ p. None)
  pub parts : t.parts ≡ None
  pub asked : t.asked ≡ (self.host + 1) % host_count self.shape
