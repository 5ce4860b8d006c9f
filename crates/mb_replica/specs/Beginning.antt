-- What a host agrees on that nothing has happened to.
use Rattle.std.specs.Prelude.{◌≡◌, ℕ, ◌+◌, ◌%◌, List, length, Some, slice_get}
use Rattle.mb_base.specs.declared.shape.Shape.{Shape}
use Rattle.mb_base.specs.Shapes.{Bytes, host_count}
use Rattle.mb_parts.specs.Ordered.{initial_floor}
use Rattle.mb_gate.specs.declared.gate.Gate.{Gate}
use Rattle.mb_gate.specs.SenderLogs.{log_from}
use Rattle.mb_gate.specs.Represents.{Represents as GateRepresents}
use Rattle.mb_model.specs.Plans.{no_base}
use Rattle.mb_log.specs.Logs.{empty_log}
use Rattle.mb_change.specs.Tables.{empty_table}
use Rattle.mb_normal.specs.Searches.{nothing_above}
use Rattle.mb_normal.specs.Tables.{Represents as NormalRepresents}
use Rattle.mb_replica.specs.declared.protocol.Protocol.{Protocol}

-- one for each of so many hosts, in their order
pub record AreNewGates (s : Shape) (gates : List Gate) (hosts : ℕ) : Type 0 where
  pub count : length gates ≡ hosts
  pub each : (h : ℕ) (gate : Gate) → slice_get gates h ≡ Some gate → GateRepresents gate (log_from s h initial_floor)

pub record IsNew (s : Shape) (host : ℕ) (secret : Bytes) (a : Protocol) : Type 0 where
  pub shape : a.shape ≡ s
  pub host_is : a.host ≡ host
  pub usig : a.usig ≡ record { shape = s; host = host; secret = secret; counter = 0 }
  pub gates : AreNewGates s a.gates.items (host_count s)
  pub log : a.log ≡ empty_log s host
  pub normal : NormalRepresents s host a.normal (nothing_above 0)
  pub change : a.change ≡ empty_table s host
  pub stable : a.stable ≡ no_base
  pub exec : a.exec ≡ 0
  pub asked : a.asked ≡ (host + 1) % host_count s
