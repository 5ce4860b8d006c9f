-- The lines of a report on hosts and clients.
use Rattle.std.specs.Prelude.{ℕ, List, [], ◌∷◌, length, Option, Some, None, if◌then◌else◌}
use Rattle.mb_msg.specs.declared.normal.Reply.{Reply}
use Rattle.mb_model.specs.Histories.{History, Identity, here}
use Rattle.mb_model.specs.Stable.{low_of}
use Rattle.mb_model.specs.OwnLog.{own_log, log_longest}
use Rattle.mb_model.specs.Positions.{exec_of}
use Rattle.mb_schedule.specs.declared.report.HostLine.{HostLine}
use Rattle.mb_schedule.specs.declared.report.HostState.{HostState}
use Rattle.mb_schedule.specs.declared.report.ClientLine.{ClientLine}
use Rattle.mb_schedule.specs.declared.report.LastResult.{LastResult}
use Rattle.mb_schedule.specs.Limits.{is_faulty}
use Rattle.mb_world_model.specs.World.{World, System, self_of}

-- where a host stands
abbrev pub state_line : {S : Type 0} → Identity S → History → HostState
state_line self d = record {
  view = (here self d).view;
  phase = (here self d).phase;
  exec = exec_of d;
  low = low_of self d;
  log = length (own_log self d);
  longest = log_longest self d;
}

-- the last of the results that a client accepted, which are newest first
abbrev pub last_result : List Reply → Option LastResult
last_result [] = None
last_result (r ∷ replies) = Some (record { seq = r.seq; pos = r.pos; result = r.result })

abbrev pub client_line : World → ℕ → ClientLine
client_line w c = record { client = c; asked = (w.askers c).number; accepted = length (w.askers c).accepted; last = last_result (w.askers c).accepted }

module _ {S : Type 0} (system : System S) (w : World) where
  -- Of a faulty host no more is told.
  abbrev pub host_line : ℕ → HostLine
  host_line h = record { host = h; state = if is_faulty system.schedule h then None else Some (state_line (self_of system h) (w.histories h)) }
