-- The report of a world.
use Rattle.std.specs.Prelude.{length, map}
use Rattle.std.specs.List.{range_with_len}
use Rattle.mb_base.specs.Shapes.{host_count, client_count}
use Rattle.mb_schedule.specs.declared.report.Report.{Report}
use Rattle.mb_world_model.specs.Refusals.{refusals}
use Rattle.mb_world_model.specs.World.{World, System}
use Rattle.mb_members.specs.Lines.{host_line, client_line}

module _ {S : Type 0} (system : System S) (w : World) where
  unfoldable pub report_of : Report
  report_of = record {
    events = length w.seen;
    messages = length w.pool;
    line = w.line;
    refused = refusals w.seen;
    hosts = map (host_line system w) (range_with_len 0 (host_count system.schedule.shape));
    clients = map (client_line w) (range_with_len 0 (client_count system.schedule.shape));
  }
