use Rattle.std.proofs.Common.{◌≡◌, ◌++◌, map}
use Rattle.mb_base.specs.Shapes.{host_count}
use Rattle.mb_model.specs.Plans.{by_host}
use Rattle.mb_model.specs.Held.{logs_of}
use Rattle.mb_plan.specs.Lent.{shown}
use Rattle.mb_plan.proofs.HostLogs.{hosts_from}
use Rattle.mb_plan.proofs.logs.by_host.Given as goal

abbrev pub invariant-loop-host : goal.invariant-loop-host
invariant-loop-host l = map shown l.logs.items ++ hosts_from (logs_of l.changes) (host_count l.shape) l.host ≡ by_host l.shape (logs_of l.changes)
