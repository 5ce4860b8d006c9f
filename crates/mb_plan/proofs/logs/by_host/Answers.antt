use Rattle.std.proofs.Common.{◌∙◌, ◌+◌, ◌++◌, map, sym, ap, append-nil, arith}
use Rattle.std.specs.List.{cons_option}
use Rattle.mb_base.specs.Shapes.{host_count}
use Rattle.mb_model.specs.Held.{logs_of}
use Rattle.mb_plan.specs.Lent.{shown}
use Rattle.mb_plan.proofs.HostLogs.{hosts_from, hosts_next, hosts_none}
use Rattle.mb_plan.proofs.logs.by_host.Goals as goal

pub loop-host-preserved : goal.loop-host-preserved
loop-host-preserved c =
    let logs = logs_of c.args.changes.now in
    let n = host_count c.args.shape.now in
    c.in_ok-push_found.ensures _
    ∙ ap (λ x. map shown c.loop-host.logs.items ++ cons_option x (hosts_from logs n (c.loop-host.host + 1))) c.log_of.ensures
    ∙ sym (ap (λ t. map shown c.loop-host.logs.items ++ t) (hosts_next logs n c.loop-host.host (omega (arith, c.loop-host-test.true, c.n-host-end.ensures))))
    ∙ c.loop-host.invariant

pub returns : goal.returns
returns c =
    sym (append-nil (map shown c.loop-host.logs.items))
    ∙ sym (ap (λ t. map shown c.loop-host.logs.items ++ t) (hosts_none (logs_of c.args.changes.now) (host_count c.args.shape.now) c.loop-host.host (omega (arith, c.loop-host-test.false, c.n-host-end.ensures))))
    ∙ c.loop-host.invariant
