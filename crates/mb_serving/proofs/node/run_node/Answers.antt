use Rattle.std.proofs.Common.{[], Err, sym, ap, ◌∙◌, inr}
use Rattle.std.proofs.lemmas.Result.{err_from_is_err_and}
use Rattle.mb_edge.proofs.FaultLemmas.{tells_both, tells_as}
use Rattle.mb_serving.specs.Records.{host_of}
use Rattle.mb_serving.proofs.NodeLaws.{fails_to_begin, heard_behind, node_serves_from, starved_node, kv_serves}
use Rattle.mb_serving.proofs.node.run_node.Goals as goal

pub returns-in_err-replica-clause-serves : goal.returns-in_err-replica-clause-serves
returns-in_err-replica-clause-serves g c =
    let p = err_from_is_err_and c.from_residual.result c.from_residual.ensures.1 in
    starved_node c.args.config.now c.args.host c.args.events c.from_residual.result p.0 p.1 p.2 _ _

pub returns-in_err-begin-clause-serves : goal.returns-in_err-begin-clause-serves
returns-in_err-begin-clause-serves g c =
    let p = err_from_is_err_and c.from_residual-in_err-begin.result c.from_residual-in_err-begin.ensures.1 in
    fails_to_begin c.args.config.now c.args.host c.begin.result c.in_err-begin.field-0.0 c.in_err-begin.was c.from_residual-in_err-begin.result (p.1 ∙ ap Err p.2) c.args.events _ _ _ _ c.begin.ensures.begins

pub returns-clause-serves : goal.returns-clause-serves
returns-clause-serves g c =
    let me = host_of c.args.config.now c.args.host in
    let made = c.in_ok-replica.ensures in
    let serves = kv_serves c.args.config.now c.args.host in
    let begun = c.in_ok-begin.ensures.begins in
    let is = c.serve.ensures.serves in
    node_serves_from c.args.config.now c.args.host c.args.events _ _ _ _ _ begun.2 is.receives (heard_behind c.args.config.now c.args.host _ _ _ is.receives begun.0 c.serve.ensures.opens is.told is.of_bytes) _ begun.1 _ c.serve.result
    (is.ends me [] serves (made.stands me serves (sym c.new.ensures) (record { shape = sym made.host.0; host = sym made.host.1; secret = sym made.host.2 })) tt)
    (λ told. (tells_both _ _ _ c.in_ok-begin.ensures.link c.serve.ensures.link (λ t. inr t)).rose told) (λ told. (tells_both _ _ _ c.in_ok-begin.ensures.sink c.serve.ensures.sink (λ t. inr t)).rose told) c.serve.ensures.alone

pub returns-in_err-begin-clause-sink : goal.returns-in_err-begin-clause-sink
returns-in_err-begin-clause-sink g c =
    let p = err_from_is_err_and c.from_residual-in_err-begin.result c.from_residual-in_err-begin.ensures.1 in
    tells_as _ _ c.begin.ensures.sink (λ told. cc (p.1, p.2, c.in_err-begin.was, told))

pub returns-in_err-begin-clause-link : goal.returns-in_err-begin-clause-link
returns-in_err-begin-clause-link g c =
    let p = err_from_is_err_and c.from_residual-in_err-begin.result c.from_residual-in_err-begin.ensures.1 in
    tells_as _ _ c.begin.ensures.link (λ told. cc (p.1, p.2, c.in_err-begin.was, told))

pub returns-clause-sink : goal.returns-clause-sink
returns-clause-sink g c = tells_both _ _ _ c.in_ok-begin.ensures.sink c.serve.ensures.sink (λ told. inr told)

pub returns-clause-link : goal.returns-clause-link
returns-clause-link g c = tells_both _ _ _ c.in_ok-begin.ensures.link c.serve.ensures.link (λ told. inr told)

pub returns-in_err-replica-clause-alone : goal.returns-in_err-replica-clause-alone
returns-in_err-replica-clause-alone g c =
    let p = err_from_is_err_and c.from_residual.result c.from_residual.ensures.1 in
    rw (p.1, p.2) (λ of. of)

pub returns-in_err-begin-clause-alone : goal.returns-in_err-begin-clause-alone
returns-in_err-begin-clause-alone g c =
    let p = err_from_is_err_and c.from_residual-in_err-begin.result c.from_residual-in_err-begin.ensures.1 in
    rw (p.1, p.2) (c.in_err-begin.ensures.alone)
