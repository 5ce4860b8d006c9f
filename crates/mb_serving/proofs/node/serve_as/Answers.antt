use Rattle.std.proofs.Common.{◌<◌, refl, sym, subst, arith}
use Rattle.std.specs.Prelude.{Contains}
use Rattle.mb_base.specs.Shapes.{host_count}
use Rattle.mb_serving.specs.Nodes.{serves, IsNodeStatus, serving_statuses}
use Rattle.mb_answer.proofs.Statuses.{said_is}
use Rattle.mb_serving.proofs.NodeLaws.{serves_as, served_known, served_known_as}
use Rattle.mb_serving.proofs.node.serve_as.Goals as goal

pub returns-clause-serves : goal.returns-clause-serves
returns-clause-serves g c =
    let below : c.args.host < host_count c.args.config.now.shape = omega (arith, c.if-host-from.false, c.from.ensures, c.n.ensures) in
    serves below (serves_as c.args.config.now _ c.args.host c.args.events _ _ _ _ _ _ (omega arith) c.served_status.ensures c.run_node.ensures.serves)

pub returns-then-host-from-clause-statuses : goal.returns-then-host-from-clause-statuses
returns-then-host-from-clause-statuses g c = said_is (Contains serving_statuses) (2, omega arith, refl) (3, omega arith, refl) _ _ _ _ _ (1, omega arith, refl) c.say.ensures.says

pub returns-clause-statuses : goal.returns-clause-statuses
returns-clause-statuses g c = served_known_as c.run_node.result _ c.served_status.ensures c.run_node.ensures.alone

pub returns-clause-known : goal.returns-clause-known
returns-clause-known g c = subst IsNodeStatus (sym c.served_status.ensures) (served_known c.run_node.result c.run_node.ensures.alone)
