use Rattle.std.proofs.Common.{refl, sym, inr, arith}
use Rattle.std.proofs.lemmas.Option.{IfSome_then}
use Rattle.mb_edge.proofs.FaultLemmas.{tells_both, tells_none, tells_as}
use Rattle.mb_answer.specs.Configs.{used, unused}
use Rattle.mb_answer.proofs.Statuses.{low_no_end, low_no_link, low_no_spawner}
use Rattle.mb_serving.proofs.NodeLaws.{served_from, serving_known, no_config_known, node_is_not, is_node_not}
use Rattle.mb_serving.proofs.node.node.Goals as goal

pub returns-in-Ok-clause-told : goal.returns-in-Ok-clause-told
returns-in-Ok-clause-told g c =
    IfSome_then (g.S.Source.seen c.args.source.now).bytes c.in-Ok.ensures.told
    (λ text found. used c.in-Ok.config found.0 (served_from c.in-Ok.config c.args.host c.args.events c.serve_as.result _ _ _ _ _ (sym found.1) c.serve_as.ensures.serves))

pub returns-in-Ok-clause-known : goal.returns-in-Ok-clause-known
returns-in-Ok-clause-known g c = is_node_not c.serve_as.result c.serve_as.ensures.known

pub returns-in-Ok-clause-source : goal.returns-in-Ok-clause-source
returns-in-Ok-clause-source g c =
    tells_as _ _ c.in-Ok.ensures.source (λ five. absurd (node_is_not c.serve_as.result 5 c.serve_as.ensures.known (omega arith) (λ e. absurd (omega (arith, e))) (λ e. absurd (omega (arith, e))) (λ e. absurd (omega (arith, e))) five))

pub returns-in-Ok-clause-sink : goal.returns-in-Ok-clause-sink
returns-in-Ok-clause-sink g c = tells_both _ _ _ c.in-Ok.ensures.sink c.serve_as.ensures.sink (λ six. inr six)

pub returns-in-Err-clause-told : goal.returns-in-Err-clause-told
returns-in-Err-clause-told g c = IfSome_then (g.S.Source.seen c.args.source.now).bytes c.in-Err.ensures.told (λ text lacks. unused lacks refl)

pub returns-in-Err-clause-ended : goal.returns-in-Err-clause-ended
returns-in-Err-clause-ended g c = λ zero. absurd (c.in-Err.ensures.low.1 zero)

pub returns-in-Err-clause-known : goal.returns-in-Err-clause-known
returns-in-Err-clause-known g c =
    (low_no_spawner c.in-Err.status c.in-Err.ensures.low.0, low_no_end c.in-Err.status c.in-Err.ensures.low.0)

pub returns-in-Err-clause-link : goal.returns-in-Err-clause-link
returns-in-Err-clause-link g c = tells_none _ (low_no_link c.in-Err.status c.in-Err.ensures.low.0)

pub returns-in-Ok-clause-statuses : goal.returns-in-Ok-clause-statuses
returns-in-Ok-clause-statuses g c = serving_known c.serve_as.result c.serve_as.ensures.statuses

pub returns-in-Err-clause-statuses : goal.returns-in-Err-clause-statuses
returns-in-Err-clause-statuses g c = no_config_known c.in-Err.status c.in-Err.ensures.statuses
