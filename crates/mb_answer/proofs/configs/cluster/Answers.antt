use Rattle.std.proofs.Common.{refl, inl, inr}
use Rattle.std.proofs.lemmas.Option.{IfSome_then}
use Rattle.mb_edge.proofs.FaultLemmas.{tells_both, tells_none, tells_as}
use Rattle.mb_cluster.specs.Nodes.{spawned}
use Rattle.mb_answer.specs.Configs.{used, unused}
use Rattle.mb_answer.proofs.ConfigLaws.{runs_cluster, cause_of, told_by, ends_told, no_ends, run_known, lack_known, told_by_text, awaited_by_text, none_started}
use Rattle.mb_answer.proofs.Statuses.{low_no_link, low_no_spawner}
use Rattle.mb_answer.proofs.configs.cluster.Goals as goal

pub run_cluster-ended-requires : goal.run_cluster-ended-requires
run_cluster-ended-requires g c = c.in-Ok.ensures.ops

pub returns-in-Ok-clause-told : goal.returns-in-Ok-clause-told
returns-in-Ok-clause-told g c =
    IfSome_then (g.S.Source.seen c.args.source.now).bytes c.in-Ok.ensures.told (λ text found.
    let run = c.run_cluster-ended.ensures in
    used c.in-Ok.config found.0 (runs_cluster c.in-Ok.config c.args.turns _ c.run_cluster-ended.result _ _ _ found.1 c.run_status.ensures run.asks run.opens run.nodes run.order
    (cause_of c.run_cluster-ended.result _ _ run.link_faults.rose run.spawner_faults.rose (tells_both _ _ _ c.in-Ok.ensures.sink run.sink_faults (λ told. inr told)).rose run.bad_ends) run.bad_ends))

pub returns-in-Ok-clause-source : goal.returns-in-Ok-clause-source
returns-in-Ok-clause-source g c = tells_as _ _ c.in-Ok.ensures.source (λ five. absurd ((told_by c.run_cluster-ended.result _ c.run_status.ensures).0 five))

pub returns-in-Ok-clause-sink : goal.returns-in-Ok-clause-sink
returns-in-Ok-clause-sink g c = tells_both _ _ _ c.in-Ok.ensures.sink c.run_cluster-ended.ensures.sink_faults (λ six. inr ((told_by c.run_cluster-ended.result _ c.run_status.ensures).1.0 six))

pub returns-in-Ok-clause-link : goal.returns-in-Ok-clause-link
returns-in-Ok-clause-link g c = tells_as _ _ c.run_cluster-ended.ensures.link_faults (λ seven. (told_by c.run_cluster-ended.result _ c.run_status.ensures).1.1.0 seven)

pub returns-in-Ok-clause-spawner : goal.returns-in-Ok-clause-spawner
returns-in-Ok-clause-spawner g c = tells_as _ _ c.run_cluster-ended.ensures.spawner_faults (λ eight. (told_by c.run_cluster-ended.result _ c.run_status.ensures).1.1.1 eight)

pub returns-in-Ok-clause-bad_ends : goal.returns-in-Ok-clause-bad_ends
returns-in-Ok-clause-bad_ends g c = ends_told c.run_cluster-ended.result _ _ _ _ c.run_status.ensures c.run_cluster-ended.ensures.bad_ends c.run_cluster-ended.ensures.well

pub returns-in-Err-clause-told : goal.returns-in-Err-clause-told
returns-in-Err-clause-told g c = IfSome_then (g.S.Source.seen c.args.source.now).bytes c.in-Err.ensures.told (λ text lacks. unused lacks (record { link = refl; spawner = refl }))

pub returns-in-Err-clause-ended : goal.returns-in-Err-clause-ended
returns-in-Err-clause-ended g c = λ zero. absurd (c.in-Err.ensures.low.1 zero)

pub returns-in-Err-clause-link : goal.returns-in-Err-clause-link
returns-in-Err-clause-link g c = tells_none _ (low_no_link c.in-Err.status c.in-Err.ensures.low.0)

pub returns-in-Err-clause-spawner : goal.returns-in-Err-clause-spawner
returns-in-Err-clause-spawner g c = tells_none _ (low_no_spawner c.in-Err.status c.in-Err.ensures.low.0)

pub returns-in-Err-clause-bad_ends : goal.returns-in-Err-clause-bad_ends
returns-in-Err-clause-bad_ends g c = no_ends c.in-Err.status _ _ c.in-Err.ensures.low.0

pub returns-in-Ok-clause-stops : goal.returns-in-Ok-clause-stops
returns-in-Ok-clause-stops g c = λ never.
    let link = g.L.Link in
    let spawner = g.P.Spawner in
    told_by_text (g.S.Source.seen c.args.source.now).bytes c.in-Ok.config (spawned (spawner.seen c.args.spawner.now).starts (spawner.seen c.args.spawner.now).waits)
    (spawned (spawner.seen c.run_cluster-ended.new.spawner).starts (spawner.seen c.run_cluster-ended.new.spawner).waits)
    (link.seen c.args.link.now).faults (link.seen c.run_cluster-ended.new.link).faults (link.seen c.args.link.now).sent (link.seen c.run_cluster-ended.new.link).sent
    (IfSome_then (g.S.Source.seen c.args.source.now).bytes c.in-Ok.ensures.told (λ text found. found.0)) (c.run_cluster-ended.ensures.stops never)

pub returns-in-Ok-clause-waits : goal.returns-in-Ok-clause-waits
returns-in-Ok-clause-waits g c = λ never.
    let spawner = g.P.Spawner in
    awaited_by_text (g.S.Source.seen c.args.source.now).bytes c.in-Ok.config (spawner.seen c.args.spawner.now).faults (spawner.seen c.run_cluster-ended.new.spawner).faults (spawned (spawner.seen c.args.spawner.now).starts (spawner.seen c.args.spawner.now).waits)
    (spawned (spawner.seen c.run_cluster-ended.new.spawner).starts (spawner.seen c.run_cluster-ended.new.spawner).waits) (IfSome_then (g.S.Source.seen c.args.source.now).bytes c.in-Ok.ensures.told (λ text found. found.0)) (c.run_cluster-ended.ensures.waits never)

pub returns-in-Err-clause-stops : goal.returns-in-Err-clause-stops
returns-in-Err-clause-stops g c = λ never. inl refl

pub returns-in-Err-clause-waits : goal.returns-in-Err-clause-waits
returns-in-Err-clause-waits g c = λ never. none_started (g.S.Source.seen c.args.source.now).bytes (g.P.Spawner.seen c.args.spawner.now).faults (g.P.Spawner.seen c.args.spawner.now).starts (g.P.Spawner.seen c.args.spawner.now).waits

pub returns-in-Ok-clause-statuses : goal.returns-in-Ok-clause-statuses
returns-in-Ok-clause-statuses g c = run_known c.run_cluster-ended.result _ c.run_status.ensures

pub returns-in-Err-clause-statuses : goal.returns-in-Err-clause-statuses
returns-in-Err-clause-statuses g c = lack_known c.in-Err.status c.in-Err.ensures.statuses
