use Rattle.std.proofs.Common.{◌≡◌, inl, Option, Some, None, IfSome, refl, sym, ap, subst, ◌∙◌}
use Rattle.mb_answer.proofs.Contained.{none_of}
use Rattle.mb_answer.specs.Clusters.{cluster_statuses}
use Rattle.mb_serving.specs.Nodes.{node_statuses}
use Rattle.mb_serving.specs.Journals.{kept_node_statuses, making_statuses}
use Rattle.mb_edge.proofs.FaultLemmas.{tells_none}
use Rattle.mb_answer.proofs.ConfigLaws.{no_ends, ends_none, none_started}
use Rattle.mb_answer.proofs.Statuses.{low_no_link, low_no_spawner, low_no_disk}
use Rattle.mb_top.specs.Commands.{IsWithin}
use Rattle.mb_top.specs.declared.command.Command.{Command}
use Rattle.mb_top.specs.declared.command.Command.TheVariants.{Replay, Soak, Node, KeptNode, Journal, Retrace, Cluster, Audit, Learn}
use Rattle.mb_top.proofs.Doing.{does_replay, does_soak, does_node, does_retrace, does_cluster, does_audit, does_learn, does_usage, does_asked, at_disk_as, told_both, statuses_asked, soak_known, usage_known}
use Rattle.mb_top.proofs.top.run.Goals as goal

pub returns-in-Some-Replay-clause-does : goal.returns-in-Some-Replay-clause-does
returns-in-Some-Replay-clause-does g c =
    let first : c.args.command ≡ Some c.in-Some-Replay.field-0 = c.in-Some-Replay.is in
    let named : c.in-Some-Replay.field-0 ≡ Replay = rw first at c.in-Some-Replay.field-0-is in
    let same : c.args.command ≡ Some Replay = first ∙ ap Some named in
    does_asked _ _ _ _ (Some Replay) same (does_replay _ _ _ c.replay.ensures.told c.replay.ensures.ended refl refl)

pub returns-in-Some-Replay-clause-statuses : goal.returns-in-Some-Replay-clause-statuses
returns-in-Some-Replay-clause-statuses g c =
    let first : c.args.command ≡ Some c.in-Some-Replay.field-0 = c.in-Some-Replay.is in
    let named : c.in-Some-Replay.field-0 ≡ Replay = rw first at c.in-Some-Replay.field-0-is in
    statuses_asked _ (Some Replay) _ (first ∙ ap Some named) c.replay.ensures.statuses

pub returns-in-Some-Replay-clause-link : goal.returns-in-Some-Replay-clause-link
returns-in-Some-Replay-clause-link g c = tells_none _ (low_no_link _ c.replay.ensures.low)

pub returns-in-Some-Replay-clause-spawner : goal.returns-in-Some-Replay-clause-spawner
returns-in-Some-Replay-clause-spawner g c = tells_none _ (low_no_spawner _ c.replay.ensures.low)

pub returns-in-Some-Replay-clause-bad_ends : goal.returns-in-Some-Replay-clause-bad_ends
returns-in-Some-Replay-clause-bad_ends g c = no_ends _ _ _ c.replay.ensures.low

pub soak-requires : goal.soak-requires
soak-requires g c =
    let first : c.args.command ≡ Some c.in-Some-Soak.field-0 = c.in-Some-Soak.is in
    let named : c.in-Some-Soak.field-0 ≡ Soak c.in-Some-Soak.seed c.in-Some-Soak.events = rw first at c.in-Some-Soak.field-0-is in
    let same : c.args.command ≡ Some (Soak c.in-Some-Soak.seed c.in-Some-Soak.events) = first ∙ ap Some named in
    (subst (λ (o : Option Command). IfSome o IsWithin) same c.requires).1

pub returns-in-Some-Soak-clause-does : goal.returns-in-Some-Soak-clause-does
returns-in-Some-Soak-clause-does g c =
    let first : c.args.command ≡ Some c.in-Some-Soak.field-0 = c.in-Some-Soak.is in
    let named : c.in-Some-Soak.field-0 ≡ Soak c.in-Some-Soak.seed c.in-Some-Soak.events = rw first at c.in-Some-Soak.field-0-is in
    let same : c.args.command ≡ Some (Soak c.in-Some-Soak.seed c.in-Some-Soak.events) = first ∙ ap Some named in
    does_asked _ _ _ _ (Some (Soak c.in-Some-Soak.seed c.in-Some-Soak.events)) same (does_soak _ _ _ _ _ c.soak.ensures.told (subst (λ (o : Option Command). IfSome o IsWithin) same c.requires).1 refl refl)

pub returns-in-Some-Soak-clause-statuses : goal.returns-in-Some-Soak-clause-statuses
returns-in-Some-Soak-clause-statuses g c =
    let first : c.args.command ≡ Some c.in-Some-Soak.field-0 = c.in-Some-Soak.is in
    let named : c.in-Some-Soak.field-0 ≡ Soak c.in-Some-Soak.seed c.in-Some-Soak.events = rw first at c.in-Some-Soak.field-0-is in
    statuses_asked _ (Some (Soak c.in-Some-Soak.seed c.in-Some-Soak.events)) _ (first ∙ ap Some named) (soak_known _ _ _ _ _ c.soak.ensures.told)

pub returns-in-Some-Soak-clause-link : goal.returns-in-Some-Soak-clause-link
returns-in-Some-Soak-clause-link g c = tells_none _ (low_no_link _ c.soak.ensures.low)

pub returns-in-Some-Soak-clause-spawner : goal.returns-in-Some-Soak-clause-spawner
returns-in-Some-Soak-clause-spawner g c = tells_none _ (low_no_spawner _ c.soak.ensures.low)

pub returns-in-Some-Soak-clause-bad_ends : goal.returns-in-Some-Soak-clause-bad_ends
returns-in-Some-Soak-clause-bad_ends g c = no_ends _ _ _ c.soak.ensures.low

pub returns-in-Some-Node-clause-does : goal.returns-in-Some-Node-clause-does
returns-in-Some-Node-clause-does g c =
    let first : c.args.command ≡ Some c.in-Some-Node.field-0 = c.in-Some-Node.is in
    let named : c.in-Some-Node.field-0 ≡ Node c.in-Some-Node.host c.in-Some-Node.events = rw first at c.in-Some-Node.field-0-is in
    let same : c.args.command ≡ Some (Node c.in-Some-Node.host c.in-Some-Node.events) = first ∙ ap Some named in
    does_asked _ _ _ _ (Some (Node c.in-Some-Node.host c.in-Some-Node.events)) same (does_node _ _ _ _ _ c.node.ensures.told c.node.ensures.ended refl)

pub returns-in-Some-Node-clause-statuses : goal.returns-in-Some-Node-clause-statuses
returns-in-Some-Node-clause-statuses g c =
    let first : c.args.command ≡ Some c.in-Some-Node.field-0 = c.in-Some-Node.is in
    let named : c.in-Some-Node.field-0 ≡ Node c.in-Some-Node.host c.in-Some-Node.events = rw first at c.in-Some-Node.field-0-is in
    statuses_asked _ (Some (Node c.in-Some-Node.host c.in-Some-Node.events)) _ (first ∙ ap Some named) c.node.ensures.statuses

pub returns-in-Some-Node-clause-spawner : goal.returns-in-Some-Node-clause-spawner
returns-in-Some-Node-clause-spawner g c = tells_none _ c.node.ensures.known.0

pub returns-in-Some-Node-clause-bad_ends : goal.returns-in-Some-Node-clause-bad_ends
returns-in-Some-Node-clause-bad_ends g c = ends_none _ _ _ c.node.ensures.known.1

pub returns-in-Some-Retrace-clause-does : goal.returns-in-Some-Retrace-clause-does
returns-in-Some-Retrace-clause-does g c =
    let first : c.args.command ≡ Some c.in-Some-Retrace.field-0 = c.in-Some-Retrace.is in
    let named : c.in-Some-Retrace.field-0 ≡ Retrace = rw first at c.in-Some-Retrace.field-0-is in
    let same : c.args.command ≡ Some Retrace = first ∙ ap Some named in
    does_asked _ _ _ _ (Some Retrace) same (does_retrace _ _ _ c.retrace.ensures.told c.retrace.ensures.ended refl refl)

pub returns-in-Some-Retrace-clause-statuses : goal.returns-in-Some-Retrace-clause-statuses
returns-in-Some-Retrace-clause-statuses g c =
    let first : c.args.command ≡ Some c.in-Some-Retrace.field-0 = c.in-Some-Retrace.is in
    let named : c.in-Some-Retrace.field-0 ≡ Retrace = rw first at c.in-Some-Retrace.field-0-is in
    statuses_asked _ (Some Retrace) _ (first ∙ ap Some named) c.retrace.ensures.statuses

pub returns-in-Some-Retrace-clause-link : goal.returns-in-Some-Retrace-clause-link
returns-in-Some-Retrace-clause-link g c = tells_none _ (low_no_link _ c.retrace.ensures.low)

pub returns-in-Some-Retrace-clause-spawner : goal.returns-in-Some-Retrace-clause-spawner
returns-in-Some-Retrace-clause-spawner g c = tells_none _ (low_no_spawner _ c.retrace.ensures.low)

pub returns-in-Some-Retrace-clause-bad_ends : goal.returns-in-Some-Retrace-clause-bad_ends
returns-in-Some-Retrace-clause-bad_ends g c = no_ends _ _ _ c.retrace.ensures.low

pub returns-in-Some-Cluster-clause-does : goal.returns-in-Some-Cluster-clause-does
returns-in-Some-Cluster-clause-does g c =
    let first : c.args.command ≡ Some c.in-Some-Cluster.field-0 = c.in-Some-Cluster.is in
    let named : c.in-Some-Cluster.field-0 ≡ Cluster c.in-Some-Cluster.turns = rw first at c.in-Some-Cluster.field-0-is in
    let same : c.args.command ≡ Some (Cluster c.in-Some-Cluster.turns) = first ∙ ap Some named in
    does_asked _ _ _ _ (Some (Cluster c.in-Some-Cluster.turns)) same (does_cluster _ _ _ _ c.cluster.ensures.told c.cluster.ensures.ended)

pub returns-in-Some-Cluster-clause-statuses : goal.returns-in-Some-Cluster-clause-statuses
returns-in-Some-Cluster-clause-statuses g c =
    let first : c.args.command ≡ Some c.in-Some-Cluster.field-0 = c.in-Some-Cluster.is in
    let named : c.in-Some-Cluster.field-0 ≡ Cluster c.in-Some-Cluster.turns = rw first at c.in-Some-Cluster.field-0-is in
    statuses_asked _ (Some (Cluster c.in-Some-Cluster.turns)) _ (first ∙ ap Some named) c.cluster.ensures.statuses

pub returns-in-Some-Audit-clause-does : goal.returns-in-Some-Audit-clause-does
returns-in-Some-Audit-clause-does g c =
    let first : c.args.command ≡ Some c.in-Some-Audit.field-0 = c.in-Some-Audit.is in
    let named : c.in-Some-Audit.field-0 ≡ Audit c.in-Some-Audit.host = rw first at c.in-Some-Audit.field-0-is in
    let same : c.args.command ≡ Some (Audit c.in-Some-Audit.host) = first ∙ ap Some named in
    does_asked _ _ _ _ (Some (Audit c.in-Some-Audit.host)) same (does_audit _ _ _ _ c.audit.ensures.told c.audit.ensures.ended refl refl)

pub returns-in-Some-Audit-clause-statuses : goal.returns-in-Some-Audit-clause-statuses
returns-in-Some-Audit-clause-statuses g c =
    let first : c.args.command ≡ Some c.in-Some-Audit.field-0 = c.in-Some-Audit.is in
    let named : c.in-Some-Audit.field-0 ≡ Audit c.in-Some-Audit.host = rw first at c.in-Some-Audit.field-0-is in
    statuses_asked _ (Some (Audit c.in-Some-Audit.host)) _ (first ∙ ap Some named) c.audit.ensures.statuses

pub returns-in-Some-Audit-clause-link : goal.returns-in-Some-Audit-clause-link
returns-in-Some-Audit-clause-link g c = tells_none _ (low_no_link _ c.audit.ensures.low)

pub returns-in-Some-Audit-clause-spawner : goal.returns-in-Some-Audit-clause-spawner
returns-in-Some-Audit-clause-spawner g c = tells_none _ (low_no_spawner _ c.audit.ensures.low)

pub returns-in-Some-Audit-clause-bad_ends : goal.returns-in-Some-Audit-clause-bad_ends
returns-in-Some-Audit-clause-bad_ends g c = no_ends _ _ _ c.audit.ensures.low

pub returns-in-Some-Learn-clause-does : goal.returns-in-Some-Learn-clause-does
returns-in-Some-Learn-clause-does g c =
    let first : c.args.command ≡ Some c.in-Some-Learn.field-0 = c.in-Some-Learn.is in
    let named : c.in-Some-Learn.field-0 ≡ Learn = rw first at c.in-Some-Learn.field-0-is in
    let same : c.args.command ≡ Some Learn = first ∙ ap Some named in
    does_asked _ _ _ _ (Some Learn) same (does_learn _ _ _ c.learn.ensures.told c.learn.ensures.ended refl refl)

pub returns-in-Some-Learn-clause-statuses : goal.returns-in-Some-Learn-clause-statuses
returns-in-Some-Learn-clause-statuses g c =
    let first : c.args.command ≡ Some c.in-Some-Learn.field-0 = c.in-Some-Learn.is in
    let named : c.in-Some-Learn.field-0 ≡ Learn = rw first at c.in-Some-Learn.field-0-is in
    statuses_asked _ (Some Learn) _ (first ∙ ap Some named) c.learn.ensures.statuses

pub returns-in-Some-Learn-clause-link : goal.returns-in-Some-Learn-clause-link
returns-in-Some-Learn-clause-link g c = tells_none _ (low_no_link _ c.learn.ensures.low)

pub returns-in-Some-Learn-clause-spawner : goal.returns-in-Some-Learn-clause-spawner
returns-in-Some-Learn-clause-spawner g c = tells_none _ (low_no_spawner _ c.learn.ensures.low)

pub returns-in-Some-Learn-clause-bad_ends : goal.returns-in-Some-Learn-clause-bad_ends
returns-in-Some-Learn-clause-bad_ends g c = no_ends _ _ _ c.learn.ensures.low

pub returns-in-None-clause-does : goal.returns-in-None-clause-does
returns-in-None-clause-does g c = does_asked _ _ _ _ _ c.in-None.is (does_usage _ _ _ c.say.ensures.says refl refl)

pub returns-in-None-clause-statuses : goal.returns-in-None-clause-statuses
returns-in-None-clause-statuses g c = statuses_asked _ _ _ c.in-None.is (usage_known _ _ _ c.say.ensures.says)

pub returns-in-None-clause-link : goal.returns-in-None-clause-link
returns-in-None-clause-link g c = tells_none _ (low_no_link _ c.say.ensures.low)

pub returns-in-None-clause-spawner : goal.returns-in-None-clause-spawner
returns-in-None-clause-spawner g c = tells_none _ (low_no_spawner _ c.say.ensures.low)

pub returns-in-None-clause-bad_ends : goal.returns-in-None-clause-bad_ends
returns-in-None-clause-bad_ends g c = no_ends _ _ _ c.say.ensures.low

pub returns-in-Some-Replay-clause-stops : goal.returns-in-Some-Replay-clause-stops
returns-in-Some-Replay-clause-stops g c = λ never. inl refl

pub returns-in-Some-Replay-clause-waits : goal.returns-in-Some-Replay-clause-waits
returns-in-Some-Replay-clause-waits g c = λ never. none_started (g.S.Source.seen c.args.source.now).bytes (g.P.Spawner.seen c.args.spawner.now).faults (g.P.Spawner.seen c.args.spawner.now).starts (g.P.Spawner.seen c.args.spawner.now).waits

pub returns-in-Some-Soak-clause-stops : goal.returns-in-Some-Soak-clause-stops
returns-in-Some-Soak-clause-stops g c = λ never. inl refl

pub returns-in-Some-Soak-clause-waits : goal.returns-in-Some-Soak-clause-waits
returns-in-Some-Soak-clause-waits g c = λ never. none_started (g.S.Source.seen c.args.source.now).bytes (g.P.Spawner.seen c.args.spawner.now).faults (g.P.Spawner.seen c.args.spawner.now).starts (g.P.Spawner.seen c.args.spawner.now).waits

pub returns-in-Some-Node-clause-stops : goal.returns-in-Some-Node-clause-stops
returns-in-Some-Node-clause-stops g c = λ never. inl refl

pub returns-in-Some-Node-clause-waits : goal.returns-in-Some-Node-clause-waits
returns-in-Some-Node-clause-waits g c = λ never. none_started (g.S.Source.seen c.args.source.now).bytes (g.P.Spawner.seen c.args.spawner.now).faults (g.P.Spawner.seen c.args.spawner.now).starts (g.P.Spawner.seen c.args.spawner.now).waits

pub returns-in-Some-Retrace-clause-stops : goal.returns-in-Some-Retrace-clause-stops
returns-in-Some-Retrace-clause-stops g c = λ never. inl refl

pub returns-in-Some-Retrace-clause-waits : goal.returns-in-Some-Retrace-clause-waits
returns-in-Some-Retrace-clause-waits g c = λ never. none_started (g.S.Source.seen c.args.source.now).bytes (g.P.Spawner.seen c.args.spawner.now).faults (g.P.Spawner.seen c.args.spawner.now).starts (g.P.Spawner.seen c.args.spawner.now).waits

pub returns-in-Some-Audit-clause-stops : goal.returns-in-Some-Audit-clause-stops
returns-in-Some-Audit-clause-stops g c = λ never. inl refl

pub returns-in-Some-Audit-clause-waits : goal.returns-in-Some-Audit-clause-waits
returns-in-Some-Audit-clause-waits g c = λ never. none_started (g.S.Source.seen c.args.source.now).bytes (g.P.Spawner.seen c.args.spawner.now).faults (g.P.Spawner.seen c.args.spawner.now).starts (g.P.Spawner.seen c.args.spawner.now).waits

pub returns-in-Some-Learn-clause-stops : goal.returns-in-Some-Learn-clause-stops
returns-in-Some-Learn-clause-stops g c = λ never. inl refl

pub returns-in-Some-Learn-clause-waits : goal.returns-in-Some-Learn-clause-waits
returns-in-Some-Learn-clause-waits g c = λ never. none_started (g.S.Source.seen c.args.source.now).bytes (g.P.Spawner.seen c.args.spawner.now).faults (g.P.Spawner.seen c.args.spawner.now).starts (g.P.Spawner.seen c.args.spawner.now).waits

pub returns-in-None-clause-stops : goal.returns-in-None-clause-stops
returns-in-None-clause-stops g c = λ never. inl refl

pub returns-in-None-clause-waits : goal.returns-in-None-clause-waits
returns-in-None-clause-waits g c = λ never. none_started (g.S.Source.seen c.args.source.now).bytes (g.P.Spawner.seen c.args.spawner.now).faults (g.P.Spawner.seen c.args.spawner.now).starts (g.P.Spawner.seen c.args.spawner.now).waits

pub returns-in-Some-KeptNode-clause-does : goal.returns-in-Some-KeptNode-clause-does
returns-in-Some-KeptNode-clause-does g c =
    let first : c.args.command ≡ Some c.in-Some-KeptNode.field-0 = c.in-Some-KeptNode.is in
    let named : c.in-Some-KeptNode.field-0 ≡ KeptNode c.in-Some-KeptNode.host c.in-Some-KeptNode.events = rw first at c.in-Some-KeptNode.field-0-is in
    does_asked _ _ _ _ (Some (KeptNode c.in-Some-KeptNode.host c.in-Some-KeptNode.events)) (first ∙ ap Some named) (c.kept_node.ensures.ended, refl)

pub returns-in-Some-KeptNode-clause-at_disk : goal.returns-in-Some-KeptNode-clause-at_disk
returns-in-Some-KeptNode-clause-at_disk g c =
    let first : c.args.command ≡ Some c.in-Some-KeptNode.field-0 = c.in-Some-KeptNode.is in
    let named : c.in-Some-KeptNode.field-0 ≡ KeptNode c.in-Some-KeptNode.host c.in-Some-KeptNode.events = rw first at c.in-Some-KeptNode.field-0-is in
    at_disk_as (Some (KeptNode c.in-Some-KeptNode.host c.in-Some-KeptNode.events)) _ _ _ _ _ _ _ _ _ _ (sym (first ∙ ap Some named)) (told_both _ _ _ c.kept_node.ensures.told c.kept_node.ensures.complete)

pub returns-in-Some-KeptNode-clause-statuses : goal.returns-in-Some-KeptNode-clause-statuses
returns-in-Some-KeptNode-clause-statuses g c =
    let first : c.args.command ≡ Some c.in-Some-KeptNode.field-0 = c.in-Some-KeptNode.is in
    let named : c.in-Some-KeptNode.field-0 ≡ KeptNode c.in-Some-KeptNode.host c.in-Some-KeptNode.events = rw first at c.in-Some-KeptNode.field-0-is in
    statuses_asked _ (Some (KeptNode c.in-Some-KeptNode.host c.in-Some-KeptNode.events)) _ (first ∙ ap Some named) c.kept_node.ensures.statuses

pub returns-in-Some-Journal-clause-does : goal.returns-in-Some-Journal-clause-does
returns-in-Some-Journal-clause-does g c =
    let first : c.args.command ≡ Some c.in-Some-Journal.field-0 = c.in-Some-Journal.is in
    let named : c.in-Some-Journal.field-0 ≡ Journal c.in-Some-Journal.host = rw first at c.in-Some-Journal.field-0-is in
    does_asked _ _ _ _ (Some (Journal c.in-Some-Journal.host)) (first ∙ ap Some named) (c.make_journal.ensures.ended, record { link = refl; spawner = refl })

pub returns-in-Some-Journal-clause-at_disk : goal.returns-in-Some-Journal-clause-at_disk
returns-in-Some-Journal-clause-at_disk g c =
    let first : c.args.command ≡ Some c.in-Some-Journal.field-0 = c.in-Some-Journal.is in
    let named : c.in-Some-Journal.field-0 ≡ Journal c.in-Some-Journal.host = rw first at c.in-Some-Journal.field-0-is in
    at_disk_as (Some (Journal c.in-Some-Journal.host)) _ _ _ _ _ _ _ _ _ _ (sym (first ∙ ap Some named)) (c.make_journal.ensures.told)

pub returns-in-Some-Journal-clause-statuses : goal.returns-in-Some-Journal-clause-statuses
returns-in-Some-Journal-clause-statuses g c =
    let first : c.args.command ≡ Some c.in-Some-Journal.field-0 = c.in-Some-Journal.is in
    let named : c.in-Some-Journal.field-0 ≡ Journal c.in-Some-Journal.host = rw first at c.in-Some-Journal.field-0-is in
    statuses_asked _ (Some (Journal c.in-Some-Journal.host)) _ (first ∙ ap Some named) c.make_journal.ensures.statuses

pub returns-in-Some-Replay-clause-disk : goal.returns-in-Some-Replay-clause-disk
returns-in-Some-Replay-clause-disk g c = tells_none _ (low_no_disk _ c.replay.ensures.low)

pub returns-in-Some-Soak-clause-disk : goal.returns-in-Some-Soak-clause-disk
returns-in-Some-Soak-clause-disk g c = tells_none _ (low_no_disk _ c.soak.ensures.low)

pub returns-in-Some-Retrace-clause-disk : goal.returns-in-Some-Retrace-clause-disk
returns-in-Some-Retrace-clause-disk g c = tells_none _ (low_no_disk _ c.retrace.ensures.low)

pub returns-in-Some-Audit-clause-disk : goal.returns-in-Some-Audit-clause-disk
returns-in-Some-Audit-clause-disk g c = tells_none _ (low_no_disk _ c.audit.ensures.low)

pub returns-in-None-clause-disk : goal.returns-in-None-clause-disk
returns-in-None-clause-disk g c = tells_none _ (low_no_disk _ c.say.ensures.low)

pub returns-in-Some-Node-clause-disk : goal.returns-in-Some-Node-clause-disk
returns-in-Some-Node-clause-disk g c = tells_none _ (none_of 14 node_statuses _ refl c.node.ensures.statuses)

pub returns-in-Some-Cluster-clause-disk : goal.returns-in-Some-Cluster-clause-disk
returns-in-Some-Cluster-clause-disk g c = tells_none _ (none_of 14 cluster_statuses _ refl c.cluster.ensures.statuses)

pub returns-in-Some-KeptNode-clause-spawner : goal.returns-in-Some-KeptNode-clause-spawner
returns-in-Some-KeptNode-clause-spawner g c = tells_none _ (none_of 8 kept_node_statuses _ refl c.kept_node.ensures.statuses)

pub returns-in-Some-KeptNode-clause-bad_ends : goal.returns-in-Some-KeptNode-clause-bad_ends
returns-in-Some-KeptNode-clause-bad_ends g c = ends_none _ _ _ (none_of 18 kept_node_statuses _ refl c.kept_node.ensures.statuses)

pub returns-in-Some-Journal-clause-spawner : goal.returns-in-Some-Journal-clause-spawner
returns-in-Some-Journal-clause-spawner g c = tells_none _ (none_of 8 making_statuses _ refl c.make_journal.ensures.statuses)

pub returns-in-Some-Journal-clause-bad_ends : goal.returns-in-Some-Journal-clause-bad_ends
returns-in-Some-Journal-clause-bad_ends g c = ends_none _ _ _ (none_of 18 making_statuses _ refl c.make_journal.ensures.statuses)

pub returns-in-Some-Journal-clause-link : goal.returns-in-Some-Journal-clause-link
returns-in-Some-Journal-clause-link g c = tells_none _ (none_of 7 making_statuses _ refl c.make_journal.ensures.statuses)

pub returns-in-Some-Replay-clause-at_disk : goal.returns-in-Some-Replay-clause-at_disk
returns-in-Some-Replay-clause-at_disk g c =
    let first : c.args.command ≡ Some c.in-Some-Replay.field-0 = c.in-Some-Replay.is in
    let named : c.in-Some-Replay.field-0 ≡ Replay = rw first at c.in-Some-Replay.field-0-is in
    at_disk_as (Some Replay) _ _ _ _ _ _ _ _ _ _ (sym (first ∙ ap Some named)) refl

pub returns-in-Some-Soak-clause-at_disk : goal.returns-in-Some-Soak-clause-at_disk
returns-in-Some-Soak-clause-at_disk g c =
    let first : c.args.command ≡ Some c.in-Some-Soak.field-0 = c.in-Some-Soak.is in
    let named : c.in-Some-Soak.field-0 ≡ Soak c.in-Some-Soak.seed c.in-Some-Soak.events = rw first at c.in-Some-Soak.field-0-is in
    at_disk_as (Some (Soak c.in-Some-Soak.seed c.in-Some-Soak.events)) _ _ _ _ _ _ _ _ _ _ (sym (first ∙ ap Some named)) refl

pub returns-in-Some-Node-clause-at_disk : goal.returns-in-Some-Node-clause-at_disk
returns-in-Some-Node-clause-at_disk g c =
    let first : c.args.command ≡ Some c.in-Some-Node.field-0 = c.in-Some-Node.is in
    let named : c.in-Some-Node.field-0 ≡ Node c.in-Some-Node.host c.in-Some-Node.events = rw first at c.in-Some-Node.field-0-is in
    at_disk_as (Some (Node c.in-Some-Node.host c.in-Some-Node.events)) _ _ _ _ _ _ _ _ _ _ (sym (first ∙ ap Some named)) refl

pub returns-in-Some-Retrace-clause-at_disk : goal.returns-in-Some-Retrace-clause-at_disk
returns-in-Some-Retrace-clause-at_disk g c =
    let first : c.args.command ≡ Some c.in-Some-Retrace.field-0 = c.in-Some-Retrace.is in
    let named : c.in-Some-Retrace.field-0 ≡ Retrace = rw first at c.in-Some-Retrace.field-0-is in
    at_disk_as (Some Retrace) _ _ _ _ _ _ _ _ _ _ (sym (first ∙ ap Some named)) refl

pub returns-in-Some-Cluster-clause-at_disk : goal.returns-in-Some-Cluster-clause-at_disk
returns-in-Some-Cluster-clause-at_disk g c =
    let first : c.args.command ≡ Some c.in-Some-Cluster.field-0 = c.in-Some-Cluster.is in
    let named : c.in-Some-Cluster.field-0 ≡ Cluster c.in-Some-Cluster.turns = rw first at c.in-Some-Cluster.field-0-is in
    at_disk_as (Some (Cluster c.in-Some-Cluster.turns)) _ _ _ _ _ _ _ _ _ _ (sym (first ∙ ap Some named)) refl

pub returns-in-Some-Audit-clause-at_disk : goal.returns-in-Some-Audit-clause-at_disk
returns-in-Some-Audit-clause-at_disk g c =
    let first : c.args.command ≡ Some c.in-Some-Audit.field-0 = c.in-Some-Audit.is in
    let named : c.in-Some-Audit.field-0 ≡ Audit c.in-Some-Audit.host = rw first at c.in-Some-Audit.field-0-is in
    at_disk_as (Some (Audit c.in-Some-Audit.host)) _ _ _ _ _ _ _ _ _ _ (sym (first ∙ ap Some named)) refl

pub returns-in-None-clause-at_disk : goal.returns-in-None-clause-at_disk
returns-in-None-clause-at_disk g c = at_disk_as None _ _ _ _ _ _ _ _ _ _ (sym c.in-None.is) refl

pub returns-in-Some-KeptNode-clause-stops : goal.returns-in-Some-KeptNode-clause-stops
returns-in-Some-KeptNode-clause-stops g c = λ never. inl refl

pub returns-in-Some-KeptNode-clause-waits : goal.returns-in-Some-KeptNode-clause-waits
returns-in-Some-KeptNode-clause-waits g c = λ never. none_started (g.S.Source.seen c.args.source.now).bytes (g.P.Spawner.seen c.args.spawner.now).faults (g.P.Spawner.seen c.args.spawner.now).starts (g.P.Spawner.seen c.args.spawner.now).waits

pub returns-in-Some-Journal-clause-stops : goal.returns-in-Some-Journal-clause-stops
returns-in-Some-Journal-clause-stops g c = λ never. inl refl

pub returns-in-Some-Journal-clause-waits : goal.returns-in-Some-Journal-clause-waits
returns-in-Some-Journal-clause-waits g c = λ never. none_started (g.S.Source.seen c.args.source.now).bytes (g.P.Spawner.seen c.args.spawner.now).faults (g.P.Spawner.seen c.args.spawner.now).starts (g.P.Spawner.seen c.args.spawner.now).waits

pub returns-in-Some-Learn-clause-disk : goal.returns-in-Some-Learn-clause-disk
returns-in-Some-Learn-clause-disk g c = tells_none _ (low_no_disk _ c.learn.ensures.low)

pub returns-in-Some-Learn-clause-at_disk : goal.returns-in-Some-Learn-clause-at_disk
returns-in-Some-Learn-clause-at_disk g c =
    let first : c.args.command ≡ Some c.in-Some-Learn.field-0 = c.in-Some-Learn.is in
    let named : c.in-Some-Learn.field-0 ≡ Learn = rw first at c.in-Some-Learn.field-0-is in
    at_disk_as (Some Learn) _ _ _ _ _ _ _ _ _ _ (sym (first ∙ ap Some named)) refl
