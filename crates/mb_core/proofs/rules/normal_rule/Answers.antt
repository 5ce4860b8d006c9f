use Rattle.std.proofs.Common.{ap}
use Rattle.mb_normal.specs.declared.due.Due.TheVariants as normal
use Rattle.mb_core.proofs.Bounds.{standing_low, executed_low}
use Rattle.mb_core.proofs.NextRules.{normal_named}
use Rattle.mb_core.proofs.rules.normal_rule.Goals as goal

-- src/rules.rt
pub due-requires-clause-last : goal.due-requires-clause-last
due-requires-clause-last g c = standing_low c.args.replica.now c.requires c.here.result.last (λ me d r. ap (λ f. f.last) (c.here.ensures me d r))

pub due-requires-clause-exec : goal.due-requires-clause-exec
due-requires-clause-exec g c = executed_low c.args.replica.now c.requires

pub returns-in-Nothing : goal.returns-in-Nothing
returns-in-Nothing g c = λ me d r.
    normal_named me c.args.replica.now d r normal.Nothing c.here.result c.low.result c.has_room-room.result
    (c.here.ensures me d r) (c.low.ensures.reads me d r) (c.has_room-room.ensures me d r) c.in-Nothing.ensures

pub returns-in-Commit : goal.returns-in-Commit
returns-in-Commit g c = λ me d r.
    normal_named me c.args.replica.now d r (normal.Commit c.in-Commit.pos) c.here.result c.low.result c.has_room-room.result
    (c.here.ensures me d r) (c.low.ensures.reads me d r) (c.has_room-room.ensures me d r) c.in-Commit.ensures

pub returns-in-Execute : goal.returns-in-Execute
returns-in-Execute g c = λ me d r.
    normal_named me c.args.replica.now d r (normal.Execute c.in-Execute.pos) c.here.result c.low.result c.has_room-room.result
    (c.here.ensures me d r) (c.low.ensures.reads me d r) (c.has_room-room.ensures me d r) c.in-Execute.ensures

pub returns-in-Prepare : goal.returns-in-Prepare
returns-in-Prepare g c = λ me d r.
    normal_named me c.args.replica.now d r normal.Prepare c.here.result c.low.result c.has_room-room.result
    (c.here.ensures me d r) (c.low.ensures.reads me d r) (c.has_room-room.ensures me d r) c.in-Prepare.ensures
