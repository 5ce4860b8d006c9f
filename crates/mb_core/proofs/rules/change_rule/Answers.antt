use Rattle.mb_change.specs.declared.due.ChangeDue.TheVariants as change
use Rattle.mb_core.proofs.ChangeRules.{change_named}
use Rattle.mb_core.proofs.rules.change_rule.Goals as goal

-- src/rules.rt
pub returns-in-Nothing : goal.returns-in-Nothing
returns-in-Nothing g c = λ me d r.
    change_named me c.args.replica.now d r change.Nothing c.here.result c.low.result c.has_other_room-room.result
    (c.here.ensures me d r) (c.low.ensures.reads me d r) (c.has_other_room-room.ensures me d r) c.in-Nothing.ensures.due

pub returns-in-ViewChange : goal.returns-in-ViewChange
returns-in-ViewChange g c = λ me d r.
    change_named me c.args.replica.now d r (change.ViewChange c.in-ViewChange.view) c.here.result c.low.result c.has_other_room-room.result
    (c.here.ensures me d r) (c.low.ensures.reads me d r) (c.has_other_room-room.ensures me d r) c.in-ViewChange.ensures.due

pub returns-in-NewView : goal.returns-in-NewView
returns-in-NewView g c = λ me d r.
    change_named me c.args.replica.now d r change.NewView c.here.result c.low.result c.has_other_room-room.result
    (c.here.ensures me d r) (c.low.ensures.reads me d r) (c.has_other_room-room.ensures me d r) c.in-NewView.ensures.due

pub returns-in-Enter : goal.returns-in-Enter
returns-in-Enter g c = λ me d r.
    change_named me c.args.replica.now d r change.Enter c.here.result c.low.result c.has_other_room-room.result
    (c.here.ensures me d r) (c.low.ensures.reads me d r) (c.has_other_room-room.ensures me d r) c.in-Enter.ensures.due

pub returns-in-Open : goal.returns-in-Open
returns-in-Open g c = λ me d r.
    change_named me c.args.replica.now d r change.Open c.here.result c.low.result c.has_other_room-room.result
    (c.here.ensures me d r) (c.low.ensures.reads me d r) (c.has_other_room-room.ensures me d r) c.in-Open.ensures.due

pub returns-in-Join : goal.returns-in-Join
returns-in-Join g c = λ me d r.
    change_named me c.args.replica.now d r (change.Join _) c.here.result c.low.result c.has_other_room-room.result
    (c.here.ensures me d r) (c.low.ensures.reads me d r) (c.has_other_room-room.ensures me d r) c.in-Join.ensures.due
