use Rattle.std.proofs.Common.{subst}
use Rattle.mb_core.specs.declared.rules.Due.{Due}
use Rattle.mb_core.specs.Due.{IsNamed}
use Rattle.mb_core.proofs.RuleLoop.{change_view_named, announce_named, enter_named, open_named, join_named, commit_named, execute_named, prepare_named, carried_as}
use Rattle.mb_core.proofs.rules.carry_out.Goals as goal

-- src/rules.rt
pub returns-in-ChangeView : goal.returns-in-ChangeView
returns-in-ChangeView g c = λ me x r serves st named next.
    let is = change_view_named c.in-ChangeView.view r (subst (λ (d : Due). IsNamed d r) c.in-ChangeView.is named) in
    carried_as me c.change_view.new.replica c.change_view.new.done x c.change_view.result r _ is next (c.change_view.ensures me x st)

pub returns-in-Announce : goal.returns-in-Announce
returns-in-Announce g c = λ me x r serves st named next.
    let is = announce_named r (subst (λ (d : Due). IsNamed d r) c.in-Announce.is named) in
    carried_as me c.announce.new.replica c.announce.new.done x c.announce.result r _ is.1 next (c.announce.ensures me x is.0 st)

pub returns-in-Enter : goal.returns-in-Enter
returns-in-Enter g c = λ me x r serves st named next.
    let is = enter_named r (subst (λ (d : Due). IsNamed d r) c.in-Enter.is named) in
    carried_as me c.enter.new.replica c.enter.new.done x c.enter.result r _ is.1 next (c.enter.ensures me x is.0 st)

pub returns-in-Open : goal.returns-in-Open
returns-in-Open g c = λ me x r serves st named next.
    let is = open_named r (subst (λ (d : Due). IsNamed d r) c.in-Open.is named) in
    carried_as me c.open.new.replica c.open.new.done x c.open.result r _ is.1.1 next (c.open.ensures me x is.0 is.1.0 st)

pub returns-in-Join : goal.returns-in-Join
returns-in-Join g c = λ me x r serves st named next.
    let is = join_named r (subst (λ (d : Due). IsNamed d r) c.in-Join.is named) in
    carried_as me c.join.new.replica c.join.new.done x c.join.result r _ is next (c.join.ensures me x st)

pub returns-in-Commit : goal.returns-in-Commit
returns-in-Commit g c = λ me x r serves st named next.
    let is = commit_named c.in-Commit.pos r (subst (λ (d : Due). IsNamed d r) c.in-Commit.is named) in
    carried_as me c.commit.new.replica c.commit.new.done x c.commit.result r _ is.1.1 next (c.commit.ensures me x is.0 is.1.0 st)

pub returns-in-Execute : goal.returns-in-Execute
returns-in-Execute g c = λ me x r serves st named next.
    let is = execute_named c.in-Execute.pos r (subst (λ (d : Due). IsNamed d r) c.in-Execute.is named) in
    carried_as me c.execute.new.replica c.execute.new.done x c.execute.result r _ is.1 next (c.execute.ensures me x is.0 serves st)

pub returns-in-Prepare : goal.returns-in-Prepare
returns-in-Prepare g c = λ me x r serves st named next.
    let is = prepare_named r (subst (λ (d : Due). IsNamed d r) c.in-Prepare.is named) in
    carried_as me c.prepare.new.replica c.prepare.new.done x c.prepare.result r _ is.1.1 next (c.prepare.ensures me x is.0 is.1.0 st)
