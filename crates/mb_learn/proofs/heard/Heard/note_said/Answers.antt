use Rattle.std.proofs.Common.{sym, subst, ◌∙◌}
use Rattle.mb_base.specs.declared.names.Ui.{Ui}
use Rattle.mb_learn.specs.Tables.{AddsSaid}
use Rattle.mb_learn.proofs.Stamping.{says_one, says_same}
use Rattle.mb_learn.proofs.Taking.{ok_three}
use Rattle.mb_learn.proofs.heard.Heard.note_said.Goals as goal

pub returns-in-Some : goal.returns-in-Some
returns-in-Some c so =
    let t = c.args.self.now in
    let m = c.args.stamp.now in
    let new = c.add_said.new.self in
    ok_three c.add_said.result
    (λ said noted rest. says_one t new rest m c.in-Some.said.0 c.in-Some.said.1 (sym c.newly_said_by.ensures ∙ c.in-Some.is)
    (subst (λ (u : Ui). AddsSaid t.checkpoints c.in-Some.said.0 (record { host = u.host; state = c.in-Some.said.1 }) new.checkpoints) c.ui.ensures said) noted so c.requires)
    c.add_said.ensures.said c.add_said.ensures.noted c.add_said.ensures.rest

pub returns-in-None : goal.returns-in-None
returns-in-None c so = says_same c.args.self.now c.args.stamp.now (sym c.newly_said_by.ensures ∙ c.in-None.is) c.requires
