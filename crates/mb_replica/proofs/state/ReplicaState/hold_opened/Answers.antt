use Rattle.std.proofs.Common.{◌∙◌, refl, sym}
use Rattle.std.proofs.lemmas.Result.{on_ok_weaker}
use Rattle.mb_replica.proofs.Held.{opened_alone, opened_with_plan}
use Rattle.mb_replica.proofs.state.ReplicaState.hold_opened.Goals as goal

-- src/opens.rt
pub returns-then-gives_plan : goal.returns-then-gives_plan
returns-then-gives_plan g c = λ me d r.
    on_ok_weaker c.hold_body.result (λ held.
    opened_with_plan me d c.args.self.now c.hold_news.new.self _ c.args.m c.hold_news.ensures.writes (c.hold_news.ensures.holds me d r) (record { same = record { shape = refl; host = refl; secret = refl }; tables = refl }) c.opened.ensures.stands c.hold_body.new.self
    (sym (c.gives_plan-gives_plan.ensures me d r) ∙ c.if-gives_plan.true) held) c.hold_body.ensures

pub returns : goal.returns
returns g c = λ me d r.
    opened_alone me d c.args.self.now c.hold_news.new.self _ c.args.m c.hold_news.ensures.writes (c.hold_news.ensures.holds me d r) (record { same = record { shape = refl; host = refl; secret = refl }; tables = refl }) c.opened.ensures.stands
    (sym (c.gives_plan-gives_plan.ensures me d r) ∙ c.if-gives_plan.false)
