use Rattle.std.proofs.Common.{sym, ap, subst, ◌∙◌}
use Rattle.mb_make.specs.declared.maker.Maker.{Maker}
use Rattle.mb_make.specs.Draws.{Draw, Represents, stepped, draw}
use Rattle.mb_make.proofs.DrawLaws.{first_drawn, later_drawn}
use Rattle.mb_make.proofs.maker.Maker.draw.Goals.{then-self+in_ok-event, else-self+in_ok-event-2}
use Rattle.mb_make.proofs.maker.Maker.draw.Goals as goal

pub returns-clause-drawn : goal.returns-clause-drawn
returns-clause-drawn c = λ g r. elim c.if-self.branch [
  | then-self+in_ok-event w ↦
      let later = sym (later_drawn c.args.pool g (sym r.started ∙ w.if-self.true)) in
      let q = w.in_ok-event.ensures (stepped g) (c.stepped-next.ensures.step g r) in (
        w.event-is ∙ q.0 ∙ ap (λ (y : Draw). y.event) later,
        subst (λ (m : Maker). Represents m (draw c.args.pool g).left) (sym w.next-is) (subst (λ (y : Draw). Represents w.chosen.new.self y.left) later q.1),
      )
  | else-self+in_ok-event-2 w ↦
      let first = sym (first_drawn c.args.pool g (sym r.started ∙ w.if-self.false)) in
      let q = w.in_ok-event-2.ensures (stepped g) (c.stepped-next.ensures.step g r) in (
        w.event-is ∙ q.0 ∙ ap (λ (y : Draw). y.event) first,
        subst (λ (m : Maker). Represents m (draw c.args.pool g).left) (sym w.next-is) (subst (λ (y : Draw). Represents c.stepped-next.result y.left) first q.1),
      )
]
