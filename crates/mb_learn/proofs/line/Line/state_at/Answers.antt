use Rattle.std.proofs.Common.{◌≡◌, ℕ, ◌-◌, ◌/◌, ◌%◌, List, slice_get, sym, ap, subst, ◌∙◌}
use Rattle.mb_base.specs.Shapes.{Bytes}
use Rattle.mb_learn.proofs.Noting.{got_copied, state_zero, state_between, state_multiple}
use Rattle.mb_learn.proofs.line.Line.state_at.Goals as goal
use Rattle.mb_learn.proofs.line.Line.state_at.Goals.{then-pos-eq0-via-then-pos-eq0, then-pos-eq0-via-else-pos-eq0+then-pos-interval-ne0}

pub returns-then-pos-eq0 : goal.returns-then-pos-eq0
returns-then-pos-eq0 g c = elim c.then-pos-eq0.branch [
  | then-pos-eq0-via-then-pos-eq0 w ↦ sym (state_zero c.args.self.now c.args.pos w.if-pos-eq0.true)
  | then-pos-eq0-via-else-pos-eq0+then-pos-interval-ne0 w ↦
      sym (state_between c.args.self.now c.args.pos w.if-pos-eq0.false (subst (λ (k : ℕ). c.args.pos % k ≡ 0 → ⊥) (c.from-interval.ensures ∙ c.k.ensures) w.if-pos-interval-ne0.true))
]

pub returns : goal.returns
returns g c =
    let states = c.args.self.now.states.items in
    let pos = c.args.pos in
    let at = c.get.ensures.lookup in
    let interval = c.from-interval.ensures ∙ c.k.ensures in
    got_copied c.deref.result.now (pos / c.from-interval.result - 1) c.get.result at.0 at.1
    ∙ (ap (λ (l : List Bytes). slice_get l (pos / c.from-interval.result - 1)) c.deref.ensures.value
    ∙ (ap (λ (k : ℕ). slice_get states (pos / k - 1)) interval
    ∙ sym (state_multiple c.args.self.now pos c.if-pos-eq0.false (subst (λ (k : ℕ). pos % k ≡ 0) interval c.if-pos-interval-ne0.false))))
