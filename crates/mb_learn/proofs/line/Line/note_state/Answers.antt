use Rattle.std.proofs.Common.{◌≡◌, ℕ, ◌%◌, subst, ◌∙◌}
use Rattle.mb_cache.specs.Represents.{snapshots_of}
use Rattle.mb_learn.proofs.Noting.{notes_not, notes_so}
use Rattle.mb_learn.proofs.line.Line.note_state.Goals as goal

pub returns-then-pos-from-ne0 : goal.returns-then-pos-from-ne0
returns-then-pos-from-ne0 g c =
    notes_not (snapshots_of g.V.Service.machine) c.args.pos c.args.self.now
    (subst (λ (k : ℕ). c.args.pos % k ≡ 0 → ⊥) (c.from.ensures ∙ c.k.ensures) c.if-pos-from-ne0.true)

pub returns : goal.returns
returns g c =
    notes_so (snapshots_of g.V.Service.machine) c.args.pos c.args.self.now c.state.new.self c.push.new.self c.in_ok-state.state c.state.ensures.kept
    (subst (λ (k : ℕ). c.args.pos % k ≡ 0) (c.from.ensures ∙ c.k.ensures) c.if-pos-from-ne0.false) c.in_ok-state.ensures.digest c.in_ok-push.ensures.items
