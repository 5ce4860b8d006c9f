use Rattle.std.proofs.Common.{◌≡◌, ◌+◌, ℕ, List, Option, take, take_all, length, slice_get, sym, ap, subst, ◌∙◌, arith}
use Rattle.std.proofs.lemmas.Option.{slice_get-get_or}
use Rattle.mb_learn.specs.declared.difference.Difference.{Difference}
use Rattle.mb_learn.proofs.Lowest.{LowestOf, low_first, low_next}
use Rattle.mb_learn.proofs.learner.Learner.lowest_difference.Goals as goal

pub loop-pos-init : goal.loop-pos-init
loop-pos-init g c = low_first c.args.self.now.heard c.args.self.now.line c.args.self.now.heard.newly_said.items

pub loop-pos-preserved : goal.loop-pos-preserved
loop-pos-preserved g c =
    let t = c.args.self.now in
    let l = t.heard.newly_said.items in
    let i = c.loop-pos.pos-index in
    subst (λ (o : Option Difference). LowestOf t.heard t.line (take (i + 1) l) o) (sym c.lowest-lowest.ensures)
    (low_next t.heard t.line l i _ (ap (λ (x : List ℕ). slice_get x i) (sym c.as_slice-pos-items.ensures.value) ∙ slice_get-get_or c.as_slice-pos-items.result.now i _ c.loop-pos-test.true) c.loop-pos.lowest c.difference_at.result c.loop-pos.invariant
    c.difference_at.ensures.some c.difference_at.ensures.none)

pub returns : goal.returns
returns g c =
    let t = c.args.self.now in
    let l = t.heard.newly_said.items in
    let all : take c.loop-pos.pos-index l ≡ l = take_all c.loop-pos.pos-index l (omega (arith, c.loop-pos-test.false, ap (λ (x : List ℕ). length x) c.as_slice-pos-items.ensures.value)) in
    let done : LowestOf t.heard t.line l c.loop-pos.lowest = subst (λ (x : List ℕ). LowestOf t.heard t.line x c.loop-pos.lowest) all c.loop-pos.invariant in
    record { some = done.some; none = done.none }
