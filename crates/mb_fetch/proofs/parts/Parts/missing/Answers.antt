use Rattle.std.proofs.Common.{◌≡◌, ◌≤◌, ◌∙◌, subst, ℕ, true, false, get_or, arith}
use Rattle.mb_base.specs.Limits.{part_count}
use Rattle.mb_fetch.specs.Fetched.{Fetched, IsFetched}
use Rattle.mb_fetch.proofs.Whole.{missing_stands, missing_found, missing_step, missing_end}
use Rattle.mb_fetch.proofs.parts.Parts.missing.Goals as goal

pub returns-then-not-self-from-clause-part : goal.returns-then-not-self-from-clause-part
returns-then-not-self-from-clause-part c =
    let t = c.args.self.now in
    let n = c.loop-part.part in
    let is : IsFetched t = subst IsFetched c.self.view_is c.self.invariant in
    let free : get_or t.held n false ≡ false =
    subst (λ (x : Fetched). get_or x.held n false ≡ false) c.self.view_is
    (subst (λ (i : ℕ). get_or c.self.inside.is_held i false ≡ false) c.from.ensures c.if-not-self-from.true)
    in missing_found t is n c.loop-part-test.true free c.loop-part.invariant

pub returns-then-not-self-from-clause-stands : goal.returns-then-not-self-from-clause-stands
returns-then-not-self-from-clause-stands c = λ pos digest search st. returns-then-not-self-from-clause-part c ∙ missing_stands c.args.self.now pos digest search st

pub loop-part-preserved : goal.loop-part-preserved
loop-part-preserved c =
    let t = c.args.self.now in
    let n = c.loop-part.part in
    let is : IsFetched t = subst IsFetched c.self.view_is c.self.invariant in
    let full : get_or t.held n false ≡ true =
    subst (λ (x : Fetched). get_or x.held n false ≡ true) c.self.view_is
    (subst (λ (i : ℕ). get_or c.self.inside.is_held i false ≡ true) c.from.ensures c.if-not-self-from.false)
    in missing_step t is n c.loop-part-test.true full c.loop-part.invariant

pub returns-clause-part : goal.returns-clause-part
returns-clause-part c =
    let t = c.args.self.now in
    let n = c.loop-part.part in
    let is : IsFetched t = subst IsFetched c.self.view_is c.self.invariant in
    let last = c.loop-part-test.false in
    let end : part_count ≤ n = omega (arith, last) in
    missing_end t is n end c.loop-part.invariant

pub returns-clause-stands : goal.returns-clause-stands
returns-clause-stands c = λ pos digest search st. returns-clause-part c ∙ missing_stands c.args.self.now pos digest search st
