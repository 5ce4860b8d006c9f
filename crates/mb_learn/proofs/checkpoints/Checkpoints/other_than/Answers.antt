use Rattle.std.proofs.Common.{◌≡◌, ◌≤◌, false, List, take, take_all, sym, subst}
use Rattle.std.specs.List.{AllByRecursion}
use Rattle.mb_base.specs.Shapes.{host_count, quorum, tally}
use Rattle.mb_usig.specs.Tags.{same_bytes}
use Rattle.mb_learn.specs.declared.checkpoints.Said.{Said}
use Rattle.mb_learn.specs.Tables.{says}
use Rattle.mb_learn.proofs.Lowest.{none_says}
use Rattle.mb_learn.proofs.checkpoints.Checkpoints.other_than.Goals as goal

pub returns-clause-none : goal.returns-clause-none
returns-clause-none c d many other =
    let s = c.args.shape.now in
    let all = c.at-all.result.now in
    let found = c.args.found.now in
    let whole : take c.loop-said.said-index all ≡ all = take_all c.loop-said.said-index all c.loop-said-test.false in
    none_says s all found
    (subst (λ (l : List Said). AllByRecursion (λ x. quorum s ≤ tally (λ h. says all h x.state) (host_count s) → same_bytes x.state found ≡ false → ⊥) l) whole c.loop-said.invariant)
    d (subst (λ (l : List Said). quorum s ≤ tally (λ h. says l h d) (host_count s)) (sym c.at-all.ensures) many) other
