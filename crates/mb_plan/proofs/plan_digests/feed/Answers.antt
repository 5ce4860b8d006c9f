use Rattle.std.proofs.Common.{◌≡◌, ◌++◌, List, ℕ, take, ap, subst}
use Rattle.std.specs.List.{flat_map}
use Rattle.std.proofs.lemmas.List.{take_all}
use Rattle.mb_parts.specs.Bares.{batch_digest}
use Rattle.mb_plan.proofs.PlanDigests.{one_more_digest}
use Rattle.mb_plan.proofs.plan_digests.feed.Goals as goal

pub loop-index-preserved : goal.loop-index-preserved
loop-index-preserved g c = λ m holds.
    let bs = c.args.batches.now in
    let i = c.loop-index.index in
    let d : List ℕ = c.digest_of.result in
    let next = one_more_digest m bs i c.index-batches-index.result d c.loop-index-test.true c.index-batches-index.is c.digest_of.ensures in
    subst (g.H.Digest.holds c.update.new.self) next (c.update.ensures _ (c.loop-index.invariant m holds))

pub returns : goal.returns
returns g c = λ m holds.
    let bs = c.args.batches.now in
    let all : take c.loop-index.index bs ≡ bs = take_all _ bs c.loop-index-test.false in
    subst (g.H.Digest.holds c.loop-index.hasher) (ap (λ xs. m ++ flat_map batch_digest xs) all) (c.loop-index.invariant m holds)
