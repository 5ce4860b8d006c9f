use Rattle.std.proofs.Common.{refl, ap, ◌∙◌, [], ◌∷◌}
use Rattle.sha2.specs.Sha256.{sha256}
use Rattle.mb_base.specs.Spelling.{number}
use Rattle.mb_plan.proofs.PlanDigests.{hashed_in_order}
use Rattle.mb_plan.proofs.plan_digests.digest_beside.Goals as goal

pub returns : goal.returns
unfolding number
returns c =
    let one = c.update.ensures [] c.new-hasher.ensures in
    let two = c.update-2.ensures _ one in
    let three = c.update-3.ensures _ two in
    let four = c.feed.ensures _ three in
    c.finalize.ensures _ four
    ∙ ap sha256 (hashed_in_order c.args.base (80 ∷ []) c.to_be_bytes.result c.args.state.now c.args.batches.now refl c.to_be_bytes.ensures)
