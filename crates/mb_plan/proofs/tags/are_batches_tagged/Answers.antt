use Rattle.std.proofs.Common.{◌≡◌, Some, slice_get, sym, ap, ◌∙◌}
use Rattle.std.proofs.lemmas.Option.{slice_get-get_or}
use Rattle.mb_model.specs.Verified.{are_rightly_tagged}
use Rattle.mb_plan.proofs.TestLists.{all_holds, all_fails, all_hold}
use Rattle.mb_plan.proofs.tags.are_batches_tagged.Goals as goal

pub returns-then-not-branch : goal.returns-then-not-branch
returns-then-not-branch c =
    let there : slice_get c.args.batches.now c.loop-batch.batch-index ≡ Some c.batch-item.result =
    slice_get-get_or _ _ c.batch-item.result c.loop-batch-test.true ∙ ap (λ x. Some x) (sym c.batch-item.is) in
    all_fails (are_rightly_tagged c.args.usig.now.secret) c.args.batches.now _ c.loop-batch.invariant c.batch-item.result _ there c.in_ok-is_batch_tagged.ensures c.if-not-branch.true

pub loop-batch-preserved : goal.loop-batch-preserved
loop-batch-preserved c =
    let there : slice_get c.args.batches.now c.loop-batch.batch-index ≡ Some c.batch-item.result =
    slice_get-get_or _ _ c.batch-item.result c.loop-batch-test.true ∙ ap (λ x. Some x) (sym c.batch-item.is) in
    all_holds (are_rightly_tagged c.args.usig.now.secret) c.args.batches.now _ c.loop-batch.invariant c.batch-item.result _ there c.in_ok-is_batch_tagged.ensures c.if-not-branch.false

pub returns : goal.returns
returns c = all_hold (are_rightly_tagged c.args.usig.now.secret) c.args.batches.now _ c.loop-batch.invariant c.loop-batch-test.false
