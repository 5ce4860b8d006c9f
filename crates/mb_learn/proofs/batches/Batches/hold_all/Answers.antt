use Rattle.std.proofs.Common.{◌≡◌, cond, Option, Some, None, slice_get, sym, ap, ◌∙◌}
use Rattle.std.specs.Option.{option_or}
use Rattle.std.proofs.lemmas.Option.{slice_get-get_or}
use Rattle.mb_base.specs.Shapes.{Bytes}
use Rattle.mb_usig.specs.Tags.{same_bytes}
use Rattle.mb_parts.specs.declared.batch.Batch.{Batch}
use Rattle.mb_parts.specs.Bares.{batch_digest}
use Rattle.mb_learn.specs.Tables.{batch_at}
use Rattle.mb_learn.proofs.Finds.{find_next}
use Rattle.mb_learn.proofs.batches.Batches.hold_all.Goals as goal

pub loop-batch-preserved : goal.loop-batch-preserved
loop-batch-preserved c d =
    let item : Batch = c.batch-item.result in
    let i = c.loop-batch.batch-index in
    let there : slice_get c.args.batches.now i ≡ Some item = slice_get-get_or _ _ c.batch-item.result c.loop-batch-test.true ∙ ap (λ x. Some x) (sym c.batch-item.is) in
    c.in_ok-hold.ensures d
    ∙ (ap (λ (x : Bytes). option_or (batch_at c.loop-batch.self d) (cond (same_bytes x d) (Some item) None)) c.digest.ensures
    ∙ (ap (λ (o : Option Batch). option_or o (cond (same_bytes (batch_digest item) d) (Some item) None)) (c.loop-batch.invariant d)
    ∙ find_next (λ (b : Batch). same_bytes (batch_digest b) d) c.args.batches.now i item there (batch_at c.args.self.now d)))
