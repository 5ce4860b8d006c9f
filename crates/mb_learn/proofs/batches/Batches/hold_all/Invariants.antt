use Rattle.std.proofs.Common.{◌≡◌, take, find}
use Rattle.std.specs.Option.{option_or}
use Rattle.mb_base.specs.Shapes.{Bytes}
use Rattle.mb_usig.specs.Tags.{same_bytes}
use Rattle.mb_parts.specs.Bares.{batch_digest}
use Rattle.mb_learn.specs.Tables.{batch_at}
use Rattle.mb_learn.proofs.batches.Batches.hold_all.Given as goal

abbrev pub invariant-loop-batch : goal.invariant-loop-batch
invariant-loop-batch l = (d : Bytes) → batch_at l.self d ≡ option_or (batch_at l.initial.self d) (find (λ b. same_bytes (batch_digest b) d) (take l.batch-index l.batches))
