use Rattle.std.proofs.Common.{◌∙◌, ap, Some}
use Rattle.mb_parts.specs.declared.batch.Batch.{Batch}
use Rattle.mb_normal.specs.Searches.{searches_in}
use Rattle.mb_core.proofs.executing.batch_at.Goals as goal

-- src/executing.rt
pub returns-in_ok-duplicate-in-Some : goal.returns-in_ok-duplicate-in-Some
returns-in_ok-duplicate-in-Some g c = λ me d r.
    ap (λ (b : Batch). Some b) c.in_ok-duplicate-in-Some.ensures ∙ c.in-Some.ensures me.shape me.host (searches_in me d) r.tables.normal

pub returns-in-None : goal.returns-in-None
returns-in-None g c = λ me d r. c.in-None.ensures me.shape me.host (searches_in me d) r.tables.normal
