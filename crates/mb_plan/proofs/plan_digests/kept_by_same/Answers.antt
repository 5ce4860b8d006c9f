use Rattle.std.proofs.Common.{◌≡◌, ◌∙◌, sym, subst}
use Rattle.std.specs.Prelude.{IfSome}
use Rattle.mb_parts.specs.declared.batch.Batch.{Batch}
use Rattle.mb_parts.specs.Bares.{batch_digest}
use Rattle.mb_plan.proofs.SameBatch.{same_batch}
use Rattle.mb_plan.proofs.plan_digests.kept_by_same.Goals as goal

-- src/plan_digests.rt
pub returns-then-eq : goal.returns-then-eq
returns-then-eq c =
    subst (λ (b : Batch). IfSome c.kept_digest.result (λ d. d ≡ batch_digest b)) (same_batch _ _ (sym c.eq.ensures ∙ c.if-eq.true)) c.kept_digest.ensures
