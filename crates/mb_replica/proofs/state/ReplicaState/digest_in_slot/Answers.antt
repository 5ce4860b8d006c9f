use Rattle.std.proofs.Common.{◌≡◌, ◌∙◌, sym, subst}
use Rattle.std.specs.Prelude.{IfSome}
use Rattle.mb_parts.specs.declared.batch.Batch.{Batch}
use Rattle.mb_parts.specs.Bares.{batch_digest}
use Rattle.mb_parts.specs.Spelling.{batch_bytes}
use Rattle.mb_msg.specs.declared.message.Body.{Body}
use Rattle.mb_msg.specs.Bodies.{body_digest}
use Rattle.mb_plan.proofs.SameBatch.{same_batch}
use Rattle.mb_replica.proofs.state.ReplicaState.digest_in_slot.Goals as goal

-- src/stamped.rt
pub returns-then-eq : goal.returns-then-eq
returns-then-eq g c =
    let kept = c.kept_digest.result in
    let same : c.in_ok-ordered.ordered.now ≡ c.in-Whole.batch = same_batch _ _ (sym c.eq.ensures ∙ c.if-eq.true) in
    subst (λ (b : Body Batch). IfSome kept (λ d. d ≡ body_digest batch_bytes b)) (sym c.in-Whole.is) (subst (λ (b : Batch). IfSome kept (λ d. d ≡ batch_digest b)) same c.kept_digest.ensures)
