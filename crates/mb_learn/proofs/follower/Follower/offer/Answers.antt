use Rattle.std.proofs.Common.{◌≡◌, true, refl, sym, ap, subst, ◌∙◌}
use Rattle.mb_base.specs.declared.shape.Shape.{Shape}
use Rattle.mb_parts.specs.Certificates.{inner_valid}
use Rattle.mb_parts.specs.declared.floor.Mark.{Mark}
use Rattle.mb_gate.specs.Marks.{IsMarkOf, is_stamped_kind}
use Rattle.mb_msg.specs.Stamps.{bare_of}
use Rattle.mb_model.specs.Verified.{verifies}
use Rattle.mb_audit.specs.Walks.{log_of}
use Rattle.mb_audit.proofs.Judging.{stamped_kind, marked, mark_counter}
use Rattle.mb_learn.proofs.Offering.{may_next, may_not}
use Rattle.mb_learn.proofs.Tests.{true_false}
use Rattle.mb_learn.proofs.follower.Follower.offer.Goals as goal

pub offer-requires : goal.offer-requires
offer-requires c = subst (λ (k : Mark). is_stamped_kind k.kind ≡ true) (sym c.mark.ensures) (stamped_kind c.args.stamp.now)

pub returns-in-Next-clause-gate : goal.returns-in-Next-clause-gate
returns-in-Next-clause-gate c s host l is r at =
    let m = c.args.stamp.now in
    let mark = subst (λ (k : Mark). IsMarkOf k (bare_of m)) (sym c.mark.ensures) (marked m) in
    let inner = c.in_ok-inner.ensures ∙ ap (λ (z : Shape). inner_valid z (verifies c.args.usig.now.secret) (bare_of m)) (sym is) in (
      may_next s c.args.usig.now.secret host l m c.mark.result.counter c.in_ok-inner.inner (ap (λ (k : Mark). k.counter) c.mark.ensures ∙ mark_counter m ∙ at) inner _ (c.in-Next.ensures.answer (log_of s host l) (bare_of m) r mark) refl,
      λ taken. c.in-Next.ensures.stands (log_of s host l) (bare_of m) r mark,
    )

pub returns-in_default-clause-gate : goal.returns-in_default-clause-gate
returns-in_default-clause-gate c s host l is r at =
    let m = c.args.stamp.now in
    let mark = subst (λ (k : Mark). IsMarkOf k (bare_of m)) (sym c.mark.ensures) (marked m) in
    let inner = c.in_ok-inner.ensures ∙ ap (λ (z : Shape). inner_valid z (verifies c.args.usig.now.secret) (bare_of m)) (sym is) in (
      may_not s c.args.usig.now.secret host l m c.mark.result.counter c.in_ok-inner.inner (ap (λ (k : Mark). k.counter) c.mark.ensures ∙ mark_counter m ∙ at) inner c.offer.result (c.offer.ensures.answer (log_of s host l) (bare_of m) r mark) c.in_default.not-Next,
      λ taken. true_false (sym taken),
    )
