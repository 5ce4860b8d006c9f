use Rattle.std.proofs.Common.{◌++◌, sym, ap, subst, ◌∙◌}
use Rattle.std.proofs.lemmas.List.{append-nil}
use Rattle.mb_parts.specs.Claims.{evidence_claims, stable_claims}
use Rattle.mb_msg.specs.declared.message.Body.{Body}
use Rattle.mb_msg.specs.declared.change.OpenBody.{OpenBody}
use Rattle.mb_msg.specs.Bodies.{FitsBody, inside_whole}
use Rattle.mb_msg.specs.Fits.{FitsOpenBody}
use Rattle.mb_model.specs.Inside.{open_claims, open_body_claims}
use Rattle.mb_certified.proofs.Adding.{adds_same, same_ok, then_ok}
use Rattle.mb_certified.proofs.certified.add_open.Goals as goal

pub returns-in-Whole : goal.returns-in-Whole
returns-in-Whole c =
    let claims = evidence_claims c.args.shape.now c.args.m.now.evidence in
    let fits : FitsOpenBody c.args.shape.now c.args.m.now.evidence c.in-Whole.body = subst (FitsBody (FitsOpenBody c.args.shape.now c.args.m.now.evidence)) c.in-Whole.is c.requires.body in
    same_ok c.args.shape.now c.add_stable.result c.args.out.now.items c.add_stable.new.out.items (claims ++ stable_claims c.in-Whole.body.stable) (open_claims c.args.shape.now c.args.m.now)
    (ap (λ (b : Body OpenBody). claims ++ inside_whole open_body_claims b) (sym c.in-Whole.is))
    (then_ok c.args.shape.now c.add_stable.result c.args.out.now.items c.add_evidence.new.out.items c.add_stable.new.out.items claims (stable_claims c.in-Whole.body.stable) c.in_ok-add_evidence.ensures
    (c.add_stable.ensures c.args.shape.now fits.0.0))

pub returns-in-Bare : goal.returns-in-Bare
returns-in-Bare c =
    let claims = evidence_claims c.args.shape.now c.args.m.now.evidence in
    adds_same c.args.shape.now c.args.out.now.items c.add_evidence.new.out.items claims (open_claims c.args.shape.now c.args.m.now)
    (sym (append-nil claims) ∙ ap (λ (b : Body OpenBody). claims ++ inside_whole open_body_claims b) (sym c.in-Bare.is)) c.in_ok-add_evidence.ensures
