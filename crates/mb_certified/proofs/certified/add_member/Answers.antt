use Rattle.std.proofs.Common.{◌∷◌, [], ◌++◌, List, ap}
use Rattle.mb_base.specs.Shapes.{Bytes}
use Rattle.mb_parts.specs.Claims.{Claim}
use Rattle.mb_msg.specs.declared.stamped.Stamped.{Stamped}
use Rattle.mb_msg.specs.declared.stamped.Stamped.TheVariants as stamped
use Rattle.mb_msg.specs.Bodies.{inside_whole}
use Rattle.mb_model.specs.GateChecks.{stamp_claim}
use Rattle.mb_model.specs.Inside.{change_claims, member_claims}
use Rattle.mb_certified.specs.Certified.{bare_form}
use Rattle.mb_certified.proofs.Adding.{adds_one, adds_then, adds_same}
use Rattle.mb_certified.proofs.BareForms.{form_bare, form_says}
use Rattle.mb_certified.proofs.certified.add_member.Goals as goal

pub returns : goal.returns
returns c =
    let inside : List Claim = inside_whole (change_claims c.args.shape.now) c.args.m.now.body in
    let m : Stamped = stamped.ViewChange c.args.m.now in
    let digest : Bytes = c.in_ok-change_digest.field-0 in
    adds_same c.args.shape.now c.args.out.now.items c.push.new.self.items (inside ++ stamp_claim (bare_form digest m) ∷ []) (member_claims c.args.shape.now c.args.m.now)
    (ap (λ (x : Claim). inside ++ x ∷ []) (form_says c.args.shape.now m digest c.in_ok-change_digest.ensures))
    (adds_then c.args.shape.now c.args.out.now.items c.add_change.new.out.items c.push.new.self.items inside (stamp_claim (bare_form digest m) ∷ []) c.in_ok-add_change.ensures
    (adds_one c.args.shape.now c.add_change.new.out.items c.push.new.self.items (bare_form digest m) c.in_ok-push.ensures.items (form_bare c.args.shape.now m digest c.in_ok-change_digest.ensures c.requires)))
