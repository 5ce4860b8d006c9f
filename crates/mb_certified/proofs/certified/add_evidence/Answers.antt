use Rattle.std.proofs.Common.{◌∷◌, [], ◌++◌, ap, ◌∙◌}
use Rattle.mb_parts.specs.Claims.{new_view_claim}
use Rattle.mb_msg.specs.declared.stamped.Stamped.{Stamped}
use Rattle.mb_certified.specs.Certified.{new_view_stamp, enters_of}
use Rattle.mb_certified.proofs.Adding.{adds_one, then_ok}
use Rattle.mb_certified.proofs.BareForms.{new_view_bare, primary_there}
use Rattle.mb_certified.proofs.certified.add_evidence.Goals as goal

pub returns : goal.returns
returns c =
    then_ok c.args.shape.now c.add_enters.result c.args.out.now.items c.push.new.self.items c.add_enters.new.out.items (new_view_claim c.args.shape.now c.args.e.now ∷ []) (enters_of c.args.e.now)
    (adds_one c.args.shape.now c.args.out.now.items c.push.new.self.items (new_view_stamp c.args.shape.now c.args.e.now)
    (c.in_ok-push.ensures.items ∙ ap (λ (v : Stamped). c.args.out.now.items ++ v ∷ []) c.new_view_stamp.ensures)
    (new_view_bare c.args.shape.now c.args.e.now (primary_there c.args.shape.now c.args.e.now.view) c.requires))
    (c.add_enters.ensures c.args.shape.now c.requires)
