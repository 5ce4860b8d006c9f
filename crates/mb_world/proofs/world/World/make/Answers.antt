use Rattle.std.proofs.Common.{◌∙◌, [], refl, sym, subst}
use Rattle.mb_base.specs.declared.shape.Shape.{Shape}
use Rattle.mb_forgery.specs.Ledgers.{Keeps}
use Rattle.mb_world_model.specs.Refusals.{refusals}
use Rattle.mb_world_model.specs.World.{nothing_happened}
use Rattle.mb_members.proofs.MarkLaws.{none_marked}
use Rattle.mb_members.proofs.KeepLaws.{nothing_kept}
use Rattle.mb_world.proofs.world.World.make.Goals as goal

pub returns-clause-stands : goal.returns-clause-stands
unfolding refusals
returns-clause-stands g c = λ y is shape secret hosts clients services.
    let s = y.schedule in
    let ledger = c.in_ok-make.field-0 in
    record {
      members = c.in_ok-new_members.ensures.stands y is shape secret hosts services;
      rest = record {
        shape = sym shape;
        verifier = rw (shape, secret) c.new.ensures;
        pens = c.in_ok-pens.ensures.pens s shape secret;
        hosts = c.in_ok-from_slice.ensures.items ∙ sym hosts;
        clients = c.in_ok-from_slice-2.ensures.items ∙ sym clients;
        askers = c.in_ok-askers.ensures.stands s shape secret;
        ledger = nothing_kept s ledger (subst (λ (z : Shape). Keeps z ledger (λ h. []) [] []) (sym shape) c.in_ok-make.ensures);
        pool = c.new-3.ensures.items;
        marks = none_marked s nothing_happened _ c.new-4.ensures.items;
        line = c.new-5.ensures.items;
        refused = c.new-6.ensures.items;
        events = refl;
      };
    }
