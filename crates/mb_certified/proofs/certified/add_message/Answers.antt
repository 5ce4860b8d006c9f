use Rattle.mb_model.specs.Inside.{stamped_claims, claims_in}
use Rattle.mb_certified.proofs.Adding.{same_ok}
use Rattle.mb_certified.proofs.BareForms.{some_in}
use Rattle.mb_certified.proofs.certified.add_message.Goals as goal

pub returns-in-Ok : goal.returns-in-Ok
returns-in-Ok c =
    same_ok c.args.shape.now c.add_stamped-added.result c.args.out.now.items c.add_stamped-added.new.out.items (stamped_claims c.args.shape.now c.in-Ok.stamped) (claims_in c.args.shape.now c.args.message)
    (some_in c.args.shape.now c.args.message c.in-Ok.stamped c.in-Ok.ensures) c.add_stamped-added.ensures
