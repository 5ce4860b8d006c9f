use Rattle.mb_model.specs.Inside.{claims_in}
use Rattle.mb_certified.proofs.Adding.{adds_all}
use Rattle.mb_certified.proofs.certified.certified_in.Goals as goal

pub returns : goal.returns
returns c = adds_all c.args.shape.now c.new-out.result.items c.add_message.new.out.items (claims_in c.args.shape.now c.args.message) c.new-out.ensures.items c.in_ok-add_message.ensures
