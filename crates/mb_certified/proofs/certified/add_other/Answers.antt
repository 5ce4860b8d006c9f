use Rattle.std.proofs.Common.{[], sym}
use Rattle.mb_model.specs.Inside.{claims_in}
use Rattle.mb_certified.proofs.Adding.{adds_none, adds_same}
use Rattle.mb_certified.proofs.BareForms.{none_in}
use Rattle.mb_certified.proofs.certified.add_other.Goals as goal

pub returns-in_default : goal.returns-in_default
returns-in_default c = adds_same c.args.shape.now c.args.out.now.items c.args.out.now.items [] (claims_in c.args.shape.now c.args.message.now) (sym (none_in c.args.shape.now c.args.message.now c.requires.1 c.in_default.not-Log)) (adds_none c.args.shape.now c.args.out.now.items)
