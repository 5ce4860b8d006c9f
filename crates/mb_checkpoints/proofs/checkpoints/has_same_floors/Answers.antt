use Rattle.std.proofs.Common.{◌≡◌, ◌∙◌, sym, ap}
use Rattle.mb_msg.specs.declared.message.Body.TheVariants as body
use Rattle.mb_msg.specs.declared.normal.Floors.{Floors}
use Rattle.mb_checkpoints.proofs.SameFloors.{same_floors}
use Rattle.mb_checkpoints.proofs.checkpoints.has_same_floors.Goals as goal

pub returns : goal.returns
returns c = λ equal.
    let same : c.in-Whole.own ≡ c.in-Whole-body.other = same_floors _ _ (sym c.eq.ensures ∙ equal) in
    c.in-Whole.is ∙ (ap (λ (floors : Floors). body.Whole floors) same ∙ sym c.in-Whole-body.is)
