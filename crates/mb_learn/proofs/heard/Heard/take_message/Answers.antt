use Rattle.std.proofs.Common.{◌≡◌, List, map, ap, subst, ◌∙◌}
use Rattle.std.proofs.lemmas.Result.{on_ok_weaker}
use Rattle.mb_base.specs.declared.shape.Shape.{Shape}
use Rattle.mb_parts.specs.Claims.{Claim}
use Rattle.mb_model.specs.GateChecks.{stamp_claim}
use Rattle.mb_model.specs.Inside.{claims_in}
use Rattle.mb_learn.specs.Hearing.{Takes}
use Rattle.mb_learn.specs.Shown.{shown_in}
use Rattle.mb_learn.proofs.Going.{keeps_then}
use Rattle.mb_learn.proofs.Taking.{takes_message}
use Rattle.mb_learn.proofs.heard.Heard.take_message.Goals as goal

pub returns : goal.returns
returns c = record {
  takes = λ s secret claims shown lists h.
      let same : map stamp_claim c.as_slice.result.now ≡ claims_in s c.args.message =
      ap (map stamp_claim) c.as_slice.ensures.value ∙ c.in_ok-stamps.ensures.say ∙ ap (claims_in c.hold_message.new.self.shape) c.in_ok-message.ensures.same ∙ ap (λ (z : Shape). claims_in z c.args.message) (c.in_ok-message.ensures.holds.keeps.shape ∙ h.hears.shape) in
      on_ok_weaker c.take_stamps.result
      (λ q. takes_message c.args.self.now c.hold_message.new.self c.take_stamps.new.self (shown_in c.args.message) (claims_in s c.args.message) c.in_ok-message.ensures.holds
      (subst (λ (l : List Claim). Takes l c.hold_message.new.self c.take_stamps.new.self) same q) s secret claims shown lists h) c.take_stamps.ensures;
  keeps = on_ok_weaker c.take_stamps.result (λ q. keeps_then c.args.self.now c.hold_message.new.self c.take_stamps.new.self c.in_ok-message.ensures.holds.keeps q.keeps) c.take_stamps.ensures;
}
