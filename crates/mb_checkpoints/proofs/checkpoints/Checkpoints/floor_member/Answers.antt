use Rattle.std.proofs.Common.{◌≡◌, Some, ap, sym, ◌∙◌, subst}
use Rattle.std.specs.Prelude.{option_map, option_and_then, IfOk}
use Rattle.mb_model.specs.Stable.{kept_floor, floor_member}
use Rattle.mb_checkpoints.specs.Agreement.{says}
use Rattle.mb_checkpoints.specs.Certificates.{message_at, if_so}
use Rattle.mb_checkpoints.proofs.checkpoints.Checkpoints.floor_member.Goals as goal

pub returns-in-Some : goal.returns-in-Some
returns-in-Some c =
    let t = c.args.self.now in
    let here : message_at t c.args.number c.args.host ≡ Some c.in-Some.kept.now.message = ap (option_map (λ k. k.message)) (sym c.get.ensures ∙ ap (option_map (λ k. k.now)) c.in-Some.is) in
    subst (λ o. IfOk c.member_saying.result (λ m. m ≡ option_and_then (λ x. if_so (says (Some c.args.owner) c.args.said.now x) (option_map (floor_member t.shape) (kept_floor c.args.owner x))) o)) (sym here) (c.member_saying.ensures t.shape)
