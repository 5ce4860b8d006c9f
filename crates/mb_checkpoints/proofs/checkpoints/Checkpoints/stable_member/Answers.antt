use Rattle.std.proofs.Common.{◌≡◌, true, Some, None, ap, sym, ◌∙◌}
use Rattle.std.specs.Prelude.{option_map, option_and_then}
use Rattle.mb_model.specs.Stable.{stable_member}
use Rattle.mb_checkpoints.specs.Agreement.{says}
use Rattle.mb_checkpoints.specs.Certificates.{message_at, if_so}
use Rattle.mb_checkpoints.proofs.checkpoints.Checkpoints.stable_member.Goals as goal

pub returns-in-Some : goal.returns-in-Some
returns-in-Some c =
    let t = c.args.self.now in
    let m = c.in-Some.kept.now.message in
    let here : message_at t c.args.number c.args.host ≡ Some m = ap (option_map (λ k. k.message)) (sym c.get.ensures ∙ ap (option_map (λ k. k.now)) c.in-Some.is) in
    let it_says : says None c.args.said.now m ≡ true = sym c.says.ensures ∙ c.if-says.true in
    ap (λ x. Some x) (c.member.ensures t.shape)
    ∙ sym (ap (λ b. if_so b (Some (stable_member t.shape m))) it_says)
    ∙ sym (ap (option_and_then (λ x. if_so (says None c.args.said.now x) (Some (stable_member t.shape x)))) here)
