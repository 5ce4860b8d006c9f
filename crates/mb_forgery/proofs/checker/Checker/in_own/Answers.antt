use Rattle.std.proofs.Common.{◌≡◌, option_map, ap, sym, subst, ◌∙◌, ◌∷◌, []}
use Rattle.std.specs.Global.{Vec}
use Rattle.std.specs.Prelude.{ℕ}
use Rattle.std.proofs.lemmas.Option.{same_Some}
use Rattle.mb_parts.specs.Fits.{FitsBare}
use Rattle.mb_parts.specs.Bares.{bare_bytes}
use Rattle.mb_msg.specs.declared.stamped.Stamped.{Stamped}
use Rattle.mb_msg.specs.Stamps.{bare_of, ui_of}
use Rattle.mb_msg.proofs.Injective.{bare_fits}
use Rattle.mb_model.specs.Compared.{inside_some}
use Rattle.mb_model.specs.Inside.{sender_claim}
use Rattle.mb_forgery.specs.Checks.{first_forged}
use Rattle.mb_forgery.proofs.MemberLaws.{own_is}
use Rattle.mb_forgery.proofs.checker.Checker.in_own.Goals as goal

pub returns-in-Some-2 : goal.returns-in-Some-2
returns-in-Some-2 c s w a =
    let o = own_is c.args.self.now.shape.now c.args.message.now c.in-Some.ui c.requires (sym c.in-Some.is ∙ c.ui_of.ensures) in
    let says : c.in-Some-2.bare.items ≡ bare_bytes (bare_of o.0) = same_Some c.in-Some-2.bare.items (bare_bytes (bare_of o.0))
    (sym (ap (option_map (λ (v : Vec ℕ). v.items)) c.in-Some-2.is) ∙ c.in_ok-bare.ensures ∙ ap (option_map (λ (x : Stamped). bare_bytes (bare_of x))) o.1.0) in
    c.forged.ensures s w (bare_of o.0) a (subst (λ z. FitsBare z (bare_of o.0)) a.shape (bare_fits c.args.self.now.shape.now o.0 o.1.1.0)) (c.as_slice.ensures.value ∙ says)
    ∙ ap (λ u. first_forged s w (sender_claim u (bare_of o.0) ∷ [])) o.1.1.1
    ∙ ap (λ x. first_forged s w (inside_some (λ y. sender_claim (ui_of y) (bare_of y) ∷ []) x)) (sym o.1.0)
