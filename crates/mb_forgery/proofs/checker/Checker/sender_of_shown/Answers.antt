use Rattle.std.proofs.Common.{ap, subst, ◌∙◌, ◌∷◌, []}
use Rattle.mb_parts.specs.Fits.{FitsBare}
use Rattle.mb_msg.specs.Stamps.{bare_of_shown}
use Rattle.mb_model.specs.Inside.{sender_claim}
use Rattle.mb_forgery.specs.Checks.{first_forged}
use Rattle.mb_forgery.proofs.MemberLaws.{shown_fits}
use Rattle.mb_forgery.proofs.checker.Checker.sender_of_shown.Goals as goal

pub returns : goal.returns
returns c s w a =
    c.forged.ensures s w (bare_of_shown c.args.entry.now) a (subst (λ z. FitsBare z (bare_of_shown c.args.entry.now)) a.shape (shown_fits c.args.self.now.shape.now c.args.entry.now c.requires)) (c.as_slice.ensures.value ∙ c.in_ok-bare.ensures)
    ∙ ap (λ u. first_forged s w (sender_claim u (bare_of_shown c.args.entry.now) ∷ [])) c.ui.ensures
