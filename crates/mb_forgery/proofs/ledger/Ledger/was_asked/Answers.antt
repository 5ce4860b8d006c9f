use Rattle.std.proofs.Common.{rules, subst, ◌∙◌}
use Rattle.mb_base.specs.Shapes.{IsShape}
use Rattle.mb_parts.specs.Fits.{FitsRequest}
use Rattle.mb_forgery.proofs.AskedLaws.{asked_alike}
use Rattle.mb_forgery.proofs.ledger.Ledger.was_asked.Goals as goal

pub returns : goal.returns
returns c s stamps asked tagged keeps =
    let r = c.args.request.now in
    let shape : IsShape c.args.self.now.shape = search rules in
    c.has.ensures asked keeps.asked ∙ asked_alike s (subst IsShape keeps.shape shape) r (subst (λ z. FitsRequest z r) keeps.shape c.requires) asked keeps.fits
