use Rattle.std.proofs.Common.{◌≡◌, sym, ◌∙◌}
use Rattle.mb_model.specs.Verified.{verifies}
use Rattle.mb_world_model.specs.World.{stamps}
use Rattle.mb_model.specs.Inside.{sender_claim}
use Rattle.mb_forgery.proofs.ClaimLaws.{issued_clean, verified_forged, verified_by}
use Rattle.mb_forgery.proofs.checker.Checker.forged.Goals as goal

pub returns-then-is_issued : goal.returns-then-is_issued
returns-then-is_issued c s w says a fits is =
    issued_clean s w (sender_claim c.args.ui.now says) (sym c.if-is_issued.true ∙ c.is_issued.ensures s.shape (stamps s w) w.asked w.tagged says c.args.ui.now.cert a.ledger fits is)

pub returns : goal.returns
returns c s w says a fits is =
    let verified : c.verify_ui.result ≡ verifies s.secret (sender_claim c.args.ui.now says) = verified_by s c.args.ui.now says c.args.self.now.usig.now.secret c.args.bare.now c.verify_ui.result c.verify_ui.ensures a.secret_is is in
    verified_forged s w (sender_claim c.args.ui.now says) (sym c.if-is_issued.false ∙ c.is_issued.ensures s.shape (stamps s w) w.asked w.tagged says c.args.ui.now.cert a.ledger fits is) (sym c.if-not-verify_ui.false ∙ verified)
