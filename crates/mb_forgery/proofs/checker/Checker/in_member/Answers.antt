use Rattle.std.proofs.Common.{sym, subst, ◌∙◌, ◌∷◌, []}
use Rattle.mb_parts.specs.Fits.{FitsBare}
use Rattle.mb_parts.specs.Bares.{Bare}
use Rattle.mb_msg.specs.declared.stamped.Stamped.TheVariants as stamped
use Rattle.mb_msg.specs.Bodies.{inside_whole}
use Rattle.mb_msg.specs.Stamps.{bare_of}
use Rattle.mb_msg.proofs.Injective.{bare_fits}
use Rattle.mb_model.specs.Inside.{sender_claim, change_claims}
use Rattle.mb_forgery.proofs.Walks.{front_found, front_clean}
use Rattle.mb_forgery.proofs.checker.Checker.in_member.Goals as goal

pub returns-in-Some : goal.returns-in-Some
returns-in-Some c s w a = front_found s w (inside_whole (change_claims s.shape) c.args.m.now.body) (sender_claim c.args.m.now.ui (bare_of (stamped.ViewChange c.args.m.now)) ∷ []) c.in-Some.found (sym c.in-Some.is ∙ c.in_ok-found.ensures s w a)

pub returns : goal.returns
returns c s w a =
    let says : Bare = bare_of (stamped.ViewChange c.args.m.now) in
    front_clean s w (inside_whole (change_claims s.shape) c.args.m.now.body) (sender_claim c.args.m.now.ui says ∷ []) c.forged.result (sym c.in_default.is ∙ c.in_ok-found.ensures s w a)
    (c.forged.ensures s w says a (subst (λ z. FitsBare z says) a.shape (bare_fits c.args.self.now.shape.now (stamped.ViewChange c.args.m.now) c.requires)) (c.as_slice.ensures.value ∙ c.in_ok-bare.ensures))
