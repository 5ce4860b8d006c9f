use Rattle.std.proofs.Common.{sym, ap, subst, ◌∙◌, ◌∷◌, []}
use Rattle.mb_base.specs.Shapes.{Bytes}
use Rattle.mb_parts.specs.Fits.{FitsBare}
use Rattle.mb_parts.specs.Bares.{Bare, bare_bytes}
use Rattle.mb_parts.specs.Bares as bare
use Rattle.mb_msg.specs.declared.stamped.Stamped.TheVariants as stamped
use Rattle.mb_msg.specs.Stamps.{bare_of}
use Rattle.mb_msg.proofs.Injective.{bare_fits}
use Rattle.mb_model.specs.Inside.{sender_claim, named_claim}
use Rattle.mb_forgery.proofs.Walks.{front_found, front_clean}
use Rattle.mb_forgery.proofs.checker.Checker.in_commit_of.Goals as goal

pub returns-in-Some : goal.returns-in-Some
returns-in-Some c s w a =
    let m = c.args.m.now in
    front_found s w (named_claim s.shape m ∷ []) (sender_claim m.ui (bare_of (stamped.Commit m)) ∷ []) c.in-Some.found (sym c.in-Some.is ∙ c.in_ok-found.ensures s w a)

pub returns : goal.returns
returns c s w a =
    let m = c.args.m.now in
    let says : Bare = bare_of (stamped.Commit m) in
    front_clean s w (named_claim s.shape m ∷ []) (sender_claim m.ui says ∷ []) c.forged.result (sym c.in_default.is ∙ c.in_ok-found.ensures s w a)
    (c.forged.ensures s w says a (subst (λ z. FitsBare z says) a.shape (bare_fits c.args.self.now.shape.now (stamped.Commit m) c.requires.0))
    (c.as_slice.ensures.value ∙ c.in_ok-bare.ensures ∙ ap (λ (d : Bytes). bare_bytes (bare.Commit m.view m.pos m.counter m.cert d)) c.requires.1))
