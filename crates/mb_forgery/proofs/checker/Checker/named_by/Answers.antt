use Rattle.std.proofs.Common.{ap, subst, ◌∙◌, ◌∷◌, []}
use Rattle.mb_base.specs.Shapes.{Bytes, primary}
use Rattle.mb_parts.specs.Fits.{FitsBare}
use Rattle.mb_parts.specs.Bares.{Bare, bare_bytes}
use Rattle.mb_parts.specs.Bares as bare
use Rattle.mb_parts.specs.Spelling.{batch_bytes}
use Rattle.mb_msg.specs.Bodies.{body_digest}
use Rattle.mb_forgery.specs.Checks.{first_forged}
use Rattle.mb_forgery.proofs.MemberLaws.{named_fits}
use Rattle.mb_forgery.proofs.checker.Checker.named_by.Goals as goal

pub returns : goal.returns
returns c s w a =
    let m = c.args.m.now in
    let says : Bare = bare.Prepare m.view m.pos (body_digest batch_bytes m.body) in
    c.forged.ensures s w says a (subst (λ z. FitsBare z says) a.shape (named_fits c.args.self.now.shape.now m c.requires.0))
    (c.as_slice.ensures.value ∙ c.in_ok-bare.ensures ∙ ap (λ (d : Bytes). bare_bytes (bare.Prepare m.view m.pos d)) c.requires.1)
    ∙ ap (λ h. first_forged s w (record { host = h; counter = m.counter; says = says; cert = m.cert } ∷ [])) (c.primary.ensures ∙ ap (λ z. primary z m.view) a.shape)
