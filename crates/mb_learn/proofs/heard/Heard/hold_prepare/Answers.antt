use Rattle.std.proofs.Common.{IsSome, refl, sym, subst, ◌∙◌}
use Rattle.mb_base.specs.Shapes.{Bytes}
use Rattle.mb_parts.specs.Fits.{FitsBatch}
use Rattle.mb_msg.specs.Bodies.{FitsBody}
use Rattle.mb_msg.specs.declared.stamped.Shown.TheVariants as shown
use Rattle.std.proofs.lemmas.Result.{on_ok_weaker}
use Rattle.mb_learn.specs.Tables.{batch_at}
use Rattle.mb_learn.proofs.HeldMore.{holds_one}
use Rattle.mb_learn.proofs.Voting.{shows_none, shows_held, prepare_only, prepare_unstamped, prepare_shows, prepare_told, found_some}
use Rattle.mb_learn.proofs.heard.Heard.hold_prepare.Goals as goal

pub returns-in_default : goal.returns-in_default
returns-in_default c = shows_none c.args.self.now (shown.Prepare c.args.m.now) c.requires.ready (λ s secret d. refl) (λ s secret shape key b shows. c.in_default.not-Whole b shows.0)

pub returns-then-is_some : goal.returns-then-is_some
returns-then-is_some c =
    shows_held c.args.self.now (shown.Prepare c.args.m.now) c.requires.ready (λ s secret d. refl) c.in-Whole.batch (prepare_only c.args.m.now c.in-Whole.batch c.in-Whole.is)
    (subst (λ (d : Bytes). IsSome (batch_at c.args.self.now.batches d)) c.digest-digest.ensures (found_some c.get.result _ c.get.ensures (sym c.is_some.ensures ∙ c.if-is_some.true)))

pub returns-then-not-verify_ui : goal.returns-then-not-verify_ui
returns-then-not-verify_ui c =
    let told = prepare_told c.args.self.now.shape c.args.self.now.usig.secret c.args.m.now c.in-Whole.batch c.in-Whole.is c.digest-digest.result c.digest-digest.ensures c.as_slice.result.now c.verify_ui.result (c.as_slice.ensures.value ∙ c.in_ok-bare.ensures) c.verify_ui.ensures in
    shows_none c.args.self.now (shown.Prepare c.args.m.now) c.requires.ready (λ s secret d. refl)
    (prepare_unstamped c.args.m.now c.args.self.now.usig.secret c.args.self.now.shape (sym told ∙ c.if-not-verify_ui.true))

pub returns : goal.returns
returns c =
    let told = prepare_told c.args.self.now.shape c.args.self.now.usig.secret c.args.m.now c.in-Whole.batch c.in-Whole.is c.digest-digest.result c.digest-digest.ensures c.as_slice.result.now c.verify_ui.result (c.as_slice.ensures.value ∙ c.in_ok-bare.ensures) c.verify_ui.ensures in
    let fits : FitsBatch c.args.self.now.shape c.in-Whole.batch = subst (FitsBody (FitsBatch c.args.self.now.shape)) c.in-Whole.is c.requires.fits.body in
    on_ok_weaker c.hold_batch.result
    (λ holds. holds_one c.args.self.now c.hold_batch.new.self (shown.Prepare c.args.m.now) c.digest-digest.result c.in-Whole.batch c.requires.ready holds c.digest-digest.ensures fits (λ s secret d. refl)
    (prepare_shows c.args.m.now c.in-Whole.batch c.args.self.now.usig.secret c.args.self.now.shape c.in-Whole.is (sym told ∙ c.if-not-verify_ui.false)) (prepare_only c.args.m.now c.in-Whole.batch c.in-Whole.is)) c.hold_batch.ensures
