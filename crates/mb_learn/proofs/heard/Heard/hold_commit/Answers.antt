use Rattle.std.proofs.Common.{IsSome, refl, sym, ap, subst, ◌∙◌}
use Rattle.mb_base.specs.Shapes.{Bytes}
use Rattle.mb_parts.specs.declared.batch.Batch.{Batch}
use Rattle.mb_parts.specs.Fits.{FitsBatch}
use Rattle.mb_parts.specs.Spelling.{batch_bytes}
use Rattle.mb_msg.specs.Bodies.{FitsBody, body_digest}
use Rattle.mb_msg.specs.declared.message.Body.{Body}
use Rattle.mb_msg.specs.declared.stamped.Shown.TheVariants as shown
use Rattle.std.proofs.lemmas.Result.{on_ok_weaker}
use Rattle.mb_learn.specs.Tables.{batch_at}
use Rattle.mb_learn.proofs.HeldMore.{holds_one}
use Rattle.mb_learn.proofs.Voting.{shows_none, shows_held, commit_only, commit_unstamped, commit_shows, found_some}
use Rattle.mb_learn.proofs.heard.Heard.hold_commit.Goals as goal

pub returns-in_default : goal.returns-in_default
returns-in_default c = shows_none c.args.self.now (shown.Commit c.args.m.now) c.requires.ready (λ s secret d. refl) (λ s secret shape key b shows. c.in_default.not-Whole b shows.0)

pub returns-then-is_some : goal.returns-then-is_some
returns-then-is_some c =
    shows_held c.args.self.now (shown.Commit c.args.m.now) c.requires.ready (λ s secret d. refl) c.in-Whole.batch (commit_only c.args.m.now c.in-Whole.batch c.in-Whole.is)
    (subst (λ (d : Bytes). IsSome (batch_at c.args.self.now.batches d)) c.digest-digest.ensures (found_some c.get.result _ c.get.ensures (sym c.is_some.ensures ∙ c.if-is_some.true)))

pub is_commit_certified-requires : goal.is_commit_certified-requires
is_commit_certified-requires c = c.digest-digest.ensures ∙ sym (ap (λ (b : Body Batch). body_digest batch_bytes b) c.in-Whole.is)

pub returns-then-not-branch : goal.returns-then-not-branch
returns-then-not-branch c =
    shows_none c.args.self.now (shown.Commit c.args.m.now) c.requires.ready (λ s secret d. refl)
    (commit_unstamped c.args.m.now c.args.self.now.usig.secret c.args.self.now.shape (sym c.in_ok-is_commit_certified.ensures ∙ c.if-not-branch.true))

pub returns : goal.returns
returns c =
    let fits : FitsBatch c.args.self.now.shape c.in-Whole.batch = subst (FitsBody (FitsBatch c.args.self.now.shape)) c.in-Whole.is c.requires.fits.body in
    on_ok_weaker c.hold_batch.result
    (λ holds. holds_one c.args.self.now c.hold_batch.new.self (shown.Commit c.args.m.now) c.digest-digest.result c.in-Whole.batch c.requires.ready holds c.digest-digest.ensures fits (λ s secret d. refl)
    (commit_shows c.args.m.now c.in-Whole.batch c.args.self.now.usig.secret c.args.self.now.shape c.in-Whole.is (sym c.in_ok-is_commit_certified.ensures ∙ c.if-not-branch.false)) (commit_only c.args.m.now c.in-Whole.batch c.in-Whole.is)) c.hold_batch.ensures
