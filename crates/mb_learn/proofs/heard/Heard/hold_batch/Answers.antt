use Rattle.std.proofs.Common.{◌≡◌, true, List, refl, sym, ap, subst, ◌∙◌}
use Rattle.std.specs.List.{list_all, AllByRecursion}
use Rattle.std.proofs.lemmas.Result.{on_ok_weaker}
use Rattle.mb_base.specs.declared.shape.Shape.{Shape}
use Rattle.mb_parts.specs.declared.request.Request.{Request}
use Rattle.mb_parts.specs.Fits.{FitsRequest}
use Rattle.mb_model.specs.Verified.{is_rightly_tagged, are_rightly_tagged}
use Rattle.mb_learn.proofs.Tests.{true_false}
use Rattle.mb_learn.proofs.heard.Heard.hold_batch.Goals as goal

pub are_tagged-requires : goal.are_tagged-requires
are_tagged-requires c =
    subst (λ (s : Shape). AllByRecursion (FitsRequest s) c.as_slice.result.now) (sym c.requires.ready.shape)
    (subst (λ (l : List Request). AllByRecursion (FitsRequest c.args.self.now.shape) l) (sym c.as_slice.ensures) c.requires.fits.requests)

pub returns-then-not-branch : goal.returns-then-not-branch
returns-then-not-branch c = record {
  tagged = λ so. true_false (sym so ∙ sym (ap (list_all (is_rightly_tagged c.args.self.now.usig.secret)) c.as_slice.ensures) ∙ sym c.in_ok-are_tagged.ensures ∙ c.if-not-branch.true);
  untagged = λ not_so. refl;
  votes = refl;
  plans = refl;
  hosts = record { shape = refl; usig = refl; followers = refl; openings = refl; checkpoints = refl; news = refl };
}

pub returns : goal.returns
returns c =
    let so : are_rightly_tagged c.args.self.now.usig.secret c.args.batch.now ≡ true = sym (ap (list_all (is_rightly_tagged c.args.self.now.usig.secret)) c.as_slice.ensures) ∙ sym c.in_ok-are_tagged.ensures ∙ c.if-not-branch.false in
    on_ok_weaker c.hold.result
    (λ holds. record {
      tagged = λ _. holds;
      untagged = λ not_so. true_false (sym so ∙ not_so);
      votes = refl;
      plans = refl;
      hosts = record { shape = refl; usig = refl; followers = refl; openings = refl; checkpoints = refl; news = refl };
    }) c.hold.ensures
