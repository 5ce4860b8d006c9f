use Rattle.std.proofs.Common.{List, refl, subst}
use Rattle.std.proofs.lemmas.Result.{on_ok_weaker}
use Rattle.mb_learn.specs.declared.heard.Opening.{Opening}
use Rattle.mb_learn.specs.Tables.{by_openings, AddsVotes}
use Rattle.mb_learn.proofs.heard.Heard.note_plan.Goals as goal

pub returns : goal.returns
returns c =
    on_ok_weaker c.add.result
    (λ adds. record {
      plans = adds;
      votes = subst (λ (l : List Opening). AddsVotes (by_openings l c.args.plan) c.args.self.now.votes c.count_all.new.votes) c.as_slice.ensures.value c.in_ok-count_all.ensures;
      batches = refl;
      hosts = record { shape = refl; usig = refl; followers = refl; openings = refl; checkpoints = refl; news = refl };
    }) c.add.ensures
