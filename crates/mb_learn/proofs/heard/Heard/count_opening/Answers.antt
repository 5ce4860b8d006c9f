use Rattle.std.proofs.Common.{◌≡◌, Some, None, refl, sym, ap, ◌∙◌}
use Rattle.std.specs.Prelude.{option_copied}
use Rattle.std.proofs.lemmas.Result.{on_ok_weaker}
use Rattle.mb_learn.specs.Tables.{plan_at}
use Rattle.mb_learn.proofs.Counted.{adds_nothing, counts_only}
use Rattle.mb_learn.proofs.heard.Heard.count_opening.Goals as goal

pub returns-in-Some : goal.returns-in-Some
returns-in-Some c =
    let known : plan_at c.args.self.now.plans c.args.opening.now.plan ≡ Some c.in-Some.plan.now = sym c.get.ensures ∙ ap option_copied c.in-Some.is in
    record {
      votes = rw known c.count_plan.ensures;
      openings = refl;
      rest = on_ok_weaker c.count_plan.result (λ adds. counts_only c.args.self.now c.count_plan.new.votes _ adds) c.count_plan.ensures;
    }

pub returns-in-None : goal.returns-in-None
returns-in-None c =
    let none : plan_at c.args.self.now.plans c.args.opening.now.plan ≡ None = sym c.get.ensures ∙ ap option_copied c.in-None.is in
    record {
      votes = rw none (adds_nothing c.args.self.now.votes);
      openings = refl;
      rest = counts_only c.args.self.now c.args.self.now.votes _ (adds_nothing c.args.self.now.votes);
    }
