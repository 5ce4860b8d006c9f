use Rattle.std.proofs.Common.{Option, IfSome, IfNone, refl, sym, subst, ◌∙◌}
use Rattle.mb_learn.specs.declared.difference.Difference.{Difference}
use Rattle.mb_learn.specs.Differences.{IsLowest, IsNowhere}
use Rattle.mb_learn.proofs.Tests.{true_false}
use Rattle.mb_learn.proofs.learner.Learner.compare.Goals as goal

pub invariant_of-self : goal.invariant_of-self
invariant_of-self g c = record { runs = λ on. true_false (sym c.requires ∙ on) }

pub returns-in-Some : goal.returns-in-Some
returns-in-Some g c =
    let t = c.args.self.now in
    record {
      compares = subst (λ (o : Option Difference). IfSome o (IsLowest t.heard t.line t.heard.newly_said.items)) c.in-Some.is c.lowest_difference-lowest.ensures.some;
      halted = refl;
      line = refl;
      heard = record { shape = refl; usig = refl; followers = refl; openings = refl; votes = refl; plans = refl; batches = refl; checkpoints = refl };
      news = c.clear.ensures.items;
    }

pub returns-in-None : goal.returns-in-None
returns-in-None g c =
    let t = c.args.self.now in
    record {
      compares = subst (λ (o : Option Difference). IfNone o (IsNowhere t.heard t.line t.heard.newly_said.items)) c.in-None.is c.lowest_difference-lowest.ensures.none;
      halted = refl;
      line = refl;
      heard = record { shape = refl; usig = refl; followers = refl; openings = refl; votes = refl; plans = refl; batches = refl; checkpoints = refl };
      news = c.clear.ensures.items;
    }
