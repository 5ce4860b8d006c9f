use Rattle.std.proofs.Common.{◌≡◌, ◌+◌, List, length, take, take_all, slice_get, sym, ap, subst, ◌∙◌, arith}
use Rattle.std.specs.List.{AllByRecursion}
use Rattle.std.proofs.lemmas.Option.{slice_get-get_or}
use Rattle.mb_parts.specs.declared.batch.Batch.{Batch}
use Rattle.mb_learn.specs.Next.{IsNextBy}
use Rattle.mb_learn.specs.declared.votes.Cast.{Cast}
use Rattle.mb_learn.specs.Tables.{casts_at}
use Rattle.mb_learn.proofs.NextProved.{none_first, none_more, next_among, found_next}
use Rattle.mb_learn.proofs.heard.Heard.proved.Goals as goal

pub loop-cast-init : goal.loop-cast-init
loop-cast-init c = none_first c.args.self.now (casts_at c.args.self.now.votes (c.args.self.now.votes.executed + 1))

pub returns-in-Some : goal.returns-in-Some
returns-in-Some c =
    let i = c.loop-cast.cast-index in
    let found = found_next c.args.self.now c.requires i _ (ap (λ (l : List Cast). slice_get l i) (sym c.at_next-cast-items.ensures) ∙ slice_get-get_or c.at_next-cast-items.result.now i _ c.loop-cast-test.true) c.in-Some.batch.now c.in-Some.ensures.some in
    record {
      some = found.0;
      none = λ s secret claims said shown lists h. tt;
      fits = c.in-Some.ensures.fits;
      next = found.1;
    }

pub loop-cast-preserved : goal.loop-cast-preserved
loop-cast-preserved c =
    let t = c.args.self.now in
    let i = c.loop-cast.cast-index in
    none_more t (casts_at t.votes (t.votes.executed + 1)) i _ (ap (λ (l : List Cast). slice_get l i) (sym c.at_next-cast-items.ensures) ∙ slice_get-get_or c.at_next-cast-items.result.now i _ c.loop-cast-test.true)
    c.loop-cast.invariant c.in_default.ensures.none

pub returns : goal.returns
returns c = record {
  some = λ s secret claims said shown lists h. tt;
  none = λ s secret claims said shown lists h b next.
      let t = c.args.self.now in
      let all : take c.loop-cast.cast-index (casts_at t.votes (t.votes.executed + 1)) ≡ casts_at t.votes (t.votes.executed + 1) =
      take_all c.loop-cast.cast-index (casts_at t.votes (t.votes.executed + 1)) (omega (arith, c.loop-cast-test.false, ap (λ (l : List Cast). length l) c.at_next-cast-items.ensures)) in
      next_among s secret claims said shown lists t h b next
      (subst (λ (l : List Cast). AllByRecursion (λ (x : Cast). (b : Batch) → IsNextBy s secret shown lists (c.args.self.now.votes.executed + 1) x.view x.vote b → ⊥) l) all (c.loop-cast.invariant s secret claims said shown lists h));
  fits = tt;
  next = tt;
}
