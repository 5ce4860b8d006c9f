use Rattle.std.proofs.Common.{◌≡◌, ap, ◌∙◌, arith, is_some}
use Rattle.std.specs.Ordering.{nat_cmp}
use Rattle.std.specs.BTreeMap.{get}
use Rattle.mb_learn.proofs.MapLists.{one_less}
use Rattle.mb_learn.proofs.votes.Votes.raise.Goals as goal

pub returns : goal.returns
returns c = record {
  raises = record {
    executed = c.next-next.ensures;
    casts = λ p. one_less (get nat_cmp c.args.self.now.by_position) _ c.next-next.result c.remove-votes.ensures.updates.0 p;
  };
  fewer = λ there.
      let found : is_some c.remove-votes.result ≡ _ = ap is_some (c.remove-votes.ensures.value ∙ ap (get nat_cmp c.args.self.now.by_position) c.next-next.ensures) ∙ there in
      let len = rw found at c.remove-votes.ensures.len in
      omega (arith, len);
}
