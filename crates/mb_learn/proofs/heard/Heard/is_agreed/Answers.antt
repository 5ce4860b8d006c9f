use Rattle.std.proofs.Common.{◌≡◌, ◌+◌, Some, slice_get, refl, sym, ap, ◌∙◌, arith}
use Rattle.std.proofs.lemmas.Bool.{leb-true, leb-false}
use Rattle.std.proofs.lemmas.Option.{slice_get_read}
use Rattle.mb_base.specs.Shapes.{primary, quorum, host_count, tally}
use Rattle.mb_base.specs.declared.shape.Shape.{Shape}
use Rattle.mb_learn.specs.Tables.{casts_at, is_among}
use Rattle.mb_learn.proofs.Learning.{primary_below}
use Rattle.mb_learn.proofs.NextProved.{agreed, not_voted, led_by_primary}
use Rattle.mb_learn.proofs.Tests.{true_false}
use Rattle.mb_learn.proofs.heard.Heard.is_agreed.Goals as goal

pub index-requires : goal.index-requires
index-requires c = let below = primary_below c.args.self.now.shape c.args.cast.now.view in omega (arith, below, c.requires.count, c.from.ensures, c.primary-leader.ensures)

pub returns-then-not-leads : goal.returns-then-not-leads
returns-then-not-leads c = record {
  yes = λ s secret claims said shown lists h is. true_false (sym is);
  no = λ s secret claims said shown lists h is a.
      let t = c.args.self.now in
      let view = c.args.cast.now.view in
      let below = primary_below t.shape view in
      let here : c.from.result ≡ primary t.shape view = c.from.ensures ∙ c.primary-leader.ensures in
      let there : slice_get t.followers.items (primary t.shape view) ≡ Some c.index.result.now = ap (slice_get t.followers.items) (sym here) ∙ slice_get_read t.followers.items _ c.from.result c.index.result.now refl (omega (arith, below, c.requires.count, here)) c.index.ensures in
      true_false (sym a.led ∙ sym (led_by_primary s secret claims said shown lists t h view c.args.cast.now.vote.counter c.index.result.now there c.leads.result (λ host first l fo. c.leads.ensures s secret host first l fo)) ∙ c.if-not-leads.true);
}

pub returns : goal.returns
returns c = record {
  yes = λ s secret claims said shown lists h is.
      let t = c.args.self.now in
      let view = c.args.cast.now.view in
      let vote = c.args.cast.now.vote in
      let below = primary_below t.shape view in
      let here : c.from.result ≡ primary t.shape view = c.from.ensures ∙ c.primary-leader.ensures in
      let there : slice_get t.followers.items (primary t.shape view) ≡ Some c.index.result.now = ap (slice_get t.followers.items) (sym here) ∙ slice_get_read t.followers.items _ c.from.result c.index.result.now refl (omega (arith, below, c.requires.count, here)) c.index.ensures in
      let led = led_by_primary s secret claims said shown lists t h view vote.counter c.index.result.now there c.leads.result (λ host first l fo. c.leads.ensures s secret host first l fo) in
      let le = leb-true _ _ is in
      let needed = c.quorum.ensures ∙ ap quorum h.shape in
      agreed s secret claims said shown lists t h view vote c.voters.result (c.voters.ensures ∙ ap (λ (z : Shape). tally (λ i. is_among (casts_at t.votes (t.votes.executed + 1)) i view vote) (host_count z)) h.shape) (omega (arith, le, needed)) (sym led ∙ c.if-not-leads.false);
  no = λ s secret claims said shown lists h is.
      let t = c.args.self.now in
      let view = c.args.cast.now.view in
      let vote = c.args.cast.now.vote in
      let lt = leb-false _ _ is in
      let needed = c.quorum.ensures ∙ ap quorum h.shape in
      not_voted s secret claims said shown lists t h view vote c.voters.result (c.voters.ensures ∙ ap (λ (z : Shape). tally (λ i. is_among (casts_at t.votes (t.votes.executed + 1)) i view vote) (host_count z)) h.shape) (omega (arith, lt, needed));
}
