use Rattle.std.proofs.Common.{◌≡◌, ◌<◌, ◌+◌, ◌∙◌, Option, length, map, ap, subst}
use Rattle.std.proofs.lemmas.Bool.{le-leb, lt-leb}
use Rattle.std.proofs.lemmas.Option.{same_Some}
use Rattle.mb_parts.specs.Bares.{batch_digest}
use Rattle.mb_msg.specs.declared.change.Plan.{Plan}
use Rattle.mb_model.specs.Positions.{position_limit}
use Rattle.mb_replica.specs.Holding.{length_in}
use Rattle.mb_replica.proofs.OpenVotes.{digest_read, vote_counted, no_vote_counted}
use Rattle.mb_replica.proofs.state.ReplicaState.count_open_at.Goals as goal

-- src/open_votes.rt
pub returns-then-pos-le-MAX_POS-clause-counts : goal.returns-then-pos-le-MAX_POS-clause-counts
returns-then-pos-le-MAX_POS-clause-counts g c = λ plan held.
    let is : c.plan.result.now ≡ plan = c.plan.ensures.plan ∙ same_Some c.in-Some.held.now.1 plan (c.in-Some.ensures.plan ∙ held) in
    let digests : c.batches.result.now ≡ map batch_digest plan.batches = c.batches.ensures ∙ ap (λ (p : Plan). map batch_digest p.batches) (same_Some c.in-Some.held.now.1 plan (c.in-Some.ensures.plan ∙ held)) in
    let lt : c.args.index < length plan.batches = subst (λ (q : Option Plan). c.args.index < length_in q) held c.requires.index in
    vote_counted c.args.self.now plan c.args.view c.args.host c.args.counter c.args.index held c.count_vote.new.self (c.plan.result.now.base.pos + c.args.index + 1) _
    (ap (λ (p : Plan). p.base.pos + c.args.index + 1) is) (digest_read plan c.batches.result.now c.args.index digests lt) (le-leb _ _ c.if-pos-le-MAX_POS.true) c.count_vote.ensures.counts

pub returns-else-pos-le-MAX_POS-clause-counts : goal.returns-else-pos-le-MAX_POS-clause-counts
returns-else-pos-le-MAX_POS-clause-counts g c = λ plan held.
    let is : c.plan.result.now ≡ plan = c.plan.ensures.plan ∙ same_Some c.in-Some.held.now.1 plan (c.in-Some.ensures.plan ∙ held) in
    no_vote_counted c.args.self.now plan c.args.view c.args.host c.args.counter c.args.index held (c.plan.result.now.base.pos + c.args.index + 1) (ap (λ (p : Plan). p.base.pos + c.args.index + 1) is)
    (lt-leb (c.plan.result.now.base.pos + c.args.index + 1) position_limit c.if-pos-le-MAX_POS.false)
