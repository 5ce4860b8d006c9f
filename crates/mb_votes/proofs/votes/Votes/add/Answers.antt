use Rattle.std.proofs.Common.{◌≡◌, ℕ, ◌-◌, ◌<◌, length, length-set, refl, ap, ◌∙◌, arith}
use Rattle.mb_base.specs.Limits.{most_hosts}
use Rattle.mb_base.specs.Shapes.{span}
use Rattle.mb_model.specs.declared.known.Vote.{Vote}
use Rattle.mb_votes.specs.Ballots.{Ballots, vote_at, with_vote}
use Rattle.mb_votes.specs.Votes.{voted}
use Rattle.mb_votes.proofs.Behind.{with_vote_finds, vote_stands, hosts_with}
use Rattle.mb_votes.proofs.votes.Votes.add.Goals as goal

finds : (b new : Ballots) (pos host : ℕ) (vote : Vote) → new ≡ with_vote b pos host vote → ((h p : ℕ) → vote_at (with_vote b pos host vote) h p ≡ voted (vote_at b) pos host vote h p) → (h p : ℕ) → vote_at new h p ≡ voted (vote_at b) pos host vote h p
finds b new pos host vote is f h p = ap (λ x. vote_at x h p) is ∙ f h p

pub invariant_of-self-clause-span_is : goal.invariant_of-self-clause-span_is
invariant_of-self-clause-span_is c = let t = c.args.self.now in ap (λ (b : Ballots). length b.items) c.count_vote.ensures.counted ∙ length-set t.ballots.items (c.args.pos - t.ballots.low - 1) _ ∙ t.span_is

pub invariant_of-self-clause-hosts_are : goal.invariant_of-self-clause-hosts_are
invariant_of-self-clause-hosts_are c =
    let t = c.args.self.now in
    let low = c.low-low.ensures in
    let width = t.span_is in
    let above = c.if-pos-low.false in
    let size : c.from.result ≡ span t.shape = c.from.ensures ∙ c.span.ensures in
    let within = c.if-pos-low-2.false in
    let most = t.shape.faults_in.1 in
    let host : c.args.host < most_hosts = let below = c.requires in omega (arith, below, most) in
    hosts_with t.shape t.ballots c.count_vote.new.ballots c.args.pos c.args.host c.args.vote c.requires
    (finds t.ballots c.count_vote.new.ballots c.args.pos c.args.host c.args.vote c.count_vote.ensures.counted
    (with_vote_finds t.ballots c.args.pos c.args.host c.args.vote (omega (arith, low, above)) (omega (arith, low, above, size, within, width)) host c.count_vote.ensures.wide)) t.hosts_are

pub returns-clause-stands : goal.returns-clause-stands
returns-clause-stands c = λ s low0 search st.
    let t = c.args.self.now in
    let low = c.low-low.ensures in
    let width = t.span_is in
    let above = c.if-pos-low.false in
    let size : c.from.result ≡ span t.shape = c.from.ensures ∙ c.span.ensures in
    let within = c.if-pos-low-2.false in
    let most = t.shape.faults_in.1 in
    let host : c.args.host < most_hosts = let below = c.requires in omega (arith, below, most) in
    vote_stands t _ c.args.pos c.args.host c.args.vote refl (ap (λ (b : Ballots). b.low) c.count_vote.ensures.counted)
    (finds t.ballots c.count_vote.new.ballots c.args.pos c.args.host c.args.vote c.count_vote.ensures.counted
    (with_vote_finds t.ballots c.args.pos c.args.host c.args.vote (omega (arith, low, above)) (omega (arith, low, above, size, within, width)) host c.count_vote.ensures.wide)) s low0 search st
