use Rattle.std.proofs.Common.{◌≡◌, Bool, true, false, refl, sym, subst}
use Rattle.std.specs.Prelude.{if◌then◌else◌}
use Rattle.mb_msg.specs.declared.message.Message.TheVariants as message
use Rattle.mb_msg.specs.declared.stamped.Stamped.TheVariants as stamped
use Rattle.mb_model.specs.Histories.{Accepted}
use Rattle.mb_model.specs.Sending.{write}
use Rattle.mb_model.specs.Given.{casts_vote, named_prepare, offer_prepare}
use Rattle.mb_replica.specs.Represents.{StandsAt}
use Rattle.mb_replica.proofs.Accepting.{accepted_stands, entry_added}
use Rattle.mb_replica.proofs.CountedVotes.{commit_counted, commit_passed_over}
use Rattle.mb_replica.proofs.state.ReplicaState.accept_commit.Goals as goal

-- src/commits.rt
pub returns-then-not-casts_vote : goal.returns-then-not-casts_vote
returns-then-not-casts_vote g c = λ me x done s none.
    let m = c.args.m in
    let e = Accepted (message.Commit m) in
    let old = c.args.self.now in
    let new = c.gate_follows.new.self in
    let r = s.represents in
    let not_so : false ≡ casts_vote me x.history m = c.if-not-casts_vote.ensures me x.history r in
    subst (λ (b : Bool). StandsAt me new done (if b then offer_prepare me (named_prepare me m) (write e x) else write e x)) not_so
    (entry_added me old new done e x s refl
    (accepted_stands me old old new (stamped.Commit m) x.history c.args.mark.now r c.requires.fits none (commit_passed_over me old x.history r m none (sym not_so)) c.requires.mark c.gate_follows.ensures))

pub returns : goal.returns
returns g c = λ me x done s none.
    let m = c.args.m in
    let e = Accepted (message.Commit m) in
    let old = c.args.self.now in
    let counted = c.count_vote.new.self in
    let took = c.gate_follows-2.new.self in
    let r = s.represents in
    let casts : true ≡ casts_vote me x.history m = c.if-not-casts_vote.ensures me x.history r in
    let await = commit_counted me old x.history r m none counted c.args.digest (sym casts) c.requires.digest c.count_vote.ensures.counts c.count_vote.ensures.writes in
    let s1 = entry_added me old took done e x s refl
    (accepted_stands me old counted took (stamped.Commit m) x.history c.args.mark.now r c.requires.fits none await c.requires.mark c.gate_follows-2.ensures) in
    subst (λ (b : Bool). StandsAt me c.offer_prepare.new.self done (if b then offer_prepare me (named_prepare me m) (write e x) else write e x)) casts
    (c.offer_prepare.ensures me (write e x) done s1 (record { before = x.history; is = refl; casts = sym casts; passed = none }))
