use Rattle.std.proofs.Common.{◌∙◌}
use Rattle.mb_refinement.proofs.Positions.{left_by_vote, vote_counted_or_refused}
use Rattle.mb_replica.proofs.CountedVotes.{vote_of}
use Rattle.mb_replica.proofs.state.ReplicaState.count_vote.Goals as goal

-- src/voting.rt
pub returns-clause-counts : goal.returns-clause-counts
returns-clause-counts g c =
    let x = c.vote-first in
    vote_counted_or_refused c.args.self.now.protocol.normal x.new.self c.args.pos c.args.host (vote_of c.args.counter c.args.batch) x.result x.ensures.refused x.ensures.stands x.ensures.err

pub invariant_of-self-clause-normal_is : goal.invariant_of-self-clause-normal_is
invariant_of-self-clause-normal_is g c =
    let a = c.args.self.now.protocol in
    let x = c.vote-first in
    let left = left_by_vote a.normal x.new.self c.args.pos c.args.host (vote_of c.args.counter c.args.batch)
    (vote_counted_or_refused a.normal x.new.self c.args.pos c.args.host (vote_of c.args.counter c.args.batch) x.result x.ensures.refused x.ensures.stands x.ensures.err) in
    (left.shape_is ∙ a.normal_is.0, left.host_is ∙ a.normal_is.1)

pub invariant_of-self-clause-low_is : goal.invariant_of-self-clause-low_is
invariant_of-self-clause-low_is g c =
    let a = c.args.self.now.protocol in
    let x = c.vote-first in
    let left = left_by_vote a.normal x.new.self c.args.pos c.args.host (vote_of c.args.counter c.args.batch)
    (vote_counted_or_refused a.normal x.new.self c.args.pos c.args.host (vote_of c.args.counter c.args.batch) x.result x.ensures.refused x.ensures.stands x.ensures.err) in
    left.low_is ∙ a.low_is
