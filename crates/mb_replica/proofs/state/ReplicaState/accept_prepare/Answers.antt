use Rattle.std.proofs.Common.{sym}
use Rattle.mb_replica.proofs.CountedVotes.{prepare_counted, prepare_passed_over, normal_again}
use Rattle.mb_replica.proofs.state.ReplicaState.accept_prepare.Goals as goal

-- src/prepares.rt
pub returns-then-counts_at-clause-awaits : goal.returns-then-counts_at-clause-awaits
returns-then-counts_at-clause-awaits g c = λ me d r none.
    prepare_counted me c.args.self.now d r c.args.m none c.count_vote.new.self c.put_slot.new.self c.args.digest c.whole_batch-batch.result (sym (c.if-counts_at.ensures me d r)) c.requires.digest c.whole_batch-batch.ensures
    c.count_vote.ensures.counts c.count_vote.ensures.writes c.put_slot.ensures.puts c.put_slot.ensures.writes

pub returns-then-counts_at-clause-writes : goal.returns-then-counts_at-clause-writes
returns-then-counts_at-clause-writes g c = normal_again c.args.self.now c.count_vote.new.self c.put_slot.new.self c.count_vote.ensures.writes c.put_slot.ensures.writes

pub returns-else-counts_at-clause-awaits : goal.returns-else-counts_at-clause-awaits
returns-else-counts_at-clause-awaits g c = λ me d r none. prepare_passed_over me c.args.self.now d r c.args.m none (sym (c.if-counts_at.ensures me d r))
