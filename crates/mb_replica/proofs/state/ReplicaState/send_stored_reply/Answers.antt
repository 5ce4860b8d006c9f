use Rattle.mb_replica.proofs.Replies.{never_told}
use Rattle.mb_replica.proofs.state.ReplicaState.send_stored_reply.Goals as goal

-- src/executing.rt
pub returns-in-None : goal.returns-in-None
returns-in-None g c = λ me x served s some. absurd (never_told me c.args.self.now x.history s.represents c.args.client c.in-None.ensures.reply some)
