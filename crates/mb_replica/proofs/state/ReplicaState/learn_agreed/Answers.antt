use Rattle.std.proofs.Common.{◌∙◌, sym, Some}
use Rattle.mb_replica.proofs.state.ReplicaState.learn_agreed.Goals as goal

-- src/learning.rt
pub learn-requires : goal.learn-requires
learn-requires g c = c.requires c.in-Some.cert (λ s h x st. sym c.in-Some.is ∙ c.in_ok-cert.ensures s h x st)

pub returns-in-Some : goal.returns-in-Some
returns-in-Some g c = record { cert = Some c.in-Some.cert; answers = λ s h x st. sym c.in-Some.is ∙ c.in_ok-cert.ensures s h x st; learnt = c.learn.ensures }
