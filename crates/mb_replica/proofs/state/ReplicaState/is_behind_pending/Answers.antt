use Rattle.std.proofs.Common.{Option, ap}
use Rattle.mb_parts.specs.declared.request.Request.{Request}
use Rattle.mb_model.specs.PlainChecks.{is_behind_pending}
use Rattle.mb_normal.specs.Searches.{searches_in}
use Rattle.mb_replica.proofs.state.ReplicaState.is_behind_pending.Goals as goal

-- src/requests.rt
pub returns-in-Some : goal.returns-in-Some
returns-in-Some g c = λ me d r. ap (λ (o : Option Request). is_behind_pending o c.args.request.now) (c.in-Some.ensures me.shape me.host (searches_in me d) r.tables.normal)

pub returns-in-None : goal.returns-in-None
returns-in-None g c = λ me d r. ap (λ (o : Option Request). is_behind_pending o c.args.request.now) (c.in-None.ensures me.shape me.host (searches_in me d) r.tables.normal)
