use Rattle.std.proofs.Common.{OnOk, sym, subst}
use Rattle.mb_msg.specs.declared.change.OpenBody.{OpenBody}
use Rattle.mb_msg.specs.declared.message.Body.{Body}
use Rattle.mb_replica.specs.Holding.{HoldsBody}
use Rattle.mb_replica.proofs.state.ReplicaState.hold_body.Goals as goal

-- src/opens.rt
pub returns-in-Whole : goal.returns-in-Whole
returns-in-Whole g c = subst (λ (b : Body OpenBody). OnOk c.hold_plan.result (HoldsBody c.args.view b c.args.self.now c.hold_plan.new.self)) (sym c.in-Whole.is) c.hold_plan.ensures
