use Rattle.std.proofs.Common.{◌∙◌, ◌<◌, ap, sym, Some, arith}
use Rattle.mb_base.specs.Limits.{plan_limit}
use Rattle.mb_msg.specs.declared.change.Plan.{Plan}
use Rattle.mb_model.specs.Held.{plan_of_view}
use Rattle.mb_core.proofs.Carrying.{index_within, carry_read}
use Rattle.mb_core.proofs.opens.carry_on_at.Goals as goal

-- src/opens.rt
pub overflow_add-pos : goal.overflow_add-pos
overflow_add-pos g c =
    let few : c.args.index < plan_limit = index_within (plan_of_view c.args.view c.args.replica.now.protocol.change.plan) c.plan-plan.result.now c.args.index (ap (λ (p : Plan). Some p) c.plan-plan.ensures.plan ∙ c.in-Some.ensures.plan) c.requires.index c.plan-plan.ensures.hashed in
    let base = c.requires.base in omega (arith, few, base)

pub overflow_add-pos-2 : goal.overflow_add-pos-2
overflow_add-pos-2 g c =
    let few : c.args.index < plan_limit = index_within (plan_of_view c.args.view c.args.replica.now.protocol.change.plan) c.plan-plan.result.now c.args.index (ap (λ (p : Plan). Some p) c.plan-plan.ensures.plan ∙ c.in-Some.ensures.plan) c.requires.index c.plan-plan.ensures.hashed in
    let base = c.requires.base in omega (arith, few, base)

pub returns-clause-carries : goal.returns-clause-carries
returns-clause-carries g c = λ me d m o st.
    let r = c.args.replica.now in
    let most = c.if-pos-gt-MAX_POS.false in
    carry_read me d m c.args.view c.args.evidence.now r o c.args.index c.plan-plan.result.now c.as_slice.result.now c.index-as_slice-index.result c.in_ok-batch.batch c.digest_at-digest.result
    (ap (λ (p : Plan). Some p) c.plan-plan.ensures.plan ∙ c.in-Some.ensures.plan) c.as_slice.ensures c.requires.index c.index-as_slice-index.is c.in_ok-batch.ensures c.digest_at-digest.ensures (omega (arith, most))
    c.put_slot.new.self.protocol.normal c.count_vote.new.self.protocol.normal c.put_slot.ensures.puts c.put_slot.new.self.protocol.host (c.put_slot.ensures.writes.same.host ∙ sym o.who.host) c.count_vote.ensures.counts st
