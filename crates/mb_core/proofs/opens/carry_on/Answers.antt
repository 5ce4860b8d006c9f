use Rattle.std.proofs.Common.{◌<◌, ◌≤◌, sym, ap, subst, Option, arith}
use Rattle.mb_msg.specs.declared.change.Plan.{Plan}
use Rattle.mb_model.specs.Held.{plan_of_view}
use Rattle.mb_refinement.specs.Tables.{Tables}
use Rattle.mb_replica.specs.Holding.{length_in}
use Rattle.mb_core.proofs.Carrying.{carried_none, carried_more, carried_all}
use Rattle.mb_core.proofs.opens.carry_on.Goals as goal

-- src/opens.rt
pub loop-index-init : goal.loop-index-init
loop-index-init g c = carried_none c.args.view c.args.evidence.now c.args.replica.now

pub carry_on_at-requires-clause-index : goal.carry_on_at-requires-clause-index
carry_on_at-requires-clause-index g c =
    let counted = c.plan_length-index-end.ensures in
    let test = c.loop-index-test.true in
    let lt : c.loop-index.index < length_in (plan_of_view c.args.view c.args.replica.now.protocol.change.plan) = omega (arith, counted, test) in
    subst (λ (p : Option Plan). c.loop-index.index < length_in p) (sym (ap (λ (t : Tables _). plan_of_view c.args.view t.change.plan) c.loop-index.invariant.writes.tables)) lt

pub loop-index-preserved : goal.loop-index-preserved
loop-index-preserved g c =
    carried_more c.args.view c.args.evidence.now c.loop-index.index c.args.replica.now c.loop-index.replica c.carry_on_at.new.replica c.loop-index.invariant c.carry_on_at.ensures.writes c.in_ok-carry_on_at.ensures.carries

pub returns-clause-carries : goal.returns-clause-carries
returns-clause-carries g c = λ me d m o st.
    let counted = c.plan_length-index-end.ensures in
    let test = c.loop-index-test.false in
    let le : length_in (plan_of_view c.args.view c.args.replica.now.protocol.change.plan) ≤ c.loop-index.index = omega (arith, counted, test) in
    carried_all c.args.view c.args.evidence.now c.loop-index.index c.args.replica.now c.loop-index.replica c.loop-index.invariant le me d m o st
