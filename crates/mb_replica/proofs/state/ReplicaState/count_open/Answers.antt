use Rattle.std.proofs.Common.{◌<◌, ◌≤◌, ◌+◌, refl, sym, subst, arith}
use Rattle.mb_base.specs.declared.shape.Shape.{Shape}
use Rattle.mb_base.specs.Shapes.{host_count}
use Rattle.mb_model.specs.Held.{plan_of_view}
use Rattle.mb_change.specs.Tables.{Table as ChangeTable}
use Rattle.mb_change.specs.declared.opened.Opened.{Opened}
use Rattle.mb_replica.specs.Holding.{base_in, length_in}
use Rattle.mb_replica.proofs.OpenVotes.{one_passed, change_left, positions_begin, positions_more, positions_end}
use Rattle.mb_replica.proofs.state.ReplicaState.count_open.Goals as goal

-- src/open_votes.rt
pub returns-then-not-is_counted-clause-counts : goal.returns-then-not-is_counted-clause-counts
returns-then-not-is_counted-clause-counts g c =
    let o : Opened = record { view = c.opened_by-view.result.0; counter = c.opened_by-view.result.1; plan = c.opened_by-view.result.2 } in
    one_passed c.args.self.now c.args.here c.args.host o c.requires c.opened_by-view.ensures (sym (c.if-not-is_counted.ensures c.opened_by-view.result.1))

pub loop-index-init : goal.loop-index-init
loop-index-init g c =
    let o : Opened = record { view = c.opened_by-view.result.0; counter = c.opened_by-view.result.1; plan = c.opened_by-view.result.2 } in
    positions_begin c.args.self.now c.args.here c.args.host o c.requires c.opened_by-view.ensures (sym (c.if-not-is_counted.ensures c.opened_by-view.result.1)) _ (omega arith)

pub count_open_at-requires : goal.count_open_at-requires
count_open_at-requires g c =
    let w = c.loop-index.invariant.writes in
    let first = c.args.self.now in
    let lt : c.loop-index.index < length_in (plan_of_view c.args.here first.protocol.change.plan) = omega (arith, c.loop-index-test.true, c.plan_length-index-end.ensures) in
    record {
      host = subst (λ (s : Shape). c.args.host < host_count s) (sym w.same.shape) c.requires;
      index = subst (λ (t : ChangeTable). c.loop-index.index < length_in (plan_of_view c.args.here t.plan)) (sym (change_left first c.loop-index.self w)) lt;
    }

pub loop-index-preserved : goal.loop-index-preserved
loop-index-preserved g c =
    let o : Opened = record { view = c.opened_by-view.result.0; counter = c.opened_by-view.result.1; plan = c.opened_by-view.result.2 } in
    let first = c.args.self.now in
    let lt : c.loop-index.index < length_in (plan_of_view c.args.here first.protocol.change.plan) = omega (arith, c.loop-index-test.true, c.plan_length-index-end.ensures) in
    positions_more first c.args.here c.args.host o c.requires c.opened_by-view.ensures (sym (c.if-not-is_counted.ensures c.opened_by-view.result.1)) c.loop-index.self c.count_open_at.new.self c.opened_by-view.result.1 c.loop-index.index
    (base_in (plan_of_view c.args.here first.protocol.change.plan) + c.loop-index.index) _ refl lt refl (omega arith) c.loop-index.invariant c.count_open_at.ensures.writes c.count_open_at.ensures.counts

pub returns-clause-counts : goal.returns-clause-counts
returns-clause-counts g c =
    let o : Opened = record { view = c.opened_by-view.result.0; counter = c.opened_by-view.result.1; plan = c.opened_by-view.result.2 } in
    let first = c.args.self.now in
    let most : length_in (plan_of_view c.args.here first.protocol.change.plan) ≤ c.loop-index.index = omega (arith, c.loop-index-test.false, c.plan_length-index-end.ensures) in
    positions_end first c.args.here c.args.host o c.requires c.opened_by-view.ensures (sym (c.if-not-is_counted.ensures c.opened_by-view.result.1)) c.loop-index.self c.loop-index.index
    (base_in (plan_of_view c.args.here first.protocol.change.plan) + c.loop-index.index) most refl c.loop-index.invariant
