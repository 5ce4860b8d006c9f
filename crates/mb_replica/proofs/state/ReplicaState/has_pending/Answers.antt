use Rattle.std.proofs.Common.{◌<◌, ◌≤◌, sym, ◌∙◌, arith}
use Rattle.std.specs.Prelude.{option_copied}
use Rattle.mb_base.specs.Shapes.{client_count}
use Rattle.mb_normal.specs.Searches.{searches_in}
use Rattle.mb_normal.proofs.Unordered.{some_copied}
use Rattle.mb_replica.proofs.Pending.{none_looked, none_more, one_found, none_found}
use Rattle.mb_replica.proofs.state.ReplicaState.has_pending.Goals as goal

-- src/standing.rt
pub loop-client-init : goal.loop-client-init
loop-client-init g c = none_looked c.args.self.now

pub returns-then-is_some : goal.returns-then-is_some
returns-then-is_some g c =
    let lt : c.loop-client.client < client_count c.args.self.now.protocol.shape = omega (arith, c.loop-client-test.true, c.clients-client-end.ensures) in
    one_found c.args.self.now c.loop-client.client (option_copied c.pending.result) lt (λ me d r. c.pending.ensures me.shape me.host (searches_in me d) r.tables.normal)
    (some_copied c.pending.result ∙ sym c.is_some.ensures ∙ c.if-is_some.true) c.loop-client.invariant

pub loop-client-preserved : goal.loop-client-preserved
loop-client-preserved g c =
    let lt : c.loop-client.client < client_count c.args.self.now.protocol.shape = omega (arith, c.loop-client-test.true, c.clients-client-end.ensures) in
    none_more c.args.self.now c.loop-client.client (option_copied c.pending.result) lt (λ me d r. c.pending.ensures me.shape me.host (searches_in me d) r.tables.normal)
    (some_copied c.pending.result ∙ sym c.is_some.ensures ∙ c.if-is_some.false) c.loop-client.invariant

pub returns : goal.returns
returns g c =
    let le : client_count c.args.self.now.protocol.shape ≤ c.loop-client.client = omega (arith, c.loop-client-test.false, c.clients-client-end.ensures) in
    none_found c.args.self.now c.loop-client.client le c.loop-client.invariant
