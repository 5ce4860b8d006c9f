use Rattle.std.proofs.Common.{◌∙◌, ◌<◌, ℕ, refl, ap, sym, subst}
use Rattle.mb_base.specs.declared.shape.Shape.{Shape}
use Rattle.mb_base.specs.Shapes.{client_count}
use Rattle.mb_normal.specs.Searches.{with_settled}
use Rattle.mb_cache.specs.Represents.{machine_of}
use Rattle.mb_executor.specs.Keeping.{Keeping}
use Rattle.mb_refinement.proofs.Positions.{left_by_call}
use Rattle.mb_replica.specs.Represents.{tables_of}
use Rattle.mb_replica.proofs.Asking.{clients_known}
use Rattle.mb_core.proofs.Serving.{client_known, place_fits, replied}
use Rattle.mb_core.proofs.executing.serve.Goals as goal

-- src/executing.rt
pub execute-requires : goal.execute-requires
execute-requires g c =
    let t = c.requires.1.1 in
    let r = c.args.replica.now in
    let q = c.args.request.now in
    record {
      client = subst (λ (n : ℕ). q.client < n) (sym (clients_known t.me r t.left.history t.stands.stands.represents)) (client_known t.me r c.args.done.now c.args.pos q c.requires.0 c.requires.1.0 t.left t.stands);
      position = place_fits t.me r c.args.done.now c.args.pos q c.requires.0 c.requires.1.0 t.left t.stands;
    }

pub settle-requires : goal.settle-requires
settle-requires g c =
    let t = c.requires.1.1 in
    let r = c.args.replica.now in
    let q = c.args.request.now in
    subst (λ (s : Shape). q.client < client_count s) (sym r.protocol.normal_is.0) (client_known t.me r c.args.done.now c.args.pos q c.requires.0 c.requires.1.0 t.left t.stands)

pub with_reply-requires : goal.with_reply-requires
with_reply-requires g c =
    let t = c.requires.1.1 in
    let r = c.args.replica.now in
    record {
      client = client_known t.me r c.args.done.now c.args.pos c.args.request.now c.requires.0 c.requires.1.0 t.left t.stands;
      clients = c.execute.ensures.clients ∙ clients_known t.me r t.left.history t.stands.stands.represents;
    }

pub invariant_of-replica-clause-normal_is : goal.invariant_of-replica-clause-normal_is
invariant_of-replica-clause-normal_is g c =
    let a = c.args.replica.now.protocol in
    let left = left_by_call a.normal c.settle.new.self (λ y. with_settled y c.args.request.now.client c.args.request.now.seq) c.settle.ensures in
    (left.shape_is ∙ a.normal_is.0, left.host_is ∙ a.normal_is.1)

pub invariant_of-replica-clause-low_is : goal.invariant_of-replica-clause-low_is
invariant_of-replica-clause-low_is g c =
    let a = c.args.replica.now.protocol in
    (left_by_call a.normal c.settle.new.self (λ y. with_settled y c.args.request.now.client c.args.request.now.seq) c.settle.ensures).low_is ∙ a.low_is

pub returns : goal.returns
returns g c = λ me x more served serves s.
    let r = c.args.replica.now in
    let q = c.args.request.now in
    let tables = ap (λ (y : Keeping _). record (tables_of r) { normal = c.settle.new.self; service = c.execute.new.self.served; shelf = y.snapshots; parts = y.fetched }) c.in_ok-fresh.ensures.served in
    replied me r c.args.done.now c.args.pos q more served x s _ c.with_reply.new.done (machine_of g.V.Service.machine) c.in_ok-fresh.fresh serves.machine
    (record { same = record { shape = refl; host = refl; secret = refl }; tables = tables }) c.in_ok-fresh.ensures.stands c.settle.ensures c.in_ok-fresh.ensures.fresh (λ y p l. c.in_ok-with_reply.ensures me y p l)
