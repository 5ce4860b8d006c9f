use Rattle.std.proofs.Common.{◌≡◌, ◌∙◌, ℕ, refl, ap, subst, arith, length}
use Rattle.mb_base.specs.Shapes.{client_count}
use Rattle.mb_cache.specs.Tables.{last_of}
use Rattle.mb_model.specs.Service.{Served}
use Rattle.mb_normal.specs.Tables.{Becomes}
use Rattle.mb_normal.specs.Searches.{with_settled}
use Rattle.mb_refinement.specs.Tables.{Tables}
use Rattle.mb_refinement.proofs.Positions.{left_by_call, none_settled, one_settled}
use Rattle.mb_replica.specs.Installing.{Settles}
use Rattle.mb_replica.proofs.state.ReplicaState.settle_all.Goals as goal

-- src/states.rt
pub loop-client-init : goal.loop-client-init
loop-client-init g c = record {
  writes = record { same = record { shape = refl; host = refl; secret = refl }; tables = refl };
  settles = λ s host x st. none_settled s host x (λ k. (last_of c.args.self.now.keeper.served.table k).seq) c.args.self.now.protocol.normal st;
}

pub last_seq-last-requires : goal.last_seq-last-requires
last_seq-last-requires g c =
    let same : c.loop-client.self.keeper.served ≡ c.args.self.now.keeper.served = ap (λ (t : Tables _). t.service) c.loop-client.invariant.writes.tables in
    let count = ap (λ (y : Served _). length y.table) same in
    omega (arith, c.loop-client-test.true, c.clients-client-end.ensures, c.requires, count)

pub settle-requires : goal.settle-requires
settle-requires g c =
    let shape = c.loop-client.self.protocol.normal_is.0 ∙ c.loop-client.invariant.writes.same.shape in
    let count = ap client_count shape in
    omega (arith, c.loop-client-test.true, c.clients-client-end.ensures, count)

pub invariant_of-self-clause-normal_is : goal.invariant_of-self-clause-normal_is
invariant_of-self-clause-normal_is g c =
    let a = c.loop-client.self.protocol in
    let left = left_by_call a.normal c.settle.new.self (λ y. with_settled y c.loop-client.client c.last_seq-last.result) c.settle.ensures in
    (left.shape_is ∙ a.normal_is.0, left.host_is ∙ a.normal_is.1)

pub invariant_of-self-clause-low_is : goal.invariant_of-self-clause-low_is
invariant_of-self-clause-low_is g c =
    let a = c.loop-client.self.protocol in
    (left_by_call a.normal c.settle.new.self (λ y. with_settled y c.loop-client.client c.last_seq-last.result) c.settle.ensures).low_is ∙ a.low_is

pub loop-client-preserved : goal.loop-client-preserved
loop-client-preserved g c =
    let l = c.loop-client.invariant in
    let r = c.args.self.now in
    let n = c.loop-client.client in
    let numbers : ℕ → ℕ = λ k. (last_of r.keeper.served.table k).seq in
    let same : c.loop-client.self.keeper.served ≡ r.keeper.served = ap (λ (t : Tables _). t.service) l.writes.tables in
    let last : c.last_seq-last.result ≡ numbers n = c.last_seq-last.ensures ∙ ap (λ (y : Served _). (last_of y.table n).seq) same in
    record {
      writes = record {
        same = record { shape = l.writes.same.shape; host = l.writes.same.host; secret = l.writes.same.secret };
        tables = ap (λ (t : Tables _). record t { normal = c.settle.new.self }) l.writes.tables;
      };
      settles = λ s host x st. one_settled s host x numbers c.loop-client.self.protocol.normal c.settle.new.self n (l.settles s host x st)
          (subst (λ (k : ℕ). Becomes c.loop-client.self.protocol.normal c.settle.new.self (λ y. with_settled y n k)) last c.settle.ensures);
    }

pub returns-clause-settles : goal.returns-clause-settles
returns-clause-settles g c =
    let l = c.loop-client.invariant in
    let r = c.args.self.now in
    let all : c.loop-client.client ≡ client_count r.protocol.shape = omega (arith, c.loop-client-test.false, c.clients-client-end.ensures, c.loop-client.auto.client-end) in
    subst (λ (n : ℕ). Settles r.protocol.normal c.loop-client.self.protocol.normal (λ k. (last_of r.keeper.served.table k).seq) n) all l.settles
