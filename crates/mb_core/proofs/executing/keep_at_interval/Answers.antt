use Rattle.std.proofs.Common.{◌≡◌, Bool, refl, subst}
use Rattle.std.specs.Prelude.{OnOk}
use Rattle.mb_model.specs.States.{parts_of}
use Rattle.mb_cache.specs.Represents.{snapshots_of}
use Rattle.mb_executor.specs.Keeping.{with_snapshot}
use Rattle.mb_core.specs.Serving.{WritesShelf, KeepsWhere}
use Rattle.mb_core.proofs.Serving.{on_ok}
use Rattle.mb_core.proofs.Closing.{shelf_written}
use Rattle.mb_core.proofs.executing.keep_at_interval.Goals as goal

-- src/executing.rt
pub returns-then-not-is_at_interval-clause-kept : goal.returns-then-not-is_at_interval-clause-kept
returns-then-not-is_at_interval-clause-kept g c =
    let k = c.args.replica.now.keeper in
    subst (λ (b : Bool). KeepsWhere b c.args.pos (parts_of (snapshots_of g.V.Service.machine) k.served) k.snapshots k.snapshots) c.if-not-is_at_interval.ensures refl

pub returns-clause-writes : goal.returns-clause-writes
returns-clause-writes g c =
    let r = c.args.replica.now in
    let k = c.keep_snapshot.new.self in
    let parts = parts_of (snapshots_of g.V.Service.machine) r.keeper.served in
    on_ok c.keep_snapshot.result (k ≡ with_snapshot r.keeper c.args.pos parts) (WritesShelf r (record r { keeper = k })) (shelf_written r k c.args.pos parts) c.keep_snapshot.ensures.ok

pub returns-clause-kept : goal.returns-clause-kept
returns-clause-kept g c =
    let r = c.args.replica.now in
    let k = c.keep_snapshot.new.self in
    let parts = parts_of (snapshots_of g.V.Service.machine) r.keeper.served in
    subst (λ (b : Bool). OnOk c.keep_snapshot.result (KeepsWhere b c.args.pos parts r.keeper.snapshots k.snapshots)) c.if-not-is_at_interval.ensures c.keep_snapshot.ensures.stands
