use Rattle.std.proofs.Common.{refl, ap}
use Rattle.mb_cache.specs.Represents.{snapshots_of}
use Rattle.mb_refinement.specs.Tables.{Tables}
use Rattle.mb_core.proofs.Closing.{none_above, has_place, shelf_closed, closed_stands}
use Rattle.mb_core.proofs.executing.close_slot.Goals as goal

-- src/executing.rt
pub keep_at_interval-requires : goal.keep_at_interval-requires
keep_at_interval-requires g c =
    let t = c.requires in
    record {
      above = none_above t.me c.args.replica.now c.args.done.now c.args.pos c.args.requests t.left t.stands;
      room = has_place t.me c.args.replica.now c.args.done.now c.args.pos c.args.requests t.left t.stands;
    }

pub returns : goal.returns
returns g c = λ me x serves s.
    let r = c.args.replica.now in
    let kept = c.keep_at_interval.new.replica in
    let shelf = shelf_closed me r c.args.done.now c.args.pos c.args.requests x s kept (snapshots_of g.V.Service.machine) serves.snapshots c.in_ok-keep_at_interval.ensures.kept in
    let writes = c.in_ok-keep_at_interval.ensures.writes in
    closed_stands me r c.args.done.now c.args.pos c.args.requests x s _ _
    (record { same = record { shape = writes.same.shape; host = writes.same.host; secret = writes.same.secret }; tables = ap (λ (t : Tables _). record t { exec = c.args.pos }) writes.tables }) shelf
    (record { sent = refl; executed = c.in_ok-push.ensures.ok; installed = refl })
