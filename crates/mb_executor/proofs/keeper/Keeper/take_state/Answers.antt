use Rattle.std.proofs.Common.{refl, subst}
use Rattle.mb_base.specs.Shapes.{Bytes}
use Rattle.mb_cache.specs.Represents.{snapshots_of}
use Rattle.mb_executor.specs.Keeping.{Keeping, found}
use Rattle.mb_executor.specs.Taking.{Takes}
use Rattle.mb_executor.proofs.Joining.{taken_from}
use Rattle.mb_executor.proofs.keeper.Keeper.take_state.Goals as goal

pub returns : goal.returns
returns g c =
    let m = c.args.m.now in
    let old = c.args.self.now in
    let new = c.join.new.self in
    let snapshots = snapshots_of g.V.Service.machine in
    let search = found old.fetched in
    let held = c.in_ok-parts.ensures.parts in
    let joins = c.join.ensures search (record { pos_is = held.pos_is; digest_is = refl; finds = held.finds }) in
    taken_from snapshots c.args.certified.now search m old new c.join.result
    (subst (λ (k : Keeping _). Takes snapshots c.args.certified.now search m k new c.join.result) c.take_parts.ensures.rest
    (subst (λ (digest : Bytes). Takes snapshots digest search m c.take_parts.new.self new c.join.result) held.digest_is joins))
