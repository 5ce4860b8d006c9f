use Rattle.std.proofs.Common.{refl}
use Rattle.std.proofs.lemmas.Result.{on_ok_weaker}
use Rattle.mb_change.proofs.Standing.{change_stands}
use Rattle.mb_change.proofs.change.Change.store.Goals as goal

pub returns-clause-stands : goal.returns-clause-stands
returns-clause-stands c =
    let old = c.self.inside.changes.entries in
    let new = c.put_last.new.changes.entries in
    let inside = c.self.invariant in
    on_ok_weaker c.put_last.result (λ pushed. change_stands _ _ _ old new c.args.change c.self.view_is refl refl inside.of_hosts inside.unique pushed) c.put_last.ensures.ok
