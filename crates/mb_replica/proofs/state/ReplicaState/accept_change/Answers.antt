use Rattle.std.proofs.Common.{◌∙◌, refl, sym}
use Rattle.std.proofs.lemmas.Result.{on_ok_weaker}
use Rattle.mb_msg.specs.declared.stamped.Stamped.TheVariants as stamped
use Rattle.mb_change.specs.Searches.{with_wish}
use Rattle.mb_refinement.proofs.Changes.{same_host, change_stored, change_not_stored}
use Rattle.mb_replica.proofs.Accepted.{awaits_change}
use Rattle.mb_replica.proofs.state.ReplicaState.accept_change.Goals as goal

-- src/view_changes.rt
pub returns-then-is_stored : goal.returns-then-is_stored
returns-then-is_stored g c = λ me d r passed.
    let old = c.args.self.now in
    let m = c.args.m in
    on_ok_weaker c.store.result (λ stored. awaits_change me old _ (stamped.ViewChange m) d r passed (record { counter = refl; log = refl; executed = refl; state = refl; nudge = refl }) refl refl refl refl
    (record { same = record { shape = refl; host = refl; secret = refl }; tables = refl })
    (change_stored me old.protocol.change c.store.new.self d (same_host old.protocol.change c.wish.new.self c.store.new.self c.wish.ensures.same c.store.ensures.same) r.tables.change m
    (sym (c.is_stored-is_stored.ensures me d r) ∙ c.if-is_stored.true) (λ s y. stored (with_wish m.ui.host m.view s) (c.wish.ensures.stands s y)))) c.store.ensures.stands

pub returns : goal.returns
returns g c = λ me d r passed.
    let old = c.args.self.now in
    let m = c.args.m in
    awaits_change me old _ (stamped.ViewChange m) d r passed (record { counter = refl; log = refl; executed = refl; state = refl; nudge = refl }) refl refl refl refl
    (record { same = record { shape = refl; host = refl; secret = refl }; tables = refl })
    (change_not_stored me old.protocol.change c.wish.new.self d c.wish.ensures.same r.tables.change m (sym (c.is_stored-is_stored.ensures me d r) ∙ c.if-is_stored.false) c.wish.ensures.stands)
