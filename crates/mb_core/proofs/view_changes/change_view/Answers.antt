use Rattle.std.proofs.Common.{◌∙◌, refl, sym, ap}
use Rattle.mb_msg.specs.AsStamped.{stamped_digest}
use Rattle.mb_model.specs.CarriedOut.{carry_out}
use Rattle.mb_model.specs.Sending.{signed}
use Rattle.mb_model.specs.EnabledRules.{ChangeView}
use Rattle.mb_model.specs.Making.{view_change}
use Rattle.mb_replica.proofs.Accepted.{still_host}
use Rattle.mb_core.proofs.OwnChanges.{change_due}
use Rattle.mb_core.proofs.OwnViews.{change_may, change_waits, own_change}
use Rattle.mb_core.proofs.Publishing.{is_next, fits_raw, signed_raw, is_left, fits_signed, sent_signed, room_signed, begun, then_normal, then_change, rule_ends, when_noted}
use Rattle.mb_core.proofs.StillSigned.{went_well, still_signed}
use Rattle.mb_core.proofs.view_changes.change_view.Goals as goal

-- src/view_changes.rt
pub sign-requires-clause-fits : goal.sign-requires-clause-fits
sign-requires-clause-fits g c =
    let r = c.args.replica.now in
    let q = change_due _ r c.args.done.now c.args.view c.requires in
    fits_raw q.me r q.history q.next.represents (signed q.me q.history (view_change q.me q.history c.args.view)) (change_may q.me r r q.history c.args.view q.next) (view_change q.me q.history c.args.view) c.in_ok-message.message (c.in_ok-message.ensures q.me q.history q.next.represents) refl

pub sign-requires-clause-unspent : goal.sign-requires-clause-unspent
sign-requires-clause-unspent g c =
    let r = c.args.replica.now in
    let q = change_due _ r c.args.done.now c.args.view c.requires in
    is_left q.me r q.history q.next.represents (signed q.me q.history (view_change q.me q.history c.args.view)) (change_may q.me r r q.history c.args.view q.next)

pub publish-requires-clause-room : goal.publish-requires-clause-room
publish-requires-clause-room g c =
    let r = c.args.replica.now in
    let q = change_due _ r c.args.done.now c.args.view c.requires in
    room_signed q.me r q.history q.next.represents (signed q.me q.history (view_change q.me q.history c.args.view)) (change_may q.me r r q.history c.args.view q.next) c.count_opens.new.self (then_normal q.me r c.clear_votes.new.replica c.count_opens.new.self (then_normal q.me r c.store_own.new.replica c.clear_votes.new.replica (then_change q.me r c.wish_own.new.replica c.store_own.new.replica (then_change q.me r c.sign.new.replica c.wish_own.new.replica (begun q.me r c.sign.new.replica c.in_ok-signed.ensures.writes) c.wish_own.ensures.writes) c.store_own.ensures.writes) c.clear_votes.ensures.writes) c.count_opens.ensures.writes) c.in_ok-signed-2.signed.message ((still_signed _ c.store_own.result c.in_ok-signed.signed c.in_ok-signed-2.signed c.in_ok-signed-2.ensures (c.in_ok-signed.ensures.signed q.me q.history q.next.represents.who q.next.represents.tables.counter)).message ∙ signed_raw q.me q.history (view_change q.me q.history c.args.view) c.in_ok-message.message (c.in_ok-message.ensures q.me q.history q.next.represents))

pub publish-requires-clause-fits : goal.publish-requires-clause-fits
publish-requires-clause-fits g c =
    let r = c.args.replica.now in
    let q = change_due _ r c.args.done.now c.args.view c.requires in
    sent_signed q.me r q.history q.next.represents (signed q.me q.history (view_change q.me q.history c.args.view)) (change_may q.me r r q.history c.args.view q.next) c.count_opens.new.self (then_normal q.me r c.clear_votes.new.replica c.count_opens.new.self (then_normal q.me r c.store_own.new.replica c.clear_votes.new.replica (then_change q.me r c.wish_own.new.replica c.store_own.new.replica (then_change q.me r c.sign.new.replica c.wish_own.new.replica (begun q.me r c.sign.new.replica c.in_ok-signed.ensures.writes) c.wish_own.ensures.writes) c.store_own.ensures.writes) c.clear_votes.ensures.writes) c.count_opens.ensures.writes) c.in_ok-signed-2.signed.message ((still_signed _ c.store_own.result c.in_ok-signed.signed c.in_ok-signed-2.signed c.in_ok-signed-2.ensures (c.in_ok-signed.ensures.signed q.me q.history q.next.represents.who q.next.represents.tables.counter)).message ∙ signed_raw q.me q.history (view_change q.me q.history c.args.view) c.in_ok-message.message (c.in_ok-message.ensures q.me q.history q.next.represents))

pub publish-requires-clause-body : goal.publish-requires-clause-body
publish-requires-clause-body g c =
    let q = change_due _ c.args.replica.now c.args.done.now c.args.view c.requires in
    let s = still_signed _ c.store_own.result c.in_ok-signed.signed c.in_ok-signed-2.signed c.in_ok-signed-2.ensures (c.in_ok-signed.ensures.signed q.me q.history q.next.represents.who q.next.represents.tables.counter) in
    s.body ∙ ap stamped_digest (sym s.message)

pub store_own-requires : goal.store_own-requires
store_own-requires g c =
    let r = c.args.replica.now in
    let q = change_due _ r c.args.done.now c.args.view c.requires in
    fits_signed q.me r q.history q.next.represents (signed q.me q.history (view_change q.me q.history c.args.view)) (change_may q.me r r q.history c.args.view q.next) c.wish_own.new.replica (then_change q.me r c.sign.new.replica c.wish_own.new.replica (begun q.me r c.sign.new.replica c.in_ok-signed.ensures.writes) c.wish_own.ensures.writes) c.in_ok-signed.signed.message ((c.in_ok-signed.ensures.signed q.me q.history q.next.represents.who q.next.represents.tables.counter).message ∙ signed_raw q.me q.history (view_change q.me q.history c.args.view) c.in_ok-message.message (c.in_ok-message.ensures q.me q.history q.next.represents))

pub returns : goal.returns
unfolding carry_out
returns g c = λ me x st next.
    let r = c.args.replica.now in
    let is = is_next me r c.args.done.now x (ChangeView c.args.view) st next in
    let made = signed_raw me x.history (view_change me x.history c.args.view) c.in_ok-message.message (c.in_ok-message.ensures me x.history st.represents) in
    let first = c.in_ok-signed.ensures.signed me x.history st.represents.who st.represents.tables.counter in
    let s = still_signed _ c.store_own.result c.in_ok-signed.signed c.in_ok-signed-2.signed c.in_ok-signed-2.ensures first in
    let who = still_host me c.sign.new.replica c.wish_own.new.replica c.wish_own.ensures.writes.same (still_host me r c.sign.new.replica c.in_ok-signed.ensures.writes.same st.represents.who) in
    let stores = went_well c.store_own.result c.in_ok-signed.signed c.in_ok-signed-2.signed c.in_ok-signed-2.ensures (c.store_own.ensures.stores me (own_change me x.history c.args.view) who (first.message ∙ made) refl) in
    when_noted me c.publish.result c.publish.new.replica c.publish.new.done _ _
    (rule_ends me c.publish.result r c.count_opens.new.self c.publish.new.replica c.args.done.now c.publish.new.done x (ChangeView c.args.view) c.in_ok-signed-2.signed.message (signed me x.history (view_change me x.history c.args.view))
    st next refl (s.message ∙ made)
    (change_waits me r c.sign.new.replica x.history c.args.view is c.in_ok-signed.ensures.writes c.wish_own.new.replica c.store_own.new.replica c.clear_votes.new.replica c.count_opens.new.self c.wish_own.ensures.writes c.wish_own.ensures.wishes
    c.store_own.ensures.writes stores c.clear_votes.ensures.writes c.clear_votes.ensures.clears c.count_opens.ensures.writes c.count_opens.ensures.counts)
    c.publish.ensures.sent c.publish.ensures.kept c.publish.ensures.log c.publish.ensures.gates c.publish.ensures.writes)
