use Rattle.std.proofs.Common.{◌∙◌, refl, sym, ap}
use Rattle.mb_msg.specs.AsStamped.{stamped_digest}
use Rattle.mb_model.specs.CarriedOut.{carry_out}
use Rattle.mb_model.specs.Sending.{signed}
use Rattle.mb_base.specs.declared.names.Ui.{Ui}
use Rattle.mb_msg.specs.declared.change.Enter.{Enter as EnterMessage}
use Rattle.mb_msg.specs.declared.stamped.Stamped.TheVariants as stamped
use Rattle.mb_model.specs.EnabledRules.{Enter}
use Rattle.mb_model.specs.Making.{enter}
use Rattle.mb_core.specs.declared.stamping.TheConstants.{NO_UI}
use Rattle.mb_core.proofs.OwnChanges.{enter_due, enter_may, enter_made, enter_waits, some_new_view, own_host}
use Rattle.mb_core.proofs.Publishing.{is_next, fits_unsigned, is_left, no_ui_fits, sent_signed, room_signed, begun, then_change, rule_ends}
use Rattle.mb_core.proofs.enters.enter.Goals as goal

-- src/enters.rt
pub returns-in_default : goal.returns-in_default
returns-in_default g c = λ me x n st next. absurd (some_new_view me c.args.replica.now c.args.replica.now x.history n (is_next me c.args.replica.now c.args.done.now x (Enter n) st next) c.in_default.ensures)

pub sign-requires-clause-fits : goal.sign-requires-clause-fits
sign-requires-clause-fits g c =
    let r = c.args.replica.now in
    let q = enter_due _ r c.args.done.now c.requires in
    fits_unsigned q.me r q.history q.next.represents (signed q.me q.history (enter q.new_view)) (enter_may q.me r r q.history q.new_view q.next) (stamped.Enter (record { view = c.in-Some.new_view.now.view; counter = c.in-Some.new_view.now.ui.counter; plan = c.in-Some.new_view.now.plan; ui = NO_UI })) (no_ui_fits r.protocol.shape)
    (enter_made q.me r r q.history q.new_view q.next c.in-Some.new_view.now c.in-Some.ensures)

pub sign-requires-clause-unspent : goal.sign-requires-clause-unspent
sign-requires-clause-unspent g c =
    let r = c.args.replica.now in
    let q = enter_due _ r c.args.done.now c.requires in
    is_left q.me r q.history q.next.represents (signed q.me q.history (enter q.new_view)) (enter_may q.me r r q.history q.new_view q.next)

pub publish-requires-clause-room : goal.publish-requires-clause-room
publish-requires-clause-room g c =
    let r = c.args.replica.now in
    let q = enter_due _ r c.args.done.now c.requires in
    room_signed q.me r q.history q.next.represents (signed q.me q.history (enter q.new_view)) (enter_may q.me r r q.history q.new_view q.next) c.hold_enter.new.replica (then_change q.me r c.sign.new.replica c.hold_enter.new.replica (begun q.me r c.sign.new.replica c.in_ok-signed.ensures.writes) c.hold_enter.ensures.writes) c.in_ok-signed.signed.message
    ((c.in_ok-signed.ensures.signed q.me q.history q.next.represents.who q.next.represents.tables.counter).message ∙ enter_made q.me r r q.history q.new_view q.next c.in-Some.new_view.now c.in-Some.ensures)

pub publish-requires-clause-fits : goal.publish-requires-clause-fits
publish-requires-clause-fits g c =
    let r = c.args.replica.now in
    let q = enter_due _ r c.args.done.now c.requires in
    sent_signed q.me r q.history q.next.represents (signed q.me q.history (enter q.new_view)) (enter_may q.me r r q.history q.new_view q.next) c.hold_enter.new.replica (then_change q.me r c.sign.new.replica c.hold_enter.new.replica (begun q.me r c.sign.new.replica c.in_ok-signed.ensures.writes) c.hold_enter.ensures.writes) c.in_ok-signed.signed.message
    ((c.in_ok-signed.ensures.signed q.me q.history q.next.represents.who q.next.represents.tables.counter).message ∙ enter_made q.me r r q.history q.new_view q.next c.in-Some.new_view.now c.in-Some.ensures)

pub publish-requires-clause-body : goal.publish-requires-clause-body
publish-requires-clause-body g c =
    let r = c.args.replica.now in
    let q = enter_due _ r c.args.done.now c.requires in
    let s = c.in_ok-signed.ensures.signed q.me q.history q.next.represents.who q.next.represents.tables.counter in
    s.body ∙ ap stamped_digest (sym s.message)

pub hold_enter-requires : goal.hold_enter-requires
hold_enter-requires g c =
    let r = c.args.replica.now in
    let q = enter_due _ r c.args.done.now c.requires in
    let s = c.in_ok-signed.ensures.signed q.me q.history q.next.represents.who q.next.represents.tables.counter in
    own_host q.me r c.sign.new.replica q.history q.next.represents.who c.in_ok-signed.ensures.writes.same c.in_ok-signed.signed.ui.host (ap (λ (u : Ui). u.host) s.ui)

pub returns : goal.returns
unfolding carry_out
returns g c = λ me x n st next.
    let r = c.args.replica.now in
    let y = c.in-Some.new_view.now in
    let is = is_next me r c.args.done.now x (Enter n) st next in
    let made = enter_made me r r x.history n is y c.in-Some.ensures in
    let s = c.in_ok-signed.ensures.signed me x.history st.represents.who st.represents.tables.counter in
    let kept : EnterMessage = record { view = y.view; counter = y.ui.counter; plan = y.plan; ui = c.in_ok-signed.signed.ui } in
    rule_ends me c.publish.result r c.hold_enter.new.replica c.publish.new.replica c.args.done.now c.publish.new.done x (Enter n) c.in_ok-signed.signed.message (signed me x.history (enter n)) st next refl (s.message ∙ made)
    (enter_waits me r c.sign.new.replica x.history n is c.in_ok-signed.ensures.writes c.hold_enter.new.replica c.hold_enter.ensures.writes kept
    (ap (λ (u : Ui). stamped.Enter (record { view = y.view; counter = y.ui.counter; plan = y.plan; ui = u })) s.ui ∙ made) c.hold_enter.ensures.holds)
    c.publish.ensures.sent c.publish.ensures.kept c.publish.ensures.log c.publish.ensures.gates c.publish.ensures.writes
