use Rattle.std.proofs.Common.{◌∙◌, refl, sym, ap}
use Rattle.mb_msg.specs.AsStamped.{stamped_digest}
use Rattle.mb_model.specs.CarriedOut.{carry_out}
use Rattle.mb_model.specs.Sending.{signed}
use Rattle.mb_model.specs.EnabledRules.{Join}
use Rattle.mb_model.specs.Making.{join}
use Rattle.mb_msg.specs.declared.stamped.Stamped.TheVariants as stamped
use Rattle.mb_core.specs.declared.stamping.TheConstants.{NO_UI}
use Rattle.mb_core.proofs.OwnChanges.{join_due, join_may, join_made, join_waits}
use Rattle.mb_core.proofs.Publishing.{is_next, fits_unsigned, is_left, no_ui_fits, sent_signed, room_signed, begun, rule_ends}
use Rattle.mb_core.proofs.joins.join.Goals as goal

-- src/joins.rt
pub sign-requires-clause-fits : goal.sign-requires-clause-fits
sign-requires-clause-fits g c =
    let r = c.args.replica.now in
    let q = join_due _ r c.args.done.now c.requires in
    fits_unsigned q.me r q.history q.next.represents (signed q.me q.history (join q.me q.history)) (join_may q.me r r q.history q.next) (stamped.Join (record { view = c.view.result; evidence = c.in_ok-evidence.evidence; stable = c.in_ok-stable.stable; ui = NO_UI })) (no_ui_fits r.protocol.shape)
    (join_made q.me r r q.history q.next c.view.result c.in_ok-evidence.evidence c.in_ok-stable.stable (c.view.ensures q.me q.history q.next.represents) (c.in_ok-evidence.ensures q.me q.history q.next.represents) c.in_ok-stable.ensures)

pub sign-requires-clause-unspent : goal.sign-requires-clause-unspent
sign-requires-clause-unspent g c =
    let r = c.args.replica.now in
    let q = join_due _ r c.args.done.now c.requires in
    is_left q.me r q.history q.next.represents (signed q.me q.history (join q.me q.history)) (join_may q.me r r q.history q.next)

pub publish-requires-clause-room : goal.publish-requires-clause-room
publish-requires-clause-room g c =
    let r = c.args.replica.now in
    let q = join_due _ r c.args.done.now c.requires in
    room_signed q.me r q.history q.next.represents (signed q.me q.history (join q.me q.history)) (join_may q.me r r q.history q.next) c.sign.new.replica (begun q.me r c.sign.new.replica c.in_ok-signed.ensures.writes) c.in_ok-signed.signed.message
    ((c.in_ok-signed.ensures.signed q.me q.history q.next.represents.who q.next.represents.tables.counter).message ∙ join_made q.me r r q.history q.next c.view.result c.in_ok-evidence.evidence c.in_ok-stable.stable (c.view.ensures q.me q.history q.next.represents) (c.in_ok-evidence.ensures q.me q.history q.next.represents) c.in_ok-stable.ensures)

pub publish-requires-clause-fits : goal.publish-requires-clause-fits
publish-requires-clause-fits g c =
    let r = c.args.replica.now in
    let q = join_due _ r c.args.done.now c.requires in
    sent_signed q.me r q.history q.next.represents (signed q.me q.history (join q.me q.history)) (join_may q.me r r q.history q.next) c.sign.new.replica (begun q.me r c.sign.new.replica c.in_ok-signed.ensures.writes) c.in_ok-signed.signed.message
    ((c.in_ok-signed.ensures.signed q.me q.history q.next.represents.who q.next.represents.tables.counter).message ∙ join_made q.me r r q.history q.next c.view.result c.in_ok-evidence.evidence c.in_ok-stable.stable (c.view.ensures q.me q.history q.next.represents) (c.in_ok-evidence.ensures q.me q.history q.next.represents) c.in_ok-stable.ensures)

pub publish-requires-clause-body : goal.publish-requires-clause-body
publish-requires-clause-body g c =
    let r = c.args.replica.now in
    let q = join_due _ r c.args.done.now c.requires in
    let s = c.in_ok-signed.ensures.signed q.me q.history q.next.represents.who q.next.represents.tables.counter in
    s.body ∙ ap stamped_digest (sym s.message)

pub returns : goal.returns
unfolding carry_out
returns g c = λ me x st next.
    let r = c.args.replica.now in
    let is = is_next me r c.args.done.now x Join st next in
    let made = join_made me r r x.history is c.view.result c.in_ok-evidence.evidence c.in_ok-stable.stable (c.view.ensures me x.history st.represents) (c.in_ok-evidence.ensures me x.history st.represents) c.in_ok-stable.ensures in
    let s = c.in_ok-signed.ensures.signed me x.history st.represents.who st.represents.tables.counter in
    rule_ends me c.publish.result r c.sign.new.replica c.publish.new.replica c.args.done.now c.publish.new.done x Join c.in_ok-signed.signed.message (signed me x.history (join me x.history)) st next refl (s.message ∙ made)
    (join_waits me r c.sign.new.replica x.history is c.in_ok-signed.ensures.writes)
    c.publish.ensures.sent c.publish.ensures.kept c.publish.ensures.log c.publish.ensures.gates c.publish.ensures.writes
