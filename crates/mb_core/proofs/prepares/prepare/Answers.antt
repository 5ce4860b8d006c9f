use Rattle.std.proofs.Common.{◌∙◌, refl, sym, ap, Some}
use Rattle.mb_msg.specs.AsStamped.{stamped_digest}
use Rattle.mb_model.specs.CarriedOut.{carry_out}
use Rattle.mb_parts.specs.declared.batch.Batch.{Batch}
use Rattle.mb_parts.specs.Bares.{batch_digest}
use Rattle.mb_msg.specs.Stamps.{ui_of}
use Rattle.mb_model.specs.EnabledRules.{Prepare}
use Rattle.mb_model.specs.Making.{prepare}
use Rattle.mb_model.specs.Sending.{signed}
use Rattle.mb_normal.specs.Searches.{searches_in}
use Rattle.mb_msg.specs.declared.stamped.Stamped.TheVariants as stamped
use Rattle.mb_msg.specs.declared.message.Body.TheVariants.{Whole}
use Rattle.mb_core.specs.declared.stamping.TheConstants.{NO_UI}
use Rattle.mb_core.proofs.OwnVotes.{prepare_due, prepare_may, prepare_has, prepare_made, prepare_waits}
use Rattle.mb_core.proofs.Publishing.{is_next, fits_unsigned, is_left, no_ui_fits, sent_signed, room_signed, begun, then_normal, rule_ends}
use Rattle.mb_core.proofs.prepares.prepare.Goals as goal

-- src/prepares.rt
pub sign-requires-clause-fits : goal.sign-requires-clause-fits
sign-requires-clause-fits g c =
    let r = c.args.replica.now in
    let q = prepare_due _ r c.args.done.now c.requires in
    fits_unsigned q.me r q.history q.next.represents (signed q.me q.history (prepare q.me q.history q.pos q.batch)) (prepare_may q.me r r q.history q.pos q.batch q.next) (stamped.Prepare (record { view = c.view.result; pos = c.next_position-pos.result; body = Whole c.in_ok-batch.batch; ui = NO_UI })) (no_ui_fits r.protocol.shape)
    (prepare_made q.me r r q.history q.pos q.batch q.next c.view.result c.next_position-pos.result c.in_ok-batch.batch (c.view.ensures q.me q.history q.next.represents) (c.next_position-pos.ensures q.me q.history q.next.represents) (c.in_ok-batch.ensures q.me.shape q.me.host (searches_in q.me q.history) q.next.represents.tables.normal (prepare_has q.me r r q.history q.pos q.batch q.next).some))

pub sign-requires-clause-unspent : goal.sign-requires-clause-unspent
sign-requires-clause-unspent g c =
    let r = c.args.replica.now in
    let q = prepare_due _ r c.args.done.now c.requires in
    is_left q.me r q.history q.next.represents (signed q.me q.history (prepare q.me q.history q.pos q.batch)) (prepare_may q.me r r q.history q.pos q.batch q.next)

pub with_digest-ordered-requires : goal.with_digest-ordered-requires
with_digest-ordered-requires g c =
    let r = c.args.replica.now in
    let q = prepare_due _ r c.args.done.now c.requires in
    let s = c.in_ok-signed.ensures.signed q.me q.history q.next.represents.who q.next.represents.tables.counter in
    s.body ∙ ap batch_digest (sym c.in_ok-kept.ensures)

pub publish-requires-clause-room : goal.publish-requires-clause-room
publish-requires-clause-room g c =
    let r = c.args.replica.now in
    let q = prepare_due _ r c.args.done.now c.requires in
    room_signed q.me r q.history q.next.represents (signed q.me q.history (prepare q.me q.history q.pos q.batch)) (prepare_may q.me r r q.history q.pos q.batch q.next) c.count_vote.new.self (then_normal q.me r c.put_slot.new.self c.count_vote.new.self (then_normal q.me r c.sign.new.replica c.put_slot.new.self (begun q.me r c.sign.new.replica c.in_ok-signed.ensures.writes) c.put_slot.ensures.writes) c.count_vote.ensures.writes) c.in_ok-signed.signed.message
    ((c.in_ok-signed.ensures.signed q.me q.history q.next.represents.who q.next.represents.tables.counter).message ∙ prepare_made q.me r r q.history q.pos q.batch q.next c.view.result c.next_position-pos.result c.in_ok-batch.batch (c.view.ensures q.me q.history q.next.represents) (c.next_position-pos.ensures q.me q.history q.next.represents) (c.in_ok-batch.ensures q.me.shape q.me.host (searches_in q.me q.history) q.next.represents.tables.normal (prepare_has q.me r r q.history q.pos q.batch q.next).some))

pub publish-requires-clause-fits : goal.publish-requires-clause-fits
publish-requires-clause-fits g c =
    let r = c.args.replica.now in
    let q = prepare_due _ r c.args.done.now c.requires in
    sent_signed q.me r q.history q.next.represents (signed q.me q.history (prepare q.me q.history q.pos q.batch)) (prepare_may q.me r r q.history q.pos q.batch q.next) c.count_vote.new.self (then_normal q.me r c.put_slot.new.self c.count_vote.new.self (then_normal q.me r c.sign.new.replica c.put_slot.new.self (begun q.me r c.sign.new.replica c.in_ok-signed.ensures.writes) c.put_slot.ensures.writes) c.count_vote.ensures.writes) c.in_ok-signed.signed.message
    ((c.in_ok-signed.ensures.signed q.me q.history q.next.represents.who q.next.represents.tables.counter).message ∙ prepare_made q.me r r q.history q.pos q.batch q.next c.view.result c.next_position-pos.result c.in_ok-batch.batch (c.view.ensures q.me q.history q.next.represents) (c.next_position-pos.ensures q.me q.history q.next.represents) (c.in_ok-batch.ensures q.me.shape q.me.host (searches_in q.me q.history) q.next.represents.tables.normal (prepare_has q.me r r q.history q.pos q.batch q.next).some))

pub publish-requires-clause-body : goal.publish-requires-clause-body
publish-requires-clause-body g c =
    let r = c.args.replica.now in
    let q = prepare_due _ r c.args.done.now c.requires in
    let s = c.in_ok-signed.ensures.signed q.me q.history q.next.represents.who q.next.represents.tables.counter in
    s.body ∙ ap stamped_digest (sym s.message)

pub returns : goal.returns
unfolding carry_out
returns g c = λ me x pos b st next.
    let r = c.args.replica.now in
    let n = is_next me r c.args.done.now x (Prepare pos b) st next in
    let made = prepare_made me r r x.history pos b n c.view.result c.next_position-pos.result c.in_ok-batch.batch (c.view.ensures me x.history st.represents) (c.next_position-pos.ensures me x.history st.represents) (c.in_ok-batch.ensures me.shape me.host (searches_in me x.history) st.represents.tables.normal (prepare_has me r r x.history pos b n).some) in
    let s = c.in_ok-signed.ensures.signed me x.history st.represents.who st.represents.tables.counter in
    let first = c.in_ok-batch.ensures me.shape me.host (searches_in me x.history) st.represents.tables.normal (prepare_has me r r x.history pos b n).some in
    rule_ends me c.publish.result r c.count_vote.new.self c.publish.new.replica c.args.done.now c.publish.new.done x (Prepare pos b) c.in_ok-signed.signed.message (signed me x.history (prepare me x.history pos b))
    st next refl (s.message ∙ made)
    (prepare_waits me r c.sign.new.replica x.history pos b n c.in_ok-signed.ensures.writes c.put_slot.new.self c.count_vote.new.self c.put_slot.ensures.writes c.count_vote.ensures.writes c.next_position-pos.result
    c.in_ok-signed.signed.ui c.in_ok-signed.signed.body c.with_digest-ordered.result (c.next_position-pos.ensures me x.history st.represents) (s.ui ∙ ap ui_of made) (s.body ∙ ap stamped_digest made) (ap (λ (y : Batch). Some y) (c.with_digest-ordered.ensures ∙ c.in_ok-kept.ensures) ∙ first)
    c.put_slot.ensures.puts c.count_vote.ensures.counts)
    c.publish.ensures.sent c.publish.ensures.kept c.publish.ensures.log c.publish.ensures.gates c.publish.ensures.writes
