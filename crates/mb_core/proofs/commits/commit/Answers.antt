use Rattle.std.proofs.Common.{◌∙◌, refl, sym, ap}
use Rattle.mb_msg.specs.AsStamped.{stamped_digest}
use Rattle.mb_model.specs.CarriedOut.{carry_out}
use Rattle.mb_model.specs.EnabledRules.{Commit}
use Rattle.mb_model.specs.Making.{commit}
use Rattle.mb_model.specs.Sending.{signed}
use Rattle.mb_normal.specs.Searches.{searches_in}
use Rattle.mb_msg.specs.declared.stamped.Stamped.TheVariants as stamped
use Rattle.mb_msg.specs.declared.message.Body.TheVariants.{Whole}
use Rattle.mb_core.specs.declared.stamping.TheConstants.{NO_UI}
use Rattle.mb_core.proofs.OwnVotes.{commit_due, commit_may, commit_has, commit_made, commit_waits, some_order, some_batch}
use Rattle.mb_core.proofs.Publishing.{is_next, fits_unsigned, is_left, no_ui_fits, sent_signed, room_signed, begun, then_normal, rule_ends}
use Rattle.mb_core.proofs.commits.commit.Goals as goal

-- src/commits.rt
pub returns-in_default : goal.returns-in_default
returns-in_default g c = λ me x k b st next.
    let r = c.args.replica.now in
    absurd (some_order me x.history c.args.pos k b (commit_has me r r x.history c.args.pos k b (is_next me r c.args.done.now x (Commit c.args.pos k b) st next)) (c.in_default.ensures me.shape me.host (searches_in me x.history) st.represents.tables.normal))

pub returns-in_default-batch_at : goal.returns-in_default-batch_at
returns-in_default-batch_at g c = λ me x k b st next.
    let r = c.args.replica.now in
    absurd (some_batch me x.history c.args.pos k b (commit_has me r r x.history c.args.pos k b (is_next me r c.args.done.now x (Commit c.args.pos k b) st next)) (c.in_default-batch_at.ensures me.shape me.host (searches_in me x.history) st.represents.tables.normal))

pub sign-requires-clause-fits : goal.sign-requires-clause-fits
sign-requires-clause-fits g c =
    let r = c.args.replica.now in
    let q = commit_due _ r c.args.done.now c.args.pos c.requires in
    fits_unsigned q.me r q.history q.next.represents (signed q.me q.history (commit q.me q.history c.args.pos q.slot q.batch)) (commit_may q.me r r q.history c.args.pos q.slot q.batch q.next) (stamped.Commit (record { view = c.view.result; pos = c.args.pos; counter = c.in-Some.order.0; cert = c.in-Some.order.1; body = Whole c.in_ok-copy.copy; ui = NO_UI })) (no_ui_fits r.protocol.shape)
    (commit_made q.me r r q.history c.args.pos q.slot q.batch q.next c.view.result c.in-Some.order.0 c.in-Some.order.1 c.in_ok-copy.copy c.in-Some-batch_at.batch.now (c.view.ensures q.me q.history q.next.represents) (c.in-Some.ensures q.me.shape q.me.host (searches_in q.me q.history) q.next.represents.tables.normal) (c.in-Some-batch_at.ensures q.me.shape q.me.host (searches_in q.me q.history) q.next.represents.tables.normal) c.in_ok-copy.ensures)

pub sign-requires-clause-unspent : goal.sign-requires-clause-unspent
sign-requires-clause-unspent g c =
    let r = c.args.replica.now in
    let q = commit_due _ r c.args.done.now c.args.pos c.requires in
    is_left q.me r q.history q.next.represents (signed q.me q.history (commit q.me q.history c.args.pos q.slot q.batch)) (commit_may q.me r r q.history c.args.pos q.slot q.batch q.next)

pub publish-requires-clause-room : goal.publish-requires-clause-room
publish-requires-clause-room g c =
    let r = c.args.replica.now in
    let q = commit_due _ r c.args.done.now c.args.pos c.requires in
    room_signed q.me r q.history q.next.represents (signed q.me q.history (commit q.me q.history c.args.pos q.slot q.batch)) (commit_may q.me r r q.history c.args.pos q.slot q.batch q.next) c.count_vote.new.self (then_normal q.me r c.sign.new.replica c.count_vote.new.self (begun q.me r c.sign.new.replica c.in_ok-signed.ensures.writes) c.count_vote.ensures.writes) c.in_ok-signed.signed.message
    ((c.in_ok-signed.ensures.signed q.me q.history q.next.represents.who q.next.represents.tables.counter).message ∙ commit_made q.me r r q.history c.args.pos q.slot q.batch q.next c.view.result c.in-Some.order.0 c.in-Some.order.1 c.in_ok-copy.copy c.in-Some-batch_at.batch.now (c.view.ensures q.me q.history q.next.represents) (c.in-Some.ensures q.me.shape q.me.host (searches_in q.me q.history) q.next.represents.tables.normal) (c.in-Some-batch_at.ensures q.me.shape q.me.host (searches_in q.me q.history) q.next.represents.tables.normal) c.in_ok-copy.ensures)

pub publish-requires-clause-fits : goal.publish-requires-clause-fits
publish-requires-clause-fits g c =
    let r = c.args.replica.now in
    let q = commit_due _ r c.args.done.now c.args.pos c.requires in
    sent_signed q.me r q.history q.next.represents (signed q.me q.history (commit q.me q.history c.args.pos q.slot q.batch)) (commit_may q.me r r q.history c.args.pos q.slot q.batch q.next) c.count_vote.new.self (then_normal q.me r c.sign.new.replica c.count_vote.new.self (begun q.me r c.sign.new.replica c.in_ok-signed.ensures.writes) c.count_vote.ensures.writes) c.in_ok-signed.signed.message
    ((c.in_ok-signed.ensures.signed q.me q.history q.next.represents.who q.next.represents.tables.counter).message ∙ commit_made q.me r r q.history c.args.pos q.slot q.batch q.next c.view.result c.in-Some.order.0 c.in-Some.order.1 c.in_ok-copy.copy c.in-Some-batch_at.batch.now (c.view.ensures q.me q.history q.next.represents) (c.in-Some.ensures q.me.shape q.me.host (searches_in q.me q.history) q.next.represents.tables.normal) (c.in-Some-batch_at.ensures q.me.shape q.me.host (searches_in q.me q.history) q.next.represents.tables.normal) c.in_ok-copy.ensures)

pub publish-requires-clause-body : goal.publish-requires-clause-body
publish-requires-clause-body g c =
    let r = c.args.replica.now in
    let q = commit_due _ r c.args.done.now c.args.pos c.requires in
    let s = c.in_ok-signed.ensures.signed q.me q.history q.next.represents.who q.next.represents.tables.counter in
    s.body ∙ ap stamped_digest (sym s.message)

pub returns : goal.returns
unfolding carry_out
returns g c = λ me x k b st next.
    let r = c.args.replica.now in
    let n = is_next me r c.args.done.now x (Commit c.args.pos k b) st next in
    let made = commit_made me r r x.history c.args.pos k b n c.view.result c.in-Some.order.0 c.in-Some.order.1 c.in_ok-copy.copy c.in-Some-batch_at.batch.now (c.view.ensures me x.history st.represents) (c.in-Some.ensures me.shape me.host (searches_in me x.history) st.represents.tables.normal) (c.in-Some-batch_at.ensures me.shape me.host (searches_in me x.history) st.represents.tables.normal) c.in_ok-copy.ensures in
    let s = c.in_ok-signed.ensures.signed me x.history st.represents.who st.represents.tables.counter in
    rule_ends me c.publish.result r c.count_vote.new.self c.publish.new.replica c.args.done.now c.publish.new.done x (Commit c.args.pos k b) c.in_ok-signed.signed.message (signed me x.history (commit me x.history c.args.pos k b))
    st next refl (s.message ∙ made)
    (commit_waits me r c.sign.new.replica x.history c.args.pos k b n c.in_ok-signed.ensures.writes c.count_vote.new.self c.count_vote.ensures.writes c.in-Some.order.0 c.in-Some.order.1 c.in_ok-signed.signed.body
    (c.in-Some.ensures me.shape me.host (searches_in me x.history) st.represents.tables.normal) (s.body ∙ ap stamped_digest made) c.count_vote.ensures.counts)
    c.publish.ensures.sent c.publish.ensures.kept c.publish.ensures.log c.publish.ensures.gates c.publish.ensures.writes
