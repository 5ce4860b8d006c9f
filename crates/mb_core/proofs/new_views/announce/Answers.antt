use Rattle.std.proofs.Common.{◌∙◌, refl, sym, ap}
use Rattle.mb_msg.specs.AsStamped.{stamped_digest}
use Rattle.mb_model.specs.CarriedOut.{carry_out}
use Rattle.mb_model.specs.EnabledRules.{Announce}
use Rattle.mb_model.specs.Held.{plan_from}
use Rattle.mb_model.specs.Making.{new_view}
use Rattle.mb_model.specs.Sending.{signed}
use Rattle.mb_host_laws.proofs.Cases.{some_is}
use Rattle.mb_core.proofs.OwnChanges.{announce_due}
use Rattle.mb_core.proofs.OwnViews.{announce_may, announce_made, announce_begun, announce_waits, own_new_view, some_chosen, chosen_so, members_fit, members_enough, none_planned}
use Rattle.mb_core.proofs.Publishing.{is_next, fits_raw, signed_raw, is_left, sent_signed, room_signed, rule_ends, when_noted}
use Rattle.mb_core.proofs.StillSigned.{went_well, still_signed}
use Rattle.mb_core.proofs.new_views.announce.Goals as goal

-- src/new_views.rt
pub plan_from-requires : goal.plan_from-requires
plan_from-requires g c =
    let r = c.args.replica.now in
    let q = announce_due _ r c.args.done.now c.requires in
    members_fit q.me r r q.history q.changes q.next c.as_slice.result.now (c.as_slice.ensures.value ∙ (chosen_so q.me r r q.history q.changes q.next c.view-view.result (c.view-view.ensures q.me q.history q.next.represents) c.in-Some.changes.items (rw c.in-Some.is at c.in_ok-found.ensures)))

pub sign-requires-clause-fits : goal.sign-requires-clause-fits
sign-requires-clause-fits g c =
    let r = c.args.replica.now in
    let q = announce_due _ r c.args.done.now c.requires in
    fits_raw q.me r q.history q.next.represents (signed q.me q.history (new_view q.me q.history q.changes)) (announce_may q.me r r q.history q.changes q.next) (new_view q.me q.history q.changes) c.new_view-message.result (announce_made q.me r r q.history q.changes q.next c.new_view-message.result c.in-Some.changes.items c.in-Some-planned.plan (c.new_view-message.ensures q.me q.history q.next.represents) (chosen_so q.me r r q.history q.changes q.next c.view-view.result (c.view-view.ensures q.me q.history q.next.represents) c.in-Some.changes.items (rw c.in-Some.is at c.in_ok-found.ensures)) (some_is c.in-Some-planned.plan (plan_from q.me c.as_slice.result.now) (sym c.in-Some-planned.is ∙ c.in_ok-planned.ensures.plan q.me q.history q.next.represents (members_enough q.me r r q.history q.changes q.next c.as_slice.result.now (c.as_slice.ensures.value ∙ (chosen_so q.me r r q.history q.changes q.next c.view-view.result (c.view-view.ensures q.me q.history q.next.represents) c.in-Some.changes.items (rw c.in-Some.is at c.in_ok-found.ensures))))) ∙ ap (plan_from q.me) c.as_slice.ensures.value)) refl

pub sign-requires-clause-unspent : goal.sign-requires-clause-unspent
sign-requires-clause-unspent g c =
    let r = c.args.replica.now in
    let q = announce_due _ r c.args.done.now c.requires in
    is_left q.me r q.history q.next.represents (signed q.me q.history (new_view q.me q.history q.changes)) (announce_may q.me r r q.history q.changes q.next)

pub hold_own-requires : goal.hold_own-requires
hold_own-requires g c =
    let q = announce_due _ c.args.replica.now c.args.done.now c.requires in
    let s = c.in_ok-signed.ensures.signed q.me q.history q.next.represents.who q.next.represents.tables.counter in
    s.body ∙ ap stamped_digest (sym s.message)

pub publish-requires-clause-room : goal.publish-requires-clause-room
publish-requires-clause-room g c =
    let r = c.args.replica.now in
    let q = announce_due _ r c.args.done.now c.requires in
    room_signed q.me r q.history q.next.represents (signed q.me q.history (new_view q.me q.history q.changes)) (announce_may q.me r r q.history q.changes q.next) c.count_opens.new.self (announce_begun q.me r c.sign.new.replica c.in_ok-signed.ensures.writes _ _ c.hold_own.new.replica c.hold_plan.new.self c.count_opens.new.self c.hold_own.ensures.writes (went_well c.hold_plan.result c.in_ok-signed-2.signed c.in_ok-signed-3.signed c.in_ok-signed-3.ensures c.hold_plan.ensures) c.count_opens.ensures.writes) c.in_ok-signed-3.signed.message ((still_signed _ c.hold_plan.result c.in_ok-signed-2.signed c.in_ok-signed-3.signed c.in_ok-signed-3.ensures (still_signed _ c.hold_own.result c.in_ok-signed.signed c.in_ok-signed-2.signed c.in_ok-signed-2.ensures (c.in_ok-signed.ensures.signed q.me q.history q.next.represents.who q.next.represents.tables.counter))).message ∙ signed_raw q.me q.history (new_view q.me q.history q.changes) c.new_view-message.result (announce_made q.me r r q.history q.changes q.next c.new_view-message.result c.in-Some.changes.items c.in-Some-planned.plan (c.new_view-message.ensures q.me q.history q.next.represents) (chosen_so q.me r r q.history q.changes q.next c.view-view.result (c.view-view.ensures q.me q.history q.next.represents) c.in-Some.changes.items (rw c.in-Some.is at c.in_ok-found.ensures)) (some_is c.in-Some-planned.plan (plan_from q.me c.as_slice.result.now) (sym c.in-Some-planned.is ∙ c.in_ok-planned.ensures.plan q.me q.history q.next.represents (members_enough q.me r r q.history q.changes q.next c.as_slice.result.now (c.as_slice.ensures.value ∙ (chosen_so q.me r r q.history q.changes q.next c.view-view.result (c.view-view.ensures q.me q.history q.next.represents) c.in-Some.changes.items (rw c.in-Some.is at c.in_ok-found.ensures))))) ∙ ap (plan_from q.me) c.as_slice.ensures.value)))

pub publish-requires-clause-fits : goal.publish-requires-clause-fits
publish-requires-clause-fits g c =
    let r = c.args.replica.now in
    let q = announce_due _ r c.args.done.now c.requires in
    sent_signed q.me r q.history q.next.represents (signed q.me q.history (new_view q.me q.history q.changes)) (announce_may q.me r r q.history q.changes q.next) c.count_opens.new.self (announce_begun q.me r c.sign.new.replica c.in_ok-signed.ensures.writes _ _ c.hold_own.new.replica c.hold_plan.new.self c.count_opens.new.self c.hold_own.ensures.writes (went_well c.hold_plan.result c.in_ok-signed-2.signed c.in_ok-signed-3.signed c.in_ok-signed-3.ensures c.hold_plan.ensures) c.count_opens.ensures.writes) c.in_ok-signed-3.signed.message ((still_signed _ c.hold_plan.result c.in_ok-signed-2.signed c.in_ok-signed-3.signed c.in_ok-signed-3.ensures (still_signed _ c.hold_own.result c.in_ok-signed.signed c.in_ok-signed-2.signed c.in_ok-signed-2.ensures (c.in_ok-signed.ensures.signed q.me q.history q.next.represents.who q.next.represents.tables.counter))).message ∙ signed_raw q.me q.history (new_view q.me q.history q.changes) c.new_view-message.result (announce_made q.me r r q.history q.changes q.next c.new_view-message.result c.in-Some.changes.items c.in-Some-planned.plan (c.new_view-message.ensures q.me q.history q.next.represents) (chosen_so q.me r r q.history q.changes q.next c.view-view.result (c.view-view.ensures q.me q.history q.next.represents) c.in-Some.changes.items (rw c.in-Some.is at c.in_ok-found.ensures)) (some_is c.in-Some-planned.plan (plan_from q.me c.as_slice.result.now) (sym c.in-Some-planned.is ∙ c.in_ok-planned.ensures.plan q.me q.history q.next.represents (members_enough q.me r r q.history q.changes q.next c.as_slice.result.now (c.as_slice.ensures.value ∙ (chosen_so q.me r r q.history q.changes q.next c.view-view.result (c.view-view.ensures q.me q.history q.next.represents) c.in-Some.changes.items (rw c.in-Some.is at c.in_ok-found.ensures))))) ∙ ap (plan_from q.me) c.as_slice.ensures.value)))

pub publish-requires-clause-body : goal.publish-requires-clause-body
publish-requires-clause-body g c =
    let q = announce_due _ c.args.replica.now c.args.done.now c.requires in
    let s = still_signed _ c.hold_plan.result c.in_ok-signed-2.signed c.in_ok-signed-3.signed c.in_ok-signed-3.ensures (still_signed _ c.hold_own.result c.in_ok-signed.signed c.in_ok-signed-2.signed c.in_ok-signed-2.ensures (c.in_ok-signed.ensures.signed q.me q.history q.next.represents.who q.next.represents.tables.counter)) in
    s.body ∙ ap stamped_digest (sym s.message)

pub returns-in_default : goal.returns-in_default
returns-in_default g c = λ me x changes st next.
    let r = c.args.replica.now in
    let is = is_next me r c.args.done.now x (Announce changes) st next in
    absurd (some_chosen me r r x.history changes is c.view-view.result (c.view-view.ensures me x.history st.represents) (rw c.in_default.is at c.in_ok-found.ensures))

pub returns-in_default-planned : goal.returns-in_default-planned
returns-in_default-planned g c = λ me x changes st next.
    let r = c.args.replica.now in
    let is = is_next me r c.args.done.now x (Announce changes) st next in
    absurd (none_planned c.in_ok-planned.planned (plan_from me c.as_slice.result.now) c.in_default-planned.is (c.in_ok-planned.ensures.plan me x.history st.represents (members_enough me r r x.history changes is c.as_slice.result.now (c.as_slice.ensures.value ∙ (chosen_so me r r x.history changes is c.view-view.result (c.view-view.ensures me x.history st.represents) c.in-Some.changes.items (rw c.in-Some.is at c.in_ok-found.ensures))))))

pub returns : goal.returns
unfolding carry_out
returns g c = λ me x changes st next.
    let r = c.args.replica.now in
    let is = is_next me r c.args.done.now x (Announce changes) st next in
    let planned = (some_is c.in-Some-planned.plan (plan_from me c.as_slice.result.now) (sym c.in-Some-planned.is ∙ c.in_ok-planned.ensures.plan me x.history st.represents (members_enough me r r x.history changes is c.as_slice.result.now (c.as_slice.ensures.value ∙ (chosen_so me r r x.history changes is c.view-view.result (c.view-view.ensures me x.history st.represents) c.in-Some.changes.items (rw c.in-Some.is at c.in_ok-found.ensures))))) ∙ ap (plan_from me) c.as_slice.ensures.value) ∙ ap (plan_from me) (chosen_so me r r x.history changes is c.view-view.result (c.view-view.ensures me x.history st.represents) c.in-Some.changes.items (rw c.in-Some.is at c.in_ok-found.ensures)) in
    let made = signed_raw me x.history (new_view me x.history changes) c.new_view-message.result (announce_made me r r x.history changes is c.new_view-message.result c.in-Some.changes.items c.in-Some-planned.plan (c.new_view-message.ensures me x.history st.represents) (chosen_so me r r x.history changes is c.view-view.result (c.view-view.ensures me x.history st.represents) c.in-Some.changes.items (rw c.in-Some.is at c.in_ok-found.ensures)) (some_is c.in-Some-planned.plan (plan_from me c.as_slice.result.now) (sym c.in-Some-planned.is ∙ c.in_ok-planned.ensures.plan me x.history st.represents (members_enough me r r x.history changes is c.as_slice.result.now (c.as_slice.ensures.value ∙ (chosen_so me r r x.history changes is c.view-view.result (c.view-view.ensures me x.history st.represents) c.in-Some.changes.items (rw c.in-Some.is at c.in_ok-found.ensures))))) ∙ ap (plan_from me) c.as_slice.ensures.value)) in
    let first = c.in_ok-signed.ensures.signed me x.history st.represents.who st.represents.tables.counter in
    let s = still_signed _ c.hold_plan.result c.in_ok-signed-2.signed c.in_ok-signed-3.signed c.in_ok-signed-3.ensures (still_signed _ c.hold_own.result c.in_ok-signed.signed c.in_ok-signed-2.signed c.in_ok-signed-2.ensures first) in
    when_noted me c.publish.result c.publish.new.replica c.publish.new.done _ _
    (rule_ends me c.publish.result r c.count_opens.new.self c.publish.new.replica c.args.done.now c.publish.new.done x (Announce changes) c.in_ok-signed-3.signed.message (signed me x.history (new_view me x.history changes)) st next refl (s.message ∙ made)
    (announce_waits me r c.sign.new.replica x.history changes is c.in_ok-signed.ensures.writes c.view-view.result c.in-Some-planned.plan (c.view-view.ensures me x.history st.represents) planned c.hold_own.new.replica c.hold_plan.new.self c.count_opens.new.self
    c.hold_own.ensures.writes (went_well c.hold_own.result c.in_ok-signed.signed c.in_ok-signed-2.signed c.in_ok-signed-2.ensures (c.hold_own.ensures.holds (own_new_view me r r x.history changes is) (first.message ∙ made))) (went_well c.hold_plan.result c.in_ok-signed-2.signed c.in_ok-signed-3.signed c.in_ok-signed-3.ensures c.hold_plan.ensures) c.count_opens.ensures.writes c.count_opens.ensures.counts)
    c.publish.ensures.sent c.publish.ensures.kept c.publish.ensures.log c.publish.ensures.gates c.publish.ensures.writes)
