use Rattle.std.proofs.Common.{◌∙◌, refl, sym, ap}
use Rattle.mb_msg.specs.AsStamped.{stamped_digest}
use Rattle.mb_model.specs.CarriedOut.{carry_out}
use Rattle.mb_model.specs.Sending.{signed}
use Rattle.mb_model.specs.EnabledRules.{Open}
use Rattle.mb_model.specs.Making.{opening}
use Rattle.mb_core.proofs.OwnChanges.{open_due}
use Rattle.mb_core.proofs.OwnViews.{open_may, open_raw, open_signs, open_waits, evidence_so, some_evidence, evidence_is, opening_so, some_opening, opening_is, base_low}
use Rattle.mb_core.proofs.Publishing.{is_next, fits_raw, signed_raw, is_left, sent_signed, room_signed, begun, then_normal, then_change, rule_ends, when_noted}
use Rattle.mb_core.proofs.StillSigned.{went_well, still_signed}
use Rattle.mb_core.proofs.opens.open.Goals as goal

-- src/opens.rt
pub sign-requires-clause-fits : goal.sign-requires-clause-fits
sign-requires-clause-fits g c =
    let r = c.args.replica.now in
    let q = open_due _ r c.args.done.now c.requires in
    fits_raw q.me r q.history q.next.represents (signed q.me q.history (opening q.evidence q.plan)) (open_may q.me r r q.history q.evidence q.plan q.next) (open_raw q.me r r q.history q.evidence q.plan q.next) c.in-Some-opening.message (opening_is q.me r r q.history q.evidence q.plan q.next c.in_ok-opening.opening c.in-Some-opening.message (opening_so q.me r r q.history q.evidence q.plan q.next c.view-view.result c.in-Some.evidence (c.view-view.ensures q.me q.history q.next.represents) (evidence_is q.me r r q.history q.evidence q.plan q.next c.in_ok-found.found c.in-Some.evidence (evidence_so q.me r r q.history q.evidence q.plan q.next c.view-view.result (c.view-view.ensures q.me q.history q.next.represents) c.in_ok-found.found c.in_ok-found.ensures) c.in-Some.is) c.in_ok-opening.opening (c.in_ok-opening.ensures q.me q.history q.next.represents)) c.in-Some-opening.is) (open_signs q.me r r q.history q.evidence q.plan q.next)

pub sign-requires-clause-unspent : goal.sign-requires-clause-unspent
sign-requires-clause-unspent g c =
    let r = c.args.replica.now in
    let q = open_due _ r c.args.done.now c.requires in
    is_left q.me r q.history q.next.represents (signed q.me q.history (opening q.evidence q.plan)) (open_may q.me r r q.history q.evidence q.plan q.next)

pub publish-requires-clause-room : goal.publish-requires-clause-room
publish-requires-clause-room g c =
    let r = c.args.replica.now in
    let q = open_due _ r c.args.done.now c.requires in
    room_signed q.me r q.history q.next.represents (signed q.me q.history (opening q.evidence q.plan)) (open_may q.me r r q.history q.evidence q.plan q.next) c.hold_own_evidence.new.replica (then_change q.me r c.carry_on.new.replica c.hold_own_evidence.new.replica (then_normal q.me r c.sign.new.replica c.carry_on.new.replica (begun q.me r c.sign.new.replica c.in_ok-signed.ensures.writes) c.carry_on.ensures.writes) c.hold_own_evidence.ensures.writes) c.in_ok-signed-2.signed.message ((still_signed _ c.carry_on.result c.in_ok-signed.signed c.in_ok-signed-2.signed c.in_ok-signed-2.ensures (c.in_ok-signed.ensures.signed q.me q.history q.next.represents.who q.next.represents.tables.counter)).message ∙ signed_raw q.me q.history (open_raw q.me r r q.history q.evidence q.plan q.next) c.in-Some-opening.message (opening_is q.me r r q.history q.evidence q.plan q.next c.in_ok-opening.opening c.in-Some-opening.message (opening_so q.me r r q.history q.evidence q.plan q.next c.view-view.result c.in-Some.evidence (c.view-view.ensures q.me q.history q.next.represents) (evidence_is q.me r r q.history q.evidence q.plan q.next c.in_ok-found.found c.in-Some.evidence (evidence_so q.me r r q.history q.evidence q.plan q.next c.view-view.result (c.view-view.ensures q.me q.history q.next.represents) c.in_ok-found.found c.in_ok-found.ensures) c.in-Some.is) c.in_ok-opening.opening (c.in_ok-opening.ensures q.me q.history q.next.represents)) c.in-Some-opening.is) ∙ open_signs q.me r r q.history q.evidence q.plan q.next)

pub publish-requires-clause-fits : goal.publish-requires-clause-fits
publish-requires-clause-fits g c =
    let r = c.args.replica.now in
    let q = open_due _ r c.args.done.now c.requires in
    sent_signed q.me r q.history q.next.represents (signed q.me q.history (opening q.evidence q.plan)) (open_may q.me r r q.history q.evidence q.plan q.next) c.hold_own_evidence.new.replica (then_change q.me r c.carry_on.new.replica c.hold_own_evidence.new.replica (then_normal q.me r c.sign.new.replica c.carry_on.new.replica (begun q.me r c.sign.new.replica c.in_ok-signed.ensures.writes) c.carry_on.ensures.writes) c.hold_own_evidence.ensures.writes) c.in_ok-signed-2.signed.message ((still_signed _ c.carry_on.result c.in_ok-signed.signed c.in_ok-signed-2.signed c.in_ok-signed-2.ensures (c.in_ok-signed.ensures.signed q.me q.history q.next.represents.who q.next.represents.tables.counter)).message ∙ signed_raw q.me q.history (open_raw q.me r r q.history q.evidence q.plan q.next) c.in-Some-opening.message (opening_is q.me r r q.history q.evidence q.plan q.next c.in_ok-opening.opening c.in-Some-opening.message (opening_so q.me r r q.history q.evidence q.plan q.next c.view-view.result c.in-Some.evidence (c.view-view.ensures q.me q.history q.next.represents) (evidence_is q.me r r q.history q.evidence q.plan q.next c.in_ok-found.found c.in-Some.evidence (evidence_so q.me r r q.history q.evidence q.plan q.next c.view-view.result (c.view-view.ensures q.me q.history q.next.represents) c.in_ok-found.found c.in_ok-found.ensures) c.in-Some.is) c.in_ok-opening.opening (c.in_ok-opening.ensures q.me q.history q.next.represents)) c.in-Some-opening.is) ∙ open_signs q.me r r q.history q.evidence q.plan q.next)

pub publish-requires-clause-body : goal.publish-requires-clause-body
publish-requires-clause-body g c =
    let q = open_due _ c.args.replica.now c.args.done.now c.requires in
    let s = still_signed _ c.carry_on.result c.in_ok-signed.signed c.in_ok-signed-2.signed c.in_ok-signed-2.ensures (c.in_ok-signed.ensures.signed q.me q.history q.next.represents.who q.next.represents.tables.counter) in
    s.body ∙ ap stamped_digest (sym s.message)

pub carry_on-requires : goal.carry_on-requires
carry_on-requires g c =
    let r = c.args.replica.now in
    let q = open_due _ r c.args.done.now c.requires in
    base_low q.me r r q.history q.evidence q.plan q.next c.in-Some.evidence (evidence_is q.me r r q.history q.evidence q.plan q.next c.in_ok-found.found c.in-Some.evidence (evidence_so q.me r r q.history q.evidence q.plan q.next c.view-view.result (c.view-view.ensures q.me q.history q.next.represents) c.in_ok-found.found c.in_ok-found.ensures) c.in-Some.is)

pub returns-in_default : goal.returns-in_default
returns-in_default g c = λ me x e plan st next.
    let r = c.args.replica.now in
    let is = is_next me r c.args.done.now x (Open e plan) st next in
    absurd (some_evidence me r r x.history e plan is c.in_ok-found.found (evidence_so me r r x.history e plan is c.view-view.result (c.view-view.ensures me x.history st.represents) c.in_ok-found.found c.in_ok-found.ensures) c.in_default.is)

pub returns-in_default-opening : goal.returns-in_default-opening
returns-in_default-opening g c = λ me x e plan st next.
    let r = c.args.replica.now in
    let is = is_next me r c.args.done.now x (Open e plan) st next in
    absurd (some_opening me r r x.history e plan is c.in_ok-opening.opening (opening_so me r r x.history e plan is c.view-view.result c.in-Some.evidence (c.view-view.ensures me x.history st.represents) (evidence_is me r r x.history e plan is c.in_ok-found.found c.in-Some.evidence (evidence_so me r r x.history e plan is c.view-view.result (c.view-view.ensures me x.history st.represents) c.in_ok-found.found c.in_ok-found.ensures) c.in-Some.is) c.in_ok-opening.opening (c.in_ok-opening.ensures me x.history st.represents)) c.in_default-opening.is)

pub returns : goal.returns
unfolding carry_out
returns g c = λ me x e plan st next.
    let r = c.args.replica.now in
    let is = is_next me r c.args.done.now x (Open e plan) st next in
    let made = signed_raw me x.history (open_raw me r r x.history e plan is) c.in-Some-opening.message (opening_is me r r x.history e plan is c.in_ok-opening.opening c.in-Some-opening.message (opening_so me r r x.history e plan is c.view-view.result c.in-Some.evidence (c.view-view.ensures me x.history st.represents) (evidence_is me r r x.history e plan is c.in_ok-found.found c.in-Some.evidence (evidence_so me r r x.history e plan is c.view-view.result (c.view-view.ensures me x.history st.represents) c.in_ok-found.found c.in_ok-found.ensures) c.in-Some.is) c.in_ok-opening.opening (c.in_ok-opening.ensures me x.history st.represents)) c.in-Some-opening.is) ∙ open_signs me r r x.history e plan is in
    let first = c.in_ok-signed.ensures.signed me x.history st.represents.who st.represents.tables.counter in
    let s = still_signed _ c.carry_on.result c.in_ok-signed.signed c.in_ok-signed-2.signed c.in_ok-signed-2.ensures first in
    when_noted me c.publish.result c.publish.new.replica c.publish.new.done _ _
    (rule_ends me c.publish.result r c.hold_own_evidence.new.replica c.publish.new.replica c.args.done.now c.publish.new.done x (Open e plan) c.in_ok-signed-2.signed.message (signed me x.history (opening e plan)) st next refl (s.message ∙ made)
    (open_waits me r c.sign.new.replica x.history e plan is c.in_ok-signed.ensures.writes c.view-view.result c.in-Some.evidence (c.view-view.ensures me x.history st.represents) (evidence_is me r r x.history e plan is c.in_ok-found.found c.in-Some.evidence (evidence_so me r r x.history e plan is c.view-view.result (c.view-view.ensures me x.history st.represents) c.in_ok-found.found c.in_ok-found.ensures) c.in-Some.is) c.carry_on.new.replica c.hold_own_evidence.new.replica
    c.carry_on.ensures.writes (went_well c.carry_on.result c.in_ok-signed.signed c.in_ok-signed-2.signed c.in_ok-signed-2.ensures c.carry_on.ensures.carries) c.hold_own_evidence.ensures.writes c.hold_own_evidence.ensures.holds)
    c.publish.ensures.sent c.publish.ensures.kept c.publish.ensures.log c.publish.ensures.gates c.publish.ensures.writes)
