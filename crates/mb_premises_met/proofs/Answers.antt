-- What hosts send: what they stamp and the replies, answers to who asks, wishes, and what they ask for. And what becomes of a LOG.
use Rattle.std.proofs.Common.{◌≡◌, ◌≤◌, ◌<◌, ℕ, List, [], ◌∷◌, map, refl, arith, subst, Some, None}
use Rattle.std.specs.Prelude.{Contains, ◌^◌, ◌-◌}
use Rattle.mb_parts.specs.declared.floor.Floor.{Floor}
use Rattle.mb_parts.specs.declared.certificates.FloorCert.{FloorCert}
use Rattle.mb_parts.specs.Certificates.{certified_floor}
use Rattle.mb_model.specs.Verified.{verifies}
use Rattle.mb_msg.specs.declared.event.Event.TheVariants as event
use Rattle.mb_msg.specs.declared.event.To.{To}
use Rattle.mb_msg.specs.declared.event.To.TheVariants as to
use Rattle.mb_msg.specs.declared.message.Message.{Message}
use Rattle.mb_msg.specs.declared.message.Message.TheVariants as message
use Rattle.mb_msg.specs.declared.transfer.Log.{Log}
use Rattle.mb_msg.specs.declared.transfer.StateMsg.{StateMsg}
use Rattle.mb_msg.specs.declared.stamped.Stamped.TheVariants as stamped
use Rattle.mb_msg.specs.Spelling.{spelling, kind_of}
use Rattle.mb_model.specs.Histories.{Accepted, LostPatience, History, gate}
use Rattle.mb_model.specs.Sending.{Letter, to_all, to_host, to_client}
use Rattle.mb_model.specs.Making.{resend, wish}
use Rattle.mb_model.specs.Given.{stored_reply}
use Rattle.mb_model.specs.HostStep.{transition}
use Rattle.mb_model.proofs.StepOnLiterals.{host_on_literals}
use Rattle.mb_promise.specs.Answers as answers
use Rattle.mb_promise.specs.ShowsLog.{ShowsLog, ShowsState}
use Rattle.mb_promise.specs.Sends.{SendsAll, SendsAdded}
use Rattle.mb_promise.specs.TakesLogs as logs
use Rattle.mb_agreement.proofs.ViewChangeData.{secret, three, at_zero, asked_0}
use Rattle.mb_premises_met.proofs.Data.{host, prepare_1, commit_1, floor_0, stable_4, parts_4, floor_cert_0}
use Rattle.mb_premises_met.proofs.NormalCase.{left_by}
use Rattle.mb_premises_met.proofs.ValidMessages.{resend_1, stamped_1, fetch_2, executed_4, behind_join, state_0, some_is, none_some}

-- what a host sends at an event: to whom, and which kind of message
abbrev to_and_kind : Letter → To × ℕ
to_and_kind x = (x.to, kind_of x.says)

abbrev sent_by : ℕ → History → Message → List (To × ℕ)
sent_by h d m = map to_and_kind (transition (host h) d (event.Given (spelling m))).left.sent

-- ---- what is stamped and served is sent

-- h1 is given the PREPARE of two requests: its COMMIT goes to all, and a REPLY to each client.
a_commit_and_replies_are_sent : (SendsAll (host 1) [] → SendsAdded (host 1) [] (transition (host 1) [] (event.Given (spelling (message.Prepare prepare_1)))).left.sent (left_by 1 [] (message.Prepare prepare_1)))
    × (sent_by 1 [] (message.Prepare prepare_1) ≡ (to.All, 3) ∷ (to.Client 0, 4) ∷ (to.Client 1, 4) ∷ [])
unfolding host_on_literals transition
a_commit_and_replies_are_sent = (λ sends. sends (event.Given (spelling (message.Prepare prepare_1))), refl)

-- ---- who asks is answered

-- the RESEND of h1 with a LOG, the FETCH of h2 with a STATE, and a request that was served with its reply
abbrev sent_at_resend : List Letter
sent_at_resend = (transition (host 0) stamped_1 (event.Given (spelling (message.Resend resend_1)))).left.sent

a_resend_is_answered : (answers.AnswersResend (host 0) stamped_1 → (l : Log) × Contains sent_at_resend (to_host 1 (message.Log l)) × ShowsLog (host 0) stamped_1 resend_1 l) × (map to_and_kind sent_at_resend ≡ (to.Host 1, 13) ∷ [])
unfolding host_on_literals transition
a_resend_is_answered = (λ answers. answers (spelling (message.Resend resend_1)) resend_1 refl refl, refl)

abbrev sent_at_fetch : List Letter
sent_at_fetch = (transition (host 0) executed_4 (event.Given (spelling (message.Fetch fetch_2)))).left.sent

a_fetch_is_answered : (answers.AnswersFetch (host 0) executed_4 → (m : StateMsg) × Contains sent_at_fetch (to_host 2 (message.State m)) × ShowsState (host 0) executed_4 fetch_2 parts_4 m) × (map to_and_kind sent_at_fetch ≡ (to.Host 2, 15) ∷ [])
unfolding host_on_literals transition
a_fetch_is_answered = (λ answers. answers (spelling (message.Fetch fetch_2)) fetch_2 parts_4 refl refl refl, refl)

abbrev served : History
served = left_by 1 [] (message.Prepare prepare_1)

a_served_request_is_answered : (answers.AnswersAgain (host 1) served → Contains (transition (host 1) served (event.Given (spelling (message.Request asked_0)))).left.sent (to_client 0 (stored_reply (host 1) served 0)))
    × (sent_by 1 served (message.Request asked_0) ≡ (to.Client 0, 4) ∷ [])
unfolding host_on_literals transition
a_served_request_is_answered = (λ answers. answers (spelling (message.Request asked_0)) asked_0 refl refl refl, refl)

-- ---- wishes, and what is asked for

-- h2 loses patience, and tells its wish; a Nudge asks all, and tells this wish again.
a_wish_is_told : (answers.WishesOnward (host 2) [] → answers.IsToldWish (host 2) [] (transition (host 2) [] event.Patience).left.sent) × (map to_and_kind (transition (host 2) [] event.Patience).left.sent ≡ (to.All, 6) ∷ [])
unfolding host_on_literals transition
a_wish_is_told = (λ wishes. wishes (λ e. let is : 0 ≡ 2 ^ 63 - 1 = e in absurd (omega (arith, is))), refl)

abbrev impatient : History
impatient = LostPatience ∷ []

a_nudge_asks_all : (answers.AsksAll (host 2) impatient → Contains (transition (host 2) impatient event.Nudge).left.sent (to_all (resend (host 2) impatient)))
    × (answers.TellsWishAgain (host 2) impatient → Contains (transition (host 2) impatient event.Nudge).left.sent (to_all (wish (host 2) impatient)))
    × (map to_and_kind (transition (host 2) impatient event.Nudge).left.sent ≡ (to.All, 12) ∷ (to.All, 6) ∷ [])
unfolding host_on_literals transition
a_nudge_asks_all = (
  λ asks. asks,
  λ tells.
      let above : 0 < 1 = omega arith in
      tells above,
  refl,
)

-- While it lacks the state at position 4 it asks for it: at a Nudge the next host, and behind each STATE that is taken.
state_is_asked_for : (answers.FetchesOnNudge (host 2) behind_join → Contains (transition (host 2) behind_join event.Nudge).left.sent (to_host 1 (message.Fetch (record fetch_2 { of = 1 }))))
    × (map to_and_kind (transition (host 2) behind_join event.Nudge).left.sent ≡ (to.All, 12) ∷ (to.Host 1, 14) ∷ [])
unfolding host_on_literals transition
state_is_asked_for = (
  λ fetches.
      let behind : 0 < 4 = omega arith in
      fetches behind,
  refl,
)

more_is_asked_for : (answers.FetchesOn (host 2) behind_join → Contains (transition (host 2) behind_join (event.Given (spelling (message.State state_0)))).left.sent (to_host 0 (message.Fetch (record fetch_2 { first = 1 }))))
    × (sent_by 2 behind_join (message.State state_0) ≡ (to.Host 0, 14) ∷ [])
unfolding host_on_literals transition
more_is_asked_for = (
  λ fetches.
      let behind : 0 < 4 = omega arith in
      fetches (spelling (message.State state_0)) state_0 refl refl behind,
  refl,
)

-- ---- a LOG

-- of h1, with its first COMMIT, given to h2
abbrev log_1 : Log
log_1 = record { host = 1; floor = None; stable = at_zero; evidence = None; entries = stamped.Commit commit_1 ∷ [] }

valid_log_1 : logs.IsValidLog (host 2) log_1
unfolding host_on_literals
valid_log_1 = record { other = λ e. let is : 1 ≡ 2 = e in absurd (omega (arith, is)); floor = λ c e. absurd (none_some c e); stable = refl; evidence = λ x e. absurd (none_some x e) }

a_log_is_taken : (logs.LogsStand (host 2) [] → Contains (left_by 2 [] (message.Log log_1)) (Accepted (message.Log log_1))) × Contains (left_by 2 [] (message.Log log_1)) (Accepted (message.Log log_1))
unfolding host_on_literals transition
a_log_is_taken = (
  λ keeps. keeps (spelling (message.Log log_1)) log_1 refl valid_log_1,
  let last : 6 < 7 = omega arith in
      (6, last, refl),
)

-- Its entry is taken, too.
its_entry_is_taken : (logs.TakesEntries (host 2) [] → Contains (left_by 2 [] (message.Log log_1)) (Accepted (message.Commit commit_1))) × Contains (left_by 2 [] (message.Log log_1)) (Accepted (message.Commit commit_1))
unfolding host_on_literals transition
its_entry_is_taken = (
  λ takes.
      let same : 0 ≤ 0 = omega arith in
      let near : 1 ≤ 8 = omega arith in
      ((takes (spelling (message.Log log_1)) log_1 refl valid_log_1).0 (
        record { certified = refl; other = λ e. let is : 1 ≡ 2 = e in absurd (omega (arith, is)); free = refl; next = refl; permitted = refl },
        record { reached = same; near = λ e. near; shown = λ e. (refl, (refl, tt)) },
      )).0,
  let fifth : 5 < 7 = omega arith in
      (5, fifth, refl),
)

-- A LOG of h0 shows a certified floor behind its first message: the gate of h2 for h0 stands there.
abbrev pub log_0 : Log
log_0 = record { host = 0; floor = Some floor_cert_0; stable = stable_4; evidence = None; entries = [] }

valid_log_0 : logs.IsValidLog (host 2) log_0
unfolding host_on_literals
valid_log_0 = record {
  other = λ e. let is : 0 ≡ 2 = e in absurd (omega (arith, is));
  floor = λ c e. subst (λ (c : FloorCert). (f : Floor) × (certified_floor three (verifies secret) 0 c ≡ Some f)) (some_is floor_cert_0 c e) (floor_0, refl);
  stable = refl;
  evidence = λ x e. absurd (none_some x e);
}

a_gate_jumps_to_a_floor : (logs.JumpsToFloors (host 2) [] → 1 ≤ (gate (left_by 2 [] (message.Log log_0)) 0).counter) × (gate (left_by 2 [] (message.Log log_0)) 0 ≡ floor_0)
unfolding host_on_literals transition
a_gate_jumps_to_a_floor = (λ jumps. jumps (spelling (message.Log log_0)) log_0 floor_cert_0 floor_0 refl valid_log_0 refl refl refl, refl)
