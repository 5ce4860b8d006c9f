-- What an event leaves: it writes what is taken, adds nothing that did not come with it, leaves alone where it is refused, and tells and asks. What each
-- statement gives somewhere, and what is left there.
use Rattle.std.proofs.Common.{inl, inr, ◌⊎◌, sym, subst, ◌≡◌, ◌<◌, ℕ, [], ◌∷◌, ◌++◌, refl, arith}
use Rattle.std.specs.Prelude.{◌^◌, ◌-◌, replicate, Err, List, Contains}
use Rattle.mb_base.specs.Shapes.{Bytes}
use Rattle.mb_usig.specs.Tags.{certificate, wish_tag}
use Rattle.mb_parts.specs.Bares.{bare_bytes}
use Rattle.mb_parts.specs.Bares as bare
use Rattle.mb_msg.specs.declared.event.Event.{Event}
use Rattle.mb_msg.specs.declared.event.Event.TheVariants as event
use Rattle.mb_msg.specs.declared.event.Outcome.TheVariants as outcome
use Rattle.mb_msg.specs.declared.message.Message.{Message}
use Rattle.mb_msg.specs.declared.message.Message.TheVariants as message
use Rattle.mb_msg.specs.declared.stamped.Stamped.TheVariants as stamped
use Rattle.mb_msg.specs.declared.change.Enter.{Enter}
use Rattle.mb_msg.specs.declared.change.Join.{Join}
use Rattle.mb_msg.specs.declared.transfer.StateMsg.{StateMsg}
use Rattle.mb_msg.specs.Reading.{message_of}
use Rattle.mb_msg.specs.Spelling.{spelling}
use Rattle.mb_model.specs.States.{part_digests, state_digest}
use Rattle.mb_model.specs.Histories.{Entry, Accepted, Stamped, Jumped, Closed, Executed, Served, DroppedParts, LostPatience, Nudged, History}
use Rattle.mb_model.specs.Sending.{Letter, to_all, to_host}
use Rattle.mb_model.specs.HostStep.{transition}
use Rattle.mb_model.proofs.StepOnLiterals.{host_on_literals}
use Rattle.mb_promise.specs.Writes.{ComesFirst, WritesTaken, WritesPatience, WritesNudge}
use Rattle.mb_promise.specs.AddsGiven.{AddsGiven, AddsWhatCame, ComesWith, AllCome, IsDone}
use Rattle.mb_promise.specs.LeavesAlone.{KeepsRefused, KeepsMalformed, KeepsPatience}
use Rattle.mb_promise.specs.TellsAndAsks.{TellsPatience, IsToldWishFor, FetchesWhereRisen}
use Rattle.mb_agreement.proofs.ViewChangeData.{secret, three, plan_1, asked_0, asked_1}
use Rattle.mb_premises_met.proofs.Data.{host, prepare_1, commit_1, wish_1, change_2, slot_1, placed, floor_0, stable_4, floor_cert_0, join_1}
use Rattle.mb_premises_met.proofs.NormalCase.{left_by}
use Rattle.mb_premises_met.proofs.ValidMessages.{fetch_2}
use Rattle.mb_premises_met.proofs.Answers.{log_0}

-- ---- what an event brings is written

-- h1 is given the PREPARE: it stands right behind what was there, and what the host did behind it.
a_taken_message_is_written : (WritesTaken (host 1) [] → ComesFirst (host 1) [] (Accepted (message.Prepare prepare_1)) (left_by 1 [] (message.Prepare prepare_1)))
    × (left_by 1 [] (message.Prepare prepare_1)
    ≡ Executed slot_1 ∷ Served 1 (placed asked_1) ∷ Served 1 (placed asked_0) ∷ Stamped (stamped.Commit commit_1) ∷ Accepted (message.Prepare prepare_1) ∷ [])
unfolding host_on_literals transition
a_taken_message_is_written = (λ writes. writes (spelling (message.Prepare prepare_1)) (message.Prepare prepare_1) refl tt refl, refl)

-- So do lost patience and a Nudge.
abbrev left_by_patience : History → History
left_by_patience d = (transition (host 2) d event.Patience).left.history

lost_patience_is_written : (WritesPatience (host 2) [] → ComesFirst (host 2) [] LostPatience (left_by_patience [])) × (left_by_patience [] ≡ LostPatience ∷ [])
unfolding host_on_literals transition
lost_patience_is_written = (λ writes. writes (λ e. let is : 0 ≡ 2 ^ 63 - 1 = e in absurd (omega (arith, is))), refl)

abbrev left_by_nudge : History
left_by_nudge = (transition (host 2) [] event.Nudge).left.history

a_nudge_is_written : (WritesNudge (host 2) [] → ComesFirst (host 2) [] Nudged left_by_nudge) × (left_by_nudge ≡ Nudged ∷ [])
unfolding host_on_literals transition
a_nudge_is_written = (λ writes. writes, refl)

-- ---- and nothing else is

-- The COMMIT of h1 comes to h2, which was given nothing: it brings the PREPARE that it names, and both are accepted.
abbrev commit_comes : Event
commit_comes = event.Given (spelling (message.Commit commit_1))

all_of_a_commit_came : AddsGiven (host 2) [] → AddsWhatCame (host 2) commit_comes [] (left_by 2 [] (message.Commit commit_1))
unfolding host_on_literals transition
all_of_a_commit_came adds = adds commit_comes

its_prepare_comes_with_it : ComesWith (host 2) commit_comes [] (Accepted (message.Prepare prepare_1))
unfolding host_on_literals
its_prepare_comes_with_it = (message.Commit commit_1, refl, inr (inr (commit_1, inl refl, refl)))

-- A LOG of h0 shows a floor to h2, whose gate jumps there.
a_gate_jumps_with_cause : ComesWith (host 2) (event.Given (spelling (message.Log log_0))) [] (Jumped 0 floor_0)
unfolding host_on_literals
a_gate_jumps_with_cause =
    let ahead : 0 < 1 = omega arith in
    (message.Log log_0, refl, (log_0, refl, record { host = refl; cert = floor_cert_0; shows = refl; certified = refl; ahead = ahead; free = refl }))

first_is : (x y : Entry) → x ∷ [] ≡ y ∷ [] → x ≡ y
first_is x y e = cc

-- Where one entry is left alone, it came or was done.
of_one : (added : History) (event : Event) (e : Entry) → e ∷ [] ≡ added ++ [] → AllCome (host 2) event [] added → IsDone e ⊎ ComesWith (host 2) event [] e
of_one [] event e is come = absurd cc
of_one (x ∷ []) event e is come = subst (λ (x : Entry). IsDone x ⊎ ComesWith (host 2) event [] x) (sym (first_is _ _ is)) come.0
of_one (x ∷ (y ∷ added)) event e is come = absurd cc

-- A Nudge that leaves an accepted PREPARE is refused,
not_with_a_nudge : (m : Message) → IsDone (Accepted m) ⊎ ComesWith (host 2) event.Nudge [] (Accepted m) → ⊥
not_with_a_nudge m (inl done) = absurd done
not_with_a_nudge m (inr is) = absurd cc

nothing_is_accepted_at_a_nudge : AddsWhatCame (host 2) event.Nudge [] (Accepted (message.Prepare prepare_1) ∷ []) → ⊥
nothing_is_accepted_at_a_nudge it = not_with_a_nudge (message.Prepare prepare_1) (of_one it.added event.Nudge (Accepted (message.Prepare prepare_1)) it.is it.come)

-- and so is a message at which patience is lost.
not_with_a_message : (bytes : Bytes) → IsDone LostPatience ⊎ ComesWith (host 2) (event.Given bytes) [] LostPatience → ⊥
not_with_a_message bytes (inl done) = absurd done
not_with_a_message bytes (inr (m, reads, never)) = absurd never

no_patience_is_lost_at_a_message : AddsWhatCame (host 2) commit_comes [] (LostPatience ∷ []) → ⊥
no_patience_is_lost_at_a_message it = not_with_a_message (spelling (message.Commit commit_1)) (of_one it.added commit_comes LostPatience it.is it.come)

-- ---- what is refused leaves all as it was

-- The wish of h1 comes to h2 again: it stands there once.
abbrev wish_came : History
wish_came = Accepted (message.ReqViewChange wish_1) ∷ []

idle_is_not_taken : outcome.Idle ≡ outcome.Took → ⊥
idle_is_not_taken is = absurd cc

a_wish_again_leaves_all : (KeepsRefused (host 2) wish_came → left_by 2 wish_came (message.ReqViewChange wish_1) ≡ wish_came) × (left_by 2 wish_came (message.ReqViewChange wish_1) ≡ wish_came)
unfolding host_on_literals transition
a_wish_again_leaves_all = (λ keeps. keeps (spelling (message.ReqViewChange wish_1)) (message.ReqViewChange wish_1) refl tt idle_is_not_taken, refl)

-- The first message of h2 is an ENTER of view 1, for which it did not leave: its gate closes there, as came with this message.
abbrev enter_first : Enter
enter_first = record { view = 1; counter = 3; plan = plan_1; ui = record { host = 2; counter = 1; cert = certificate secret 2 1 (bare_bytes (bare.Enter 1 3 plan_1)) } }

illegal_is_not_taken : (rule : ℕ) → outcome.Illegal rule ≡ outcome.Took → ⊥
illegal_is_not_taken rule is = absurd cc

a_gate_closes : (KeepsRefused (host 1) [] → (h counter : ℕ) × (left_by 1 [] (message.Enter enter_first) ≡ Closed h counter ∷ [])) × (left_by 1 [] (message.Enter enter_first) ≡ Closed 2 1 ∷ [])
unfolding host_on_literals transition
a_gate_closes = (λ keeps. keeps (spelling (message.Enter enter_first)) (message.Enter enter_first) refl tt (illegal_is_not_taken 3), refl)

it_closes_with_cause : ComesWith (host 1) (event.Given (spelling (message.Enter enter_first))) [] (Closed 2 1)
unfolding host_on_literals
it_closes_with_cause = (message.Enter enter_first, refl, (stamped.Enter enter_first, inl refl, record { certified = refl; sender = refl; place = refl; next = refl; refused = refl }))

-- A STATE brings all parts of what was certified as the state at position 4, and they are no state: they are dropped.
abbrev no_parts : List Bytes
no_parts = replicate 65 []

abbrev join_of_none : Join
join_of_none = record join_1 { stable = record stable_4 { state = state_digest no_parts 4 } }

abbrev behind_join_of_none : History
behind_join_of_none = Accepted (message.Join join_of_none) ∷ []

abbrev state_of_none : StateMsg
state_of_none = record { host = 0; pos = 4; digests = part_digests no_parts; first = 0; parts = no_parts }

no_state_is_not_taken : (part at : ℕ) → outcome.BadState part at ≡ outcome.Took → ⊥
no_state_is_not_taken part at is = absurd cc

parts_of_no_state_are_dropped : (KeepsRefused (host 2) behind_join_of_none → left_by 2 behind_join_of_none (message.State state_of_none) ≡ DroppedParts ∷ behind_join_of_none)
    × (left_by 2 behind_join_of_none (message.State state_of_none) ≡ DroppedParts ∷ behind_join_of_none)
unfolding host_on_literals transition
parts_of_no_state_are_dropped = (λ keeps. keeps (spelling (message.State state_of_none)) (message.State state_of_none) refl tt (no_state_is_not_taken 64 0), refl)

-- One byte is no message.
no_message_leaves_all : (KeepsMalformed (host 0) [] → (transition (host 0) [] (event.Given (99 ∷ []))).left.history ≡ []) × (message_of three (99 ∷ []) ≡ Err 0)
unfolding host_on_literals transition
no_message_leaves_all = (λ keeps. keeps (99 ∷ []) 0 refl, refl)

-- h2 left for the greatest view: there is none behind it to wish for.
abbrev in_last_view : History
in_last_view = Stamped (stamped.ViewChange (record change_2 { view = 2 ^ 63 - 1 })) ∷ []

no_patience_is_lost_in_the_last_view : (KeepsPatience (host 2) in_last_view → left_by_patience in_last_view ≡ in_last_view) × (left_by_patience in_last_view ≡ in_last_view)
unfolding host_on_literals transition
no_patience_is_lost_in_the_last_view = (λ keeps. keeps refl, refl)

-- ---- what is told and asked for

-- h2 is in view 1 and loses patience: it tells its wish for view 2.
abbrev in_view_1 : History
in_view_1 = Stamped (stamped.ViewChange change_2) ∷ []

abbrev told : List Letter
told = (transition (host 2) in_view_1 event.Patience).left.sent

a_wish_for_the_next_view_is_told : (TellsPatience (host 2) in_view_1 → IsToldWishFor (host 2) in_view_1 2 told)
    × (told ≡ to_all (message.ReqViewChange (record { host = 2; view = 2; tag = wish_tag secret 2 2 })) ∷ [])
unfolding host_on_literals transition
a_wish_for_the_next_view_is_told = (λ tells. tells (λ e. let is : 1 ≡ 2 ^ 63 - 1 = e in absurd (omega (arith, is))), refl)

-- A JOIN makes position 4 stable for h2, which has executed nothing: it asks for the state.
abbrev sent_at_join : List Letter
sent_at_join = (transition (host 2) [] (event.Given (spelling (message.Join join_1)))).left.sent

state_is_asked_for_where_stable_rose : (FetchesWhereRisen (host 2) [] → Contains sent_at_join (to_host 0 (message.Fetch fetch_2))) × (sent_at_join ≡ to_host 0 (message.Fetch fetch_2) ∷ [])
unfolding host_on_literals transition
state_is_asked_for_where_stable_rose = (
  λ fetches.
      let rose : 0 < 4 = omega arith in
      fetches (event.Given (spelling (message.Join join_1))) rose rose,
  refl,
)
