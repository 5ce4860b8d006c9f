-- What a host says is what it holds: its JOINs, what it stamps in a change of the view, the floors that a CHECKPOINT tells, replies, wishes, RESENDs and
-- FETCHes, and what a LOG and a STATE show. Where a statement refuses a history, the other history beside it has the same message with cause.
use Rattle.std.proofs.Common.{inl, inr, ap, sym, subst, ◌≡◌, ◌≤◌, ◌<◌, ℕ, zero, suc, [], ◌∷◌, refl, arith, Some, None}
use Rattle.std.specs.Prelude.{Contains, slice_get, Bool, true, false, is_some}
use Rattle.mb_usig.specs.Tags.{reply_tag}
use Rattle.mb_base.specs.Shapes.{Bytes}
use Rattle.mb_parts.specs.declared.batch.Batch.{Batch}
use Rattle.mb_parts.specs.Bares.{batch_digest}
use Rattle.mb_parts.specs.declared.floor.Floor.{Floor}
use Rattle.mb_parts.specs.declared.floor.Phase.TheVariants as phase
use Rattle.mb_msg.specs.declared.message.Body.TheVariants.{Whole, Bare as Short}
use Rattle.mb_msg.specs.declared.message.Message.TheVariants as message
use Rattle.mb_msg.specs.declared.normal.Checkpoint.{Checkpoint}
use Rattle.mb_msg.specs.declared.normal.Floors.{Floors}
use Rattle.mb_msg.specs.declared.normal.Reply.{Reply}
use Rattle.mb_msg.specs.declared.change.ChangeBody.{ChangeBody}
use Rattle.mb_msg.specs.declared.change.NewViewBody.{NewViewBody}
use Rattle.mb_msg.specs.declared.change.ReqViewChange.{ReqViewChange}
use Rattle.mb_msg.specs.declared.change.ViewChange.{ViewChange}
use Rattle.mb_msg.specs.declared.change.Join.{Join}
use Rattle.mb_msg.specs.declared.transfer.Resend.{Resend}
use Rattle.mb_msg.specs.declared.transfer.Fetch.{Fetch}
use Rattle.mb_msg.specs.declared.transfer.Log.{Log}
use Rattle.mb_msg.specs.declared.transfer.StateMsg.{StateMsg}
use Rattle.mb_msg.specs.Bodies.{whole_body}
use Rattle.mb_msg.specs.declared.stamped.Stamped.{Stamped as StampedMessage}
use Rattle.mb_msg.specs.declared.stamped.Stamped.TheVariants as stamped
use Rattle.mb_model.specs.States.{part_digests}
use Rattle.mb_model.specs.Histories.{Accepted, Stamped, Installed, LostPatience, Nudged, History, gate}
use Rattle.mb_model.specs.Execution.{asked_host}
use Rattle.mb_model.specs.Making.{floors_under, wish_for, resend, fetch}
use Rattle.mb_model.specs.Given.{stored_reply}
use Rattle.mb_model.specs.HostStep.{transition}
use Rattle.mb_model.proofs.StepOnLiterals.{host_on_literals}
use Rattle.mb_promise.specs.JoinsWithCause.{JoinsWithCause, MayStampJoin}
use Rattle.mb_promise.specs.OwnChanges.{ShowsInChanges, ChangeShows, NewViewShows, EnterAnswers}
use Rattle.mb_promise.specs.OwnStamps.{CountsOwnPrepares, PrepareCounts}
use Rattle.mb_promise.specs.ShowsLog.{ShowsLog, ShowsState, IsShownOf}
use Rattle.mb_promise.specs.Says as says
use Rattle.mb_promise.specs.TellsFloors.{TellsFloors, Tells}
use Rattle.mb_agreement.proofs.ViewChangeData.{secret, at_zero, asked_0, asked, log_2}
use Rattle.mb_premises_met.proofs.Data.{host, prepare_1, wish_1, change_1, change_2, new_view_1, enter_2, stable_4, parts_4, point, join_1}
use Rattle.mb_premises_met.proofs.NormalCase.{left_by}
use Rattle.mb_premises_met.proofs.Tables.{changed_1}
use Rattle.mb_premises_met.proofs.ValidMessages.{resend_1, stamped_1, fetch_2, executed_4, behind_join, in_whole, none_some, some_is}

-- ---- a view is joined with cause

-- Where nothing is stable a host has no cause to join.
abbrev join_of_nothing : Join
join_of_nothing = record join_1 { stable = at_zero }

none_below_none : 0 < 0 → ⊥
none_below_none lt = absurd (omega (arith, lt))

no_cause_to_join : MayStampJoin (host 1) [] join_of_nothing → ⊥
unfolding host_on_literals
no_cause_to_join it = elim (it.cause) [
  | inl behind ↦ none_below_none behind.last
  | inr past ↦ none_below_none past.above
]

no_view_is_joined_without_cause : JoinsWithCause (host 1) (Stamped (stamped.Join join_of_nothing) ∷ []) → ⊥
unfolding host_on_literals
no_view_is_joined_without_cause joins = no_cause_to_join (joins [] [] join_of_nothing refl)

-- h2 installed the state at the stable position 4, and has ordered nothing in view 0: it may join there.
abbrev installed : History
installed = Installed 4 parts_4 ∷ Accepted (message.Join join_1) ∷ []

a_view_is_joined_with_cause : MayStampJoin (host 2) installed join_1
unfolding host_on_literals
a_view_is_joined_with_cause =
    let all : 4 ≤ 4 = omega arith in
    let below : 0 < 4 = omega arith in
    record { view = refl; stable = refl; executed = all; evident = inl refl; cause = inl (record { opened = refl; last = below }) }

-- ---- what is stamped in a change of the view

-- A VIEW_CHANGE that shows position 4 as stable, where nothing is, is refused.
abbrev body_from_4 : ChangeBody
body_from_4 = record log_2.body { stable = stable_4 }

abbrev change_from_4 : ViewChange
change_from_4 = record change_2 { body = Whole body_from_4 }

not_at_4 : (body : ChangeBody) → Whole body_from_4 ≡ Whole body → body.stable.pos ≡ 0 → ⊥
not_at_4 body whole none =
    let is : 4 ≡ body.stable.pos = ap (λ (b : ChangeBody). b.stable.pos) (some_is _ _ (in_whole _ _ whole)) in
    absurd (omega (arith, is, none))

no_change_shows_what_is_not_stable : ShowsInChanges (host 2) (Stamped (stamped.ViewChange change_from_4) ∷ []) → ⊥
unfolding host_on_literals
no_change_shows_what_is_not_stable shows =
    let it : ChangeShows (host 2) [] change_from_4 = shows.changes [] [] change_from_4 refl in
    not_at_4 it.body it.whole (ap (λ c. c.pos) it.stable)

a_change_shows_what_is_stable : ChangeShows (host 2) [] change_2
unfolding host_on_literals
a_change_shows_what_is_stable = record { body = log_2.body; whole = refl; floor = refl; stable = refl }

-- A NEW_VIEW with the VIEW_CHANGE of h2 is refused at h1, which holds its own alone.
abbrev both_changes : NewViewBody
both_changes = record { changes = change_1 ∷ change_2 ∷ [] }

not_held : Contains (change_1 ∷ []) change_2 → ⊥
not_held (zero, lt, is) =
    let hosts : 1 ≡ 2 = ap (λ (c : ViewChange). c.ui.host) is in
    absurd (omega (arith, hosts))
not_held (suc k, lt, is) = absurd (omega (arith, lt))

shows_the_second : (body : NewViewBody) → Whole both_changes ≡ Whole body → Contains body.changes change_2
shows_the_second body whole =
    let second : 1 < 2 = omega arith in
    subst (λ (b : NewViewBody). Contains b.changes change_2) (some_is _ _ (in_whole _ _ whole)) (1, second, refl)

no_new_view_of_what_is_not_held : ShowsInChanges (host 1) (Stamped (stamped.NewView new_view_1) ∷ changed_1) → ⊥
unfolding host_on_literals
no_new_view_of_what_is_not_held shows =
    let it : NewViewShows (host 1) changed_1 new_view_1 = shows.new_views [] changed_1 new_view_1 refl in
    not_held (it.held change_2 (shows_the_second it.body it.whole)).0

-- Where both came it may be stamped: its plan is that of the two.
abbrev two_changed : History
two_changed = Accepted (message.ViewChange change_2) ∷ changed_1

each_is_held : (c : ViewChange) → Contains (change_1 ∷ change_2 ∷ []) c → Contains (change_1 ∷ change_2 ∷ []) c × (c.view ≡ 1)
each_is_held c (zero, lt, is) = ((zero, lt, is), ap (λ (c : ViewChange). c.view) (sym is))
each_is_held c (suc zero, lt, is) = ((suc zero, lt, is), ap (λ (c : ViewChange). c.view) (sym is))
each_is_held c (suc (suc k), lt, is) = absurd (omega (arith, lt))

a_new_view_shows_what_is_held : NewViewShows (host 1) two_changed new_view_1
unfolding host_on_literals
a_new_view_shows_what_is_held = record { view = refl; body = both_changes; whole = refl; many = refl; held = each_is_held; base = refl; end = refl; plan = refl }

-- An ENTER that answers nothing is refused; behind the NEW_VIEW it answers that.
no_enter_answers_nothing : ShowsInChanges (host 2) (Stamped (stamped.Enter enter_2) ∷ Stamped (stamped.ViewChange change_2) ∷ []) → ⊥
unfolding host_on_literals
no_enter_answers_nothing shows =
    let it : EnterAnswers (host 2) (Stamped (stamped.ViewChange change_2) ∷ []) enter_2 = shows.enters [] (Stamped (stamped.ViewChange change_2) ∷ []) enter_2 refl in
    none_some it.announced it.held

abbrev told_2 : History
told_2 = Accepted (message.NewView new_view_1) ∷ Stamped (stamped.ViewChange change_2) ∷ []

an_enter_answers_a_new_view : EnterAnswers (host 2) told_2 enter_2
unfolding host_on_literals
an_enter_answers_a_new_view = record { announced = new_view_1; held = refl; current = refl; view = refl; counter = refl; plan = refl }

-- ---- the floors that a CHECKPOINT tells

-- A CHECKPOINT of h0 at position 8 that tells no floor is refused, behind one of h1 at position 4: it has to tell where the gate of h1 stood there.
abbrev tells_nothing : Floors
tells_nothing = record { floors = None ∷ None ∷ None ∷ [] }

abbrev point_8 : ℕ → Checkpoint
point_8 h = record (point h 3) { pos = 8; body = Whole tells_nothing }

told_none : (floor : Floor) → Some None ≡ Some (Some floor) → ⊥
told_none floor e = none_some floor (some_is _ _ e)

nothing_told : (floor : Floor) → Tells (host 0) (point_8 0) 1 floor → ⊥
nothing_told floor (body, whole, told) = told_none floor (subst (λ (b : Floors). slice_get b.floors 1 ≡ Some (Some floor)) (sym (some_is _ _ (in_whole _ _ whole))) told)

abbrev one_point : History
one_point = Accepted (message.Checkpoint (point 1 2)) ∷ []

a_floor_is_told : TellsFloors (host 0) (Stamped (stamped.Checkpoint (point_8 0)) ∷ one_point) → ⊥
unfolding host_on_literals
a_floor_is_told tells =
    let there : 1 < 3 = omega arith in
    let under : 4 < 8 = omega arith in
    let low : 0 ≤ 8 = omega arith in
    nothing_told (gate one_point 1) (tells.last [] one_point (point_8 0) refl [] [] (Accepted (message.Checkpoint (point 1 2))) 1 there refl refl tt under low)

-- So it is where the last CHECKPOINT of h1 is at this position itself, and the one before it at position 4.
abbrev last_is_there : History
last_is_there = Accepted (message.Checkpoint (point_8 1)) ∷ one_point

the_floor_before_is_told : TellsFloors (host 0) (Stamped (stamped.Checkpoint (point_8 0)) ∷ last_is_there) → ⊥
unfolding host_on_literals
the_floor_before_is_told tells =
    let there : 1 < 3 = omega arith in
    let reached : 8 ≤ 8 = omega arith in
    let under : 4 < 8 = omega arith in
    let low : 0 ≤ 8 = omega arith in
    nothing_told (gate one_point 1)
    (tells.last_but_one [] last_is_there (point_8 0) refl [] [] [] (Accepted (message.Checkpoint (point_8 1))) (Accepted (message.Checkpoint (point 1 2))) 1 there refl refl tt refl tt tt reached under low)

-- What h0 stamps at position 8 tells this floor.
its_floor_is : slice_get (floors_under (host 0) last_is_there 8) 1 ≡ Some (Some (record { counter = 1; view = 0; phase = phase.Open; last = 0; top = 0; point = 4 }))
unfolding host_on_literals
its_floor_is = refl

-- ---- what is said

-- of h1 its wish for view 1
an_own_wish_says : (says.SaysWhatItHolds (host 1) → (m : ReqViewChange) × (wish_for (host 1) 1 ≡ message.ReqViewChange m) × says.IsOwnWish (host 1) 1 m) × (wish_for (host 1) 1 ≡ message.ReqViewChange wish_1)
unfolding host_on_literals
an_own_wish_says = (λ says. says.wishes 1, refl)

-- its reply to the client of the first request that it served, at position 1
abbrev served : History
served = left_by 1 [] (message.Prepare prepare_1)

abbrev reply_0 : Reply
reply_0 = record { host = 1; client = 0; seq = 1; pos = 1; result = []; tag = reply_tag secret 1 0 1 1 [] }

a_reply_says : (says.SaysWhatItHolds (host 1) → (m : Reply) × (stored_reply (host 1) served 0 ≡ message.Reply m) × says.IsReplyTo (host 1) served 0 m) × (stored_reply (host 1) served 0 ≡ message.Reply reply_0)
unfolding host_on_literals transition
a_reply_says = (λ says. says.replies served 0, refl)

-- what h2 asks for behind the first message of h0
abbrev first_of_0 : History
first_of_0 = Accepted (message.Prepare prepare_1) ∷ []

a_resend_says : (says.SaysWhatItHolds (host 2) → (m : Resend) × (resend (host 2) first_of_0 ≡ message.Resend m) × says.AsksFrom (host 2) first_of_0 m)
    × (resend (host 2) first_of_0 ≡ message.Resend (record { host = 2; low = 0; nexts = 2 ∷ 1 ∷ 1 ∷ [] }))
unfolding host_on_literals
a_resend_says = (λ says. says.asks first_of_0, refl)

-- what it asks for where it lacks the state at position 4, and whom: h0, then h1 behind a Nudge, and nobody else where it loses patience
a_fetch_says : (says.SaysWhatItHolds (host 2) → (m : Fetch) × (fetch (host 2) behind_join ≡ message.Fetch m) × says.AsksForState (host 2) behind_join m) × (fetch (host 2) behind_join ≡ message.Fetch fetch_2)
unfolding host_on_literals
a_fetch_says = (λ says. says.fetches behind_join, refl)

another_is_asked : (says.SaysWhatItHolds (host 2) → says.IsOther (host 2) (asked_host (host 2) behind_join)) × (asked_host (host 2) behind_join ≡ 0)
unfolding host_on_literals
another_is_asked =
    let there : 2 < 3 = omega arith in
    (λ says. says.others behind_join there, refl)

the_next_is_asked : (says.SaysWhatItHolds (host 2) → says.IsNextHost (host 2) 0 (asked_host (host 2) (Nudged ∷ behind_join))) × (asked_host (host 2) (Nudged ∷ behind_join) ≡ 1)
unfolding host_on_literals
the_next_is_asked =
    let behind : 0 < 4 = omega arith in
    (λ says. says.turns behind_join behind, refl)

no_nudge : LostPatience ≡ Nudged → ⊥
no_nudge is = absurd cc

the_same_is_asked : (says.SaysWhatItHolds (host 2) → asked_host (host 2) (LostPatience ∷ behind_join) ≡ 0) × (asked_host (host 2) (LostPatience ∷ behind_join) ≡ 0)
unfolding host_on_literals
the_same_is_asked = (λ says. says.stays LostPatience behind_join no_nudge, refl)

-- ---- what is shown is whole

-- h0 stamped a PREPARE, and h1 asks for it. A LOG that shows its digest alone is refused: nothing that was stamped since shortens it.
abbrev short_prepare : StampedMessage
short_prepare = stamped.Prepare (record prepare_1 { body = Short (batch_digest asked) })

abbrev short_log : Log
short_log = record { host = 0; floor = None; stable = at_zero; evidence = None; entries = short_prepare ∷ [] }

abbrev is_whole : StampedMessage → Bool
is_whole (stamped.Prepare m) = is_some (whole_body m.body)
is_whole m = true

not_shortened : (x : StampedMessage) → short_prepare ≡ x → Some (stamped.Prepare prepare_1) ≡ Some x → ⊥
not_shortened x shown there =
    let short : false ≡ is_whole x = ap is_whole shown in
    let whole : true ≡ is_whole x = ap is_whole (some_is _ _ there) in
    absurd cc

no_log_hides_a_batch : ShowsLog (host 0) stamped_1 resend_1 short_log → ⊥
unfolding host_on_literals
no_log_hides_a_batch it =
    let shown : IsShownOf (host 0) stamped_1 1 short_prepare = it.each 0 short_prepare refl in
    not_shortened shown.stamped (shown.whole tt) shown.there

-- Nor is a batch stamped without its requests.
not_whole : (d : Bytes) (b : Batch) → Short d ≡ Whole b → ⊥
not_whole d b is = absurd cc

no_batch_is_stamped_short : CountsOwnPrepares (host 0) (Stamped short_prepare ∷ []) → ⊥
unfolding host_on_literals
no_batch_is_stamped_short counts =
    let it : PrepareCounts (host 0) (Stamped short_prepare ∷ []) [] (record prepare_1 { body = Short (batch_digest asked) }) = counts [] [] (record prepare_1 { body = Short (batch_digest asked) }) refl in
    not_whole (batch_digest asked) it.batch it.body

-- A STATE whose second part is another than that of the state is refused.
abbrev other_part : Bytes
other_part = 7 ∷ []

abbrev other_state : StateMsg
other_state = record { host = 0; pos = 4; digests = part_digests parts_4; first = 0; parts = asked_0.op ∷ other_part ∷ [] }

not_empty : (part : Bytes) → part ≡ [] → Some part ≡ Some other_part → ⊥
not_empty part empty is = absurd cc

no_state_has_another_part : ShowsState (host 0) executed_4 fetch_2 parts_4 other_state → ⊥
unfolding host_on_literals
no_state_has_another_part it = not_empty [] refl (it.in_order 1 other_part refl)
