-- The change of the view. Of each statement that says what no host leaves undone there is a history in which all its premises hold, as it stands in the
-- middle of a step: a host that stopped there would break the promise.
use Rattle.std.proofs.Common.{inl, inr, ◌≡◌, ◌≤◌, ◌<◌, true, false, [], ◌∷◌, refl, arith, Some, None}
use Rattle.std.specs.Prelude.{◌^◌, ◌-◌, is_some}
use Rattle.mb_base.specs.Limits.{other_limit}
use Rattle.mb_parts.specs.Bares.{batch_digest}
use Rattle.mb_msg.specs.declared.message.Message.TheVariants as message
use Rattle.mb_msg.specs.declared.change.Join.{Join}
use Rattle.mb_msg.specs.declared.transfer.StateMsg.{StateMsg}
use Rattle.mb_msg.specs.declared.stamped.Stamped.TheVariants as stamped
use Rattle.mb_model.specs.States.{part_digests}
use Rattle.mb_model.specs.Histories.{Accepted, Stamped, Installed, LostPatience, History}
use Rattle.mb_model.specs.Positions.{vote_of}
use Rattle.mb_model.proofs.StepOnLiterals.{host_on_literals}
use Rattle.mb_promise.specs.NothingLeft.{LeavesView, AnnouncesView, EntersView, OpensByEvidence, OpensByEnters, JoinsBehind, JoinsPast, InstallsState, CountsOpens}
use Rattle.mb_agreement.proofs.ViewChangeData.{asked, evidence_1}
use Rattle.mb_premises_met.proofs.Data.{host, prepare_1, commit_1, wish_1, change_0, change_1, change_2, new_view_1, enter_2, open_2, carried, parts_4, join_1}

-- ---- a view is left

-- h2 lost patience in view 0, and h1 wishes for view 1.
abbrev two_wish : History
two_wish = Accepted (message.ReqViewChange wish_1) ∷ LostPatience ∷ []

a_wished_view_is_left_for : LeavesView (host 2) two_wish → ⊥
unfolding host_on_literals
a_wished_view_is_left_for leaves =
    let above : 0 < 1 = omega arith in
    let few : 0 < other_limit = omega arith in
    let left : 0 < 2 ^ 64 - 1 = omega arith in
    let two : 2 ≤ 2 = omega arith in
    leaves 1 above (record { place = few; counter = left }) (inl two)

-- h2 holds the NEW_VIEW of view 1, and is in view 0.
abbrev announced : History
announced = Accepted (message.NewView new_view_1) ∷ []

an_announced_view_is_left_for : LeavesView (host 2) announced → ⊥
unfolding host_on_literals
an_announced_view_is_left_for leaves =
    let above : 0 < 1 = omega arith in
    let few : 0 < other_limit = omega arith in
    let left : 0 < 2 ^ 64 - 1 = omega arith in
    leaves 1 above (record { place = few; counter = left }) (inr (inl (new_view_1, refl, refl)))

-- h0 holds evidence of view 1, which an OPEN showed, and is in view 0.
abbrev evident : History
evident = Accepted (message.Open open_2) ∷ []

an_evident_view_is_left_for : LeavesView (host 0) evident → ⊥
unfolding host_on_literals
an_evident_view_is_left_for leaves =
    let above : 0 < 1 = omega arith in
    let few : 0 < other_limit = omega arith in
    let left : 0 < 2 ^ 64 - 1 = omega arith in
    leaves 1 above (record { place = few; counter = left }) (inr (inr (evidence_1, refl, refl)))

-- ---- the new view

-- h1 left for view 1, which it leads, and holds two VIEW_CHANGEs to it: its own, whose log shows a COMMIT, and that of h2.
abbrev changed_1 : History
changed_1 = Stamped (stamped.ViewChange change_1) ∷ Stamped (stamped.Commit commit_1) ∷ Accepted (message.Prepare prepare_1) ∷ []

abbrev two_changed : History
two_changed = Accepted (message.ViewChange change_2) ∷ changed_1

a_view_is_announced : AnnouncesView (host 1) two_changed → ⊥
unfolding host_on_literals
a_view_is_announced announces =
    let few : 1 < other_limit = omega arith in
    let left : 2 < 2 ^ 64 - 1 = omega arith in
    let two : 2 ≤ 2 = omega arith in
    announces refl refl (record { place = few; counter = left }) two

-- h2 left for view 1, and holds the NEW_VIEW.
abbrev changed_2 : History
changed_2 = Accepted (message.NewView new_view_1) ∷ Stamped (stamped.ViewChange change_2) ∷ []

a_view_is_entered : EntersView (host 2) changed_2 → ⊥
unfolding host_on_literals
a_view_is_entered enters =
    let few : 1 < other_limit = omega arith in
    let left : 1 < 2 ^ 64 - 1 = omega arith in
    enters refl refl (record { place = few; counter = left }) (new_view_1, refl, refl)

-- h0 left for view 1, and the OPEN of h2 brought evidence and plan.
abbrev evident_and_planned : History
evident_and_planned = Accepted (message.Open open_2) ∷ Stamped (stamped.ViewChange change_0) ∷ []

evidence_opens : OpensByEvidence (host 0) evident_and_planned → ⊥
unfolding host_on_literals
evidence_opens opens =
    let above : 0 < 1 = omega arith in
    let few : 1 < other_limit = omega arith in
    let left : 1 < 2 ^ 64 - 1 = omega arith in
    opens evidence_1 (record { above = above; closed = refl; entered = λ e. let is : false ≡ true = e in absurd cc; room = record { place = few; counter = left } }) refl refl (carried, refl, refl)

-- h1 announced view 1, and holds the ENTER of h2, which answers it. No evidence was shown.
abbrev answered : History
answered = Accepted (message.Enter enter_2) ∷ Stamped (stamped.NewView new_view_1) ∷ two_changed

enters_open : OpensByEnters (host 1) answered → ⊥
unfolding host_on_literals
enters_open opens =
    let above : 0 < 1 = omega arith in
    let few : 2 < other_limit = omega arith in
    let left : 3 < 2 ^ 64 - 1 = omega arith in
    let one : 1 ≤ 1 = omega arith in
    opens new_view_1 (record { above = above; closed = refl; entered = λ e. refl; room = record { place = few; counter = left } }) (λ held. let no : None ≡ Some held.0 = held.1 in absurd cc) refl refl one (carried, refl, refl)

-- The OPEN of h2 counts as its vote for what the view carries on.
abbrev opened : History
opened = Accepted (message.Open open_2) ∷ answered

an_open_counts : (CountsOpens (host 1) opened → is_some (vote_of (host 1) opened 2 1 1) ≡ true) × (vote_of (host 1) opened 2 1 1 ≡ Some (record { counter = 3; request = batch_digest asked }))
unfolding host_on_literals
an_open_counts = (
  λ counts.
      let three_hosts : 2 < 3 = omega arith in
      counts 2 1 evidence_1 carried asked three_hosts refl refl refl refl (record { above = omega arith; near = omega arith; allowed = omega arith }) refl,
  refl,
)

-- ---- what is stable

-- h2 installed the state at position 4, which a JOIN made stable, and has ordered nothing in view 0.
abbrev installed : History
installed = Installed 4 parts_4 ∷ Accepted (message.Join join_1) ∷ []

a_view_is_joined_behind : JoinsBehind (host 2) installed → ⊥
unfolding host_on_literals
a_view_is_joined_behind joins =
    let all : 4 ≤ 4 = omega arith in
    let below : 0 < 4 = omega arith in
    let few : 0 < other_limit = omega arith in
    let left : 0 < 2 ^ 64 - 1 = omega arith in
    joins (record { executed = all; evident = inl refl; room = record { place = few; counter = left } }) refl below

-- h0 left for view 1, whose plan ends at 1. A JOIN of view 1 brought evidence and the stable position 4, and h0 has installed the state there.
abbrev join_of_1 : Join
join_of_1 = record join_1 { view = 1; evidence = Some evidence_1 }

abbrev past_plan : History
past_plan = Installed 4 parts_4 ∷ Accepted (message.Join join_of_1) ∷ Stamped (stamped.ViewChange change_0) ∷ []

a_view_is_joined_past_its_plan : JoinsPast (host 0) past_plan → ⊥
unfolding host_on_literals
a_view_is_joined_past_its_plan joins =
    let all : 4 ≤ 4 = omega arith in
    let above : 0 < 1 = omega arith in
    let some : 0 < 4 = omega arith in
    let past : 1 ≤ 4 = omega arith in
    let few : 1 < other_limit = omega arith in
    let left : 1 < 2 ^ 64 - 1 = omega arith in
    joins (record { executed = all; evident = inr (evidence_1, refl, refl); room = record { place = few; counter = left } }) above refl (λ e. let is : false ≡ true = e in absurd cc) some past

-- h2 was given all parts of the state at the stable position 4, and neither installed nor dropped them.
abbrev state_4_whole : StateMsg
state_4_whole = record { host = 0; pos = 4; digests = part_digests parts_4; first = 0; parts = parts_4 }

abbrev all_parts : History
all_parts = Accepted (message.State state_4_whole) ∷ Accepted (message.Join join_1) ∷ []

a_state_is_installed : InstallsState (host 2) all_parts → ⊥
unfolding host_on_literals
a_state_is_installed installs = installs refl
