-- What is found came: for each table something that is found, and the entry that the statement then gives. What is found is what `Tables` finds there.
use Rattle.std.proofs.Common.{◌≡◌, ◌<◌, refl, arith}
use Rattle.mb_parts.specs.Bares.{batch_digest}
use Rattle.mb_msg.specs.declared.change.Open.{Open}
use Rattle.mb_msg.specs.declared.event.Slot.{Slot}
use Rattle.mb_msg.specs.declared.message.Message.TheVariants as message
use Rattle.mb_model.specs.declared.known.Vote.{Vote}
use Rattle.mb_model.specs.Histories.{Accepted, Executed, view_of}
use Rattle.mb_model.specs.Stable.{stable_of}
use Rattle.mb_model.specs.States.{parts_of}
use Rattle.mb_model.specs.Execution.{state_of}
use Rattle.mb_model.proofs.StepOnLiterals.{host_on_literals}
use Rattle.mb_promise.specs.KeepsTables.{IsChange, outdoes, is_open_of, is_checkpoint_of, is_execution_of, IsCheckpoint}
use Rattle.mb_promise.specs.WhatCame.{FindsWhatCame, SlotCame, VoteCame, PartCame}
use Rattle.mb_promise.specs.FindsTables as finds
use Rattle.mb_agreement.proofs.ViewChangeData.{asked_0, asked, evidence_1}
use Rattle.mb_premises_met.proofs.Data.{host, change_2, new_view_1, enter_2, carried, parts_4, point}
use Rattle.mb_premises_met.proofs.NormalCase.{committed, slot_of_1, vote_1}
use Rattle.mb_premises_met.proofs.Tables.{two_came, both_wish, announced_1, opened_1, opened_2, by_join, two_points, one_part, executed_5}

-- ---- positions, and parts of a state

-- the slot of the PREPARE, the own vote of the COMMIT, and the first part of the state at position 4
a_slot_came : FindsWhatCame (host 1) committed → SlotCame (host 1) committed 0 1 slot_of_1
unfolding host_on_literals
a_slot_came finds = finds.slots 0 1 slot_of_1 refl

an_own_vote_came : FindsWhatCame (host 1) committed → VoteCame (host 1) committed 1 0 1 vote_1
unfolding host_on_literals
an_own_vote_came finds = finds.votes 1 0 1 vote_1 refl

-- the vote of an OPEN of another, for what view 1 carries on
abbrev vote_of_open : Vote
vote_of_open = record { counter = 3; request = batch_digest asked }

a_vote_of_an_open_came : FindsWhatCame (host 1) opened_1 → VoteCame (host 1) opened_1 2 1 1 vote_of_open
unfolding host_on_literals
a_vote_of_an_open_came finds = finds.votes 2 1 1 vote_of_open refl

a_part_came : FindsWhatCame (host 2) one_part → PartCame (host 2) one_part 4 0 asked_0.op
unfolding host_on_literals
a_part_came finds = finds.parts 4 0 asked_0.op refl

-- ---- the other tables

a_request_came : finds.FindsRequests (host 0) two_came → finds.CameLast (outdoes asked_0) (λ e before. e ≡ Accepted (message.Request asked_0)) two_came
unfolding host_on_literals
a_request_came finds = (finds 0 asked_0 refl).1

a_wish_came : finds.FindsWishes (host 2) both_wish → finds.Came (λ e before. finds.AsksFor 2 (view_of (host 2) before) e 1 1) both_wish
unfolding host_on_literals
a_wish_came finds =
    let above : 0 < 1 = omega arith in
    finds 1 above

a_change_came : finds.FindsChanges (host 1) announced_1 → finds.Came (λ e before. IsChange e change_2) announced_1
unfolding host_on_literals
a_change_came finds =
    let second : 1 < 2 = omega arith in
    finds change_2 (1, second, refl)

an_enter_came : finds.FindsEnters (host 1) opened_1 → enter_2.counter ≡ new_view_1.ui.counter
unfolding host_on_literals
an_enter_came finds =
    let first : 0 < 1 = omega arith in
    (finds new_view_1 enter_2 (0, first, refl)).2

an_open_came : finds.FindsOpens (host 1) opened_1 → finds.CameLast (is_open_of 2) (λ e before. (m : Open) × (e ≡ Accepted (message.Open m)) × (m.ui.host ≡ 2) × (m.evidence ≡ evidence_1)) opened_1
unfolding host_on_literals
an_open_came finds = finds 2 evidence_1 refl

a_new_view_came : finds.FindsNewViews (host 2) opened_2 → finds.Came (λ e before. finds.IsNewView e new_view_1) opened_2
unfolding host_on_literals
a_new_view_came finds = finds new_view_1 refl

evidence_came : finds.FindsEvidence (host 0) by_join → finds.Came (λ e before. finds.ShowsEvidence e evidence_1) by_join
unfolding host_on_literals
evidence_came finds = finds evidence_1 refl

a_plan_came : finds.FindsPlans (host 2) opened_2 → finds.Came (λ e before. finds.BringsPlan (host 2) e 1 carried) opened_2
unfolding host_on_literals
a_plan_came finds = finds 1 carried refl

a_checkpoint_came : finds.FindsCheckpoints (host 0) two_points → finds.CameLast (is_checkpoint_of 0 4) (λ e before. IsCheckpoint e (point 0 2)) two_points
unfolding host_on_literals
a_checkpoint_came finds = (finds 0 4 (point 0 2) refl).2

a_snapshot_came : finds.FindsSnapshots (host 0) executed_5
    → finds.CameLast (is_execution_of 4) (λ e before. (slot : Slot) × (e ≡ Executed slot) × (slot.pos ≡ 4) × (parts_4 ≡ parts_of (host 0).snapshots (state_of (host 0) before))) executed_5
unfolding host_on_literals
a_snapshot_came finds = finds 4 parts_4 refl

-- the stable position of two CHECKPOINTs
stable_came : finds.FindsStable (host 0) two_points → finds.Came (λ e before. finds.ShowsStable (host 0) before e (stable_of (host 0) two_points)) two_points
unfolding host_on_literals
stable_came finds =
    let above : 0 < 4 = omega arith in
    finds above
