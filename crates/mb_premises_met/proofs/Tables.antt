-- What came is found in what a host holds: for each table an entry that came, and behind it what does not take its place. What the statement gives there,
-- and that it is so.
use Rattle.std.proofs.Common.{inl, inr, ◌≡◌, ◌≤◌, ◌<◌, ℕ, List, [], ◌∷◌, ◌++◌, refl, arith, Some, None}
use Rattle.std.specs.Prelude.{Contains}
use Rattle.mb_base.specs.Shapes.{Bytes}
use Rattle.mb_parts.specs.declared.certificates.Evidence.{Evidence}
use Rattle.mb_msg.specs.declared.message.Body.TheVariants.{Whole}
use Rattle.mb_msg.specs.declared.message.Message.{Message}
use Rattle.mb_msg.specs.declared.message.Message.TheVariants as message
use Rattle.mb_msg.specs.declared.change.Open.{Open}
use Rattle.mb_msg.specs.declared.change.Join.{Join}
use Rattle.mb_msg.specs.declared.transfer.Log.{Log}
use Rattle.mb_msg.specs.declared.transfer.StateMsg.{StateMsg}
use Rattle.mb_msg.specs.declared.stamped.Stamped.TheVariants as stamped
use Rattle.mb_model.specs.States.{part_digests}
use Rattle.mb_model.specs.Histories.{Accepted, Stamped, Executed, Served, Installed, LostPatience, History}
use Rattle.mb_model.specs.Held.{wish_of, changes_of, enters_for, opened_by, new_view_of, evidence_of, plan_held}
use Rattle.mb_model.specs.Stable.{checkpoint_of, low_of}
use Rattle.mb_model.specs.Execution.{pending, part_of, missing, snapshot_of}
use Rattle.mb_model.proofs.StepOnLiterals.{host_on_literals}
use Rattle.mb_promise.specs.KeepsTables as keeps
use Rattle.mb_agreement.proofs.ViewChangeData.{asked_0, asked_1, asked, at_zero, evidence_1, log_1, log_2}
use Rattle.mb_premises_met.proofs.Data.{host, prepare_1, commit_1, wish_1, change_1, change_2, new_view_1, enter_2, open_2, carried, slot_4, parts_4, stable_4, point, join_1, placed}

-- ---- requests

-- a request behind which that of another client came
abbrev pub two_came : History
two_came = Accepted (message.Request asked_1) ∷ Accepted (message.Request asked_0) ∷ []

-- One message is no state that was installed.
no_state : (m : Message) (newer older : History) (pos : ℕ) (parts : List Bytes) → Accepted m ∷ [] ≡ newer ++ Installed pos parts ∷ older → ⊥
no_state m [] older pos parts is = absurd cc
no_state m (x ∷ []) older pos parts is = absurd cc
no_state m (x ∷ (y ∷ newer)) older pos parts is = absurd cc

a_request_waits : (keeps.KeepsRequests (host 0) two_came → pending (host 0) two_came 0 ≡ Some asked_0) × (pending (host 0) two_came 0 ≡ Some asked_0)
unfolding host_on_literals
a_request_waits = (
  λ keeps. keeps (Accepted (message.Request asked_1) ∷ []) [] asked_0 refl (refl, tt)
      (λ newer older pos parts is. absurd (no_state (message.Request asked_1) newer older pos parts is)),
  refl,
)

-- ---- wishes

-- the wish of h1, behind which h2 loses patience, too
abbrev pub both_wish : History
both_wish = LostPatience ∷ Accepted (message.ReqViewChange wish_1) ∷ []

a_wish_stands : (keeps.KeepsWishes (host 2) both_wish → 1 ≤ wish_of (host 2) both_wish 1) × (wish_of (host 2) both_wish 1 ≡ 1)
unfolding host_on_literals
a_wish_stands = (λ keeps. keeps (LostPatience ∷ []) [] wish_1 refl, refl)

an_own_wish_stands : (keeps.KeepsOwnWishes (host 2) both_wish → 0 < wish_of (host 2) both_wish 2) × (wish_of (host 2) both_wish 2 ≡ 1)
unfolding host_on_literals
an_own_wish_stands = (λ keeps. keeps [] (Accepted (message.ReqViewChange wish_1) ∷ []) refl, refl)

-- ---- the change of the view at h1, which leads view 1

abbrev pub changed_1 : History
changed_1 = Stamped (stamped.ViewChange change_1) ∷ Stamped (stamped.Commit commit_1) ∷ Accepted (message.Prepare prepare_1) ∷ []

abbrev pub announced_1 : History
announced_1 = Stamped (stamped.NewView new_view_1) ∷ Accepted (message.ViewChange change_2) ∷ changed_1

a_change_is_a_wish : (keeps.KeepsWishesOfChanges (host 1) announced_1 → 1 ≤ wish_of (host 1) announced_1 2) × (wish_of (host 1) announced_1 2 ≡ 1)
unfolding host_on_literals
a_change_is_a_wish = (λ keeps. keeps (Stamped (stamped.NewView new_view_1) ∷ []) changed_1 (Accepted (message.ViewChange change_2)) change_2 refl (inl refl), refl)

a_change_is_stored : (keeps.KeepsChanges (host 1) announced_1 → Contains (changes_of (host 1) announced_1) change_2) × (changes_of (host 1) announced_1 ≡ change_1 ∷ change_2 ∷ [])
unfolding host_on_literals
a_change_is_stored =
    let current : 1 ≤ 1 = omega arith in
    (λ keeps. keeps (Stamped (stamped.NewView new_view_1) ∷ []) changed_1 change_2 log_2.body refl refl current (refl, tt), refl)

an_own_change_is_stored : keeps.KeepsOwnChanges (host 1) announced_1 → Contains (changes_of (host 1) announced_1) change_1
unfolding host_on_literals
an_own_change_is_stored keeps = keeps (Stamped (stamped.NewView new_view_1) ∷ Accepted (message.ViewChange change_2) ∷ []) (Stamped (stamped.Commit commit_1) ∷ Accepted (message.Prepare prepare_1) ∷ []) change_1 log_1.body refl refl refl (refl, (refl, tt))

an_own_new_view_is_held : (keeps.KeepsOwnNewViews (host 1) announced_1 → new_view_of (host 1) announced_1 ≡ Some new_view_1) × (new_view_of (host 1) announced_1 ≡ Some new_view_1)
unfolding host_on_literals
an_own_new_view_is_held = (λ keeps. keeps [] (Accepted (message.ViewChange change_2) ∷ changed_1) new_view_1 refl tt, refl)

-- Its plan has the batch that h1 committed in view 0.
an_own_plan_is_held : (keeps.KeepsOwnPlans (host 1) announced_1 → plan_held (host 1) announced_1 ≡ Some (1, carried)) × (plan_held (host 1) announced_1 ≡ Some (1, carried))
unfolding host_on_literals
an_own_plan_is_held = (λ keeps. keeps [] (Accepted (message.ViewChange change_2) ∷ changed_1) new_view_1 (record { changes = change_1 ∷ change_2 ∷ [] }) refl refl tt, refl)

-- the ENTER and the OPEN of h2
abbrev pub opened_1 : History
opened_1 = Accepted (message.Open open_2) ∷ Accepted (message.Enter enter_2) ∷ announced_1

an_enter_is_held : (keeps.KeepsEnters (host 1) opened_1 → Contains (enters_for (host 1) opened_1 new_view_1) enter_2) × (enters_for (host 1) opened_1 new_view_1 ≡ enter_2 ∷ [])
unfolding host_on_literals
an_enter_is_held =
    let there : 2 < 3 = omega arith in
    (λ keeps. keeps (Accepted (message.Open open_2) ∷ []) announced_1 (Accepted (message.Enter enter_2)) enter_2 new_view_1 refl (inl refl) (refl, tt) there refl refl refl, refl)

an_open_is_found : (keeps.KeepsOpens (host 1) opened_1 → opened_by opened_1 2 ≡ Some evidence_1) × (opened_by opened_1 2 ≡ Some evidence_1)
unfolding host_on_literals
an_open_is_found = (λ keeps. keeps [] (Accepted (message.Enter enter_2) ∷ announced_1) open_2 refl tt, refl)

-- ---- the same at h2, which answers the NEW_VIEW and opens the view

abbrev given_2 : History
given_2 = Accepted (message.NewView new_view_1) ∷ Stamped (stamped.ViewChange change_2) ∷ []

abbrev pub opened_2 : History
opened_2 = Stamped (stamped.Open open_2) ∷ Stamped (stamped.Enter enter_2) ∷ given_2

a_new_view_is_held : (keeps.KeepsNewViews (host 2) opened_2 → new_view_of (host 2) opened_2 ≡ Some new_view_1) × (new_view_of (host 2) opened_2 ≡ Some new_view_1)
unfolding host_on_literals
a_new_view_is_held =
    let current : 1 ≤ 1 = omega arith in
    (λ keeps. keeps (Stamped (stamped.Open open_2) ∷ Stamped (stamped.Enter enter_2) ∷ []) (Stamped (stamped.ViewChange change_2) ∷ []) new_view_1 (record { changes = change_1 ∷ change_2 ∷ [] }) refl refl current (refl, (refl, tt)), refl)

a_plan_is_held : (keeps.KeepsPlans (host 2) opened_2 → plan_held (host 2) opened_2 ≡ Some (1, carried)) × (plan_held (host 2) opened_2 ≡ Some (1, carried))
unfolding host_on_literals
a_plan_is_held =
    let current : 1 ≤ 1 = omega arith in
    (λ keeps. keeps (Stamped (stamped.Open open_2) ∷ Stamped (stamped.Enter enter_2) ∷ []) (Stamped (stamped.ViewChange change_2) ∷ []) new_view_1 (record { changes = change_1 ∷ change_2 ∷ [] }) refl refl current (refl, (refl, tt)), refl)

own_evidence_is_held : (keeps.KeepsOwnEvidence (host 2) opened_2 → evidence_of (host 2) opened_2 ≡ Some evidence_1) × (evidence_of (host 2) opened_2 ≡ Some evidence_1)
unfolding host_on_literals
own_evidence_is_held = (λ keeps. keeps [] (Stamped (stamped.Enter enter_2) ∷ given_2) open_2 refl tt, refl)

-- ---- evidence and a plan come to h0, which is in view 0: by an OPEN, a JOIN, a LOG

abbrev by_open : History
by_open = Accepted (message.Open open_2) ∷ []

evidence_of_an_open_is_held : (keeps.KeepsEvidence (host 0) by_open → evidence_of (host 0) by_open ≡ Some evidence_1) × (evidence_of (host 0) by_open ≡ Some evidence_1)
unfolding host_on_literals
evidence_of_an_open_is_held =
    let current : 0 ≤ 1 = omega arith in
    let above : 0 < 1 = omega arith in
    (λ keeps. keeps [] [] open_2 refl (current, above) tt, refl)

a_plan_of_an_open_is_held : (keeps.KeepsPlansOfOpens (host 0) by_open → plan_held (host 0) by_open ≡ Some (1, carried)) × (plan_held (host 0) by_open ≡ Some (1, carried))
unfolding host_on_literals
a_plan_of_an_open_is_held =
    let current : 0 ≤ 1 = omega arith in
    let above : 0 < 1 = omega arith in
    (λ keeps. keeps [] [] open_2 (record { stable = at_zero; batches = asked ∷ [] }) refl refl (inl (current, above)) tt, refl)

abbrev join_of_1 : Join
join_of_1 = record join_1 { view = 1; evidence = Some evidence_1 }

abbrev pub by_join : History
by_join = Accepted (message.Join join_of_1) ∷ []

evidence_of_a_join_is_held : (keeps.KeepsEvidenceOfJoins (host 0) by_join → evidence_of (host 0) by_join ≡ Some evidence_1) × (evidence_of (host 0) by_join ≡ Some evidence_1)
unfolding host_on_literals
evidence_of_a_join_is_held =
    let current : 0 ≤ 1 = omega arith in
    let above : 0 < 1 = omega arith in
    (λ keeps. keeps [] [] join_of_1 evidence_1 refl refl (current, above) tt, refl)

abbrev log_of_1 : Log
log_of_1 = record { host = 1; floor = None; stable = stable_4; evidence = Some evidence_1; entries = [] }

abbrev pub by_log : History
by_log = Accepted (message.Log log_of_1) ∷ []

evidence_of_a_log_is_held : (keeps.KeepsEvidenceOfLogs (host 0) by_log → evidence_of (host 0) by_log ≡ Some evidence_1) × (evidence_of (host 0) by_log ≡ Some evidence_1)
unfolding host_on_literals
evidence_of_a_log_is_held =
    let current : 0 ≤ 1 = omega arith in
    let above : 0 < 1 = omega arith in
    (λ keeps. keeps [] [] log_of_1 evidence_1 refl refl (current, above) tt, refl)

-- ---- what is stable: by CHECKPOINTs of two hosts, a JOIN, a LOG, the base of a plan

-- h0 stamped its CHECKPOINT, and that of h1 came.
abbrev pub two_points : History
two_points = Accepted (message.Checkpoint (point 1 2)) ∷ Stamped (stamped.Checkpoint (point 0 2)) ∷ []

a_checkpoint_is_kept : (keeps.KeepsCheckpoints (host 0) two_points → checkpoint_of two_points 0 4 ≡ Some (point 0 2)) × (checkpoint_of two_points 0 4 ≡ Some (point 0 2))
unfolding host_on_literals
a_checkpoint_is_kept = (λ keeps. keeps (Accepted (message.Checkpoint (point 1 2)) ∷ []) [] (Stamped (stamped.Checkpoint (point 0 2))) (point 0 2) refl (inr refl) (refl, tt), refl)

checkpoints_make_stable : (keeps.RaisesByCheckpoints (host 0) two_points → 4 ≤ low_of (host 0) two_points) × (low_of (host 0) two_points ≡ 4)
unfolding host_on_literals
checkpoints_make_stable =
    let two : 2 ≤ 2 = omega arith in
    (λ keeps. keeps [] (Stamped (stamped.Checkpoint (point 0 2)) ∷ []) (Accepted (message.Checkpoint (point 1 2))) (point 1 2) refl (inl refl) (inl refl) two, refl)

a_join_makes_stable : (keeps.RaisesByJoins (host 0) by_join → 4 ≤ low_of (host 0) by_join) × (low_of (host 0) by_join ≡ 4)
unfolding host_on_literals
a_join_makes_stable = (λ keeps. keeps [] [] join_of_1 refl, refl)

a_log_makes_stable : (keeps.RaisesByLogs (host 0) by_log → 4 ≤ low_of (host 0) by_log) × (low_of (host 0) by_log ≡ 4)
unfolding host_on_literals
a_log_makes_stable = (λ keeps. keeps [] [] log_of_1 refl, refl)

-- an OPEN of a view that begins at the stable position 4
abbrev evidence_from_4 : Evidence
evidence_from_4 = record evidence_1 { base = 4; end = 5 }

abbrev open_from_4 : Open
open_from_4 = record open_2 { evidence = evidence_from_4; body = Whole (record { stable = stable_4; batches = asked ∷ [] }) }

abbrev by_plan : History
by_plan = Accepted (message.Open open_from_4) ∷ []

a_plan_makes_stable : (keeps.RaisesByPlans (host 0) by_plan → 4 ≤ low_of (host 0) by_plan) × (low_of (host 0) by_plan ≡ 4)
unfolding host_on_literals
a_plan_makes_stable = (λ keeps. keeps 1 (record { base = stable_4; batches = asked ∷ [] }) refl, refl)

-- ---- states

-- the first part of the state at the stable position 4
abbrev state_0 : StateMsg
state_0 = record { host = 0; pos = 4; digests = part_digests parts_4; first = 0; parts = asked_0.op ∷ [] }

abbrev pub one_part : History
one_part = Accepted (message.State state_0) ∷ Accepted (message.Join join_1) ∷ []

a_part_is_held : (keeps.KeepsParts (host 2) one_part → (part_of (host 2) one_part 4 0 ≡ Some asked_0.op) × (missing (host 2) one_part ≡ Some 0 → ⊥)) × (missing (host 2) one_part ≡ Some 1)
unfolding host_on_literals
a_part_is_held = (λ keeps. keeps [] (Accepted (message.Join join_1) ∷ []) state_0 0 asked_0.op refl refl refl refl tt refl, refl)

-- the state behind position 4, which is executed, with another position behind it
abbrev pub executed_5 : History
executed_5 = Executed (record slot_4 { pos = 5 }) ∷ Executed slot_4 ∷ Served 4 (placed asked_0) ∷ []

a_snapshot_is_kept : (keeps.KeepsSnapshots (host 0) executed_5 → snapshot_of (host 0) executed_5 4 ≡ Some parts_4) × (snapshot_of (host 0) executed_5 4 ≡ Some parts_4)
unfolding host_on_literals
a_snapshot_is_kept =
    let low : 0 ≤ 4 = omega arith in
    (λ keeps. keeps (Executed (record slot_4 { pos = 5 }) ∷ []) (Served 4 (placed asked_0) ∷ []) slot_4 refl refl low (refl, tt), refl)
