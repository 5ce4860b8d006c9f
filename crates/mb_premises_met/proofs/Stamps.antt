-- What a host stamps: it counts for itself, gates move with each message, views are left with cause, and the log is cut. Where a statement refuses a history,
-- all its premises hold there.
use Rattle.std.proofs.Common.{inl, inr, ◌≡◌, ◌≤◌, ◌<◌, ℕ, [], ◌∷◌, refl, arith, subst, Some}
use Rattle.std.specs.Prelude.{Contains}
use Rattle.mb_base.specs.Shapes.{Bytes}
use Rattle.mb_usig.specs.Tags.{certificate}
use Rattle.mb_parts.specs.declared.floor.Floor.{Floor}
use Rattle.mb_parts.specs.Bares.{bare_bytes, batch_digest}
use Rattle.mb_parts.specs.Bares as bare
use Rattle.mb_parts.specs.declared.floor.Phase.TheVariants as phase
use Rattle.mb_parts.specs.declared.certificates.FloorCert.{FloorCert}
use Rattle.mb_parts.specs.Certificates.{certified_floor}
use Rattle.mb_parts.specs.Ordered.{initial_floor}
use Rattle.mb_model.specs.Verified.{verifies}
use Rattle.mb_msg.specs.Bodies.{body_digest}
use Rattle.mb_msg.specs.Spelling.{spelling, open_body_bytes}
use Rattle.mb_msg.specs.declared.message.Body.TheVariants.{Whole}
use Rattle.mb_msg.specs.declared.message.Message.TheVariants as message
use Rattle.mb_msg.specs.declared.normal.Prepare.{Prepare}
use Rattle.mb_msg.specs.declared.change.Open.{Open}
use Rattle.mb_msg.specs.declared.change.OpenBody.{OpenBody}
use Rattle.mb_msg.specs.declared.stamped.Stamped.TheVariants as stamped
use Rattle.mb_model.specs.declared.known.KnownSlot.{KnownSlot}
use Rattle.mb_model.specs.Histories.{Accepted, Stamped, Executed, Jumped, History, gate}
use Rattle.mb_model.specs.Positions.{slot_in, vote_of}
use Rattle.mb_model.specs.OwnLog.{log_start}
use Rattle.mb_model.specs.Stable.{log_floor}
use Rattle.mb_model.proofs.StepOnLiterals.{host_on_literals}
use Rattle.mb_model.specs.HostStep.{transition}
use Rattle.mb_promise.specs.NothingLeft.{OpenCompletes, ExecutesWithOpen, Executes}
use Rattle.mb_promise.specs.TakesValid.{IsPlanOf}
use Rattle.mb_promise.specs.OwnStamps as own
use Rattle.mb_promise.specs.GatesStand.{KeepsGates, TakesInTurn, KeepsJumps, StartsGates}
use Rattle.mb_promise.specs.LeavesWithCause.{LeavesWithCause, HasCause}
use Rattle.mb_promise.specs.CutsLog.{CutsLog, AgreeOnFloor, IsKeptAt}
use Rattle.mb_agreement.proofs.ViewChangeData.{secret, three, at_zero, asked, evidence_1, new_view_cert}
use Rattle.mb_premises_met.proofs.Data.{host, prepare_1, commit_1, change_1, change_2, new_view_1, enter_2, open_2, carried, slot_1, state_4, floor_0, floor_cert_0, point}
use Rattle.mb_premises_met.proofs.NormalCase.{committed, two_wait, vote_1, left_by}
use Rattle.mb_premises_met.proofs.Tables.{opened_1, opened_2, announced_1, two_points}
use Rattle.mb_premises_met.proofs.ValidMessages.{some_is, none_some, in_whole}

-- ---- its own votes

-- The PREPARE of h0 is its own vote, and the COMMIT of h1 is; the OPEN of h2 is its vote for what view 1 carries on, and the slot there.
an_own_prepare_counts : (own.CountsOwnPrepares (host 0) (Stamped (stamped.Prepare prepare_1) ∷ two_wait) → vote_of (host 0) (Stamped (stamped.Prepare prepare_1) ∷ two_wait) 0 0 1 ≡ Some vote_1)
    × (vote_of (host 0) (Stamped (stamped.Prepare prepare_1) ∷ two_wait) 0 0 1 ≡ Some vote_1)
unfolding host_on_literals
an_own_prepare_counts = (λ counts. (counts [] two_wait prepare_1 refl).vote, refl)

an_own_commit_counts : (own.CountsOwnCommits (host 1) committed → own.CommitCounts (host 1) committed (Accepted (message.Prepare prepare_1) ∷ []) commit_1) × (vote_of (host 1) committed 1 0 1 ≡ Some vote_1)
unfolding host_on_literals
an_own_commit_counts = (λ counts. counts [] (Accepted (message.Prepare prepare_1) ∷ []) commit_1 refl, refl)

abbrev slot_of_plan : KnownSlot
slot_of_plan = record { counter = 3; cert = new_view_cert; digest = batch_digest asked; batch = Some asked }

abbrev entered_2 : History
entered_2 = Stamped (stamped.Enter enter_2) ∷ Accepted (message.NewView new_view_1) ∷ Stamped (stamped.ViewChange change_2) ∷ []

an_own_open_counts : (own.CountsOwnOpens (host 2) opened_2 → own.OpenCounts (host 2) opened_2 entered_2 open_2)
    × (vote_of (host 2) opened_2 2 1 1 ≡ Some (record { counter = 3; request = batch_digest asked })) × (slot_in (host 2) opened_2 1 1 ≡ Some slot_of_plan)
unfolding host_on_literals
an_own_open_counts = (λ counts. counts [] entered_2 open_2 refl, refl, refl)

-- A host that stamps a PREPARE beyond its window is refused, and so is one that stamps a COMMIT of what it does not hold.
abbrev prepare_9 : Prepare
prepare_9 = record prepare_1 { pos = 9 }

beyond : (n : ℕ) → 9 ≤ n → n ≡ 8 → ⊥
beyond n le is = absurd (omega (arith, le, is))

no_own_prepare_beyond_the_window : own.CountsOwnPrepares (host 0) (Stamped (stamped.Prepare prepare_9) ∷ []) → ⊥
unfolding host_on_literals
no_own_prepare_beyond_the_window counts = beyond 8 (counts [] [] prepare_9 refl).inside.near refl

no_own_commit_of_nothing : own.CountsOwnCommits (host 1) (Stamped (stamped.Commit commit_1) ∷ []) → ⊥
unfolding host_on_literals
no_own_commit_of_nothing counts = let it : own.CommitCounts (host 1) (Stamped (stamped.Commit commit_1) ∷ []) [] commit_1 = counts [] [] commit_1 refl in none_some it.slot it.there

-- The OPEN of h2 is its vote at h1, at the moment at which it came.
an_open_is_its_vote : own.CountsVotesOfOpens (host 1) opened_1 → vote_of (host 1) opened_1 2 1 1 ≡ Some (record { counter = 3; request = batch_digest asked })
unfolding host_on_literals
an_open_is_its_vote counts = counts [] (Accepted (message.Enter enter_2) ∷ announced_1) (Accepted (message.Open open_2)) 2 1 evidence_1 carried asked refl refl refl refl refl refl
    (record { above = omega arith; near = omega arith; allowed = omega arith }) refl

-- h2 opened view 1, and the OPEN of h1 is the second vote for what it carries on: that is executed, and does not wait.
abbrev open_1 : Open
open_1 = record open_2 { ui = record { host = 1; counter = 4; cert = certificate secret 1 4 (bare_bytes (bare.Open evidence_1 (body_digest open_body_bytes open_2.body))) } }

a_planned_position_is_executed : own.ExecutesPlanned (host 2) (Accepted (message.Open open_1) ∷ opened_2) → ⊥
unfolding host_on_literals
a_planned_position_is_executed executes =
    let two : 2 ≤ 2 = omega arith in
    executes (Accepted (message.Open open_1) ∷ []) entered_2 open_2 (record { stable = at_zero; batches = asked ∷ [] }) asked refl refl refl refl
    (record { above = omega arith; near = omega arith; allowed = omega arith }) refl refl two

-- It is executed in the step in which this OPEN is given: h2 was given all that h1 stamped before.
abbrev given_all : History
given_all = Stamped (stamped.Open open_2) ∷ Stamped (stamped.Enter enter_2) ∷ Accepted (message.NewView new_view_1) ∷ Accepted (message.ViewChange change_1)
    ∷ Accepted (message.Commit commit_1) ∷ Stamped (stamped.ViewChange change_2) ∷ []

its_plan : (x : OpenBody) → open_1.body ≡ Whole x → IsPlanOf (host 2) evidence_1 x
unfolding host_on_literals
its_plan x e = subst (IsPlanOf (host 2) evidence_1) (some_is _ _ (in_whole _ _ e)) (record { stable = refl; base = refl; count = refl; tagged = ((refl, (refl, tt)), tt); plan = refl })

an_open_completes : OpenCompletes (host 2) given_all (spelling (message.Open open_1)) open_1 carried 1 slot_of_plan asked asked
unfolding host_on_literals
an_open_completes =
    let one : 1 ≤ 1 = omega arith in
    record {
      is = refl;
      sent = record { certified = refl; other = λ e. let is : 1 ≡ 2 = e in absurd (omega (arith, is)); free = refl; next = refl; permitted = refl };
      planned = its_plan;
      next = record { opened = refl; current = refl; next = refl; within = record { above = omega arith; near = omega arith; allowed = omega arith } };
      held = refl;
      plan_is = refl;
      at = refl;
      slot = ((record { above = omega arith; near = omega arith; allowed = omega arith }, refl), refl);
      counter = refl;
      digest = refl;
      lacks = record { first = refl; others = one };
    }

an_open_executes : (ExecutesWithOpen (host 2) given_all → Executes (host 2) given_all (spelling (message.Open open_1)) 1 asked) × Contains (left_by 2 given_all (message.Open open_1)) (Executed slot_1)
unfolding host_on_literals transition
an_open_executes = (
  λ executes. executes (spelling (message.Open open_1)) open_1 carried 1 slot_of_plan asked asked an_open_completes,
  let some : 0 < 10 = omega arith in (0, some, refl),
)

-- ---- gates

-- Behind the PREPARE of h0 its gate at h1 stands at counter 1 and position 1; a jump puts it at its floor; before all it stands at the start.
a_gate_moves : (KeepsGates committed → (gate committed 0).counter ≡ 1) × (gate committed 0 ≡ record { counter = 1; view = 0; phase = phase.Open; last = 1; top = 1; point = 0 })
unfolding host_on_literals
a_gate_moves = (λ keeps. (keeps (Stamped (stamped.Commit commit_1) ∷ []) [] (Accepted (message.Prepare prepare_1)) (stamped.Prepare prepare_1) refl (inl refl) (refl, tt)).0, refl)

a_gate_jumps : (KeepsJumps (Jumped 0 floor_0 ∷ committed) → gate (Jumped 0 floor_0 ∷ committed) 0 ≡ floor_0) × (gate (Jumped 0 floor_0 ∷ committed) 0 ≡ floor_0)
unfolding host_on_literals
a_gate_jumps = (λ keeps. keeps [] committed 0 floor_0 refl tt, refl)

a_gate_starts : (StartsGates committed → gate committed 2 ≡ initial_floor) × (gate committed 2 ≡ initial_floor)
unfolding host_on_literals
a_gate_starts = (λ starts. starts 2 (refl, (refl, tt)), refl)

-- A message that was taken twice is refused.
no_message_twice : TakesInTurn (Accepted (message.Prepare prepare_1) ∷ Accepted (message.Prepare prepare_1) ∷ []) → ⊥
unfolding host_on_literals
no_message_twice takes =
    let is : 1 ≡ 2 = takes [] (Accepted (message.Prepare prepare_1) ∷ []) (Accepted (message.Prepare prepare_1)) (stamped.Prepare prepare_1) refl (inl refl) in
    absurd (omega (arith, is))

-- ---- views

two_of_none : 2 ≤ 0 → ⊥
two_of_none few = absurd (omega (arith, few))

-- Nobody wishes for view 1, and h1 holds no NEW_VIEW and no evidence of it: it may not leave.
no_cause : HasCause (host 1) [] 1 → ⊥
unfolding host_on_literals
no_cause it = elim (it.cause) [
  | inl wished ↦ two_of_none wished
  | inr held ↦ elim (held) [
    | inl announced ↦ none_some announced.0 announced.1
    | inr evident ↦ none_some evident.0 evident.1
  ]
]

no_view_is_left_without_cause : LeavesWithCause (host 1) (Stamped (stamped.ViewChange change_1) ∷ []) → ⊥
unfolding host_on_literals
no_view_is_left_without_cause leaves = no_cause (leaves [] [] change_1 refl)

-- ---- the log

-- With the CHECKPOINT of h1 two hosts agree at position 4 on the floor of h0 behind its first message. There the log of h0 begins.
not_above : (q : ℕ) → q ≡ 4 → 4 < q → ⊥
not_above q is above = absurd (omega (arith, is, above))

none_above : (q : ℕ) (other : Bytes) (f : Floor) → IsKeptAt (host 0) two_points q → 4 < q → AgreeOnFloor (host 0) two_points q other f → ⊥
unfolding host_on_literals
none_above q other f (inl is) above agree = not_above q is above
none_above q other f (inr (inl is)) above agree = two_of_none (subst (λ (q : ℕ). AgreeOnFloor (host 0) two_points q other f) is agree)
none_above q other f (inr (inr is)) above agree = two_of_none (subst (λ (q : ℕ). AgreeOnFloor (host 0) two_points q other f) is agree)

a_log_is_cut : (CutsLog (host 0) two_points → 1 ≤ log_start (host 0) two_points) × (log_start (host 0) two_points ≡ 1)
unfolding host_on_literals
a_log_is_cut = (
  λ cuts.
      let below : 0 ≤ 4 = omega arith in
      let two : 2 ≤ 2 = omega arith in
      let one : 1 ≤ 1 = omega arith in
      cuts [] (Stamped (stamped.Checkpoint (point 0 2)) ∷ []) (Accepted (message.Checkpoint (point 1 2))) floor_0 refl
      (record { message = point 1 2; comes = inl refl; above = below; agreed = record { pos = 4; state = state_4; kept = inl refl; agree = two; last = none_above }; reached = one }),
  refl,
)

-- The certificate with which it was cut certifies this floor.
its_floor_is_certified : (c : FloorCert) × (log_floor (host 0) two_points ≡ Some c) × (certified_floor three (verifies secret) 0 c ≡ Some floor_0)
unfolding host_on_literals
its_floor_is_certified = (floor_cert_0, refl, refl)
