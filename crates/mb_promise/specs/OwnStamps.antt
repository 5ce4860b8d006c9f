-- What a host stamps counts for itself, as what others stamp: its PREPARE and its OPEN make slots, and its PREPARE, its COMMIT and its OPEN are its own
-- votes; none of these votes falls outside of its view or its window. The vote of another's OPEN is the one that the plan says. So a position that a plan
-- carries on is not left waiting.
use Rattle.std.specs.Prelude.{◌≡◌, ℕ, ◌+◌, true, ◌∷◌, ◌++◌, Some, None}
use Rattle.mb_base.specs.Shapes.{HasQuorum}
use Rattle.mb_parts.specs.declared.batch.Batch.{Batch}
use Rattle.mb_parts.specs.declared.certificates.Evidence.{Evidence}
use Rattle.mb_parts.specs.Spelling.{batch_bytes}
use Rattle.mb_parts.specs.Bares.{batch_digest}
use Rattle.mb_msg.specs.declared.message.Body.TheVariants.{Whole}
use Rattle.mb_msg.specs.declared.normal.Prepare.{Prepare}
use Rattle.mb_msg.specs.declared.normal.Commit.{Commit}
use Rattle.mb_msg.specs.declared.change.Open.{Open}
use Rattle.mb_msg.specs.declared.change.OpenBody.{OpenBody}
use Rattle.mb_msg.specs.declared.change.Plan.{Plan}
use Rattle.mb_msg.specs.declared.stamped.Stamped.TheVariants as stamped
use Rattle.mb_msg.specs.Bodies.{body_digest}
use Rattle.mb_msg.specs.Plans.{plan_digest}
use Rattle.mb_model.specs.declared.known.Vote.{Vote}
use Rattle.mb_model.specs.declared.known.KnownSlot.{KnownSlot}
use Rattle.mb_model.specs.Histories.{Entry, Stamped, History, Identity, view_of, is_open}
use Rattle.mb_model.specs.Held.{opened_by, plan_held}
use Rattle.mb_model.specs.Positions.{exec_of, batch_from, slot_in, slot_vote, vote_of}
use Rattle.mb_promise.specs.NothingLeft.{IsInWindow, slot_of, has_vote}

-- the slot and the vote of a batch that an OPEN of this evidence carries on
abbrev pub carried_slot : Evidence → Batch → KnownSlot
carried_slot e b = record { counter = e.counter; cert = e.cert; digest = batch_digest b; batch = Some b }

abbrev pub carried_vote : Evidence → Batch → Vote
carried_vote e b = record { counter = e.counter; request = batch_digest b }

module _ {S : Type 0} (self : Identity S) (d : History) where
  -- A PREPARE that was stamped is whole, of the host's view, at a position of the window. It is the slot there, and the own vote.
  pub record PrepareCounts (before : History) (m : Prepare) : Type 0 where
    pub batch : Batch
    pub body : m.body ≡ Whole batch
    pub view : view_of self before ≡ m.view
    pub inside : IsInWindow self before m.pos
    pub slot : slot_in self d m.view m.pos ≡ Some (slot_of self d m)
    pub vote : vote_of self d self.host m.view m.pos ≡ Some (record { counter = m.ui.counter; request = body_digest batch_bytes m.body })

  abbrev pub CountsOwnPrepares : Type 0
  CountsOwnPrepares = (later before : History) (m : Prepare) → d ≡ later ++ Stamped (stamped.Prepare m) ∷ before → PrepareCounts before m

  -- So is a COMMIT. It names the counter and the batch of the slot there, and is the own vote for it.
  pub record CommitCounts (before : History) (m : Commit) : Type 0 where
    pub view : view_of self before ≡ m.view
    pub inside : IsInWindow self before m.pos
    pub slot : KnownSlot
    pub batch : Batch
    pub there : slot_in self before m.view m.pos ≡ Some slot
    pub counter : m.counter ≡ slot.counter
    pub held : slot.batch ≡ Some batch
    pub body : m.body ≡ Whole batch
    pub vote : vote_of self d self.host m.view m.pos ≡ Some (slot_vote slot)

  abbrev pub CountsOwnCommits : Type 0
  CountsOwnCommits = (later before : History) (m : Commit) → d ≡ later ++ Stamped (stamped.Commit m) ∷ before → CommitCounts before m

  -- An OPEN that was stamped is of the host's view, and shows the plan that is held for it. At each position of the window for which this plan has a
  -- batch, it is the own vote, and the slot where there was none.
  pub record OpenCounts (before : History) (m : Open) : Type 0 where
    pub plan : Plan
    pub view : view_of self before ≡ m.evidence.view
    pub held : plan_held self before ≡ Some (m.evidence.view, plan)
    pub base : m.evidence.base ≡ plan.base.pos
    pub body : m.body ≡ Whole (record { stable = plan.base; batches = plan.batches })
    pub votes : (pos : ℕ) (b : Batch) → IsInWindow self before pos → batch_from plan.base.pos pos plan.batches ≡ Some b
        → vote_of self d self.host m.evidence.view pos ≡ Some (carried_vote m.evidence b)
    pub slots : (pos : ℕ) (b : Batch) → IsInWindow self before pos → batch_from plan.base.pos pos plan.batches ≡ Some b
        → slot_in self before m.evidence.view pos ≡ None → slot_in self d m.evidence.view pos ≡ Some (carried_slot m.evidence b)

  abbrev pub CountsOwnOpens : Type 0
  CountsOwnOpens = (later before : History) (m : Open) → d ≡ later ++ Stamped (stamped.Open m) ∷ before → OpenCounts before m

  -- From the moment on at which the OPEN of a host, its plan and its view are there, the host's vote is the one that the plan says, where there was none.
  abbrev pub CountsVotesOfOpens : Type 0
  CountsVotesOfOpens = (later before : History) (x : Entry) (g pos : ℕ) (e : Evidence) (plan : Plan) (b : Batch) → d ≡ later ++ x ∷ before
      → vote_of self before g e.view pos ≡ None → opened_by (x ∷ before) g ≡ Some e → view_of self (x ∷ before) ≡ e.view
      → plan_held self (x ∷ before) ≡ Some (e.view, plan) → plan_digest plan ≡ e.plan → IsInWindow self (x ∷ before) pos → batch_from plan.base.pos pos plan.batches ≡ Some b
      → vote_of self d g e.view pos ≡ Some (carried_vote e b)

  -- In an open view that this host opened itself, the position behind the last executed one does not wait, where the plan has a batch for it, no slot
  -- stood there before, and f+1 hosts have the vote for it.
  abbrev pub ExecutesPlanned : Type 0
  ExecutesPlanned = (later before : History) (m : Open) (x : OpenBody) (b : Batch) → d ≡ later ++ Stamped (stamped.Open m) ∷ before → m.body ≡ Whole x
      → is_open self d ≡ true → view_of self d ≡ m.evidence.view → IsInWindow self d (exec_of d + 1) → batch_from m.evidence.base (exec_of d + 1) x.batches ≡ Some b
      → slot_in self before m.evidence.view (exec_of d + 1) ≡ None → HasQuorum self.shape (has_vote self d (exec_of d + 1) (carried_vote m.evidence b)) → ⊥

  pub record CountsOwn : Type 0 where
    pub prepares : CountsOwnPrepares
    pub commits : CountsOwnCommits
    pub opens : CountsOwnOpens
    pub votes_of_opens : CountsVotesOfOpens
    pub planned : ExecutesPlanned
