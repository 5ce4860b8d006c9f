-- What a host knows of a position came: a slot with a PREPARE or the own OPEN, a vote with a PREPARE, a COMMIT or an OPEN of its host, a part of a state
-- with a STATE. Nothing is found of which the history does not tell.
use Rattle.std.specs.Prelude.{◌≡◌, ℕ, ◌+◌, ◌⊎◌, ◌∷◌, ◌++◌, slice_get, Some}
use Rattle.mb_base.specs.Shapes.{Bytes}
use Rattle.mb_parts.specs.declared.batch.Batch.{Batch}
use Rattle.mb_parts.specs.declared.certificates.Evidence.{Evidence}
use Rattle.mb_parts.specs.Spelling.{batch_bytes}
use Rattle.mb_msg.specs.declared.message.Body.{Body}
use Rattle.mb_msg.specs.declared.message.Body.TheVariants.{Whole}
use Rattle.mb_msg.specs.declared.message.Message.TheVariants as message
use Rattle.mb_msg.specs.declared.normal.Prepare.{Prepare}
use Rattle.mb_msg.specs.declared.change.Open.{Open}
use Rattle.mb_msg.specs.declared.change.OpenBody.{OpenBody}
use Rattle.mb_msg.specs.declared.change.Plan.{Plan}
use Rattle.mb_msg.specs.declared.transfer.StateMsg.{StateMsg}
use Rattle.mb_msg.specs.declared.stamped.Stamped.TheVariants as stamped
use Rattle.mb_msg.specs.Bodies.{body_digest, whole_body}
use Rattle.mb_msg.specs.Plans.{plan_digest}
use Rattle.mb_model.specs.declared.known.Vote.{Vote}
use Rattle.mb_model.specs.declared.known.KnownSlot.{KnownSlot}
use Rattle.mb_model.specs.Histories.{Entry, Accepted, Stamped, History, Identity, view_of}
use Rattle.mb_model.specs.Held.{opened_by, plan_held}
use Rattle.mb_model.specs.Stable.{low_of}
use Rattle.mb_model.specs.Positions.{batch_from, slot_in, vote_of}
use Rattle.mb_model.specs.Execution.{part_of}
use Rattle.mb_promise.specs.NothingLeft.{IsInWindow}
use Rattle.mb_promise.specs.KeepsTables.{NoneIs, empties}
use Rattle.mb_promise.specs.OwnStamps.{carried_slot, carried_vote}

-- ---- what one entry says

-- The PREPARE is of this position of this view, and says this slot.
abbrev pub IsSlotOf : Prepare → ℕ → ℕ → KnownSlot → Type 0
IsSlotOf m v p k = (m.view ≡ v) × (m.pos ≡ p) × (k ≡ record { counter = m.ui.counter; cert = m.ui.cert; digest = body_digest batch_bytes m.body; batch = whole_body m.body })

-- The OPEN is of this view, and its plan has this batch there.
pub record Carries (m : Open) (v p : ℕ) (b : Batch) : Type 0 where
  pub body : OpenBody
  pub view : m.evidence.view ≡ v
  pub whole : m.body ≡ Whole body
  pub at : batch_from m.evidence.base p body.batches ≡ Some b

-- an accepted or an own PREPARE, and the own OPEN
abbrev pub SaysSlot : Entry → ℕ → ℕ → KnownSlot → Type 0
SaysSlot (Accepted (message.Prepare m)) v p k = IsSlotOf m v p k
SaysSlot (Stamped (stamped.Prepare m)) v p k = IsSlotOf m v p k
SaysSlot (Stamped (stamped.Open m)) v p k = (b : Batch) × Carries m v p b × (k ≡ carried_slot m.evidence b)
SaysSlot e v p k = ⊥

-- The message is of this position of this view, and a vote for its batch at this counter.
abbrev pub IsVoteAt : ℕ → ℕ → Body Batch → ℕ → ℕ → ℕ → Vote → Type 0
IsVoteAt view pos body counter v p x = (view ≡ v) × (pos ≡ p) × (x ≡ record { counter = counter; request = body_digest batch_bytes body })

-- An accepted PREPARE or COMMIT is its sender's vote; what was stamped is the own vote.
abbrev pub SaysVote : ℕ → Entry → ℕ → ℕ → ℕ → Vote → Type 0
SaysVote own (Accepted (message.Prepare m)) g v p x = (m.ui.host ≡ g) × IsVoteAt m.view m.pos m.body m.ui.counter v p x
SaysVote own (Accepted (message.Commit m)) g v p x = (m.ui.host ≡ g) × IsVoteAt m.view m.pos m.body m.counter v p x
SaysVote own (Stamped (stamped.Prepare m)) g v p x = (own ≡ g) × IsVoteAt m.view m.pos m.body m.ui.counter v p x
SaysVote own (Stamped (stamped.Commit m)) g v p x = (own ≡ g) × IsVoteAt m.view m.pos m.body m.counter v p x
SaysVote own (Stamped (stamped.Open m)) g v p x = (own ≡ g) × (b : Batch) × Carries m v p b × (x ≡ carried_vote m.evidence b)
SaysVote own e g v p x = ⊥

module _ {S : Type 0} (self : Identity S) where
  -- An OPEN of this host was taken, and the plan of its view is held, which has a batch there.
  pub record IsOpenVote (d : History) (g v p : ℕ) (x : Vote) : Type 0 where
    pub evidence : Evidence
    pub plan : Plan
    pub batch : Batch
    pub opened : opened_by d g ≡ Some evidence
    pub view : evidence.view ≡ v
    pub held : plan_held self d ≡ Some (v, plan)
    pub digest : plan_digest plan ≡ evidence.plan
    pub at : batch_from plan.base.pos p plan.batches ≡ Some batch
    pub vote : x ≡ carried_vote evidence batch

  -- ---- it came while its view was the host's, and its position was in the window

  pub record SlotCame (d : History) (v p : ℕ) (k : KnownSlot) : Type 0 where
    pub later : History
    pub before : History
    pub entry : Entry
    pub is : d ≡ later ++ entry ∷ before
    pub current : view_of self (entry ∷ before) ≡ v
    pub inside : IsInWindow self (entry ∷ before) p
    pub says : SaysSlot entry v p k

  pub record VoteCame (d : History) (g v p : ℕ) (x : Vote) : Type 0 where
    pub later : History
    pub before : History
    pub entry : Entry
    pub is : d ≡ later ++ entry ∷ before
    pub current : view_of self (entry ∷ before) ≡ v
    pub inside : IsInWindow self (entry ∷ before) p
    pub says : SaysVote self.host entry g v p x ⊎ IsOpenVote (entry ∷ before) g v p x

  -- A part came with a STATE of the position that was stable then, and none was installed or dropped since.
  pub record PartCame (d : History) (pos i : ℕ) (part : Bytes) : Type 0 where
    pub later : History
    pub before : History
    pub taken : StateMsg
    pub index : ℕ
    pub is : d ≡ later ++ Accepted (message.State taken) ∷ before
    pub stable : low_of self before ≡ pos
    pub position : taken.pos ≡ pos
    pub place : i ≡ taken.first + index
    pub brings : slice_get taken.parts index ≡ Some part
    pub kept : NoneIs empties later

-- No slot, vote or part is found that did not come.
pub record FindsWhatCame {S : Type 0} (self : Identity S) (d : History) : Type 0 where
  pub slots : (v p : ℕ) (k : KnownSlot) → slot_in self d v p ≡ Some k → SlotCame self d v p k
  pub votes : (g v p : ℕ) (x : Vote) → vote_of self d g v p ≡ Some x → VoteCame self d g v p x
  pub parts : (pos i : ℕ) (part : Bytes) → part_of self d pos i ≡ Some part → PartCame self d pos i part
