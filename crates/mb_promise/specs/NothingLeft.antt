-- What correct hosts have done after each event: all that is due. It is said in the words of what a host holds, and not by the rules that
-- it carries out; but for the list of the requests that wait, which is the rules' own.
use Rattle.std.specs.Prelude.{◌≡◌, ℕ, ◌+◌, ◌-◌, ◌*◌, ◌^◌, ◌%◌, Bool, not, count_by, ◌≤◌, ◌<◌, ◌⊎◌, ◌↔◌, true, false, List, [], ◌∷◌, ◌++◌, length, filter, nat_le, ◌==◌, is_some, Some, None, Ok, Contains}
use Rattle.std.specs.List.{flat_map}
use Rattle.mb_base.specs.Limits.{batch_limit, batch_bytes_limit, ahead_limit, log_intervals, other_limit}
use Rattle.mb_base.specs.Shapes.{Bytes, HasQuorum, max_faults, quorum, primary, tally, interval, span, host_count, client_count}
use Rattle.mb_parts.specs.declared.request.Request.{Request}
use Rattle.mb_parts.specs.declared.batch.Batch.{Batch}
use Rattle.mb_parts.specs.declared.certificates.Evidence.{Evidence}
use Rattle.mb_parts.specs.Spelling.{request_bytes, batch_bytes}
use Rattle.mb_parts.specs.Bares.{batch_digest}
use Rattle.mb_parts.specs.Ordered.{end_of}
use Rattle.mb_msg.specs.declared.event.Event.TheVariants as event
use Rattle.mb_msg.specs.declared.event.Outcome.TheVariants as outcome
use Rattle.mb_msg.specs.declared.event.Slot.{Slot}
use Rattle.mb_msg.specs.declared.message.Body.TheVariants.{Whole}
use Rattle.mb_msg.specs.declared.message.Message.{Message}
use Rattle.mb_msg.specs.declared.message.Message.TheVariants as message
use Rattle.mb_msg.specs.declared.normal.Prepare.{Prepare}
use Rattle.mb_msg.specs.declared.normal.Commit.{Commit}
use Rattle.mb_msg.specs.declared.normal.Checkpoint.{Checkpoint}
use Rattle.mb_msg.specs.declared.change.NewView.{NewView}
use Rattle.mb_msg.specs.declared.change.Open.{Open}
use Rattle.mb_msg.specs.declared.change.OpenBody.{OpenBody}
use Rattle.mb_msg.specs.declared.change.Plan.{Plan}
use Rattle.mb_msg.specs.declared.stamped.Stamped.TheVariants as stamped
use Rattle.mb_msg.specs.Bodies.{body_digest, whole_body}
use Rattle.mb_msg.specs.Plans.{plan_digest}
use Rattle.mb_msg.specs.Reading.{message_of}
use Rattle.mb_model.specs.declared.known.Vote.{Vote}
use Rattle.mb_model.specs.declared.known.KnownSlot.{KnownSlot}
use Rattle.mb_model.specs.Service.{batch_of, is_fresh}
use Rattle.mb_model.specs.Votes.{is_vote}
use Rattle.mb_model.specs.States.{state_digest}
use Rattle.mb_model.specs.Plans.{are_of_plan}
use Rattle.mb_model.specs.Histories.{History, counter_of, Accepted, Stamped, Executed, Identity, here, view_of, is_open, is_entered, is_changing, is_primary}
use Rattle.mb_model.specs.Held.{wish_of, changes_of, new_view_of, evidence_of, plan_held, enters_for, opened_by}
use Rattle.mb_model.specs.Stable.{low_of}
use Rattle.mb_model.specs.OwnLog.{own_log, is_normal}
use Rattle.mb_model.specs.Positions.{exec_of, slot_in, slot_vote, vote_of, batch_from}
use Rattle.mb_model.specs.Execution.{state_of, pending, missing}
use Rattle.mb_model.specs.Making.{present_parts, floors_under}
use Rattle.mb_model.specs.EnabledRules.{unordered}
use Rattle.mb_model.specs.Passed.{Passes}
use Rattle.mb_model.specs.Given.{named_prepare}
use Rattle.mb_model.specs.HostStep.{transition}
use Rattle.mb_promise.specs.TakesValid.{AreTagged, IsNextOfSender, IsPlanOf}

-- A batch is the beginning of this list of requests, and it has no place for the next one: there are as many as a batch may have, or all would have too many bytes.
pub record IsFull (l : List Request) (b : Batch) : Type 0 where
  pub rest : List Request
  pub begins : l ≡ b.requests ++ rest
  pub some : 1 ≤ length b.requests
  pub few : length b.requests ≤ batch_limit
  pub short : length (flat_map request_bytes b.requests) ≤ batch_bytes_limit
  pub full : (r : Request) (more : List Request) → rest ≡ r ∷ more
      → (length b.requests ≡ batch_limit) ⊎ (batch_bytes_limit < length (flat_map request_bytes (b.requests ++ r ∷ [])))

-- This batch was executed at the position.
pub record HasExecuted (d : History) (pos : ℕ) (b : Batch) : Type 0 where
  pub slot : Slot
  pub position : slot.pos ≡ pos
  pub batch : batch_of slot ≡ b
  pub there : Contains d (Executed slot)

-- ---- words of what is due

module _ {S : Type 0} (self : Identity S) where
  -- There is room in the own log for one more PREPARE, COMMIT or CHECKPOINT, and the USIG has a counter left.
  pub record HasRoom (d : History) : Type 0 where
    pub place : count_by is_normal (own_log self d) < log_intervals * interval self.shape
    pub counter : counter_of d < 2 ^ 64 - 1

  -- So there is for one more of the other kinds.
  pub record HasOtherRoom (d : History) : Type 0 where
    pub place : count_by (λ m. not (is_normal m)) (own_log self d) < other_limit
    pub counter : counter_of d < 2 ^ 64 - 1

  -- a position above the stable one, at most two intervals
  pub record IsInWindow (d : History) (pos : ℕ) : Type 0 where
    pub above : low_of self d < pos
    pub near : pos ≤ low_of self d + span self.shape
    pub allowed : pos < 2 ^ 63

  -- the slot of a position of the window in the host's view
  abbrev pub IsSlot : History → ℕ → KnownSlot → Type 0
  IsSlot d pos k = IsInWindow d pos × (slot_in self d (view_of self d) pos ≡ Some k)

  -- It is there, with this batch.
  abbrev pub HasSlot : History → ℕ → KnownSlot → Batch → Type 0
  HasSlot d pos k b = IsSlot d pos k × (k.batch ≡ Some b)

  -- A host's vote for a position of the host's view is this one.
  abbrev pub has_vote : History → ℕ → Vote → ℕ → Bool
  has_vote d pos x h = is_vote (vote_of self d h (view_of self d) pos) x

module _ {S : Type 0} (self : Identity S) (d : History) where
  -- ---- the normal case

  -- Each request of these is below this number, where it is of this client.
  abbrev pub AreBelow : ℕ → ℕ → List Request → Type 0
  AreBelow c seq l = (q : Request) → Contains l q → q.client ≡ c → q.seq < seq

  -- No slot has a request of this client from this number on.
  abbrev pub IsUnordered : ℕ → ℕ → Type 0
  IsUnordered c seq = (p : ℕ) (k : KnownSlot) (b : Batch) → HasSlot self d p k b → AreBelow c seq b.requests

  -- An open primary with room, whose next position is in the window and less than `ahead_limit` above the last executed one, has no client's
  -- request waiting that is fresh and above the client's numbers in the slots.
  abbrev pub OrdersRequests : Type 0
  OrdersRequests = (c : ℕ) (r : Request) → is_open self d ≡ true → is_primary self d ≡ true → HasRoom self d
      → IsInWindow self d ((here self d).last + 1) → (here self d).last < exec_of d + ahead_limit
      → c < client_count self.shape → pending self d c ≡ Some r → is_fresh (state_of self d) r ≡ true → IsUnordered c r.seq → ⊥

  -- Each PREPARE that the host stamped holds as many of these requests as go into one batch, from the lowest client on.
  abbrev pub OrdersAllThatFit : Type 0
  OrdersAllThatFit = (later before : History) (m : Prepare) (b : Batch) → d ≡ later ++ Stamped (stamped.Prepare m) ∷ before → m.body ≡ Whole b
      → IsFull (unordered self before) b

  -- An open backup with room does not hold the whole PREPARE of its next position.
  abbrev pub CommitsNext : Type 0
  CommitsNext = (k : KnownSlot) (b : Batch) → is_open self d ≡ true → is_primary self d ≡ false → HasRoom self d
      → HasSlot self d ((here self d).last + 1) k b → ⊥

  -- In an open view no position waits behind the last executed one that has its batch and f+1 votes for it, with or without room.
  abbrev pub ExecutesAtQuorum : Type 0
  ExecutesAtQuorum = (k : KnownSlot) (b : Batch) → is_open self d ≡ true → HasSlot self d (exec_of d + 1) k b
      → HasQuorum self.shape (has_vote self d (exec_of d + 1) (slot_vote k)) → ⊥

  -- Right behind an executed slot stands a CHECKPOINT of its position, with the digest of the state there, and each host's floor under it.
  pub record IsCheckpointed (later before : History) (slot : Slot) : Type 0 where
    pub message : Checkpoint
    pub more : History
    pub follows : later ≡ more ++ Stamped (stamped.Checkpoint message) ∷ []
    pub position : message.pos ≡ slot.pos
    pub digest : message.state ≡ state_digest (present_parts self (Executed slot ∷ before)) slot.pos
    pub floors : message.body ≡ Whole (record { floors = floors_under self (Executed slot ∷ before) slot.pos })

  -- When a multiple of the interval was executed, and there was room at that moment, one was stamped.
  abbrev pub StampsCheckpoints : Type 0
  StampsCheckpoints = (later before : History) (slot : Slot) → d ≡ later ++ Executed slot ∷ before → slot.pos % interval self.shape ≡ 0
      → HasRoom self (Executed slot ∷ before) → IsCheckpointed later before slot

  -- ---- the change of the view

  -- f+1 hosts wish for this view or a later one.
  abbrev pub IsWished : ℕ → Type 0
  IsWished v = HasQuorum self.shape (λ h. nat_le v (wish_of self d h))

  -- The NEW_VIEW of this view is held.
  abbrev pub IsAnnounced : ℕ → Type 0
  IsAnnounced v = (n : NewView) × (new_view_of self d ≡ Some n) × (n.view ≡ v)

  -- Evidence of this view is held.
  abbrev pub IsEvident : ℕ → Type 0
  IsEvident v = (e : Evidence) × (evidence_of self d ≡ Some e) × (e.view ≡ v)

  -- A host with room does not stay in a view below one that f+1 hosts wish for, or of which it holds the NEW_VIEW or evidence.
  abbrev pub LeavesView : Type 0
  LeavesView = (v : ℕ) → view_of self d < v → HasOtherRoom self d → IsWished v ⊎ (IsAnnounced v ⊎ IsEvident v) → ⊥

  -- A primary that is changing, with room, does not hold f+1 VIEW_CHANGEs to its view.
  abbrev pub AnnouncesView : Type 0
  AnnouncesView = is_primary self d ≡ true → is_changing self d ≡ true → HasOtherRoom self d
      → quorum self.shape ≤ length (filter (λ c. c.view == view_of self d) (changes_of self d)) → ⊥

  -- A backup that is changing, with room, does not hold the NEW_VIEW of its view.
  abbrev pub EntersView : Type 0
  EntersView = is_primary self d ≡ false → is_changing self d ≡ true → HasOtherRoom self d → IsAnnounced (view_of self d) → ⊥

  -- The view is above 0 and not open, the primary has entered it, and there is room.
  pub record MayOpen : Type 0 where
    pub above : 0 < view_of self d
    pub closed : is_open self d ≡ false
    pub entered : is_primary self d ≡ true → is_entered self d ≡ true
    pub room : HasOtherRoom self d

  -- The plan of the view is held, and has this base, end and digest.
  abbrev pub HasPlan : ℕ → ℕ → Bytes → Type 0
  HasPlan base end digest = (plan : Plan) × (plan_held self d ≡ Some (view_of self d, plan)) × (are_of_plan base end digest plan ≡ true)

  -- A host does not hold evidence of its view and the plan of this evidence, and leave the view closed.
  abbrev pub OpensByEvidence : Type 0
  OpensByEvidence = (e : Evidence) → MayOpen → evidence_of self d ≡ Some e → e.view ≡ view_of self d → HasPlan e.base e.end e.plan → ⊥

  -- Without evidence of its view, it does not hold the NEW_VIEW of the view with the ENTERs of f hosts that answer it, and its plan.
  abbrev pub OpensByEnters : Type 0
  OpensByEnters = (n : NewView) → MayOpen → (IsEvident (view_of self d) → ⊥) → new_view_of self d ≡ Some n → n.view ≡ view_of self d
      → max_faults self.shape ≤ length (enters_for self d n) → HasPlan n.base n.end n.plan → ⊥

  -- All that is stable is executed, view 0 or one with evidence, and there is room.
  pub record MayJoin : Type 0 where
    pub executed : low_of self d ≤ exec_of d
    pub evident : (view_of self d ≡ 0) ⊎ IsEvident (view_of self d)
    pub room : HasOtherRoom self d

  -- A host in an open view has not ordered less than what is stable.
  abbrev pub JoinsBehind : Type 0
  JoinsBehind = MayJoin → is_open self d ≡ true → (here self d).last < low_of self d → ⊥

  -- A host does not leave a view closed whose plan ends at or below what is stable; the primary only before its NEW_VIEW.
  abbrev pub JoinsPast : Type 0
  JoinsPast = MayJoin → 0 < view_of self d → is_open self d ≡ false → (is_primary self d ≡ true → is_changing self d ≡ false)
      → 0 < low_of self d → end_of (evidence_of self d) ≤ low_of self d → ⊥

  -- ---- the state of others

  -- Never are all parts of the stable state held: with the last of them it was installed, or they were no state and were dropped.
  abbrev pub InstallsState : Type 0
  InstallsState = missing self d ≡ None → ⊥

  -- ---- what is given is taken, and counts

  -- any kind but a LOG, which has outcomes of its entries
  abbrev pub IsNoLog : Message → Type 0
  IsNoLog (message.Log m) = ⊥
  IsNoLog m = Unit {0}

  -- A message is taken exactly where it passes its tests.
  abbrev pub TakesWhatPasses : Type 0
  TakesWhatPasses = (bytes : Bytes) (m : Message) → message_of self.shape bytes ≡ Ok m → IsNoLog m
      → ((transition self d (event.Given bytes)).outcome ≡ outcome.Took) ↔ Passes self d m

  -- This vote of a host, which had none there, is the one that counts from then on: it is of the view and in the window.
  abbrev pub Counts : History → ℕ → ℕ → ℕ → Vote → Type 0
  Counts before g view pos x = view_of self before ≡ view → IsInWindow self before pos → vote_of self before g view pos ≡ None → vote_of self d g view pos ≡ Some x

  -- what a PREPARE says of its position
  abbrev pub slot_of : Prepare → KnownSlot
  slot_of m = record { counter = m.ui.counter; cert = m.ui.cert; digest = body_digest batch_bytes m.body; batch = whole_body m.body }

  -- A PREPARE of the view and in the window is the slot of its position, where there was none.
  abbrev pub KeepsSlots : Type 0
  KeepsSlots = (later before : History) (m : Prepare) → d ≡ later ++ Accepted (message.Prepare m) ∷ before
      → view_of self before ≡ m.view → IsInWindow self before m.pos → slot_in self before m.view m.pos ≡ None → slot_in self d m.view m.pos ≡ Some (slot_of m)

  -- the vote of a PREPARE at its own counter, of a COMMIT at that of its PREPARE
  abbrev pub CountsPrepares : Type 0
  CountsPrepares = (later before : History) (m : Prepare) → d ≡ later ++ Accepted (message.Prepare m) ∷ before
      → Counts before m.ui.host m.view m.pos (record { counter = m.ui.counter; request = body_digest batch_bytes m.body })

  abbrev pub CountsCommits : Type 0
  CountsCommits = (later before : History) (m : Commit) → d ≡ later ++ Accepted (message.Commit m) ∷ before
      → Counts before m.ui.host m.view m.pos (record { counter = m.counter; request = body_digest batch_bytes m.body })

  -- Of a host whose OPEN of this view was taken, a vote counts at each position of its plan, where this plan is held.
  abbrev pub CountsOpens : Type 0
  CountsOpens = (g pos : ℕ) (e : Evidence) (plan : Plan) (b : Batch) → g < host_count self.shape → opened_by d g ≡ Some e → e.view ≡ view_of self d
      → plan_held self d ≡ Some (view_of self d, plan) → plan_digest plan ≡ e.plan → IsInWindow self d pos → batch_from plan.base.pos pos plan.batches ≡ Some b
      → is_some (vote_of self d g (view_of self d) pos) ≡ true

  -- ---- the vote that completes f+1 is executed in the step in which it is given

  -- The view is open, and the position is the one behind the last executed one.
  pub record IsNext (view pos : ℕ) : Type 0 where
    pub opened : is_open self d ≡ true
    pub current : view ≡ view_of self d
    pub next : pos ≡ exec_of d + 1
    pub within : IsInWindow self d pos

  -- f hosts have this vote, and this host has none yet.
  pub record Lacks (g pos : ℕ) (x : Vote) : Type 0 where
    pub first : vote_of self d g (view_of self d) pos ≡ None
    pub others : max_faults self.shape ≤ tally (has_vote self d pos x) (host_count self.shape)

  -- These bytes have this batch executed at the position.
  abbrev pub Executes : Bytes → ℕ → Batch → Type 0
  Executes bytes pos b = HasExecuted (transition self d (event.Given bytes)).left.history pos b

  -- A COMMIT, which is the next message of another host, brings the vote that lacks, where the slot is there.
  pub record CommitCompletes (bytes : Bytes) (m : Commit) (k : KnownSlot) (b c : Batch) : Type 0 where
    pub is : message_of self.shape bytes ≡ Ok (message.Commit m)
    pub sent : IsNextOfSender self d (stamped.Commit m)
    pub next : IsNext m.view m.pos
    pub body : m.body ≡ Whole c
    pub tagged : AreTagged self c
    pub slot : HasSlot self d m.pos k b
    pub counter : m.counter ≡ k.counter
    pub digest : batch_digest c ≡ k.digest
    pub lacks : Lacks m.ui.host m.pos (slot_vote k)

  -- The PREPARE itself brings the vote that lacks.
  pub record PrepareCompletes (bytes : Bytes) (m : Prepare) (b : Batch) : Type 0 where
    pub is : message_of self.shape bytes ≡ Ok (message.Prepare m)
    pub sent : IsNextOfSender self d (stamped.Prepare m)
    pub next : IsNext m.view m.pos
    pub body : m.body ≡ Whole b
    pub tagged : AreTagged self b
    pub no_slot : slot_in self d m.view m.pos ≡ None
    pub lacks : Lacks m.ui.host m.pos (record { counter = m.ui.counter; request = batch_digest b })

  -- Neither of two hosts has a vote here, and with theirs f+1 hosts have this one.
  pub record LackBoth (g h pos : ℕ) (x : Vote) : Type 0 where
    pub first : vote_of self d g (view_of self d) pos ≡ None
    pub second : vote_of self d h (view_of self d) pos ≡ None
    pub others : max_faults self.shape ≤ tally (has_vote self d pos x) (host_count self.shape) + 1

  -- A COMMIT brings its PREPARE too, which is the next of the primary, and with it both votes that lack.
  pub record BothComplete (bytes : Bytes) (m : Commit) (b : Batch) : Type 0 where
    pub is : message_of self.shape bytes ≡ Ok (message.Commit m)
    pub sent : IsNextOfSender self d (stamped.Commit m)
    pub ordered : IsNextOfSender self d (stamped.Prepare (named_prepare self m))
    pub next : IsNext m.view m.pos
    pub body : m.body ≡ Whole b
    pub tagged : AreTagged self b
    pub no_slot : slot_in self d m.view m.pos ≡ None
    pub lack : LackBoth m.ui.host (primary self.shape m.view) m.pos (record { counter = m.counter; request = batch_digest b })

  -- An OPEN of another host in the open view, whose plan is held, brings the vote that lacks, where the slot is there.
  pub record OpenCompletes (bytes : Bytes) (m : Open) (plan : Plan) (pos : ℕ) (k : KnownSlot) (b c : Batch) : Type 0 where
    pub is : message_of self.shape bytes ≡ Ok (message.Open m)
    pub sent : IsNextOfSender self d (stamped.Open m)
    pub planned : (x : OpenBody) → m.body ≡ Whole x → IsPlanOf self m.evidence x
    pub next : IsNext m.evidence.view pos
    pub held : plan_held self d ≡ Some (m.evidence.view, plan)
    pub plan_is : plan_digest plan ≡ m.evidence.plan
    pub at : batch_from plan.base.pos pos plan.batches ≡ Some c
    pub slot : HasSlot self d pos k b
    pub counter : m.evidence.counter ≡ k.counter
    pub digest : batch_digest c ≡ k.digest
    pub lacks : Lacks m.ui.host pos (slot_vote k)

  -- Each of them is executed.
  abbrev pub ExecutesWithCommit : Type 0
  ExecutesWithCommit = (bytes : Bytes) (m : Commit) (k : KnownSlot) (b c : Batch) → CommitCompletes bytes m k b c → Executes bytes m.pos b

  abbrev pub ExecutesWithPrepare : Type 0
  ExecutesWithPrepare = (bytes : Bytes) (m : Prepare) (b : Batch) → PrepareCompletes bytes m b → Executes bytes m.pos b

  abbrev pub ExecutesWithBoth : Type 0
  ExecutesWithBoth = (bytes : Bytes) (m : Commit) (b : Batch) → BothComplete bytes m b → Executes bytes m.pos b

  abbrev pub ExecutesWithOpen : Type 0
  ExecutesWithOpen = (bytes : Bytes) (m : Open) (plan : Plan) (pos : ℕ) (k : KnownSlot) (b c : Batch) → OpenCompletes bytes m plan pos k b c → Executes bytes pos b
