-- What the number of each outcome tells, and when it comes: of the message, and of what the host held as the message came. What was taken stands in the history
-- from then on.
use Rattle.std.specs.Prelude.{◌≡◌, ℕ, ◌+◌, ◌-◌, ◌^◌, ◌≤◌, ◌<◌, ◌⊎◌, true, false, ◌∷◌, ◌++◌, length, min, slice_get, is_some, Some, None, Ok, Err, Contains}
use Rattle.std.specs.List.{AllByRecursion}
use Rattle.sha2.specs.Sha256.{sha256}
use Rattle.mb_base.specs.Shapes.{Bytes, span}
use Rattle.mb_usig.specs.Tags.{wish_tag, stop_tag}
use Rattle.mb_parts.specs.declared.certificates.FloorCert.{FloorCert}
use Rattle.mb_parts.specs.declared.certificates.Evidence.{Evidence}
use Rattle.mb_parts.specs.declared.batch.Batch.{Batch}
use Rattle.mb_parts.specs.declared.request.Request.{Request}
use Rattle.mb_parts.specs.Certificates.{certified_floor, inner_valid, is_stable, is_evidence}
use Rattle.mb_parts.specs.Ordered.{permits}
use Rattle.mb_msg.specs.declared.message.Body.{Body}
use Rattle.mb_msg.specs.declared.message.Body.TheVariants.{Whole, Bare as Short}
use Rattle.mb_msg.specs.declared.message.Message.{Message}
use Rattle.mb_msg.specs.declared.message.Message.TheVariants as message
use Rattle.mb_msg.specs.declared.change.ChangeBody.{ChangeBody}
use Rattle.mb_msg.specs.declared.change.ViewChange.{ViewChange}
use Rattle.mb_msg.specs.declared.change.NewViewBody.{NewViewBody}
use Rattle.mb_msg.specs.declared.change.OpenBody.{OpenBody}
use Rattle.mb_msg.specs.declared.transfer.Log.{Log}
use Rattle.mb_msg.specs.declared.transfer.StateMsg.{StateMsg}
use Rattle.mb_msg.specs.declared.stamped.Stamped.{Stamped as StampedMessage}
use Rattle.mb_msg.specs.declared.stamped.Stamped.TheVariants as stamped
use Rattle.mb_msg.specs.declared.event.Event.TheVariants as event
use Rattle.mb_msg.specs.declared.event.Outcome.{Outcome}
use Rattle.mb_msg.specs.declared.event.Outcome.TheVariants as outcome
use Rattle.mb_msg.specs.Plans.{plan_digest, plan_end}
use Rattle.mb_msg.specs.Stamps.{bare_of, ui_of, as_stamped, as_message}
use Rattle.mb_msg.specs.Reading.{message_of}
use Rattle.mb_model.specs.Service.{reply_of}
use Rattle.mb_model.specs.States.{digest_string}
use Rattle.mb_model.specs.Verified.{verifies}
use Rattle.mb_model.specs.UsableLogs.{log_fault}
use Rattle.mb_model.specs.Histories.{Accepted, History, Identity, gate, origin, taken_of, closed_at, view_of, counter_of}
use Rattle.mb_model.specs.Held.{wish_of, plan_from}
use Rattle.mb_model.specs.Stable.{stable_of, low_of}
use Rattle.mb_model.specs.Positions.{exec_of}
use Rattle.mb_model.specs.Execution.{state_of, state_from, pending, part_held, parts_held}
use Rattle.mb_model.specs.Making.{expected}
use Rattle.mb_model.specs.HostStep.{transition}
use Rattle.mb_promise.specs.NothingLeft.{IsNoLog}
use Rattle.mb_promise.specs.TakesLogs.{IsValidLog}
use Rattle.mb_promise.specs.TakesValid.{IsCertified, IsTagged, AreTagged, IsPlanOf, AsksForState}
use Rattle.mb_world_model.specs.World.{System, self_of}
use Rattle.mb_world_model.specs.WorldSteps.{world}

-- ---- words of messages

-- It is a PREPARE or a COMMIT of this view, position and body.
abbrev pub IsVoteOf : Message → ℕ → ℕ → Body Batch → Type 0
IsVoteOf (message.Prepare m) view pos body = (m.view ≡ view) × (m.pos ≡ pos) × (m.body ≡ body)
IsVoteOf (message.Commit m) view pos body = (m.view ≡ view) × (m.pos ≡ pos) × (m.body ≡ body)
IsVoteOf m view pos body = ⊥

-- It is a PREPARE, a COMMIT or a CHECKPOINT of this position.
abbrev pub IsOfPosition : Message → ℕ → Type 0
IsOfPosition (message.Prepare m) pos = m.pos ≡ pos
IsOfPosition (message.Commit m) pos = m.pos ≡ pos
IsOfPosition (message.Checkpoint m) pos = m.pos ≡ pos
IsOfPosition m pos = ⊥

-- which of the eight kinds that a USIG stamps it is, as it is told where one may not stand
abbrev pub kind_number : StampedMessage → ℕ
kind_number (stamped.ViewChange m) = 1
kind_number (stamped.NewView m) = 2
kind_number (stamped.Enter m) = 3
kind_number (stamped.Open m) = 4
kind_number (stamped.Join m) = 5
kind_number (stamped.Prepare m) = 6
kind_number (stamped.Commit m) = 7
kind_number (stamped.Checkpoint m) = 8

module _ {S : Type 0} (self : Identity S) where
  -- A tag in it is not the one that its client, its host or the operator makes: of a vote, in its batch.
  abbrev pub IsBadlyTagged : Message → Type 0
  IsBadlyTagged (message.Request m) = IsTagged self m → ⊥
  IsBadlyTagged (message.Prepare m) = (b : Batch) × (m.body ≡ Whole b) × (AreTagged self b → ⊥)
  IsBadlyTagged (message.Commit m) = (b : Batch) × (m.body ≡ Whole b) × (AreTagged self b → ⊥)
  IsBadlyTagged (message.ReqViewChange m) = m.tag ≡ wish_tag self.secret m.host m.view → ⊥
  IsBadlyTagged (message.Stop m) = m.tag ≡ stop_tag self.secret → ⊥
  IsBadlyTagged m = ⊥

  -- The log that a VIEW_CHANGE shows has this first fault.
  abbrev pub IsFaulty : ViewChange → ℕ → ℕ → Type 0
  IsFaulty m index reason = (b : ChangeBody) × (m.body ≡ Whole b) × (log_fault self.shape self.secret (verifies self.secret) m.ui.host m.view m.ui.counter b ≡ Some (index, reason))

  -- why a VIEW_CHANGE is no member of a NEW_VIEW of this view: 10, or the reason of a fault in its log
  abbrev pub IsNoMember : ℕ → ViewChange → ℕ → Type 0
  IsNoMember view m reason = ((reason ≡ 10) × (m.view ≡ view → IsCertified self (stamped.ViewChange m) → ⊥)) ⊎ ((index : ℕ) × IsFaulty m index reason)

  -- A NEW_VIEW has not base, end and digest of the plan of its members.
  abbrev pub IsMisplanned : ℕ → ℕ → Bytes → NewViewBody → Type 0
  IsMisplanned base end plan b = base ≡ (plan_from self b.changes).base.pos → end ≡ plan_end (plan_from self b.changes) → plan ≡ plan_digest (plan_from self b.changes) → ⊥

  -- what can't be used, by the kind of the message: the fault of a VIEW_CHANGE; the index of a member of a NEW_VIEW and what is wrong with it, or 255 and 11
  -- where its plan is another; 0 and 8 of an OPEN whose body is not that of its plan
  abbrev pub IsUnusable : Message → ℕ → ℕ → Type 0
  IsUnusable (message.ViewChange m) index reason = IsFaulty m index reason
  IsUnusable (message.NewView m) index reason = (b : NewViewBody) × (m.body ≡ Whole b)
      × (((x : ViewChange) × (slice_get b.changes index ≡ Some x) × IsNoMember m.view x reason) ⊎ ((index ≡ 255) × (reason ≡ 11) × IsMisplanned m.base m.end m.plan b))
  IsUnusable (message.Open m) index reason = (b : OpenBody) × (m.body ≡ Whole b) × (index ≡ 0) × (reason ≡ 8) × (IsPlanOf self m.evidence b → ⊥)
  IsUnusable m index reason = ⊥

  -- of a LOG, before its entries: 1 its floor, 2 its stable certificate, 12 its evidence, each with index 0
  abbrev pub IsLogUnusable : Log → ℕ → ℕ → Type 0
  IsLogUnusable m index reason = (index ≡ 0)
      × (((reason ≡ 1) × (c : FloorCert) × (m.floor ≡ Some c) × (certified_floor self.shape (verifies self.secret) m.host c ≡ None)) ⊎ (((reason ≡ 2) × (is_stable self.shape (verifies self.secret) m.stable ≡ false))
      ⊎ ((reason ≡ 12) × (e : Evidence) × (m.evidence ≡ Some e) × (is_evidence self.shape (verifies self.secret) e ≡ false))))

  module _ (d : History) where
    -- ---- stamped messages, by their identifiers

    -- the counter that is told to be the next one of a host: the greatest one also where none is left
    abbrev pub next_told : ℕ → ℕ
    next_told h = min ((gate d h).counter + 1) (2 ^ 64 - 1)

    -- why a stamped message is refused by its identifier
    abbrev pub IsOutOfTurn : StampedMessage → Outcome → Type 0
    IsOutOfTurn x outcome.BadUi = IsCertified self x → ⊥
    IsOutOfTurn x (outcome.Convicted counter) = (closed_at d (ui_of x).host ≡ Some counter) × (counter ≤ (ui_of x).counter)
    IsOutOfTurn x (outcome.Stale next) = (next ≡ next_told (ui_of x).host) × ((ui_of x).counter ≤ (gate d (ui_of x).host).counter)
    IsOutOfTurn x (outcome.Ahead next) = (next ≡ next_told (ui_of x).host) × ((gate d (ui_of x).host).counter + 1 < (ui_of x).counter)
    IsOutOfTurn x (outcome.Illegal rule) = (rule ≡ kind_number x)
        × (permits (origin d (ui_of x).host) self.shape (ui_of x).host (inner_valid self.shape (verifies self.secret)) (taken_of d (ui_of x).host) (bare_of x) ≡ false)
    IsOutOfTurn x o = ⊥

    -- ---- any message

    -- the number of a client's last request that was served
    abbrev pub last_number : ℕ → ℕ
    last_number c = (reply_of (state_of self d) c).seq

    -- A part of a STATE has not the digest that its list has; 65 stands for the list.
    abbrev pub IsWrongPart : Message → ℕ → Type 0
    IsWrongPart (message.State m) part = ((part ≡ 65) × (sha256 (digest_string m.digests m.pos) ≡ (stable_of self d).state → ⊥))
        ⊎ ((m.first ≤ part) × (part < m.first + length m.parts) × ((p : Bytes) → slice_get m.parts (part - m.first) ≡ Some p → slice_get m.digests part ≡ Some (sha256 p) → ⊥))
    IsWrongPart m part = ⊥

    abbrev pub IsNoState : Message → ℕ → ℕ → Type 0
    IsNoState (message.State m) part at = state_from self (parts_held self (Accepted (message.State m) ∷ d)) ≡ Err (part, at)
    IsNoState m part at = ⊥

    abbrev pub IsServedBefore : Message → ℕ → Type 0
    IsServedBefore (message.Request r) last = (last ≡ last_number r.client) × (r.seq < last)
    IsServedBefore m last = ⊥

    abbrev pub IsLastServed : Message → Type 0
    IsLastServed (message.Request r) = r.seq ≡ last_number r.client
    IsLastServed m = ⊥

    abbrev pub IsStopping : Message → Type 0
    IsStopping (message.Stop m) = m.tag ≡ stop_tag self.secret
    IsStopping m = ⊥

    abbrev pub IsOfTurn : Message → Outcome → Type 0
    IsOfTurn m o = (x : StampedMessage) × (as_stamped m ≡ Some x) × IsOutOfTurn x o

    -- ---- what a host passes over

    -- It says that this host stamped it, at a counter that the host has not reached.
    abbrev pub IsOwnAhead : StampedMessage → Type 0
    IsOwnAhead x = ((ui_of x).host ≡ self.host) × (counter_of d < (ui_of x).counter)

    -- A request of its client waits, and has no lower number.
    abbrev pub WaitsAlready : Request → Type 0
    WaitsAlready r = (q : Request) × (pending self d r.client ≡ Some q) × (r.seq ≤ q.seq)

    -- It is not for the stable position, or that is executed; or each of its parts is held.
    abbrev pub BringsNothing : StateMsg → Type 0
    BringsNothing m = (m.pos ≡ low_of self d → exec_of d < low_of self d → ⊥) ⊎ ((i : ℕ) → i < length m.parts → is_some (part_held self d (m.first + i)) ≡ true)

    -- what has no news for this host: a REPLY, which is for a client; a wish that is not above the one that is held; a RESEND of its own, or of a host to which
    -- it has nothing to send; a FETCH that does not ask for its state
    abbrev pub IsIdle : Message → Type 0
    IsIdle (message.Request r) = WaitsAlready r
    IsIdle (message.Reply m) = Unit {0}
    IsIdle (message.ReqViewChange m) = m.view ≤ wish_of self d m.host
    IsIdle (message.Resend m) = (m.host ≡ self.host) ⊎ ((counter_of d < expected self m) × (low_of self d ≤ m.low))
    IsIdle (message.Log m) = m.host ≡ self.host
    IsIdle (message.Fetch m) = AsksForState self d m → ⊥
    IsIdle (message.State m) = BringsNothing m
    IsIdle (message.Stop m) = ⊥
    IsIdle m = (x : StampedMessage) × (as_stamped m ≡ Some x) × IsOwnAhead x

    -- why a message that is no LOG is not taken
    abbrev pub Tells : Message → Outcome → Type 0
    Tells m outcome.Took = ⊥
    Tells m outcome.Idle = IsIdle m
    Tells m outcome.BadTag = IsBadlyTagged m
    Tells m (outcome.LaterView view) = (view ≡ view_of self d) × (v : ℕ) × (pos : ℕ) × (body : Body Batch) × IsVoteOf m v pos body × (view < v)
    Tells m (outcome.BeyondWindow low) = (low ≡ low_of self d) × (pos : ℕ) × IsOfPosition m pos × (low + span self.shape < pos)
    Tells m (outcome.NeedBody view exec) = (view ≡ view_of self d) × (exec ≡ exec_of d) × (pos : ℕ) × (digest : Bytes) × IsVoteOf m view pos (Short digest) × (exec < pos)
    Tells m (outcome.Unusable index reason) = IsUnusable m index reason
    Tells m (outcome.Old last) = IsServedBefore m last
    Tells m outcome.Again = IsLastServed m
    Tells m (outcome.WrongDigest part) = IsWrongPart m part
    Tells m (outcome.BadState part at) = IsNoState m part at
    Tells m outcome.Stopping = IsStopping m
    Tells m (outcome.Malformed at) = ⊥
    Tells m o = IsOfTurn m o

    -- Why it has this outcome, where this history is left: what was taken stands there.
    abbrev pub TellsOf : History → Message → Outcome → Type 0
    TellsOf left m outcome.Took = Contains left (Accepted m)
    TellsOf left m o = Tells m o

    -- ---- an event

    abbrev pub TellsOfMessages : Type 0
    TellsOfMessages = (bytes : Bytes) (m : Message) → message_of self.shape bytes ≡ Ok m → IsNoLog self d m
        → TellsOf (transition self d (event.Given bytes)).left.history m (transition self d (event.Given bytes)).outcome

    -- Bytes that are no message: where reading them failed.
    abbrev pub TellsOfBytes : Type 0
    TellsOfBytes = (bytes : Bytes) (at : ℕ) → message_of self.shape bytes ≡ Err at → (transition self d (event.Given bytes)).outcome ≡ outcome.Malformed at

  -- why one of the entries has this outcome, as the history stood when it was looked at
  pub record IsOfEntry (d : History) (m : Log) (o : Outcome) : Type 0 where
    pub added : History
    pub entry : StampedMessage
    pub there : Contains m.entries entry
    pub tells : Tells (added ++ d) (as_message entry) o

  -- As an entry was looked at, its gate had passed it, or it was the host's own.
  pub record IsPassedOver (d : History) (x : StampedMessage) : Type 0 where
    pub added : History
    pub known : ((ui_of x).host ≡ self.host) ⊎ ((ui_of x).counter ≤ (gate (added ++ d) (ui_of x).host).counter)

  -- An entry stands in the history that is left, or was passed over.
  abbrev pub IsThrough : History → History → StampedMessage → Type 0
  IsThrough left d x = Contains left (Accepted (as_message x)) ⊎ IsPassedOver d x

  -- Why a LOG has this outcome, where this history is left. It is taken where it is valid and each entry is through, and passed over where it is the host's own.
  -- Else it ended before its entries, or at one of them, with the outcome of that; a stale one ends none.
  abbrev pub TellsOfLog : History → History → Log → Outcome → Type 0
  TellsOfLog left d m outcome.Took = IsValidLog self m × AllByRecursion (IsThrough left d) m.entries
  TellsOfLog left d m outcome.Idle = m.host ≡ self.host
  TellsOfLog left d m (outcome.Stale next) = ⊥
  TellsOfLog left d m (outcome.Unusable index reason) = IsLogUnusable m index reason ⊎ IsOfEntry d m (outcome.Unusable index reason)
  TellsOfLog left d m o = IsOfEntry d m o

  abbrev pub TellsOfLogs : History → Type 0
  TellsOfLogs d = (bytes : Bytes) (m : Log) → message_of self.shape bytes ≡ Ok (message.Log m)
      → TellsOfLog (transition self d (event.Given bytes)).left.history d m (transition self d (event.Given bytes)).outcome

  pub record TellsWhy (d : History) : Type 0 where
    pub messages : TellsOfMessages d
    pub bytes : TellsOfBytes d
    pub logs : TellsOfLogs d

-- So it is of each host after any events, whoever is faulty and whatever is forged.
abbrev pub HostsTellWhy : Type 0 → Type 0
HostsTellWhy S = (system : System S) (k h : ℕ) → TellsWhy (self_of system h) ((world system k).histories h)
