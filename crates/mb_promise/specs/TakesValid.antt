-- Which messages are valid at a host: each of them is taken. It is said of the message and of what the host holds, not by the tests that refuse.
use Rattle.std.specs.Prelude.{◌≡◌, ℕ, ◌+◌, ◌-◌, ◌%◌, ◌≤◌, ◌<◌, ◌⊎◌, true, ◌∷◌, length, slice_get, Some, None, Ok, Contains}
use Rattle.std.specs.List.{AllByRecursion}
use Rattle.sha2.specs.Sha256.{sha256}
use Rattle.mb_base.specs.Shapes.{Bytes, interval, span}
use Rattle.mb_usig.specs.Tags.{certificate, request_tag, wish_tag}
use Rattle.mb_parts.specs.declared.request.Request.{Request}
use Rattle.mb_parts.specs.declared.batch.Batch.{Batch}
use Rattle.mb_parts.specs.declared.certificates.Evidence.{Evidence}
use Rattle.mb_parts.specs.Bares.{bare_bytes}
use Rattle.mb_parts.specs.Certificates.{is_stable, inner_valid}
use Rattle.mb_parts.specs.Ordered.{permits}
use Rattle.mb_msg.specs.declared.message.Body.{Body}
use Rattle.mb_msg.specs.declared.message.Body.TheVariants.{Whole, Bare as Short}
use Rattle.mb_msg.specs.declared.message.Message.{Message}
use Rattle.mb_msg.specs.declared.message.Message.TheVariants as message
use Rattle.mb_msg.specs.declared.change.ReqViewChange.{ReqViewChange}
use Rattle.mb_msg.specs.declared.change.ChangeBody.{ChangeBody}
use Rattle.mb_msg.specs.declared.change.ViewChange.{ViewChange}
use Rattle.mb_msg.specs.declared.change.NewViewBody.{NewViewBody}
use Rattle.mb_msg.specs.declared.change.NewView.{NewView}
use Rattle.mb_msg.specs.declared.change.OpenBody.{OpenBody}
use Rattle.mb_msg.specs.declared.transfer.Resend.{Resend}
use Rattle.mb_msg.specs.declared.transfer.Fetch.{Fetch}
use Rattle.mb_msg.specs.declared.transfer.StateMsg.{StateMsg}
use Rattle.mb_msg.specs.declared.stamped.Stamped.{Stamped as StampedMessage}
use Rattle.mb_msg.specs.declared.stamped.Stamped.TheVariants as stamped
use Rattle.mb_msg.specs.declared.event.Event.TheVariants as event
use Rattle.mb_msg.specs.declared.event.Outcome.TheVariants as outcome
use Rattle.mb_msg.specs.declared.event.Slot.{Slot}
use Rattle.mb_msg.specs.Stamps.{bare_of, ui_of}
use Rattle.mb_msg.specs.Plans.{plan_digest, plan_end}
use Rattle.mb_msg.specs.Reading.{message_of}
use Rattle.mb_model.specs.Service.{Served, reply_of}
use Rattle.mb_model.specs.States.{digest_string}
use Rattle.mb_model.specs.Verified.{verifies}
use Rattle.mb_model.specs.UsableLogs.{log_fault}
use Rattle.mb_model.specs.Histories.{Accepted, Executed, History, Identity, gate, origin, taken_of, closed_at, view_of, counter_of}
use Rattle.mb_model.specs.Held.{wish_of, plan_from}
use Rattle.mb_model.specs.Stable.{stable_of, low_of}
use Rattle.mb_model.specs.Positions.{exec_of}
use Rattle.mb_model.specs.Execution.{state_of, state_from, pending, part_held, parts_held, missing}
use Rattle.mb_model.specs.Making.{expected}
use Rattle.mb_model.specs.HostStep.{transition}

module _ {S : Type 0} (self : Identity S) where
  -- ---- what is right in itself

  -- The certificate is the one that the sender's USIG makes of the message at its counter.
  abbrev pub IsCertified : StampedMessage → Type 0
  IsCertified m = (ui_of m).cert ≡ certificate self.secret (ui_of m).host (ui_of m).counter (bare_bytes (bare_of m))

  -- The tag is the one that its client makes.
  abbrev pub IsTagged : Request → Type 0
  IsTagged r = r.tag ≡ request_tag self.secret r.client r.seq r.op

  abbrev pub AreTagged : Batch → Type 0
  AreTagged b = AllByRecursion IsTagged b.requests

  -- The log that a VIEW_CHANGE shows, where it came whole, has no fault.
  abbrev pub IsUsable : ViewChange → Type 0
  IsUsable m = (b : ChangeBody) → m.body ≡ Whole b → log_fault self.shape self.secret (verifies self.secret) m.ui.host m.view m.ui.counter b ≡ None

  -- a VIEW_CHANGE that a NEW_VIEW of this view may show
  pub record IsMember (v : ℕ) (m : ViewChange) : Type 0 where
    pub to : m.view ≡ v
    pub certified : IsCertified (stamped.ViewChange m)
    pub usable : IsUsable m

  -- A NEW_VIEW shows such VIEW_CHANGEs, and has base, end and digest of the plan that they lead to.
  pub record IsPlanned (m : NewView) (b : NewViewBody) : Type 0 where
    pub members : AllByRecursion (IsMember m.view) b.changes
    pub base : m.base ≡ (plan_from self b.changes).base.pos
    pub end : m.end ≡ plan_end (plan_from self b.changes)
    pub plan : m.plan ≡ plan_digest (plan_from self b.changes)

  -- What an OPEN shows is the plan of its evidence: a stable base, and tagged batches from there to the end.
  pub record IsPlanOf (e : Evidence) (b : OpenBody) : Type 0 where
    pub stable : is_stable self.shape (verifies self.secret) b.stable ≡ true
    pub base : b.stable.pos ≡ e.base
    pub count : length b.batches ≡ e.end - e.base
    pub tagged : AllByRecursion AreTagged b.batches
    pub plan : e.plan ≡ plan_digest (record { base = b.stable; batches = b.batches })

module _ {S : Type 0} (self : Identity S) (d : History) where
  -- ---- stamped messages

  -- Another host stamped it, at the next counter of its gate, which is not closed, and it may stand there.
  pub record IsNextOfSender (m : StampedMessage) : Type 0 where
    pub certified : IsCertified self m
    pub other : (ui_of m).host ≡ self.host → ⊥
    pub free : closed_at d (ui_of m).host ≡ None
    pub next : (ui_of m).counter ≡ (gate d (ui_of m).host).counter + 1
    pub permitted : permits (origin d (ui_of m).host) self.shape (ui_of m).host (inner_valid self.shape (verifies self.secret)) (taken_of d (ui_of m).host) (bare_of m) ≡ true

  -- It is not above the window.
  abbrev pub IsNear : ℕ → Type 0
  IsNear pos = pos ≤ low_of self d + span self.shape

  -- A batch came whole, with the tags of its clients, or it came as its digest, and its position is executed.
  abbrev pub IsShown : ℕ → Body Batch → Type 0
  IsShown pos (Whole b) = AreTagged self b
  IsShown pos (Short digest) = pos ≤ exec_of d

  -- A vote is of no later view, and one of the host's own view is near and shown.
  pub record IsVote (view pos : ℕ) (body : Body Batch) : Type 0 where
    pub reached : view ≤ view_of self d
    pub near : view ≡ view_of self d → IsNear pos
    pub shown : view ≡ view_of self d → IsShown pos body

  -- ---- the others

  -- with its client's tag, and a number above that of the last one that was served and of the one that waits
  pub record IsNewRequest (r : Request) : Type 0 where
    pub tagged : IsTagged self r
    pub fresh : (reply_of (state_of self d) r.client).seq < r.seq
    pub above : (q : Request) → pending self d r.client ≡ Some q → q.seq < r.seq

  -- with its host's tag, and above the wish that is held of this host
  pub record IsGreaterWish (m : ReqViewChange) : Type 0 where
    pub tagged : m.tag ≡ wish_tag self.secret m.host m.view
    pub above : wish_of self d m.host < m.view

  -- of another host, which expects a message that this host has stamped, or has a lower stable position
  pub record AsksForNews (m : Resend) : Type 0 where
    pub other : m.host ≡ self.host → ⊥
    pub news : (expected self m ≤ counter_of d) ⊎ (m.low < low_of self d)

  -- asks this host for its state behind a position that it executed, a multiple of the interval and not below the stable one
  pub record AsksForState (m : Fetch) : Type 0 where
    pub asked : m.of ≡ self.host
    pub slot : Slot
    pub executed : Contains d (Executed slot)
    pub position : slot.pos ≡ m.pos
    pub multiple : m.pos % interval self.shape ≡ 0
    pub above : low_of self d ≤ m.pos

  -- The list of digests is the certified one of the stable position, which is not executed; each part has its digest in it; one of them is missing;
  -- and where it was the last one, all parts are those of a state.
  pub record BringsParts (m : StateMsg) : Type 0 where
    pub position : m.pos ≡ low_of self d
    pub behind : exec_of d < low_of self d
    pub list : sha256 (digest_string m.digests m.pos) ≡ (stable_of self d).state
    pub parts : (i : ℕ) (part : Bytes) → slice_get m.parts i ≡ Some part → slice_get m.digests (m.first + i) ≡ Some (sha256 part)
    pub news : (i : ℕ) × (i < length m.parts) × (part_held self d (m.first + i) ≡ None)
    pub whole : missing self (Accepted (message.State m) ∷ d) ≡ None → (x : Served S) × (state_from self (parts_held self (Accepted (message.State m) ∷ d)) ≡ Ok x)

  -- ---- each kind: a REPLY and a STOP are never taken, and of a LOG the outcome is that of its entries

  abbrev pub IsValid : Message → Type 0
  IsValid (message.Request m) = IsNewRequest m
  IsValid (message.Prepare m) = IsNextOfSender (stamped.Prepare m) × IsVote m.view m.pos m.body
  IsValid (message.Commit m) = IsNextOfSender (stamped.Commit m) × IsVote m.view m.pos m.body
  IsValid (message.Reply m) = ⊥
  IsValid (message.Checkpoint m) = IsNextOfSender (stamped.Checkpoint m) × IsNear m.pos
  IsValid (message.ReqViewChange m) = IsGreaterWish m
  IsValid (message.ViewChange m) = IsNextOfSender (stamped.ViewChange m) × (view_of self d ≤ m.view → IsUsable self m)
  IsValid (message.NewView m) = IsNextOfSender (stamped.NewView m) × ((b : NewViewBody) → view_of self d ≤ m.view → m.body ≡ Whole b → IsPlanned self m b)
  IsValid (message.Enter m) = IsNextOfSender (stamped.Enter m)
  IsValid (message.Open m) = IsNextOfSender (stamped.Open m) × ((b : OpenBody) → view_of self d ≤ m.evidence.view → m.body ≡ Whole b → IsPlanOf self m.evidence b)
  IsValid (message.Join m) = IsNextOfSender (stamped.Join m)
  IsValid (message.Resend m) = AsksForNews m
  IsValid (message.Log m) = ⊥
  IsValid (message.Fetch m) = AsksForState m
  IsValid (message.State m) = BringsParts m
  IsValid (message.Stop m) = ⊥

  -- Each valid message is taken.
  abbrev pub TakesWhatIsValid : Type 0
  TakesWhatIsValid = (bytes : Bytes) (m : Message) → message_of self.shape bytes ≡ Ok m → IsValid m → (transition self d (event.Given bytes)).outcome ≡ outcome.Took
