-- The values that the grammar of messages has.
use Rattle.std.specs.Prelude.{◌≡◌, ⊤, ℕ, ◌+◌, ◌*◌, ◌-◌, ◌≤◌, ◌<◌, length, IfSome}
use Rattle.std.specs.List.{AllByRecursion}
use Rattle.mb_base.specs.Limits.{message_limit, log_intervals, other_limit, entry_limit, part_count, table_part}
use Rattle.mb_base.specs.Shapes.{host_count, client_count, quorum, interval}
use Rattle.mb_base.specs.declared.shape.Shape.{Shape}
use Rattle.mb_parts.specs.declared.certificates.Evidence.{Evidence}
use Rattle.mb_parts.specs.Fits.{IsCounter, IsPlace, IsPosition, IsDigest, IsBase, IsEnd, FitsText, FitsStatePart, AreMembers, FitsRequest, FitsBatch, CanDigest, FitsUi, FitsFloors, FitsStable, FitsFloorCert, FitsEvidence, FitsJoined}
use Rattle.mb_msg.specs.declared.normal.Prepare.{Prepare}
use Rattle.mb_msg.specs.declared.normal.Commit.{Commit}
use Rattle.mb_msg.specs.declared.normal.Reply.{Reply}
use Rattle.mb_msg.specs.declared.normal.Floors.{Floors}
use Rattle.mb_msg.specs.declared.normal.Checkpoint.{Checkpoint}
use Rattle.mb_msg.specs.declared.normal.BareCheckpoint.{BareCheckpoint}
use Rattle.mb_msg.specs.declared.normal.Stop.{Stop}
use Rattle.mb_msg.specs.declared.change.ReqViewChange.{ReqViewChange}
use Rattle.mb_msg.specs.declared.change.ChangeBody.{ChangeBody}
use Rattle.mb_msg.specs.declared.change.ViewChange.{ViewChange}
use Rattle.mb_msg.specs.declared.change.BareViewChange.{BareViewChange}
use Rattle.mb_msg.specs.declared.change.NewViewBody.{NewViewBody}
use Rattle.mb_msg.specs.declared.change.NewView.{NewView}
use Rattle.mb_msg.specs.declared.change.BareNewView.{BareNewView}
use Rattle.mb_msg.specs.declared.change.Enter.{Enter}
use Rattle.mb_msg.specs.declared.change.OpenBody.{OpenBody}
use Rattle.mb_msg.specs.declared.change.Open.{Open}
use Rattle.mb_msg.specs.declared.change.Join.{Join}
use Rattle.mb_msg.specs.declared.transfer.Resend.{Resend}
use Rattle.mb_msg.specs.declared.transfer.Log.{Log}
use Rattle.mb_msg.specs.declared.transfer.Fetch.{Fetch}
use Rattle.mb_msg.specs.declared.transfer.StateMsg.{StateMsg}
use Rattle.mb_msg.specs.declared.stamped.Shown.{Shown}
use Rattle.mb_msg.specs.declared.stamped.Shown.TheVariants as shown
use Rattle.mb_msg.specs.declared.stamped.Stamped.{Stamped}
use Rattle.mb_msg.specs.declared.stamped.Stamped.TheVariants as stamped
use Rattle.mb_msg.specs.declared.message.Message.{Message}
use Rattle.mb_msg.specs.declared.message.Message.TheVariants as message
use Rattle.mb_msg.specs.Bodies.{form_of, FitsBody}
use Rattle.mb_msg.specs.Spelling.{spelling}

-- the most entries that a VIEW_CHANGE shows
abbrev pub shown_limit : Shape → ℕ
shown_limit s = log_intervals * interval s + other_limit

-- ---- a view that goes its way

pub record FitsPrepare (s : Shape) (m : Prepare) : Type 0 where
  pub view : IsPlace m.view
  pub pos : IsPosition m.pos
  pub body : FitsBody (FitsBatch s) m.body
  pub ui : FitsUi s m.ui

pub record FitsCommit (s : Shape) (m : Commit) : Type 0 where
  pub view : IsPlace m.view
  pub pos : IsPosition m.pos
  pub counter : IsCounter m.counter
  pub cert : IsDigest m.cert
  pub body : FitsBody (FitsBatch s) m.body
  pub ui : FitsUi s m.ui

pub record FitsReply (s : Shape) (m : Reply) : Type 0 where
  pub host : m.host < host_count s
  pub client : m.client < client_count s
  pub seq : IsCounter m.seq
  pub pos : IsPlace m.pos
  pub result : FitsText m.result
  pub tag : IsDigest m.tag

abbrev pub FitsFloorsBody : Shape → Floors → Type 0
FitsFloorsBody s b = FitsFloors s b.floors

pub record FitsCheckpoint (s : Shape) (m : Checkpoint) : Type 0 where
  pub pos : IsPosition m.pos
  pub state : IsDigest m.state
  pub body : FitsBody (FitsFloorsBody s) m.body
  pub ui : FitsUi s m.ui

pub record FitsBareCheckpoint (s : Shape) (m : BareCheckpoint) : Type 0 where
  pub pos : IsPosition m.pos
  pub state : IsDigest m.state
  pub body : IsDigest m.body
  pub ui : FitsUi s m.ui

-- ---- a change of the view

pub record FitsWish (s : Shape) (m : ReqViewChange) : Type 0 where
  pub host : m.host < host_count s
  pub view : IsPosition m.view
  pub tag : IsDigest m.tag

pub record FitsBareViewChange (s : Shape) (m : BareViewChange) : Type 0 where
  pub view : IsPosition m.view
  pub body : IsDigest m.body
  pub ui : FitsUi s m.ui

pub record FitsBareNewView (s : Shape) (m : BareNewView) : Type 0 where
  pub view : IsPosition m.view
  pub base : IsBase s m.base
  pub end : IsEnd s m.base m.end
  pub plan : IsDigest m.plan
  pub body : IsDigest m.body
  pub ui : FitsUi s m.ui

pub record FitsEnter (s : Shape) (m : Enter) : Type 0 where
  pub view : IsPosition m.view
  pub counter : IsCounter m.counter
  pub plan : IsDigest m.plan
  pub ui : FitsUi s m.ui

abbrev pub FitsOpenParts : Shape → OpenBody → Type 0
FitsOpenParts s b = FitsStable s b.stable × AllByRecursion (FitsBatch s) b.batches

-- the base's certificate, and a batch for each position from there to the end
abbrev pub FitsOpenBody : Shape → Evidence → OpenBody → Type 0
FitsOpenBody s e b = FitsOpenParts s b × ((b.stable.pos ≡ e.base) × (length b.batches ≡ e.end - e.base))

pub record FitsOpen (s : Shape) (m : Open) : Type 0 where
  pub evidence : FitsEvidence s m.evidence
  pub body : FitsBody (FitsOpenBody s m.evidence) m.body
  pub ui : FitsUi s m.ui

pub record FitsJoin (s : Shape) (m : Join) : Type 0 where
  pub view : IsPlace m.view
  pub evidence : FitsJoined s m.view m.evidence
  pub stable : FitsStable s m.stable
  pub above : 1 ≤ m.stable.pos
  pub ui : FitsUi s m.ui

-- an entry of a VIEW_CHANGE
abbrev pub FitsShown : Shape → Shown → Type 0
FitsShown s (shown.Prepare m) = FitsPrepare s m
FitsShown s (shown.Commit m) = FitsCommit s m
FitsShown s (shown.Checkpoint m) = FitsBareCheckpoint s m
FitsShown s (shown.ViewChange m) = FitsBareViewChange s m
FitsShown s (shown.NewView m) = FitsBareNewView s m
FitsShown s (shown.Enter m) = FitsEnter s m
FitsShown s (shown.Open m) = FitsOpen s m
FitsShown s (shown.Join m) = FitsJoin s m

pub record FitsChangeBody (s : Shape) (b : ChangeBody) : Type 0 where
  pub floor : IfSome b.floor (FitsFloorCert s)
  pub stable : FitsStable s b.stable
  pub count : length b.entries ≤ shown_limit s
  pub entries : AllByRecursion (FitsShown s) b.entries

-- The batch of a vote is short enough to be spelled.
abbrev pub CanDigestVote : Shown → Type 0
CanDigestVote (shown.Prepare m) = FitsBody CanDigest m.body
CanDigestVote (shown.Commit m) = FitsBody CanDigest m.body
CanDigestVote (shown.Checkpoint m) = ⊤
CanDigestVote (shown.ViewChange m) = ⊤
CanDigestVote (shown.NewView m) = ⊤
CanDigestVote (shown.Enter m) = ⊤
CanDigestVote (shown.Open m) = ⊤
CanDigestVote (shown.Join m) = ⊤

abbrev pub CanDigestVotes : ChangeBody → Type 0
CanDigestVotes b = AllByRecursion CanDigestVote b.entries

pub record FitsViewChange (s : Shape) (m : ViewChange) : Type 0 where
  pub view : IsPosition m.view
  pub body : FitsBody (FitsChangeBody s) m.body
  pub ui : FitsUi s m.ui

-- a whole VIEW_CHANGE
abbrev pub FitsMember : Shape → ViewChange → Type 0
FitsMember s m = FitsViewChange s m × (form_of m.body ≡ 1)

abbrev pub FitsNewViewBody : Shape → NewViewBody → Type 0
FitsNewViewBody s b = AreMembers (λ m. m.ui.host) (FitsMember s) (quorum s) b.changes

pub record FitsNewView (s : Shape) (m : NewView) : Type 0 where
  pub view : IsPosition m.view
  pub base : IsBase s m.base
  pub end : IsEnd s m.base m.end
  pub plan : IsDigest m.plan
  pub body : FitsBody (FitsNewViewBody s) m.body
  pub ui : FitsUi s m.ui

abbrev pub FitsStamped : Shape → Stamped → Type 0
FitsStamped s (stamped.Prepare m) = FitsPrepare s m
FitsStamped s (stamped.Commit m) = FitsCommit s m
FitsStamped s (stamped.Checkpoint m) = FitsCheckpoint s m
FitsStamped s (stamped.ViewChange m) = FitsViewChange s m
FitsStamped s (stamped.NewView m) = FitsNewView s m
FitsStamped s (stamped.Enter m) = FitsEnter s m
FitsStamped s (stamped.Open m) = FitsOpen s m
FitsStamped s (stamped.Join m) = FitsJoin s m

-- ---- a host that comes back

pub record FitsResend (s : Shape) (m : Resend) : Type 0 where
  pub host : m.host < host_count s
  pub low : IsPlace m.low
  pub count : length m.nexts ≡ host_count s
  pub nexts : AllByRecursion IsCounter m.nexts

pub record FitsLog (s : Shape) (m : Log) : Type 0 where
  pub host : m.host < host_count s
  pub floor : IfSome m.floor (FitsFloorCert s)
  pub stable : FitsStable s m.stable
  pub evidence : IfSome m.evidence (FitsEvidence s)
  pub count : length m.entries ≤ entry_limit
  pub entries : AllByRecursion (FitsStamped s) m.entries

pub record FitsFetch (s : Shape) (m : Fetch) : Type 0 where
  pub host : m.host < host_count s
  pub asked : m.of < host_count s
  pub pos : (1 ≤ m.pos) × IsBase s m.pos
  pub first : m.first ≤ table_part

pub record FitsState (s : Shape) (m : StateMsg) : Type 0 where
  pub host : m.host < host_count s
  pub pos : (1 ≤ m.pos) × IsBase s m.pos
  pub digest_count : length m.digests ≡ part_count
  pub digests : AllByRecursion IsDigest m.digests
  pub first : m.first ≤ table_part
  pub count : (1 ≤ length m.parts) × (length m.parts ≤ part_count - m.first)
  pub parts : AllByRecursion FitsStatePart m.parts

abbrev pub FitsStop : Stop → Type 0
FitsStop m = IsDigest m.tag

-- ---- any message

-- each field has an allowed value
abbrev pub FitsFields : Shape → Message → Type 0
FitsFields s (message.Request m) = FitsRequest s m
FitsFields s (message.Prepare m) = FitsPrepare s m
FitsFields s (message.Commit m) = FitsCommit s m
FitsFields s (message.Reply m) = FitsReply s m
FitsFields s (message.Checkpoint m) = FitsCheckpoint s m
FitsFields s (message.ReqViewChange m) = FitsWish s m
FitsFields s (message.ViewChange m) = FitsViewChange s m
FitsFields s (message.NewView m) = FitsNewView s m
FitsFields s (message.Enter m) = FitsEnter s m
FitsFields s (message.Open m) = FitsOpen s m
FitsFields s (message.Join m) = FitsJoin s m
FitsFields s (message.Resend m) = FitsResend s m
FitsFields s (message.Log m) = FitsLog s m
FitsFields s (message.Fetch m) = FitsFetch s m
FitsFields s (message.State m) = FitsState s m
FitsFields s (message.Stop m) = FitsStop m

pub record Fits (s : Shape) (m : Message) : Type 0 where
  pub fields : FitsFields s m
  pub size : length (spelling m) ≤ message_limit
