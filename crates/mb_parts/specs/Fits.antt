-- The values that the parts of messages may have.
use Rattle.std.specs.Prelude.{◌≡◌, true, ℕ, zero, suc, ◌+◌, ◌%◌, ◌^◌, ◌≤◌, ◌<◌, length, map, replicate, List, [], Option, Some, None, IfSome}
use Rattle.std.specs.List.{flat_map, AllByRecursion}
use Rattle.mb_base.specs.Limits.{text_limit, batch_limit, batch_bytes_limit}
use Rattle.mb_base.specs.Shapes.{Bytes, host_count, client_count, max_faults, quorum, interval, span, primary}
use Rattle.mb_base.specs.Spelling.{Rises}
use Rattle.mb_base.specs.Reading.{is_other}
use Rattle.mb_base.specs.declared.shape.Shape.{Shape}
use Rattle.mb_base.specs.declared.names.Ui.{Ui}
use Rattle.mb_parts.specs.declared.request.Request.{Request}
use Rattle.mb_parts.specs.declared.batch.Batch.{Batch}
use Rattle.mb_parts.specs.Spelling.{request_bytes}
use Rattle.mb_parts.specs.declared.floor.Floor.{Floor}
use Rattle.mb_parts.specs.declared.certificates.StableMember.{StableMember}
use Rattle.mb_parts.specs.declared.certificates.StableCert.{StableCert}
use Rattle.mb_parts.specs.declared.certificates.FloorMember.{FloorMember}
use Rattle.mb_parts.specs.declared.certificates.FloorCert.{FloorCert}
use Rattle.mb_parts.specs.declared.certificates.EvidenceMember.{EvidenceMember}
use Rattle.mb_parts.specs.declared.certificates.Evidence.{Evidence}
use Rattle.mb_parts.specs.Bares.{Bare}
use Rattle.mb_parts.specs.Bares as bare

-- counters, and numbers of requests
abbrev pub IsCounter : ℕ → Type 0
IsCounter n = (1 ≤ n) × (n < 2 ^ 64)

-- views, and positions that may be 0
abbrev pub IsPlace : ℕ → Type 0
IsPlace n = n < 2 ^ 63

-- positions, and views above 0
abbrev pub IsPosition : ℕ → Type 0
IsPosition n = (1 ≤ n) × IsPlace n

-- a digest or a certificate
abbrev pub IsDigest : Bytes → Type 0
IsDigest d = length d ≡ 32

-- an operation or a result
abbrev pub FitsText : Bytes → Type 0
FitsText text = length text ≤ text_limit

-- a part of a state
abbrev pub FitsStatePart : Bytes → Type 0
FitsStatePart part = length part < 2 ^ 32

-- 0 or the position of a checkpoint
abbrev pub IsBase : Shape → ℕ → Type 0
IsBase s n = IsPlace n × (n % interval s ≡ 0)

-- a view that begins at a base ends at most two checkpoint intervals above it
abbrev pub IsEnd : Shape → ℕ → ℕ → Type 0
IsEnd s base n = (base ≤ n) × ((n ≤ base + span s) × IsPlace n)

-- so many members, of rising hosts
abbrev pub AreMembers : {A : Type 0} → (A → ℕ) → (A → Type 0) → ℕ → List A → Type 0
AreMembers host_of fits count ms = (length ms ≡ count) × (Rises 0 (map host_of ms) × AllByRecursion fits ms)

pub record FitsRequest (s : Shape) (r : Request) : Type 0 where
  pub client : r.client < client_count s
  pub seq : IsCounter r.seq
  pub op : FitsText r.op
  pub tag : IsDigest r.tag

-- The count is not among the bytes that are limited.
pub record FitsBatch (s : Shape) (b : Batch) : Type 0 where
  pub count : (1 ≤ length b.requests) × (length b.requests ≤ batch_limit)
  pub requests : AllByRecursion (FitsRequest s) b.requests
  pub size : length (flat_map request_bytes b.requests) ≤ batch_bytes_limit

-- a batch whose digest can be taken
abbrev pub CanDigest : Batch → Type 0
CanDigest b = ((1 ≤ length b.requests) × (length b.requests ≤ batch_limit)) × AllByRecursion (λ r. FitsText r.op) b.requests

pub record FitsUi (s : Shape) (u : Ui) : Type 0 where
  pub host : u.host < host_count s
  pub counter : IsCounter u.counter
  pub cert : IsDigest u.cert

pub record FitsFloor (f : Floor) : Type 0 where
  pub counter : IsCounter f.counter
  pub view : IsPlace f.view
  pub last : IsPlace f.last
  pub top : IsPlace f.top
  pub point : IsPlace f.point

-- a floor, or none, of each host
abbrev pub FitsFloors : Shape → List (Option Floor) → Type 0
FitsFloors s floors = (length floors ≡ host_count s) × AllByRecursion (λ o. IfSome o FitsFloor) floors

pub record FitsStableMember (s : Shape) (m : StableMember) : Type 0 where
  pub host : m.host < host_count s
  pub counter : IsCounter m.counter
  pub floors : IsDigest m.floors
  pub cert : IsDigest m.cert

-- Position 0 has no members.
abbrev pub FitsHeld : Shape → ℕ → Bytes → List StableMember → Type 0
FitsHeld s zero state members = (state ≡ replicate 32 0) × (members ≡ [])
FitsHeld s (suc pos) state members = IsDigest state × AreMembers (λ m. m.host) (FitsStableMember s) (quorum s) members

pub record FitsStable (s : Shape) (c : StableCert) : Type 0 where
  pub pos : IsBase s c.pos
  pub held : FitsHeld s c.pos c.state c.members

pub record FitsFloorMember (s : Shape) (m : FloorMember) : Type 0 where
  pub host : m.host < host_count s
  pub counter : IsCounter m.counter
  pub floors : FitsFloors s m.floors
  pub cert : IsDigest m.cert

pub record FitsFloorCert (s : Shape) (c : FloorCert) : Type 0 where
  pub pos : (1 ≤ c.pos) × IsBase s c.pos
  pub state : IsDigest c.state
  pub members : AreMembers (λ m. m.host) (FitsFloorMember s) (quorum s) c.members

pub record FitsEvidenceMember (s : Shape) (m : EvidenceMember) : Type 0 where
  pub host : m.host < host_count s
  pub counter : IsCounter m.counter
  pub cert : IsDigest m.cert

-- a member that is not the primary of the view
abbrev pub FitsBackup : Shape → ℕ → EvidenceMember → Type 0
FitsBackup s view m = FitsEvidenceMember s m × (is_other (Some (primary s view)) m.host ≡ true)

pub record FitsEvidence (s : Shape) (e : Evidence) : Type 0 where
  pub view : IsPosition e.view
  pub base : IsBase s e.base
  pub end : IsEnd s e.base e.end
  pub plan : IsDigest e.plan
  pub body : IsDigest e.body
  pub counter : IsCounter e.counter
  pub cert : IsDigest e.cert
  pub members : AreMembers (λ m. m.host) (FitsBackup s e.view) (max_faults s) e.members

-- View 0 has no evidence, and each other view its own.
abbrev pub FitsJoined : Shape → ℕ → Option Evidence → Type 0
FitsJoined s view None = view ≡ 0
FitsJoined s view (Some e) = FitsEvidence s e × (e.view ≡ view)

-- what a stamped message says, without its identifier, has allowed values
abbrev pub FitsBare : Shape → Bare → Type 0
FitsBare s (bare.Prepare view pos digest) = IsPlace view × (IsPosition pos × IsDigest digest)
FitsBare s (bare.Commit view pos counter cert digest) = IsPlace view × (IsPosition pos × (IsCounter counter × (IsDigest cert × IsDigest digest)))
FitsBare s (bare.Checkpoint pos state digest) = IsPosition pos × (IsDigest state × IsDigest digest)
FitsBare s (bare.ViewChange view digest) = IsPosition view × IsDigest digest
FitsBare s (bare.NewView view base end plan digest) = IsPosition view × (IsBase s base × (IsEnd s base end × (IsDigest plan × IsDigest digest)))
FitsBare s (bare.Enter view counter plan) = IsPosition view × (IsCounter counter × IsDigest plan)
FitsBare s (bare.Open evidence digest) = FitsEvidence s evidence × IsDigest digest
FitsBare s (bare.Join view evidence stable) = IsPlace view × (FitsJoined s view evidence × (FitsStable s stable × (1 ≤ stable.pos)))
