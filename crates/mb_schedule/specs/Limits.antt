-- What a schedule can hold.
use Rattle.std.specs.Prelude.{◌≡◌, ℕ, ◌≤◌, ◌<◌, ◌^◌, Bool, false, length, Some, slice_get, unwrap_or}
use Rattle.mb_base.specs.Limits.{batch_limit}
use Rattle.mb_base.specs.Shapes.{host_count, client_count, max_faults, tally}
use Rattle.mb_base.specs.declared.shape.Shape.{Shape}
use Rattle.mb_parts.specs.Fits.{IsCounter, IsPlace, IsPosition, IsDigest, FitsText}
use Rattle.mb_schedule.specs.declared.schedule.Name.{Name}
use Rattle.mb_schedule.specs.declared.schedule.Name.TheVariants as name
use Rattle.mb_schedule.specs.declared.schedule.Schedule.{Schedule}
use Rattle.mb_schedule.specs.declared.schedule.WorldEvent.{WorldEvent}
use Rattle.mb_schedule.specs.declared.schedule.WorldEvent.TheVariants.{Ask, Give, Take, Raw, Patience, Nudge, Sign, TagReply, TagWish, StampPrepare, StampCommit, StampCheckpoint, StampChange, StampAs, StampRaw}

-- The most bytes that its text may have.
abbrev pub max_text : ℕ
max_text = 16777216

-- The header lists the host as faulty.
abbrev pub is_faulty : Schedule → ℕ → Bool
is_faulty s h = unwrap_or (slice_get s.faulty_hosts h) false

-- The header lists the client as faulty.
abbrev pub is_faulty_client : Schedule → ℕ → Bool
is_faulty_client s c = unwrap_or (slice_get s.faulty_clients c) false

-- There is such a host or client.
abbrev pub NameFits : Shape → Name → Type 0
NameFits s (name.Host h) = h < host_count s
NameFits s (name.Client c) = c < client_count s

-- Who an event speaks of is there, and its numbers and bytes are allowed in messages.
abbrev pub EventFits : Shape → WorldEvent → Type 0
EventFits s (Ask c op) = (c < client_count s) × FitsText op
EventFits s (Give m h) = h < host_count s
EventFits s (Take m c) = c < client_count s
EventFits s (Raw who bytes) = NameFits s who
EventFits s (Patience h) = h < host_count s
EventFits s (Nudge h) = h < host_count s
EventFits s (Sign c seq op) = (c < client_count s) × (IsCounter seq × FitsText op)
EventFits s (TagReply h c seq pos result) = (h < host_count s) × ((c < client_count s) × (IsCounter seq × (IsPlace pos × FitsText result)))
EventFits s (TagWish h view) = (h < host_count s) × IsPosition view
EventFits s (StampPrepare h view pos messages) = (h < host_count s) × (IsPlace view × (IsPosition pos × ((1 ≤ length messages) × (length messages ≤ batch_limit))))
EventFits s (StampCommit h m) = h < host_count s
EventFits s (StampCheckpoint h pos digest) = (h < host_count s) × (IsPosition pos × IsDigest digest)
EventFits s (StampChange h view counter) = (h < host_count s) × (IsPosition view × (counter < 2 ^ 64))
EventFits s (StampAs h m) = h < host_count s
EventFits s (StampRaw h bytes) = h < host_count s

-- At most f hosts are faulty, each event fits, and there are no more events than a text has bytes. Any number of clients may be faulty.
pub record IsSchedule (s : Schedule) : Type 0 where
  pub hosts : length s.faulty_hosts ≡ host_count s.shape
  pub clients : length s.faulty_clients ≡ client_count s.shape
  pub few : tally (is_faulty s) (host_count s.shape) ≤ max_faults s.shape
  pub events : (k : ℕ) (e : WorldEvent) → slice_get s.events k ≡ Some e → EventFits s.shape e
  pub count : length s.events ≤ max_text
