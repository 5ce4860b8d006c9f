-- Reading the parts of messages from left to right, with the offset of the first field that is short or has a value that isn't allowed.
use Rattle.std.specs.Prelude.{ℕ, ◌+◌, ◌-◌, ◌^◌, min, replicate, ◌==◌, if◌then◌else◌, List, [], Option, Some, None}
use Rattle.std.specs.Int.{w8, w32, w64}
use Rattle.mb_base.specs.Limits.{text_limit, batch_limit, batch_bytes_limit}
use Rattle.mb_base.specs.Shapes.{Bytes, host_count, client_count, max_faults, quorum, interval, span, primary}
use Rattle.mb_base.specs.Reading.{Cursor, Reads, number_in, number_without, multiple_in, bytes_at, text_in, text16_at, pair_at, then_at, map_at, nothing_at, optional_at, repeat_at, rising_at, bounded_at}
use Rattle.mb_base.specs.declared.shape.Shape.{Shape}
use Rattle.mb_base.specs.declared.names.Ui.{Ui}
use Rattle.mb_parts.specs.declared.limits.TheConstants.{MAX_PLACE}
use Rattle.mb_parts.specs.declared.request.Request.{Request}
use Rattle.mb_parts.specs.declared.batch.Batch.{Batch}
use Rattle.mb_parts.specs.Spelling.{request_bytes}
use Rattle.mb_parts.specs.declared.floor.Phase.{Phase}
use Rattle.mb_parts.specs.declared.floor.Phase.TheVariants as phase
use Rattle.mb_parts.specs.declared.floor.Floor.{Floor}
use Rattle.mb_parts.specs.declared.certificates.StableMember.{StableMember}
use Rattle.mb_parts.specs.declared.certificates.StableCert.{StableCert}
use Rattle.mb_parts.specs.declared.certificates.FloorMember.{FloorMember}
use Rattle.mb_parts.specs.declared.certificates.FloorCert.{FloorCert}
use Rattle.mb_parts.specs.declared.certificates.EvidenceMember.{EvidenceMember}
use Rattle.mb_parts.specs.declared.certificates.Evidence.{Evidence}

-- ---- numbers with their limits

abbrev pub host_at : Shape → Cursor → Reads ℕ
host_at s = number_in w8 0 (host_count s - 1)

-- a host from the least that is allowed, and another than the one that is left out
abbrev pub member_host_at : Shape → Option ℕ → ℕ → Cursor → Reads ℕ
member_host_at s left_out least = number_without left_out least (host_count s - 1)

abbrev pub client_at : Shape → Cursor → Reads ℕ
client_at s = number_in w8 0 (client_count s - 1)

-- counters, and numbers of requests
abbrev pub counter_at : Cursor → Reads ℕ
counter_at = number_in w64 1 (2 ^ 64 - 1)

-- views, and positions that may be 0
abbrev pub place_at : Cursor → Reads ℕ
place_at = number_in w64 0 MAX_PLACE

-- positions, and views above 0
abbrev pub position_at : Cursor → Reads ℕ
position_at = number_in w64 1 MAX_PLACE

-- 0 or a multiple of the checkpoint interval
abbrev pub base_at : Shape → Cursor → Reads ℕ
base_at s = multiple_in (interval s) 0 MAX_PLACE

-- a multiple of the checkpoint interval above 0
abbrev pub point_at : Shape → Cursor → Reads ℕ
point_at s = multiple_in (interval s) 1 MAX_PLACE

-- where a view ends that begins at a base
abbrev pub end_at : Shape → ℕ → Cursor → Reads ℕ
end_at s base = number_in w64 base (min (base + span s) MAX_PLACE)

abbrev pub digest_at : Cursor → Reads Bytes
digest_at = bytes_at 32

-- one part of a state
abbrev pub state_part_at : Cursor → Reads Bytes
state_part_at = text_in w32 0 (2 ^ 32 - 1)

-- ---- identifiers, requests, floors

abbrev pub ui_of_fields : ℕ × (ℕ × Bytes) → Ui
ui_of_fields p = record { host = p.0; counter = p.1.0; cert = p.1.1 }

-- of a host from the least that is allowed
unfoldable pub ui_from : Shape → Option ℕ → ℕ → Cursor → Reads Ui
ui_from s left_out least = map_at ui_of_fields (pair_at (member_host_at s left_out least) (pair_at counter_at digest_at))

abbrev pub ui_at : Shape → Cursor → Reads Ui
ui_at s = ui_from s None 0

abbrev pub request_of_fields : ℕ × (ℕ × (Bytes × Bytes)) → Request
request_of_fields p = record { client = p.0; seq = p.1.0; op = p.1.1.0; tag = p.1.1.1 }

unfoldable pub request_at : Shape → Cursor → Reads Request
request_at s = map_at request_of_fields (pair_at (client_at s) (pair_at counter_at (pair_at (text16_at text_limit) digest_at)))

abbrev pub batch_of_fields : ℕ × List Request → Batch
batch_of_fields p = record { requests = p.1 }

-- A request is read whole, and then the bytes of all up to it may be too many: its first byte is at fault.
unfoldable pub batch_at : Shape → Cursor → Reads Batch
batch_at s = map_at batch_of_fields (then_at (number_in w8 1 batch_limit) (λ count. bounded_at request_bytes batch_bytes_limit (request_at s) count 0))

abbrev pub phase_of : ℕ → Phase
phase_of n = if n == 0 then phase.Changing else (if n == 1 then phase.Entered else phase.Open)

unfoldable pub phase_at : Cursor → Reads Phase
phase_at = map_at phase_of (number_in w8 0 2)

abbrev pub floor_of_fields : ℕ × (ℕ × (Phase × (ℕ × (ℕ × ℕ)))) → Floor
floor_of_fields p = record { counter = p.0; view = p.1.0; phase = p.1.1.0; last = p.1.1.1.0; top = p.1.1.1.1.0; point = p.1.1.1.1.1 }

unfoldable pub floor_at : Cursor → Reads Floor
floor_at = map_at floor_of_fields (pair_at counter_at (pair_at place_at (pair_at phase_at (pair_at place_at (pair_at place_at place_at)))))

-- a floor, or none, of each host
abbrev pub floors_at : Shape → Cursor → Reads (List (Option Floor))
floors_at s = repeat_at (optional_at floor_at) (host_count s)

-- ---- certificates

abbrev pub stable_member_of_fields : ℕ × (ℕ × (Bytes × Bytes)) → StableMember
stable_member_of_fields p = record { host = p.0; counter = p.1.0; floors = p.1.1.0; cert = p.1.1.1 }

unfoldable pub stable_member_at : Shape → Option ℕ → ℕ → Cursor → Reads StableMember
stable_member_at s left_out least = map_at stable_member_of_fields (pair_at (member_host_at s left_out least) (pair_at counter_at (pair_at digest_at digest_at)))

-- the state digest and the members; position 0 has none
unfoldable pub held_at : Shape → ℕ → Cursor → Reads (Bytes × List StableMember)
held_at s pos =
    if pos == 0 then nothing_at (replicate 32 0, [])
    else pair_at digest_at (rising_at (stable_member_at s None) (λ m. m.host) (quorum s) 0)

abbrev pub stable_of_fields : ℕ × (Bytes × List StableMember) → StableCert
stable_of_fields p = record { pos = p.0; state = p.1.0; members = p.1.1 }

-- a stable certificate of a position from low up to high
unfoldable pub stable_in : Shape → ℕ → ℕ → Cursor → Reads StableCert
stable_in s low high = map_at stable_of_fields (then_at (multiple_in (interval s) low high) (held_at s))

abbrev pub stable_at : Shape → Cursor → Reads StableCert
stable_at s = stable_in s 0 MAX_PLACE

abbrev pub floor_member_of_fields : ℕ × (ℕ × (List (Option Floor) × Bytes)) → FloorMember
floor_member_of_fields p = record { host = p.0; counter = p.1.0; floors = p.1.1.0; cert = p.1.1.1 }

unfoldable pub floor_member_at : Shape → Option ℕ → ℕ → Cursor → Reads FloorMember
floor_member_at s left_out least = map_at floor_member_of_fields (pair_at (member_host_at s left_out least) (pair_at counter_at (pair_at (floors_at s) digest_at)))

abbrev pub floor_cert_of_fields : ℕ × (Bytes × List FloorMember) → FloorCert
floor_cert_of_fields p = record { pos = p.0; state = p.1.0; members = p.1.1 }

unfoldable pub floor_cert_at : Shape → Cursor → Reads FloorCert
floor_cert_at s = map_at floor_cert_of_fields (pair_at (point_at s) (pair_at digest_at (rising_at (floor_member_at s None) (λ m. m.host) (quorum s) 0)))

abbrev pub evidence_member_of_fields : ℕ × (ℕ × Bytes) → EvidenceMember
evidence_member_of_fields p = record { host = p.0; counter = p.1.0; cert = p.1.1 }

unfoldable pub evidence_member_at : Shape → Option ℕ → ℕ → Cursor → Reads EvidenceMember
evidence_member_at s left_out least = map_at evidence_member_of_fields (pair_at (member_host_at s left_out least) (pair_at counter_at digest_at))

-- f backups of a view
abbrev pub backups_at : Shape → ℕ → Cursor → Reads (List EvidenceMember)
backups_at s view = rising_at (evidence_member_at s (Some (primary s view))) (λ m. m.host) (max_faults s) 0

abbrev pub evidence_of_fields : ℕ × (ℕ × (ℕ × (Bytes × (Bytes × (ℕ × (Bytes × List EvidenceMember)))))) → Evidence
evidence_of_fields p = record {
  view = p.0;
  base = p.1.0;
  end = p.1.1.0;
  plan = p.1.1.1.0;
  body = p.1.1.1.1.0;
  counter = p.1.1.1.1.1.0;
  cert = p.1.1.1.1.1.1.0;
  members = p.1.1.1.1.1.1.1;
}

-- behind the view and the base
abbrev pub evidence_behind : Shape → ℕ → ℕ → Cursor → Reads (ℕ × (Bytes × (Bytes × (ℕ × (Bytes × List EvidenceMember)))))
evidence_behind s view base = pair_at (end_at s base) (pair_at digest_at (pair_at digest_at (pair_at counter_at (pair_at digest_at (backups_at s view)))))

-- evidence of a view from low up to high
unfoldable pub evidence_in : Shape → ℕ → ℕ → Cursor → Reads Evidence
evidence_in s low high = map_at evidence_of_fields (then_at (number_in w64 low high) (λ view. then_at (base_at s) (evidence_behind s view)))

abbrev pub evidence_at : Shape → Cursor → Reads Evidence
evidence_at s = evidence_in s 1 MAX_PLACE

-- View 0 has no evidence, and each other view its own.
abbrev pub evidence_of_view : Shape → ℕ → Cursor → Reads (Option Evidence)
evidence_of_view s view = if view == 0 then nothing_at None else map_at Some (evidence_in s view view)
