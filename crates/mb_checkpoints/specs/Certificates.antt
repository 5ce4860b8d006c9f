-- The certificates that kept CHECKPOINTs make: those of a host's history, for any search by host and position.
use Rattle.std.specs.Prelude.{ℕ, ◌+◌, Bool, List, Option, None, if◌then◌else◌, take, filter, filter_map, option_map, option_and_then}
use Rattle.std.specs.List.{range_with_len}
use Rattle.std.specs.Option.{option_or}
use Rattle.mb_base.specs.Shapes.{interval, span, quorum, host_count}
use Rattle.mb_base.specs.declared.shape.Shape.{Shape}
use Rattle.mb_parts.specs.declared.certificates.StableCert.{StableCert}
use Rattle.mb_parts.specs.declared.certificates.FloorCert.{FloorCert}
use Rattle.mb_msg.specs.declared.normal.Checkpoint.{Checkpoint}
use Rattle.mb_model.specs.Stable.{KeptFloor, kept_floor, first_agreed, same_state, stable_cert, same_kept, floor_cert}
use Rattle.mb_checkpoints.specs.declared.checkpoints.Checkpoints.{Checkpoints}
use Rattle.mb_checkpoints.specs.declared.agreement.Said.{Said}
use Rattle.mb_checkpoints.specs.Kept.{kept_at}
use Rattle.mb_checkpoints.specs.Agreement.{said_in, alike, says, first_with}

-- ---- of these CHECKPOINTs of one position

abbrev pub stable_of_these : Shape → ℕ → List Checkpoint → Option StableCert
stable_of_these s pos all = option_and_then (stable_cert s pos) (first_agreed (same_state s) (quorum s) all all)

abbrev pub floor_of_these : Shape → ℕ → List KeptFloor → Option FloorCert
floor_of_these s pos all = option_and_then (floor_cert s pos) (first_agreed (same_kept s) (quorum s) all all)

-- ---- of what a search finds

module _ (s : Shape) (search : ℕ → ℕ → Option Checkpoint) where
  -- those of a position, by rising host
  abbrev pub found_at : ℕ → List Checkpoint
  found_at pos = filter_map (λ h. search h pos) (range_with_len 0 (host_count s))

  abbrev pub agreed_at : ℕ → Option StableCert
  agreed_at pos = stable_of_these s pos (found_at pos)

  -- that of the greatest position above the stable one
  abbrev pub agreed_above : ℕ → Option StableCert
  agreed_above low = option_or (agreed_at (low + span s)) (agreed_at (low + interval s))

  abbrev pub floor_at : ℕ → ℕ → Option FloorCert
  floor_at owner pos = floor_of_these s pos (filter_map (kept_floor owner) (found_at pos))

  abbrev pub lower_floor : ℕ → ℕ → Option FloorCert
  lower_floor owner low = option_or (floor_at owner (low + interval s)) (floor_at owner low)

  -- that of the greatest of the three positions at which CHECKPOINTs are kept
  abbrev pub floor_from : ℕ → ℕ → Option FloorCert
  floor_from owner low = option_or (floor_at owner (low + span s)) (lower_floor owner low)

-- ---- of what a table holds at the multiple of the interval with a number

abbrev pub message_at : Checkpoints → ℕ → ℕ → Option Checkpoint
message_at t number host = option_map (λ k. k.message) (kept_at t number host)

-- of the hosts below this one, by rising host
abbrev pub row : Checkpoints → ℕ → ℕ → List Checkpoint
row t number hosts = filter_map (message_at t number) (range_with_len 0 hosts)

abbrev pub whole_row : Checkpoints → ℕ → List Checkpoint
whole_row t number = row t number (host_count t.shape)

-- on what f+1 of them agree
abbrev pub agreed : Option ℕ → Checkpoints → ℕ → Option Said
agreed owner t number = first_with alike (quorum t.shape) (filter_map (said_in owner) (whole_row t number)) (filter_map (said_in owner) (whole_row t number))

-- the first f+1 of those that say this
abbrev pub first_quorum : Option ℕ → Said → Checkpoints → ℕ → List Checkpoint
first_quorum owner said t number = take (quorum t.shape) (filter (says owner said) (whole_row t number))

abbrev pub if_so : {A : Type 0} → Bool → Option A → Option A
if_so test o = if test then o else None
