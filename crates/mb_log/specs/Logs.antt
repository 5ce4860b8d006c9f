-- A log: what a host stamped since its floor, in the forms in which it is kept; and what each call makes of it.
use Rattle.std.specs.Prelude.{ℕ, ◌+◌, ◌-◌, Bool, true, ◌||◌, not, List, [], ◌∷◌, ◌++◌, length, map, max, drop, nat_lt, ◌==◌, Option, Some, None, if◌then◌else◌, count_by}
use Rattle.mb_base.specs.Limits.{other_limit}
use Rattle.mb_base.specs.declared.shape.Shape.{Shape}
use Rattle.mb_parts.specs.declared.floor.Floor.{Floor}
use Rattle.mb_parts.specs.declared.certificates.FloorCert.{FloorCert}
use Rattle.mb_parts.specs.Certificates.{first_floor}
use Rattle.mb_parts.specs.declared.certificates.StableCert.{StableCert}
use Rattle.mb_msg.specs.declared.stamped.Stamped.{Stamped as StampedMessage}
use Rattle.mb_model.specs.UsableLogs.{normal_limit}
use Rattle.mb_log.specs.declared.proof.Proof.{Proof}
use Rattle.mb_model.specs.OwnLog.{is_normal, behind, as_shown, first_packed}

pub record Log : Type 0 where
  pub shape : Shape
  pub host : ℕ
  pub floor : Option FloorCert  -- with which it was cut last
  pub entries : List StampedMessage  -- oldest first
  pub longest : ℕ  -- the most that it ever held

-- ---- the floor

abbrev pub counter_in : Option Floor → ℕ
counter_in None = 0
counter_in (Some f) = f.counter

-- the counter of a host's floor in a certificate, 0 without one
abbrev pub floor_counter : ℕ → Option FloorCert → ℕ
floor_counter host None = 0
floor_counter host (Some c) = counter_in (first_floor host c.members)

-- The entries go on from this counter.
abbrev pub start : Log → ℕ
start log = floor_counter log.host log.floor

-- ---- room

-- PREPARE, COMMIT or CHECKPOINT, by the first byte
abbrev pub is_normal_kind : ℕ → Bool
is_normal_kind kind = kind == 2 || (kind == 3 || kind == 5)

-- for one more message of a kind
abbrev pub has_room_for : Log → ℕ → Bool
has_room_for log kind = if is_normal_kind kind
    then nat_lt (count_by is_normal log.entries) (normal_limit log.shape)
    else nat_lt (count_by (λ m. not (is_normal m)) log.entries) other_limit

-- ---- what each call leaves

abbrev pub empty_log : Shape → ℕ → Log
empty_log shape host = record { shape = shape; host = host; floor = None; entries = []; longest = 0 }

-- with one message more, behind which some entries are kept without their bodies
abbrev pub appended : StampedMessage → Log → Log
appended m log = record log { entries = map (behind m) log.entries ++ m ∷ []; longest = max log.longest (length log.entries + 1) }

-- without the entries up to the host's counter in a certificate
abbrev pub cut_at : FloorCert → Log → Log
cut_at c log = record log { floor = Some c; entries = drop (floor_counter log.host (Some c) - start log) log.entries }

-- ---- what it shows

-- in a VIEW_CHANGE
abbrev pub proof_of : Log → StableCert → Proof
proof_of log stable = record { floor = log.floor; stable = stable; entries = map as_shown log.entries }

-- in a LOG, from a counter on
abbrev pub given_from : Log → ℕ → List StampedMessage
given_from log from = first_packed (drop (from - (start log + 1)) log.entries)
