-- A log stands for three searches in a host's history: what the host stamped, newest first, the floor certificate with which its log was cut
-- last, and the most that its log ever held.
use Rattle.std.specs.Prelude.{ℕ, ◌≡◌, ◌+◌, ◌-◌, ◌≤◌, List, ◌∷◌, length, map, max, take, reverse, Option, Some, None}
use Rattle.mb_parts.specs.declared.certificates.FloorCert.{FloorCert}
use Rattle.mb_msg.specs.declared.stamped.Stamped.{Stamped as StampedMessage}
use Rattle.mb_model.specs.OwnLog.{kept_forms, as_shown, first_packed}
use Rattle.mb_log.specs.declared.proof.Proof.{Proof}
use Rattle.mb_log.specs.Logs.{Log, floor_counter}

-- how many messages there are since the floor of a host's log
abbrev pub count_since : ℕ → Option FloorCert → List StampedMessage → ℕ
count_since host floor stamped = length stamped - floor_counter host floor

-- these messages in the forms in which they are kept, newest first
abbrev pub kept_since : ℕ → Option FloorCert → List StampedMessage → List StampedMessage
kept_since host floor stamped = take (count_since host floor stamped) (kept_forms stamped)

pub record Represents (log : Log) (floor : Option FloorCert) (stamped : List StampedMessage) (longest : ℕ) : Type 0 where
  pub floor_is : log.floor ≡ floor
  pub reached : floor_counter log.host floor ≤ length stamped
  pub entries_are : log.entries ≡ reverse (kept_since log.host floor stamped)
  pub longest_is : log.longest ≡ longest

-- ---- what each call makes of what a log stands for

abbrev pub StandsWith : Log → StampedMessage → Log → Type 0
StandsWith old m new = (floor : Option FloorCert) (stamped : List StampedMessage) (longest : ℕ) → Represents old floor stamped longest
    → Represents new floor (m ∷ stamped) (max longest (count_since old.host floor stamped + 1))

abbrev pub StandsCut : Log → FloorCert → Log → Type 0
StandsCut old c new = (floor : Option FloorCert) (stamped : List StampedMessage) (longest : ℕ) → Represents old floor stamped longest → Represents new (Some c) stamped longest

-- ---- what it shows of what it stands for

abbrev pub Shows : Log → Proof → Type 0
Shows log p = (floor : Option FloorCert) (stamped : List StampedMessage) (longest : ℕ) → Represents log floor stamped longest
    → (p.floor ≡ floor) × (p.entries ≡ map as_shown (reverse (kept_since log.host floor stamped)))

-- how many messages there are from a counter on that stand behind the floor
abbrev pub count_from : ℕ → Option FloorCert → List StampedMessage → ℕ → ℕ
count_from host floor stamped from = length stamped + 1 - max from (floor_counter host floor + 1)

abbrev pub Gives : Log → ℕ → List StampedMessage → Type 0
Gives log from given = (floor : Option FloorCert) (stamped : List StampedMessage) (longest : ℕ) → Represents log floor stamped longest
    → given ≡ first_packed (reverse (take (count_from log.host floor stamped from) (kept_since log.host floor stamped)))
