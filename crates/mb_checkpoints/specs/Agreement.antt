-- On what hosts agree.
use Rattle.std.specs.Prelude.{ℕ, Bool, true, false, ◌&&◌, List, [], ◌∷◌, count_by, nat_le, Option, Some, None, if◌then◌else◌, option_map}
use Rattle.mb_usig.specs.Tags.{same_bytes}
use Rattle.mb_parts.specs.declared.floor.Floor.{Floor}
use Rattle.mb_parts.specs.Certificates.{same_floor}
use Rattle.mb_msg.specs.declared.normal.Checkpoint.{Checkpoint}
use Rattle.mb_model.specs.Stable.{KeptFloor, kept_floor}
use Rattle.mb_checkpoints.specs.declared.agreement.Said.{Said}

-- what a CHECKPOINT says of the state alone, and of the state and a floor
abbrev pub of_state : Checkpoint → Said
of_state m = record { state = m.state; floor = None }

abbrev pub of_floor : KeptFloor → Said
of_floor k = record { state = k.message.state; floor = Some k.floor }

-- what it says of that on which hosts are to agree: the state alone, or also the floor of this host, where it came whole with one
abbrev pub said_in : Option ℕ → Checkpoint → Option Said
said_in None m = Some (of_state m)
said_in (Some owner) m = option_map of_floor (kept_floor owner m)

-- both say a floor, and the same, or none does
abbrev pub alike_in_floor : Option Floor → Option Floor → Bool
alike_in_floor None None = true
alike_in_floor a b = same_floor a b

abbrev pub alike : Said → Said → Bool
alike a b = same_bytes a.state b.state && alike_in_floor a.floor b.floor

-- whether it says this
abbrev pub is_this : Said → Option Said → Bool
is_this said None = false
is_this said (Some x) = alike said x

abbrev pub says : Option ℕ → Said → Checkpoint → Bool
says owner said m = is_this said (said_in owner m)

-- the first of these with whom so many of all agree
abbrev pub first_with : {A : Type 0} → (A → A → Bool) → ℕ → List A → List A → Option A
first_with like many all [] = None
first_with like many all (x ∷ xs) = if nat_le many (count_by (like x) all) then Some x else first_with like many all xs
