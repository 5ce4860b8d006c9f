-- The floors behind the CHECKPOINTs of a list, one message more.
use Rattle.std.proofs.Common.{◌≡◌, List, ◌∷◌, refl}
use Rattle.mb_parts.specs.declared.floor.Floor.{Floor}
use Rattle.mb_parts.specs.Bares.{Bare}
use Rattle.mb_parts.specs.Bares as bare
use Rattle.mb_parts.specs.Ordered.{floor_after}
use Rattle.mb_gate.specs.declared.kind.Kind.TheVariants as kind
use Rattle.mb_gate.specs.Kinds.{kind_of}
use Rattle.mb_gate.specs.SenderLogs.{floors_behind}

-- a CHECKPOINT adds one
pub floors_more : (from : Floor) (l : List Bare) (m : Bare) → kind.Checkpoint ≡ kind_of m → floors_behind from (m ∷ l) ≡ floor_after from (m ∷ l) ∷ floors_behind from l
floors_more from l (bare.Checkpoint pos state digest) is = refl
floors_more from l (bare.Prepare view pos digest) is = absurd cc
floors_more from l m is = absurd cc

-- no other does
pub floors_same : (from : Floor) (l : List Bare) (m : Bare) → (kind.Checkpoint ≡ kind_of m → ⊥) → floors_behind from (m ∷ l) ≡ floors_behind from l
floors_same from l (bare.Checkpoint pos state digest) not_so = absurd (not_so refl)
floors_same from l m not_so = refl
