-- What hosts are: they keep one service.
use Rattle.std.specs.Prelude.{◌≡◌, ℕ, List, Some, slice_get}
use Rattle.mb_base.specs.Shapes.{Bytes}
use Rattle.mb_base.specs.declared.shape.Shape.{Shape}
use Rattle.mb_service.specs.Machine.{ServiceMachine}
use Rattle.mb_cache.specs.Represents.{machine_of, snapshots_of}
use Rattle.mb_world_model.specs.World.{System}

-- Its hosts are made with this service, in one of its states.
pub record IsSystem {V : Type 0} (m : ServiceMachine V) (y : System V) : Type 0 where
  pub machine : y.machine ≡ machine_of m
  pub snapshots : y.snapshots ≡ snapshots_of m
  pub first : m.is_state y.initial

-- Each is made with this state of the service.
abbrev pub AreServices : {V : Type 0} → V → List V → Type 0
AreServices first services = (h : ℕ) (v : _) → slice_get services h ≡ Some v → v ≡ first

-- So it is of each system of this size and under this secret, whose hosts are made with this service.
abbrev pub ForSystem : {V : Type 0} → ServiceMachine V → Shape → Bytes → (System V → Type 0) → Type 0
ForSystem {V} m shape secret P = (y : System V) → IsSystem m y → y.schedule.shape ≡ shape → y.schedule.secret ≡ secret → P y
