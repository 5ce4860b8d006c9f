-- What a service must be so that hosts can keep copies of it.
use Rattle.std.specs.Prelude.{◌≡◌, List, Ok}
use Rattle.std.specs.List.{fold}
use Rattle.mb_base.specs.Shapes.{Bytes}
use Rattle.mb_service.specs.Machine.{ServiceMachine}
use Rattle.mb_service.specs.Parts.{IsShort, parts_of}

module _ {S : Type 0} (machine : ServiceMachine S) where
  -- the state after these operations, the first of them first
  abbrev pub after_all : S → List Bytes → S
  after_all s ops = fold machine.after s ops

  -- Wherever operations lead from a state, results are short, and the parts of the state give that state back.
  pub record IsReplicable (s : S) : Type 0 where
    pub short : (ops : List Bytes) (op : Bytes) → IsShort (machine.answer (after_all s ops) op)
    pub whole : (ops : List Bytes) → machine.restored (parts_of machine.part_of (after_all s ops)) ≡ Ok (after_all s ops)
