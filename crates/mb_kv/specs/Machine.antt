-- The key-value store as a service.
use Rattle.mb_service.specs.Machine.{ServiceMachine}
use Rattle.mb_kv.specs.Pairs.{Pairs}
use Rattle.mb_kv.specs.Operations.{after, answer}
use Rattle.mb_kv.specs.Snapshots.{part_of, restored}
use Rattle.mb_kv.specs.States.{IsState}

abbrev pub kv_machine : ServiceMachine Pairs
kv_machine = record { is_state = IsState; after = after; answer = answer; part_of = part_of; restored = restored }
