-- The count as a service.
use Rattle.std.specs.Prelude.{ℕ}
use Rattle.mb_service.specs.Machine.{ServiceMachine}
use Rattle.mb_counter.specs.Operations.{IsCount, after, answer}
use Rattle.mb_counter.specs.Snapshots.{part_of, restored}

abbrev pub count_machine : ServiceMachine ℕ
count_machine = record { is_state = IsCount; after = after; answer = answer; part_of = part_of; restored = restored }
