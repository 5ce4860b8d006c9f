-- The system of a schedule, and its worlds: each host is made with the key-value service of no keys.
use Rattle.std.specs.Prelude.{ℕ, []}
use Rattle.mb_kv.specs.Pairs.{Pairs}
use Rattle.mb_kv.specs.Machine.{kv_machine}
use Rattle.mb_cache.specs.Represents.{machine_of, snapshots_of}
use Rattle.mb_schedule.specs.declared.schedule.Schedule.{Schedule}
use Rattle.mb_world_model.specs.World.{World, System}
use Rattle.mb_world_model.specs.WorldSteps.{world as any_world}

abbrev pub system_of : Schedule → System Pairs
system_of s = record { machine = machine_of kv_machine; snapshots = snapshots_of kv_machine; initial = []; schedule = s }

-- after the first k events
abbrev pub world : Schedule → ℕ → World
world s k = any_world (system_of s) k
