-- The system of a schedule whose hosts keep a count, from 0 on, and its worlds.
use Rattle.std.specs.Prelude.{ℕ}
use Rattle.mb_cache.specs.Represents.{machine_of, snapshots_of}
use Rattle.mb_counter.specs.Machine.{count_machine}
use Rattle.mb_schedule.specs.declared.schedule.Schedule.{Schedule}
use Rattle.mb_world_model.specs.World.{World, System}
use Rattle.mb_world_model.specs.WorldSteps.{world as any_world}

abbrev pub system_of : Schedule → System ℕ
system_of s = record { machine = machine_of count_machine; snapshots = snapshots_of count_machine; initial = 0; schedule = s }

-- after the first k events
abbrev pub world : Schedule → ℕ → World
world s k = any_world (system_of s) k
