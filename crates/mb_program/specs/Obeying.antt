-- What is done with words over the devices of the system.
use Rattle.std.specs.Prelude.{ℕ, Option}
use Rattle.mb_edge.specs.Seen.{Device, LinkState, SpawnerState}
use Rattle.mb_answer.specs.Devices.{edge}
use Rattle.mb_top.specs.declared.command.Command.{Command}
use Rattle.mb_top.specs.Doings.{Does}
use Rattle.mb_top.specs.Ends.{Ends}

-- With some link and some spawner, what the words ask for is done with what source and sink tell, and it comes to one of its ends.
pub data Obeys (command : Option Command) (status : ℕ) (source source' sink sink' : Device) : Type 0 where
  with_devices : (link link' : LinkState) (spawner spawner' : SpawnerState) → Does command status (edge source sink link spawner) (edge source' sink' link' spawner')
      → Ends command status (edge source sink link spawner) (edge source' sink' link' spawner') → Obeys command status source source' sink sink'
