-- The system of the program with the schedule of the run, and what its hosts answer.
use Rattle.std.specs.Prelude.{[], Option}
use Rattle.mb_model.specs.Given.{Answer}
use Rattle.mb_world_model.specs.World.{System}
use Rattle.mb_kv.specs.Pairs.{Pairs}
use Rattle.mb_kv.specs.Machine.{kv_machine}
use Rattle.mb_cache.specs.Represents.{machine_of, snapshots_of}
use Rattle.mb_examples_course.proofs.Deeds.{Deed}
use Rattle.mb_examples_course.proofs.Makes.{system_with, answered, expected}

-- three hosts with the key-value store of no keys, which is that of the program (`is_of_program` of `PastCheckpoint`)
abbrev pub system : System Pairs
system = system_with (machine_of kv_machine) (snapshots_of kv_machine) []

-- of each event what a host answers, and what is written of it
abbrev pub answer : Deed → Option Answer
answer x = answered (machine_of kv_machine) (snapshots_of kv_machine) [] x

abbrev pub written : Deed → Option Answer
written x = expected (machine_of kv_machine) (snapshots_of kv_machine) [] x
