use Rattle.std.proofs.Common.{◌≡◌, map}
use Rattle.std.specs.List.{range_with_len}
use Rattle.mb_schedule.specs.declared.schedule.Schedule.{Schedule}
use Rattle.mb_world_model.specs.World.{World as WorldState}
use Rattle.mb_members.specs.Askers.{RepresentsAskers}
use Rattle.mb_members.specs.Lines.{client_line}
use Rattle.mb_members.proofs.lines.client_lines.Given as goal

abbrev pub invariant-loop-client : goal.invariant-loop-client
invariant-loop-client l = (s : Schedule) (x : WorldState) → RepresentsAskers s l.askers x.askers → l.lines ≡ map (client_line x) (range_with_len 0 l.client)
