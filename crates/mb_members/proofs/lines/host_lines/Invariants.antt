use Rattle.std.proofs.Common.{◌≡◌, map}
use Rattle.std.specs.List.{range_with_len}
use Rattle.mb_world_model.specs.World.{World as WorldState, System}
use Rattle.mb_members.specs.Members.{RepresentsMembers}
use Rattle.mb_members.specs.Lines.{host_line}
use Rattle.mb_members.proofs.lines.host_lines.Given as goal

abbrev pub invariant-loop-host : goal.invariant-loop-host
invariant-loop-host g l = (y : System _) (x : WorldState) → RepresentsMembers y l.members x.histories x.faulty_stamps → l.lines ≡ map (host_line y x) (range_with_len 0 l.host)
