use Rattle.std.proofs.Common.{◌≡◌, filter_map, take}
use Rattle.std.specs.List.{AllByRecursion}
use Rattle.mb_msg.specs.Fits.{FitsStamped}
use Rattle.mb_world_model.specs.World.{System, World as WorldState}
use Rattle.mb_members.proofs.ChangeLaws.{stamped_in}
use Rattle.mb_world.specs.Tables.{RepresentsWorld}
use Rattle.mb_world.proofs.world.World.stamped_after.Given as goal

-- the stamped messages so far
abbrev pub invariant-loop-bytes : goal.invariant-loop-bytes
invariant-loop-bytes g l = record {
  taken : (y : System _) (x : WorldState) → RepresentsWorld y l.self x → l.messages.items ≡ filter_map (stamped_in y.schedule) (take l.bytes-index l.bytes-items);
  fits : AllByRecursion (FitsStamped l.self.shape) l.messages.items;
}
