use Rattle.std.proofs.Common.{◌≡◌, ◌+◌, false, reverse, drop, length}
use Rattle.mb_world.specs.Tables.{RepresentsWorld}
use Rattle.mb_top.specs.Systems.{system_of, world}
use Rattle.mb_top.specs.Runs.{AreUnstopped}
use Rattle.mb_top.proofs.replay.run.Given as goal

-- the events that are left, last first, and the world behind the others
abbrev pub invariant-loop-event : goal.invariant-loop-event
invariant-loop-event l = record {
  left : drop l.world.events l.schedule.events ≡ reverse l.left.items;
  count : l.world.events + length l.left.items ≡ length l.schedule.events;
  stands : RepresentsWorld (system_of l.schedule) l.world (world l.schedule l.world.events);
  unstopped : AreUnstopped l.schedule l.world.events;
  runs : l.world.halted ≡ false;
  shape : l.world.shape ≡ l.schedule.shape;
}

abbrev pub decreases-loop-event : goal.decreases-loop-event
decreases-loop-event l = length l.left.items
