use Rattle.std.proofs.Common.{◌≡◌, false, length}
use Rattle.mb_world_model.specs.World.{System, nothing_happened}
use Rattle.mb_members.specs.Hosts.{IsSystem}
use Rattle.mb_world.specs.Tables.{RepresentsWorld, HasWorld}
use Rattle.mb_story.proofs.Played.{IsPlayed}
use Rattle.mb_story.proofs.story.story_in.Given as goal

abbrev pub invariant-loop-event : goal.invariant-loop-event
invariant-loop-event g l = record {
  played : (y : System _) → IsSystem g.V.Service.machine y → y.schedule.events ≡ l.events → RepresentsWorld y l.fn.world nothing_happened
      → IsPlayed y l.told l.world l.event-index;
  has : HasWorld g.V.Service.machine l.world;
  runs : l.world.halted ≡ false;
  shape : l.world.shape ≡ l.fn.world.shape;
  count : l.world.events ≡ l.event-index;
  told : length l.told ≡ l.event-index;
}
