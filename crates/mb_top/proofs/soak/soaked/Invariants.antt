use Rattle.std.proofs.Common.{◌≡◌, false}
use Rattle.mb_make.specs.Draws.{Represents}
use Rattle.mb_make.specs.Soaks.{generator_after}
use Rattle.mb_world.specs.Tables.{RepresentsWorld}
use Rattle.mb_top.specs.Systems.{system_of, world}
use Rattle.mb_top.specs.Soaks.{soak_of, soak_shape}
use Rattle.mb_top.proofs.soak.soaked.Given as goal

abbrev pub invariant-loop : goal.invariant-loop
invariant-loop l = record {
  stands : RepresentsWorld (system_of (soak_of l.seed l.events)) l.world (world (soak_of l.seed l.events) l.counter);
  generator : Represents l.maker (generator_after (system_of (soak_of l.seed l.events)) l.seed l.counter);
  runs : l.world.halted ≡ false;
  shape : l.world.shape ≡ soak_shape;
  count : l.world.events ≡ l.counter;
}
