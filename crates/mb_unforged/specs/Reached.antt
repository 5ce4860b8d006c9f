-- A world to which events lead that nothing stopped.
use Rattle.std.specs.Prelude.{◌≡◌, List, length}
use Rattle.mb_schedule.specs.declared.schedule.WorldEvent.{WorldEvent}
use Rattle.mb_world_model.specs.World.{World, System}
use Rattle.mb_world_model.specs.WorldSteps.{world}
use Rattle.mb_world_model.specs.Stops.{IsUnstopped}
use Rattle.mb_make.specs.Soaks.{with_events}

-- These events lead there, from the world in which nothing happened, and nothing stands in the way of any of them.
pub record IsReached {S : Type 0} (system : System S) (w : World) : Type 0 where
  pub events : List WorldEvent
  pub unstopped : IsUnstopped (with_events system events) (length events)
  pub is : world (with_events system events) (length events) ≡ w
