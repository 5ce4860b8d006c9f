use Rattle.std.proofs.Common.{length, ap}
use Rattle.mb_world_model.specs.World.{World as WorldState}
use Rattle.mb_world_model.specs.WorldSteps.{happens}
use Rattle.mb_world_model.specs.Stops.{stop_of}
use Rattle.mb_world.specs.declared.seen.Seen.{Seen}
use Rattle.mb_story.specs.declared.telling.Telling.{Telling}
use Rattle.mb_story.proofs.Played.{tells_too, told_of}
use Rattle.mb_story.proofs.events.tell.Goals as goal

pub returns-in_ok-told-in-Ok-clause-tells : goal.returns-in_ok-told-in-Ok-clause-tells
returns-in_ok-told-in-Ok-clause-tells g c = λ y x is reached h.
    let behind : WorldState = happens y x c.args.event.now in
    let left = c.in-Ok.ensures.stands y x is reached h in
    told_of y x behind c.args.event.now c.in_ok-told-in-Ok.told c.in-Ok.seen c.pool-made.result (length c.line-executed.result.now) left.answered c.in_ok-told-in-Ok.ensures.seen
    (c.pool-made.ensures.count y x h) (ap length (c.line-executed.ensures y x h)) (c.in_ok-told-in-Ok.ensures.shows y behind left.stands)

pub returns-in-Err-clause-stops : goal.returns-in-Err-clause-stops
returns-in-Err-clause-stops g c = λ y x h. tells_too Seen Telling (stop_of y.schedule x c.args.event.now) c.in-Err.stop (c.in-Err.ensures.stops y x h)
