use Rattle.std.proofs.Common.{◌≡◌, ◌∙◌, ◌+◌, List, ◌∷◌, [], length, Some, refl, ap, sym, arith, length-append}
use Rattle.std.specs.List.{slice_get}
use Rattle.std.proofs.lemmas.Option.{slice_get_read}
use Rattle.std.proofs.lemmas.Result.{IfOk-weaker}
use Rattle.mb_schedule.specs.declared.schedule.WorldEvent.{WorldEvent}
use Rattle.mb_world_model.specs.WorldSteps.{world}
use Rattle.mb_unforged.proofs.Reached.{reached_at}
use Rattle.mb_story.proofs.Played.{none_played, played_more, story_stops, story_ends}
use Rattle.mb_story.proofs.story.story_in.Goals as goal

pub loop-event-init : goal.loop-event-init
loop-event-init g c = record {
  played = λ y is same first. rw c.new-told.ensures (none_played y c.args.world.now first);
  has = c.requires.has;
  runs = c.requires.runs;
  shape = refl;
  count = c.requires.none;
  told = ap length c.new-told.ensures;
}

pub tell-requires-clause-fits : goal.tell-requires-clause-fits
tell-requires-clause-fits g c =
    let now = c.loop-event.invariant in
    let k = c.loop-event.event-index in
    let at : slice_get c.args.events.now k ≡ Some c.event-item.result = slice_get_read _ _ k c.event-item.result refl c.loop-event-test.true c.event-item.is in
    rw now.shape (c.requires.fits k c.event-item.result at)

pub loop-event-preserved : goal.loop-event-preserved
loop-event-preserved g c =
    let now = c.loop-event.invariant in
    let k = c.loop-event.event-index in
    let e = c.event-item.result in
    let at : slice_get c.args.events.now k ≡ Some e = slice_get_read _ _ k e refl c.loop-event-test.true c.event-item.is in
    let pushed = c.in_ok-push-in-Ok.ensures.ok in
    record {
      played = λ y is same first.
          let before = now.played y is same first in
          let there : slice_get y.schedule.events k ≡ Some e = ap (λ (l : List WorldEvent). slice_get l k) same ∙ at in
          let reached = reached_at y k before.unstopped in
          rw pushed (played_more y k e there c.loop-event.told c.loop-event.world _ c.in-Ok.one before now.told
          (c.in-Ok.ensures.stops y (world y k) before.stands) (c.in-Ok.ensures.stands y (world y k) is reached before.stands) (c.in-Ok.ensures.tells y (world y k) is reached before.stands));
      has = c.in-Ok.ensures.has;
      runs = c.in-Ok.ensures.runs;
      shape = c.in-Ok.ensures.shape ∙ now.shape;
      count = c.in-Ok.ensures.counts ∙ ap (λ n. n + 1) now.count;
      told = rw pushed (omega (arith, length-append c.loop-event.told (c.in-Ok.one ∷ []), now.told));
    }

pub returns-in-Err : goal.returns-in-Err
returns-in-Err g c = λ y is same first.
    let now = c.loop-event.invariant in
    let k = c.loop-event.event-index in
    let e = c.event-item.result in
    let at : slice_get c.args.events.now k ≡ Some e = slice_get_read _ _ k e refl c.loop-event-test.true c.event-item.is in
    let before = now.played y is same first in
    let there : slice_get y.schedule.events k ≡ Some e = ap (λ (l : List WorldEvent). slice_get l k) same ∙ at in
    IfOk-weaker c.story_before.result _ _ (λ s h. story_stops y c.loop-event.told c.loop-event.world k e c.in-Err.stop s there before now.told (c.in-Err.ensures.stops y (world y k) before.stands) h.0 h.1 h.2) c.story_before.ensures

pub returns : goal.returns
returns g c = λ y is same first.
    let now = c.loop-event.invariant in
    let played = now.played y is same first in
    let last : c.loop-event.event-index ≡ length c.args.events.now = omega arith in
    story_ends y c.loop-event.told c.loop-event.world c.loop-event.event-index c.in_ok-report.report played now.told (last ∙ sym (ap length same)) (c.in_ok-report.ensures y (world y c.loop-event.event-index) played.stands)
