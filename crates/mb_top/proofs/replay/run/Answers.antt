use Rattle.std.proofs.Common.{◌≡◌, ◌∙◌, ◌+◌, drop, reverse, length, refl, ap, sym, subst, arith}
use Rattle.std.proofs.lemmas.List.{length-reverse}
use Rattle.mb_world_model.specs.World.{World as WorldState}
use Rattle.mb_world_model.specs.WorldSteps.{world as any_world}
use Rattle.mb_members.proofs.LeftLaws.{one_longer}
use Rattle.mb_unforged.proofs.Reached.{reached_at}
use Rattle.mb_world.specs.Tables.{RepresentsWorld}
use Rattle.mb_top.specs.declared.replay.RunStop.{RunStop}
use Rattle.mb_top.specs.Systems.{system_of, world}
use Rattle.mb_top.specs.Runs.{AreUnstopped, run_stop_of, StopsAt}
use Rattle.mb_top.proofs.KvService.{is_system}
use Rattle.mb_top.proofs.RunLaws.{all_left, next_left, world_more, unstopped_more, stops_there}
use Rattle.mb_top.proofs.replay.run.Goals as goal

pub loop-event-init : goal.loop-event-init
unfolding any_world
loop-event-init c =
    let s = c.args.schedule in
    let none = c.in_ok-world.ensures.none in
    let kept = c.into_vec-left.result.items in
    let turned = c.reverse.ensures.items in
    record {
      left = ap (λ n. drop n s.events) none ∙ all_left s.events kept c.reverse.new.self.items c.into_vec-left.ensures turned;
      count = omega (arith, none, ap length turned, length-reverse kept, ap length c.into_vec-left.ensures);
      stands = subst (λ (x : WorldState). RepresentsWorld (system_of s) c.in_ok-world.world x) (sym (ap (world s) none)) c.in_ok-world.ensures.stands;
      unstopped = λ i e lt at. absurd (omega (arith, none, lt));
      runs = c.in_ok-world.ensures.runs;
      shape = c.in_ok-world.ensures.shape;
    }

pub world_step-requires-clause-fits : goal.world_step-requires-clause-fits
world_step-requires-clause-fits c =
    let now = c.loop-event.invariant in
    let k = c.loop-event.world.events in
    let next = next_left c.args.schedule.events k c.loop-event.left.items c.pop.new.self.items c.in-Some.event c.in-Some.ensures.items now.left in
    rw now.shape (c.requires.events k c.in-Some.event next.0)

pub world_step-requires-clause-has : goal.world_step-requires-clause-has
world_step-requires-clause-has c = λ runs. record {
  system = system_of c.args.schedule;
  state = world c.args.schedule c.loop-event.world.events;
  is = is_system c.args.schedule;
  reached = reached_at (system_of c.args.schedule) c.loop-event.world.events c.loop-event.invariant.unstopped;
  represents = c.loop-event.invariant.stands;
}

pub returns-in-Err : goal.returns-in-Err
returns-in-Err c =
    let now = c.loop-event.invariant in
    let s = c.args.schedule in
    let k = c.loop-event.world.events in
    let next = next_left s.events k c.loop-event.left.items c.pop.new.self.items c.in-Some.event c.in-Some.ensures.items now.left in
    let told : StopsAt s (run_stop_of (k + 1) c.in-Err.stop) = stops_there s k c.in-Some.event next.0 now.unstopped (sym now.stands.rest.events) c.in-Err.stop (c.in-Err.ensures.stops (system_of s) (world s k) now.stands) in
    subst (λ (r : RunStop). StopsAt s r) (sym (c.run_stop.ensures ∙ ap (λ i. run_stop_of (i + 1) c.in-Err.stop) c.events-number.ensures)) told

pub loop-event-preserved : goal.loop-event-preserved
loop-event-preserved c =
    let now = c.loop-event.invariant in
    let s = c.args.schedule in
    let k = c.loop-event.world.events in
    let next = next_left s.events k c.loop-event.left.items c.pop.new.self.items c.in-Some.event c.in-Some.ensures.items now.left in
    let more = c.in-Ok.ensures.counts in
    let room = c.let_go.ensures in
    record {
      left = ap (λ n. drop n s.events) more ∙ (next.1 ∙ ap reverse (sym room));
      count = omega (arith, more, now.count, one_longer c.pop.new.self.items c.loop-event.left.items c.in-Some.event (length c.pop.new.self.items) c.in-Some.ensures.items refl, ap length room);
      stands = subst (λ (x : WorldState). RepresentsWorld (system_of s) c.world_step.new.self x) (sym (ap (world s) more ∙ world_more s k c.in-Some.event next.0))
          (c.in-Ok.ensures.stands (system_of s) (world s k) (is_system s) (reached_at (system_of s) k now.unstopped) now.stands).stands;
      unstopped = subst (λ n. AreUnstopped s n) (sym more) (unstopped_more s k c.in-Some.event next.0 now.unstopped (c.in-Ok.ensures.stops (system_of s) (world s k) now.stands));
      runs = c.in-Ok.ensures.halts.1;
      shape = c.in-Ok.ensures.shape ∙ now.shape;
    }

pub returns : goal.returns
returns c =
    let now = c.loop-event.invariant in
    let none : length c.loop-event.left.items ≡ 0 = omega (arith, c.in_default.ensures.cases, c.loop-event.left.ok.0) in
    let last : c.loop-event.world.events ≡ length c.args.schedule.events = omega (arith, now.count, none) in
    rw (← last) (now.unstopped, now.stands)
