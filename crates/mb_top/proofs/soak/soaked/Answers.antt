use Rattle.std.proofs.Common.{◌≡◌, ◌∙◌, ◌+◌, length, Option, None, Err, ap, subst, arith}
use Rattle.mb_world_model.specs.WorldSteps.{world as any_world}
use Rattle.mb_world_model.specs.Stops.{WorldStop as Stop, stop_of}
use Rattle.mb_make.specs.Soaks.{generator_after}
use Rattle.mb_world.specs.declared.seen.Seen.{Seen}
use Rattle.mb_world.specs.Answers.{Tells}
use Rattle.mb_top.specs.Systems.{system_of, world}
use Rattle.mb_top.specs.Soaks.{soak_of}
use Rattle.mb_top.proofs.KvService.{is_system}
use Rattle.mb_top.proofs.RunLaws.{world_more}
use Rattle.mb_top.proofs.SoakLaws.{event, at, fits, unstopped, reached, drawn_next, some_made, only_memory}
use Rattle.mb_top.proofs.soak.soaked.Goals as goal

pub loop-init : goal.loop-init
unfolding any_world generator_after
loop-init c = record {
  stands = c.in_ok-world.ensures.stands c.args.seed c.args.events;
  generator = c.new-maker.ensures;
  runs = c.in_ok-world.ensures.runs;
  shape = c.in_ok-world.ensures.shape;
  count = c.in_ok-world.ensures.none;
}

pub draw-requires-clause-some : goal.draw-requires-clause-some
draw-requires-clause-some c = λ started.
    let now = c.loop.invariant in
    let s = soak_of c.args.seed c.args.events in
    let made : c.pool.result ≡ length (world s c.loop.counter).pool = c.pool.ensures.count (system_of s) (world s c.loop.counter) now.stands in
    let some = some_made c.args.seed c.args.events c.requires c.loop.counter c.loop.maker (omega arith) now.generator started in
    omega (arith, made, some)

pub world_step-requires-clause-fits : goal.world_step-requires-clause-fits
world_step-requires-clause-fits c =
    let now = c.loop.invariant in
    let s = soak_of c.args.seed c.args.events in
    let k = c.loop.counter in
    let is = drawn_next c.args.seed c.args.events c.requires k c.pool.result c.loop.maker c.draw.new.self c.in_ok-drawn.drawn c.played-event.result
    (c.pool.ensures.count (system_of s) (world s k) now.stands) now.generator c.in_ok-drawn.ensures.drawn (c.played-event.ensures (system_of s) (world s k) now.stands) in
    rw (now.shape, is.0) (fits c.args.seed c.args.events c.requires k c.loop-test.true)

pub world_step-requires-clause-has : goal.world_step-requires-clause-has
world_step-requires-clause-has c = λ runs. record {
  system = system_of (soak_of c.args.seed c.args.events);
  state = world (soak_of c.args.seed c.args.events) c.loop.counter;
  is = is_system (soak_of c.args.seed c.args.events);
  reached = reached c.args.seed c.args.events c.requires c.loop.counter c.loop-test.true;
  represents = c.loop.invariant.stands;
}

pub want_of_memory-requires : goal.want_of_memory-requires
want_of_memory-requires c =
    let now = c.loop.invariant in
    let s = soak_of c.args.seed c.args.events in
    let k = c.loop.counter in
    let is = drawn_next c.args.seed c.args.events c.requires k c.pool.result c.loop.maker c.draw.new.self c.in_ok-drawn.drawn c.played-event.result
    (c.pool.ensures.count (system_of s) (world s k) now.stands) now.generator c.in_ok-drawn.ensures.drawn (c.played-event.ensures (system_of s) (world s k) now.stands) in
    let none : stop_of s (world s k) c.played-event.result ≡ None = ap (stop_of s (world s k)) is.0 ∙ unstopped c.args.seed c.args.events c.requires k c.loop-test.true in
    let told = subst (λ (o : Option Stop). Tells {A = Seen} o (Err c.in-Err.stop)) none (c.in-Err.ensures.stops (system_of s) (world s k) now.stands) in
    only_memory c.loop.world c.world_step.new.self c.in-Err.stop now.runs told c.in-Err.ensures.halts

pub loop-preserved : goal.loop-preserved
loop-preserved c =
    let now = c.loop.invariant in
    let s = soak_of c.args.seed c.args.events in
    let k = c.loop.counter in
    let is = drawn_next c.args.seed c.args.events c.requires k c.pool.result c.loop.maker c.draw.new.self c.in_ok-drawn.drawn c.played-event.result
    (c.pool.ensures.count (system_of s) (world s k) now.stands) now.generator c.in_ok-drawn.ensures.drawn (c.played-event.ensures (system_of s) (world s k) now.stands) in
    let next = (c.in-Ok.ensures.stands (system_of s) (world s k) (is_system s) (reached c.args.seed c.args.events c.requires k c.loop-test.true) now.stands).stands in
    let more = world_more s k (event c.args.seed c.args.events c.requires k c.loop-test.true) (at c.args.seed c.args.events c.requires k c.loop-test.true) in
    record {
      stands = rw (more, ← is.0) next;
      generator = is.1;
      runs = c.in-Ok.ensures.halts.1;
      shape = c.in-Ok.ensures.shape ∙ now.shape;
      count = c.in-Ok.ensures.counts ∙ ap (λ n. n + 1) now.count;
    }
