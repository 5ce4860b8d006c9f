use Rattle.std.proofs.Common.{◌++◌, ◌∷◌, [], ℕ, sym, ap, subst, ◌∙◌, arith}
use Rattle.mb_base.specs.declared.shape.Shape.{Shape}
use Rattle.mb_parts.specs.Fits.{FitsBatch}
use Rattle.mb_cache.specs.Represents.{machine_of, snapshots_of}
use Rattle.mb_learn.proofs.Finishing.{executing_first, executing_next, executing_last}
use Rattle.mb_learn.proofs.learner.Learner.execute_proved.Goals as goal

pub loop-batch-init : goal.loop-batch-init
loop-batch-init g c = (executing_first (machine_of g.V.Service.machine) (snapshots_of g.V.Service.machine) c.args.self.now.heard c.args.self.now.line c.requires.running, c.requires.halted)

pub proved-requires : goal.proved-requires
proved-requires g c = c.loop-batch.invariant.0.running.ready

pub execute-requires : goal.execute-requires
execute-requires g c =
    let run = c.loop-batch.invariant.0.running in
    record {
      fits = subst (λ (s : Shape). FitsBatch s c.in-Some.batch.now) (sym run.shape) c.in-Some.ensures.fits;
      clients = run.clients;
      place = omega (arith, run.place, c.in-Some.ensures.next.low);
    }

pub loop-batch-preserved : goal.loop-batch-preserved
loop-batch-preserved g c =
    let now = c.loop-batch.self in
    let rest = c.in_ok-execute.ensures.rest in (
      executing_next (machine_of g.V.Service.machine) (snapshots_of g.V.Service.machine) c.args.self.now.heard c.args.self.now.line now.heard now.line c.loop-batch.invariant.0
          c.execute.new.self c.raise.new.self c.push.new.self c.in-Some.batch.now (λ s initial l ex. c.in_ok-execute.ensures.executes s initial l ex)
          (λ s secret claims said shown lists h. c.in-Some.ensures.some s secret claims said shown lists h) c.raise.ensures.raises
          (c.in_ok-push.ensures.items ∙ ap (λ (n : ℕ). now.heard.newly_said.items ++ n ∷ []) c.executed.ensures) rest.2 c.in-Some.ensures.next.low rest.0 rest.1,
      c.loop-batch.invariant.1,
    )

pub loop-batch-smaller : goal.loop-batch-smaller
loop-batch-smaller g c = c.raise.ensures.fewer c.in-Some.ensures.next.there

pub returns : goal.returns
returns g c =
    let now = c.loop-batch.self in
    let done = c.loop-batch.invariant.0 in
    record {
      running = done.running;
      halted = c.loop-batch.invariant.1;
      longer = done.longer;
      executed = λ s secret initial taken lists slots e.
          executing_last (machine_of g.V.Service.machine) (snapshots_of g.V.Service.machine) c.args.self.now.heard c.args.self.now.line now.heard now.line done
          (λ z k claims said shown ls h b next. c.in_default.ensures.none z k claims said shown ls h b next) s secret initial taken lists slots e;
      news = done.news;
    }
