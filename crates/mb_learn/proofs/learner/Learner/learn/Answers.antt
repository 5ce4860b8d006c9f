use Rattle.std.proofs.Common.{rules, ◌≡◌, [], ◌∷◌, ◌++◌, Err, refl, sym, ap, subst, ◌∙◌, arith, length}
use Rattle.mb_cache.specs.Represents.{machine_of, snapshots_of}
use Rattle.mb_learn.specs.declared.learner.LearnStop.TheVariants as stop
use Rattle.mb_learn.specs.declared.line.Line.{Line}
use Rattle.mb_learn.specs.Running.{IsRunning}
use Rattle.mb_learn.proofs.Finishing.{running_taken, running_kept, call_stops, call_goes, stops_otherwise}
use Rattle.mb_learn.proofs.Tests.{true_false}
use Rattle.mb_learn.proofs.learner.Learner.learn.Goals as goal

pub returns-then-self : goal.returns-then-self
returns-then-self g c = record {
  answers = λ s secret initial taken slots rep. true_false (sym c.if-self.true ∙ rep.runs);
  halts = (c.if-self.true, refl);
}

pub returns-in_err-take : goal.returns-in_err-take
returns-in_err-take g c =
    let failed : c.from_residual.result ≡ Err stop.NoMemory = search rules in
    record {
      answers = λ s secret initial taken slots rep. rw failed refl;
      halts = rw failed (c.if-self.false, refl);
    }

pub execute_proved-requires : goal.execute_proved-requires
execute_proved-requires g c = record {
  halted = refl;
  running = running_taken c.args.self.now.heard c.take.new.self c.args.self.now.line c.in_ok-take.ensures.keeps (c.args.self.now.runs c.if-self.false);
}

pub returns-in_err-execute_proved : goal.returns-in_err-execute_proved
returns-in_err-execute_proved g c =
    let failed : c.from_residual-in_err-execute_proved.result ≡ Err stop.NoMemory = search rules in
    record {
      answers = λ s secret initial taken slots rep. rw failed c.execute_proved.ensures.halted;
      halts = rw failed (c.if-self.false, c.execute_proved.ensures.halted);
    }

pub returns-in_err-compare : goal.returns-in_err-compare
returns-in_err-compare g c =
    let failed : c.from_residual-in_err-compare.result ≡ Err c.in_err-compare.field-0.0 = search rules in
    let done = c.in_err-compare.ensures in
    record {
      answers = λ s secret initial taken slots rep.
          let hears = c.in_ok-take.ensures.takes s secret taken rep.lists rep.hears in
          rw failed
          (call_stops s secret (machine_of g.V.Service.machine) (snapshots_of g.V.Service.machine) initial taken c.args.bytes.now slots c.args.self.now c.execute_proved.new.self rep c.take.new.self hears
          c.in_ok-take.ensures.keeps.news c.in_ok-execute_proved.ensures.news (λ lists e. c.in_ok-execute_proved.ensures.executed s secret initial (taken ++ c.args.bytes.now ∷ []) lists slots e)
          c.in_err-compare.field-0.0 c.compare.new.self done.compares (done.halted ∙ c.execute_proved.ensures.halted));
      halts = rw failed (stops_otherwise c.args.self.now c.execute_proved.new.self c.compare.new.self c.in_err-compare.field-0.0 done.compares c.if-self.false (done.halted ∙ c.execute_proved.ensures.halted));
    }

pub overflow_sub-result : goal.overflow_sub-result
overflow_sub-result g c =
    let same = ap (λ (l : Line _). length l.slots.items) c.in_ok-compare.ensures.line in
    omega (arith, same, c.executed.ensures, c.executed-before.ensures, c.in_ok-execute_proved.ensures.longer)

pub invariant_of-self-2 : goal.invariant_of-self-2
invariant_of-self-2 g c =
    let done = c.in_ok-compare.ensures in
    record {
      runs = λ on. subst (λ (l : Line _). IsRunning c.compare.new.self.heard l) (sym done.line)
          (running_kept c.execute_proved.new.self.heard c.compare.new.self.heard c.execute_proved.new.self.line done.heard c.in_ok-execute_proved.ensures.running);
    }

pub returns : goal.returns
returns g c = record {
  answers = λ s secret initial taken slots rep.
      let hears = c.in_ok-take.ensures.takes s secret taken rep.lists rep.hears in
      let done = c.in_ok-compare.ensures in
      let same = ap (λ (l : Line _). length l.slots.items) done.line in
      call_goes s secret (machine_of g.V.Service.machine) (snapshots_of g.V.Service.machine) initial taken c.args.bytes.now slots c.args.self.now c.execute_proved.new.self rep c.take.new.self hears
      c.in_ok-take.ensures.keeps.news c.in_ok-execute_proved.ensures.news (λ lists e. c.in_ok-execute_proved.ensures.executed s secret initial (taken ++ c.args.bytes.now ∷ []) lists slots e)
      _ _ done.compares refl done.line done.heard done.news (omega (arith, same, c.executed.ensures, c.executed-before.ensures));
  halts = (c.if-self.false, refl);
}
