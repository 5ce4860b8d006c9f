use Rattle.std.proofs.Common.{◌≡◌, ◌∷◌, ◌++◌, [], ◌+◌, ◌∙◌, List, Err, length, ap, sym, subst, take, arith}
use Rattle.std.proofs.lemmas.List.{take_more, take_all}
use Rattle.std.proofs.lemmas.Result.{err_from_is_err_and}
use Rattle.mb_sched.specs.declared.records.Entry.{Entry}
use Rattle.mb_node.specs.Retracing.{AreOwn, Retraces}
use Rattle.mb_node.proofs.Retraced.{IsRetraced, retraced_none, retraced_more, retraced_err}
use Rattle.mb_node.proofs.retracing.retrace.Goals as goal

pub loop-entry-init : goal.loop-entry-init
loop-entry-init g c =
    let made = c.in_ok-replica.ensures in
    record {
      own = λ me serves first of. retraced_none me c.in_ok-replica.replica
          (made.stands me serves first (record { shape = of.shape ∙ sym made.host.0; host = of.host ∙ sym made.host.1; secret = of.secret ∙ sym made.host.2 })) tt;
      count = omega arith;
      runs = made.runs;
      rests = made.rests;
    }

pub returns-in_err-compare : goal.returns-in_err-compare
returns-in_err-compare g c = λ me serves first of.
    let p = err_from_is_err_and c.from_residual-in_err-compare.result c.from_residual-in_err-compare.ensures.1 in
    let so_far = c.loop-entry.invariant in
    let xs = c.as_slice-entry-items.result.now in
    let before = so_far.own me serves first of in
    rw (p.1, p.2) (subst (λ (l : List Entry). Retraces me l (Err c.in_err-compare.field-0.0)) c.as_slice-entry-items.ensures
    (retraced_err me xs c.loop-entry.entry-index c.entry-item.result c.loop-entry.replica c.compare.new.replica (c.loop-entry.events + 1) c.in_err-compare.field-0.0 c.loop-entry-test.true c.entry-item.is (omega (arith, so_far.count)) before
    (c.in_err-compare.ensures.compares me _ serves before.represents before.whole)))

pub loop-entry-preserved : goal.loop-entry-preserved
loop-entry-preserved g c =
    let so_far = c.loop-entry.invariant in
    let xs = c.as_slice-entry-items.result.now in
    let i = c.loop-entry.entry-index in
    let e = c.entry-item.result in
    let more : take (i + 1) xs ≡ take i xs ++ e ∷ [] = take_more xs i e c.loop-entry-test.true ∙ ap (λ (x : Entry). take i xs ++ x ∷ []) (sym c.entry-item.is) in
    record {
      own = λ me serves first of.
          let before = so_far.own me serves first of in
          subst (λ (l : List Entry). IsRetraced me l c.compare.new.replica) (sym more) (retraced_more me (take i xs) e _ _ before (c.in_ok-compare.ensures.compares me _ serves before.represents before.whole));
      count = omega (arith, so_far.count);
      runs = c.in_ok-compare.ensures.runs;
      rests = c.in_ok-compare.ensures.rests;
    }

pub returns : goal.returns
returns g c = λ me serves first of.
    let so_far = c.loop-entry.invariant in
    let xs = c.as_slice-entry-items.result.now in
    let i = c.loop-entry.entry-index in
    let all : take i xs ≡ xs = take_all i xs (omega (arith, c.loop-entry-test.false)) in
    let count : c.loop-entry.events ≡ length xs = omega (arith, so_far.count, c.loop-entry-test.false, c.loop-entry.auto.entry-index-end) in
    (subst (AreOwn me) (all ∙ c.as_slice-entry-items.ensures) (so_far.own me serves first of).own, count ∙ ap length c.as_slice-entry-items.ensures)
