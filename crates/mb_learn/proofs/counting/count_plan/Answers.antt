use Rattle.std.proofs.Common.{◌+◌, length, List, take_all, slice_get, sym, ap, subst, ◌∙◌, arith}
use Rattle.std.proofs.lemmas.Option.{slice_get-get_or}
use Rattle.mb_base.specs.Shapes.{Bytes}
use Rattle.mb_learn.specs.Tables.{votes_so, AddsVotes}
use Rattle.mb_learn.proofs.CountedVotes.{plan_first, plan_next}
use Rattle.mb_learn.proofs.counting.count_plan.Goals as goal

pub loop-digest-init : goal.loop-digest-init
loop-digest-init c = (plan_first c.args.plan.now.base c.args.plan.now.batches c.args.opening.now c.args.votes.now, omega arith)

pub loop-digest-preserved : goal.loop-digest-preserved
loop-digest-preserved c =
    let l = c.args.plan.now.batches in
    let at = c.loop-digest.invariant.1 in
    let within = c.loop-digest-test.true in
    let long = ap (λ (x : List Bytes). length x) c.as_slice-digest-items.ensures in (
      plan_next c.args.plan.now.base l c.loop-digest.digest-index _ (ap (λ (x : List Bytes). slice_get x c.loop-digest.digest-index) (sym c.as_slice-digest-items.ensures) ∙ slice_get-get_or c.as_slice-digest-items.result.now c.loop-digest.digest-index _ c.loop-digest-test.true)
          c.args.opening.now c.args.votes.now c.loop-digest.votes c.add.new.self (c.loop-digest.pos + 1) (omega (arith, at)) (omega (arith, at, within, long, c.requires)) c.loop-digest.invariant.0 c.in_ok-add.ensures,
      omega (arith, at),
    )

pub returns : goal.returns
returns c =
    subst (λ (l : List Bytes). AddsVotes (votes_so c.args.opening.now (record { base = c.args.plan.now.base; digests = l })) c.args.votes.now c.loop-digest.votes)
    (take_all c.loop-digest.digest-index c.args.plan.now.batches (omega (arith, c.loop-digest-test.false, ap (λ (x : List Bytes). length x) c.as_slice-digest-items.ensures))) c.loop-digest.invariant.0
