use Rattle.std.proofs.Common.{◌+◌, ◌<◌, ◌≤◌, Option, length, subst, ◌∙◌, arith}
use Rattle.mb_model.specs.declared.known.KnownSlot.{KnownSlot}
use Rattle.mb_normal.specs.Ordered.{AreMore, greatest_in_known}
use Rattle.mb_normal.proofs.Greatest.{none_counted, one_counted, all_counted}
use Rattle.mb_normal.proofs.slots.recount.Goals as goal

pub loop-step-init : goal.loop-step-init
loop-step-init c = record { places = c.forget.ensures.length; counted = none_counted c.args.window.now.items c.forget.new.numbers.items c.forget.ensures.zero }

pub loop-step-preserved : goal.loop-step-preserved
loop-step-preserved c =
    let w = c.args.window.now in
    let low_is = c.low-low.ensures in
    let width = c.requires.width in
    let end = c.from-step-end.ensures in
    let lt : c.loop-step.step < length w.items = omega (arith, width, end, c.loop-step-test.true) in
    record {
      places = c.note.ensures.length ∙ c.loop-step.invariant.places;
      counted = one_counted w c.loop-step.step (c.low-low.result + 1 + c.loop-step.step) c.loop-step.numbers.items c.note.new.numbers.items lt (omega (arith, low_is)) c.note.ensures.length
          (subst (λ (o : Option KnownSlot). AreMore (λ k. greatest_in_known k o) c.loop-step.numbers.items c.note.new.numbers.items) c.get.ensures c.note.ensures.max) c.loop-step.invariant.counted;
    }

pub returns-clause-all : goal.returns-clause-all
returns-clause-all c =
    let w = c.args.window.now in
    let width = c.requires.width in
    let end = c.from-step-end.ensures in
    let le : length w.items ≤ c.loop-step.step = omega (arith, width, end, c.loop-step-test.false) in
    all_counted w.items c.loop-step.step c.loop-step.numbers.items le c.loop-step.invariant.counted
