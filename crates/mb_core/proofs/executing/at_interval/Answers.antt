use Rattle.std.proofs.Common.{sym, subst, true, false}
use Rattle.std.specs.Prelude.{OnOk}
use Rattle.mb_model.specs.CarriedOut.{state_strings}
use Rattle.mb_model.specs.Sending.{Progress, note}
use Rattle.mb_replica.specs.Represents.{StandsAt}
use Rattle.mb_core.proofs.Closing.{interval_is, no_interval_is, noted, multiple_is}
use Rattle.mb_core.proofs.executing.at_interval.Goals as goal

-- src/executing.rt
pub with_checkpoint-requires-clause-interval : goal.with_checkpoint-requires-clause-interval
with_checkpoint-requires-clause-interval g c = sym c.if-is_at_interval.ensures

pub returns-then-is_at_interval : goal.returns-then-is_at_interval
returns-then-is_at_interval g c = λ me x serves s just.
    let r = c.args.replica.now in
    let pos = c.args.pos in
    let whole = multiple_is me r x.history pos true s.represents (sym c.if-is_at_interval.ensures) in
    subst (λ (y : Progress). OnOk c.with_checkpoint.result (StandsAt me c.with_checkpoint.new.replica c.with_checkpoint.new.done y)) (interval_is me pos x whole)
    (c.with_checkpoint.ensures me (note (state_strings me x.history pos) x) serves (noted me r c.args.done.now (state_strings me x.history pos) x s) just)

pub returns : goal.returns
returns g c = λ me x serves s just.
    let r = c.args.replica.now in
    let apart = multiple_is me r x.history c.args.pos false s.represents (sym c.if-is_at_interval.ensures) in
    subst (StandsAt me r c.args.done.now) (no_interval_is me c.args.pos x apart) s
