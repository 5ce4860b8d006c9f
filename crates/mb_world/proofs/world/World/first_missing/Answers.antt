use Rattle.std.proofs.Common.{is_none, not, ap, sym, ◌∙◌, arith}
use Rattle.mb_world_model.specs.World.{numbered}
use Rattle.mb_world.proofs.AllowedLaws.{missing_on, missing_here, missing_none, copied_none}
use Rattle.mb_world.proofs.world.World.first_missing.Goals as goal

pub returns-then-is_none : goal.returns-then-is_none
returns-then-is_none g c =
    missing_here (λ n. is_none (numbered c.args.self.now.pool.items n)) c.args.numbers.now c.loop-number.number-index c.loop-number-test.true
    (ap is_none (sym c.message.ensures) ∙ (copied_none c.message.result ∙ ap not (c.is_none.ensures ∙ ap not c.if-is_none.true))) c.loop-number.invariant

pub loop-number-preserved : goal.loop-number-preserved
loop-number-preserved g c =
    missing_on (λ n. is_none (numbered c.args.self.now.pool.items n)) c.args.numbers.now c.loop-number.number-index c.loop-number-test.true
    (ap is_none (sym c.message.ensures) ∙ (copied_none c.message.result ∙ ap not (c.is_none.ensures ∙ ap not c.if-is_none.false))) c.loop-number.invariant

pub returns : goal.returns
returns g c =
    missing_none (λ n. is_none (numbered c.args.self.now.pool.items n)) c.args.numbers.now c.loop-number.number-index (omega arith) c.loop-number.invariant
