use Rattle.std.proofs.Common.{◌∙◌, subst}
use Rattle.std.specs.Prelude.{OnOk}
use Rattle.mb_model.specs.Sending.{Progress}
use Rattle.mb_replica.specs.Represents.{StandsServing}
use Rattle.mb_core.proofs.Serving.{reply_is, no_reply_is}
use Rattle.mb_core.proofs.executing.with_reply.Goals as goal

-- src/executing.rt
pub returns-then-fresh : goal.returns-then-fresh
returns-then-fresh g c = λ me x p served s client fresh some.
    subst (λ (y : Progress). OnOk c.send_stored_reply.result (StandsServing me c.args.replica.now c.send_stored_reply.new.done served y)) (reply_is me p c.args.client x client (fresh ∙ c.if-fresh.true)) (c.send_stored_reply.ensures me x served s (some c.if-fresh.true))

pub returns : goal.returns
returns g c = λ me x p served s client fresh some.
    subst (StandsServing me c.args.replica.now c.args.done.now served) (no_reply_is me p x (fresh ∙ c.if-fresh.false)) s
