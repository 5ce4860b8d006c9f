use Rattle.std.proofs.Common.{IfOk, subst}
use Rattle.mb_msg.specs.declared.message.Message.{Message}
use Rattle.mb_msg.specs.Spelling.{spelling}
use Rattle.mb_world_model.specs.World.{made}
use Rattle.mb_world.specs.Answers.{as_answer}
use Rattle.mb_world.specs.Tables.{Leaves}
use Rattle.mb_world.proofs.world.World.tag_reply.Goals as goal

pub returns-clause-stands : goal.returns-clause-stands
returns-clause-stands g c = λ y x h faulty.
    subst (λ (m : Message). IfOk c.add.result (λ a. Leaves y c.add.new.self (as_answer a) x (made y.schedule (spelling m) x))) (c.in_ok-message.ensures.message y x h faulty) (c.add.ensures.stands y x h)
