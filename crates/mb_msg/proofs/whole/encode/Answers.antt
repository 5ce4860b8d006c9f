use Rattle.std.proofs.Common.{rules}
use Rattle.mb_base.specs.Shapes.{IsShape}
use Rattle.mb_msg.proofs.Messages.{message_again}
use Rattle.mb_msg.proofs.whole.encode.Goals as goal

pub returns-clause-back : goal.returns-clause-back
returns-clause-back c =
    let shape : IsShape c.args.shape.now = search rules in
    message_again c.args.shape.now shape c.args.message.now c.requires
