use Rattle.std.proofs.Common.{rules, arith}
use Rattle.mb_base.specs.Shapes.{IsShape}
use Rattle.mb_msg.proofs.Messages.{is_found, is_only}
use Rattle.mb_msg.proofs.whole.decode.Goals as goal

pub returns-clause-found : goal.returns-clause-found
returns-clause-found c =
    let shape : IsShape c.args.shape.now = search rules in
    is_found c.args.shape.now shape c.args.bytes.now c.read_whole.result (λ i. omega (arith, c.type_inv.bytes i)) c.read_whole.ensures

pub returns-clause-only : goal.returns-clause-only
returns-clause-only c =
    let shape : IsShape c.args.shape.now = search rules in
    λ m fits e. is_only c.args.shape.now shape c.args.bytes.now c.read_whole.result m c.read_whole.ensures fits e
