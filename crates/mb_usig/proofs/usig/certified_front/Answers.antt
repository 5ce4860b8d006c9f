use Rattle.std.specs.Int.{w64}
use Rattle.std.proofs.Common.{◌∙◌, arith}
use Rattle.mb_base.specs.Spelling.{number}
use Rattle.mb_usig.proofs.Fronts.{front-pieces}
use Rattle.mb_usig.proofs.usig.certified_front.Goals as goal

pub returns : goal.returns
unfolding number
returns c = front-pieces c.args.host (number w64 c.args.counter) c.copy_from_slice.new.self (omega (arith, c.ranges.host)) (c.copy_from_slice.ensures.after ∙ c.to_be_bytes.ensures)
