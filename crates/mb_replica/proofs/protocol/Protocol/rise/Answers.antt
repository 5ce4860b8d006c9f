use Rattle.std.proofs.Common.{◌∙◌, ap}
use Rattle.std.specs.Prelude.{◌%◌}
use Rattle.mb_base.specs.declared.shape.Shape.{Shape}
use Rattle.mb_base.specs.Shapes.{interval}
use Rattle.mb_normal.specs.Searches.{above_low}
use Rattle.mb_refinement.proofs.Positions.{left_by_call}
use Rattle.mb_replica.proofs.Keeping.{multiple}
use Rattle.mb_replica.proofs.protocol.Protocol.rise.Goals as goal

-- src/learning.rt
pub raise-requires-clause-multiple : goal.raise-requires-clause-multiple
raise-requires-clause-multiple c =
    let a = c.args.self.now in
    multiple c.args.cert.pos (interval a.normal.shape) (ap (λ (s : Shape). c.args.cert.pos % interval s) a.normal_is.0 ∙ c.requires.base.1)

pub invariant_of-self-clause-normal_is : goal.invariant_of-self-clause-normal_is
invariant_of-self-clause-normal_is c =
    let a = c.args.self.now in
    let left = left_by_call a.normal c.raise.new.self (λ x. above_low x c.args.cert.pos) c.raise.ensures in
    (left.shape_is ∙ a.normal_is.0, left.host_is ∙ a.normal_is.1)

pub invariant_of-self-clause-low_is : goal.invariant_of-self-clause-low_is
invariant_of-self-clause-low_is c =
    let a = c.args.self.now in
    (left_by_call a.normal c.raise.new.self (λ x. above_low x c.args.cert.pos) c.raise.ensures).low_is
