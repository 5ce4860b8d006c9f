use Rattle.mb_top.specs.Soaks.{soak_shape}
use Rattle.mb_answer.proofs.SameShapes.{same_shape}
use Rattle.mb_top.proofs.soak.soak_shape.Goals as goal

pub returns : goal.returns
returns c = same_shape c.in-Ok.shape soak_shape c.in-Ok.ensures.0 c.in-Ok.ensures.1 c.in-Ok.ensures.2
