-- A value of the type of shapes has its limits.
use Rattle.std.proofs.Common.{rules}
use Rattle.mb_base.specs.declared.shape.Shape.{Shape}
use Rattle.mb_base.specs.Shapes.{IsShape}

pub shape_fits : (s : Shape) → IsShape s
shape_fits s = search rules
