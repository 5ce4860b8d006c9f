use Rattle.std.proofs.Common.{◌≡◌, take}
use Rattle.std.specs.List.{flat_map}
use Rattle.mb_parts.specs.Counted.{counted}
use Rattle.mb_parts.proofs.part.count_all.Given as goal

abbrev pub invariant-loop-part : goal.invariant-loop-part
invariant-loop-part g l = l.all ≡ counted l.so_far (flat_map g.T.Part.text (take l.part-index l.parts))
