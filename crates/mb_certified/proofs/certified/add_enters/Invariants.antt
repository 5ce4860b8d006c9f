use Rattle.std.proofs.Common.{◌≡◌, take}
use Rattle.mb_base.specs.declared.shape.Shape.{Shape}
use Rattle.mb_parts.specs.Fits.{FitsEvidence}
use Rattle.mb_certified.specs.Certified.{Adds}
use Rattle.mb_certified.proofs.Adding.{enters_with}
use Rattle.mb_certified.proofs.certified.add_enters.Given as goal

abbrev pub invariant-loop-member : goal.invariant-loop-member
invariant-loop-member l = record {
  items : l.member-items ≡ l.e.members;
  adds : (s : Shape) → FitsEvidence s l.e → Adds s l.initial.out.items l.out.items (enters_with l.e (take l.member-index l.e.members));
}
