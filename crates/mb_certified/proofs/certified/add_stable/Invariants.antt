use Rattle.std.proofs.Common.{◌≡◌, take}
use Rattle.mb_base.specs.declared.shape.Shape.{Shape}
use Rattle.mb_parts.specs.Fits.{FitsStable}
use Rattle.mb_certified.specs.Certified.{Adds}
use Rattle.mb_certified.proofs.Adding.{stable_with}
use Rattle.mb_certified.proofs.certified.add_stable.Given as goal

abbrev pub invariant-loop-member : goal.invariant-loop-member
invariant-loop-member l = record {
  items : l.member-items ≡ l.cert.members;
  adds : (s : Shape) → FitsStable s l.cert → Adds s l.initial.out.items l.out.items (stable_with l.cert (take l.member-index l.cert.members));
}
