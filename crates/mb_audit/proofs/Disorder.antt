-- A message that may not stand behind those that are taken makes a list that is not in order.
use Rattle.std.proofs.Common.{ℕ, ◌&&◌, Bool, List, [], ◌∷◌, ap, subst, arith}
use Rattle.mb_base.specs.Shapes.{Bytes}
use Rattle.mb_base.specs.declared.shape.Shape.{Shape}
use Rattle.mb_parts.specs.Bares.{Bare}
use Rattle.mb_parts.specs.Certificates.{inner_valid}
use Rattle.mb_parts.specs.Ordered.{initial_floor, is_ordered}
use Rattle.mb_model.specs.Verified.{verifies}
use Rattle.mb_audit.specs.declared.auditing.Verdict.TheVariants.{Illegal}
use Rattle.mb_audit.specs.Verdicts.{IsOnly, AreTaken, IsVerdict, AreAlone, AreDisordered, IllegalIsDisorder}

module _ (s : Shape) (secret : Bytes) (given : List Bytes) (host : ℕ) where
  taken_alone : (l : List Bare) → AreTaken s secret given host l → AreAlone s secret given host l
  taken_alone [] taken = tt
  taken_alone (m ∷ l) taken = (taken.0, taken_alone l taken.2)

  pub disordered : (counter rule : ℕ) → IsVerdict s secret given host (Illegal counter rule) → AreDisordered s secret given host counter
  unfolding is_ordered
  disordered counter rule v =
      let at = v.next.0 in
      let found = v.next.1 in
      record {
        stamped = found.0 ∷ v.before;
        count = omega (arith, at);
        alone = (subst (λ (n : ℕ). IsOnly s secret given host n found.0) at found.1, taken_alone v.before v.taken);
        refused = ap (λ (b : Bool). b && is_ordered initial_floor s host (inner_valid s (verifies secret)) v.before) found.2;
      }

pub illegal_disordered : IllegalIsDisorder
illegal_disordered s secret given host counter rule v = disordered s secret given host counter rule v
