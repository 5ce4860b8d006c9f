-- When one tag is forged.
use Rattle.std.proofs.Common.{◌≡◌, Bool, true, false, ◌&&◌, ◌||◌, not, Result, Ok, Err, refl, ◌∙◌}
use Rattle.std.specs.Prelude.{IfOk}

-- A faulty one's tag is never forged.
pub faulty_clean : (verified faulty made : Bool) → faulty ≡ true → false ≡ (verified && (not faulty && not made))
faulty_clean true true made e = refl
faulty_clean false faulty made e = refl
faulty_clean true false made e = absurd cc

-- Nor is one that was made.
pub made_clean : (verified faulty made : Bool) → made ≡ true → false ≡ (verified && (not faulty && not made))
made_clean true true made e = refl
made_clean true false true e = refl
made_clean false faulty made e = refl
made_clean true false false e = absurd cc

-- Else it is forged where it verifies.
pub verified_decides : (verified faulty made : Bool) → faulty ≡ false → made ≡ false → verified ≡ (verified && (not faulty && not made))
verified_decides true false false f m = refl
verified_decides false faulty made f m = refl
verified_decides true true made f m = absurd cc
verified_decides true false true f m = absurd cc

or_none : (b : Bool) → b ≡ (b || false)
or_none true = refl
or_none false = refl

-- one alone
pub one_alone : {E : Type 0} (r : Result Bool E) (b : Bool) → IfOk r (λ x. x ≡ b) → IfOk r (λ x. x ≡ (b || false))
one_alone (Ok x) b e = e ∙ or_none b
one_alone (Err x) b e = tt
