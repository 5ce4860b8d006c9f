-- What an option says of the parts that it was made of.
use Rattle.std.proofs.Common.{◌≡◌, Bool, true, false, refl, inl, inr, ◌⊎◌, Option, Some, None}
use Rattle.std.specs.Prelude.{if◌then◌else◌, option_map}
use Rattle.std.specs.Bool.{then_some}
use Rattle.std.specs.Option.{option_or}

module _ {A : Type 0} where
  pub option_cases : (o : Option A) → (o ≡ None) ⊎ ((x : A) × (o ≡ Some x))
  option_cases None = inl refl
  option_cases (Some x) = inr (x, refl)

  -- the first of two, or else the second
  pub or_some : (x y : Option A) (z : A) → option_or x y ≡ Some z → (x ≡ Some z) ⊎ (y ≡ Some z)
  or_some None y z e = inr e
  or_some (Some x) y z e = inl e

  -- a chain of checks that finds nothing
  pub or_none : (x y : Option A) → option_or x y ≡ None → (x ≡ None) × (y ≡ None)
  or_none None y e = (refl, e)
  or_none (Some x) y e = absurd cc

  pub then_none : (b : Bool) (x : A) → then_some b x ≡ None → b ≡ false
  then_none true x e = absurd cc
  then_none false x e = refl

  pub if_some : (b : Bool) (o : Option A) (z : A) → (if b then o else None) ≡ Some z → (b ≡ true) × (o ≡ Some z)
  if_some true o z e = (refl, e)
  if_some false o z e = absurd cc

pub map_some : {A B : Type 0} (f : A → B) (o : Option A) (z : B) → option_map f o ≡ Some z → (x : A) × (o ≡ Some x) × (f x ≡ z)
map_some f None z e = absurd cc
map_some f (Some x) z e = (x, refl, cc)

-- what holds of both holds of the one that is chosen
pub of_both : {A : Type 0} (P : A → Type 0) (t : Bool) (x y : A) → P x → P y → P (if t then x else y)
of_both P true x y p q = p
of_both P false x y p q = q

pub or_nothing : {A : Type 0} (o : Option A) → option_or o None ≡ o
or_nothing None = refl
or_nothing (Some x) = refl
