-- An ordered list is a permitted message before an ordered list.
use Rattle.std.proofs.Common.{◌≡◌, ℕ, Bool, true, List, [], ◌∷◌, ◌++◌, refl}
use Rattle.std.proofs.lemmas.Bool.{and_parts, and_from}
use Rattle.mb_base.specs.declared.shape.Shape.{Shape}
use Rattle.mb_parts.specs.declared.floor.Floor.{Floor}
use Rattle.mb_parts.specs.Bares.{Bare}
use Rattle.mb_parts.specs.Ordered.{permits, is_ordered}

module _ (o : Floor) (s : Shape) (host : ℕ) (inner : Bare → Bool) where
  pub ordered_nil : is_ordered o s host inner [] ≡ true
  unfolding is_ordered
  ordered_nil = refl

  pub ordered_cons : (m : Bare) (l : List Bare) → permits o s host inner l m ≡ true → is_ordered o s host inner l ≡ true → is_ordered o s host inner (m ∷ l) ≡ true
  unfolding is_ordered
  ordered_cons m l a b = and_from _ _ a b

  -- The newest message is permitted behind the others.
  pub head : (m : Bare) (l : List Bare) → is_ordered o s host inner (m ∷ l) ≡ true → permits o s host inner l m ≡ true
  unfolding is_ordered
  head m l h = (and_parts (permits o s host inner l m) (is_ordered o s host inner l) h).0

  -- The others are ordered.
  pub tail : (m : Bare) (l : List Bare) → is_ordered o s host inner (m ∷ l) ≡ true → is_ordered o s host inner l ≡ true
  unfolding is_ordered
  tail m l h = (and_parts (permits o s host inner l m) (is_ordered o s host inner l) h).1

  -- Each beginning of an ordered list is ordered.
  pub ordered_before : (later l : List Bare) → is_ordered o s host inner (later ++ l) ≡ true → is_ordered o s host inner l ≡ true
  ordered_before [] l h = h
  ordered_before (m ∷ later) l h = ordered_before later l (tail m (later ++ l) h)
