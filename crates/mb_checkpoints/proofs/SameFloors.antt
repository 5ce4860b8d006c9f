-- Floors that the test finds equal are the same.
use Rattle.std.proofs.Common.{rules, ◌≡◌, true, List, Option, Some, None, refl, ap, subst}
use Rattle.std.specs.Option.{option_eq}
use Rattle.std.specs.Cmp.Lexicographic.{pointwise, pointwise_decides}
use Rattle.mb_parts.specs.declared.floor.Floor.{Floor}
use Rattle.mb_parts.specs.contracts.floor.FloorPartialEq.TheImpl as floor
use Rattle.mb_msg.specs.declared.normal.Floors.{Floors}
use Rattle.mb_msg.specs.contracts.normal.FloorsPartialEq.TheImpl as all

floor_is : (a b : Floor) → floor.ghosts.eq a b ≡ true → a ≡ b
floor_is a b h = search rules

floor_own : (a : Floor) → floor.ghosts.eq a a ≡ true
floor_own a = search rules

place_is : (a b : Option Floor) → option_eq floor.ghosts.eq a b ≡ true → a ≡ b
place_is None None h = refl
place_is None (Some b) h = absurd cc
place_is (Some a) None h = absurd cc
place_is (Some a) (Some b) h = ap (λ (x : Floor). Some x) (floor_is a b h)

place_own : (a : Option Floor) → option_eq floor.ghosts.eq a a ≡ true
place_own None = refl
place_own (Some a) = floor_own a

floors_of : List (Option Floor) → Floors
floors_of places = record { floors = places }

places_decide : (l r : List (Option Floor)) → (pointwise (option_eq floor.ghosts.eq) l r ≡ true → l ≡ r) × (l ≡ r → pointwise (option_eq floor.ghosts.eq) l r ≡ true)
places_decide = pointwise_decides (λ x y. (place_is x y, λ e. subst (λ (z : Option Floor). option_eq floor.ghosts.eq x z ≡ true) e (place_own x)))

pub same_floors : (a b : Floors) → all.ghosts.eq a b ≡ true → a ≡ b
unfolding floors_of
same_floors a b h = ap floors_of ((places_decide a.floors b.floors).0 h)
