-- Members of lists, by recursion.
--
-- `In` is what `Contains` says. Behind both ways between the two: members of joined lists, what holds of all members or of some, and members of a
-- mapped list.
use Rattle.std.proofs.Common.{◌≡◌, zero, suc, List, [], ◌∷◌, ◌++◌, map, refl, ap, subst, inl, inr, arith, Bool, true}
use Rattle.std.specs.Prelude.{Contains}
use Rattle.std.specs.List.{AllByRecursion, list_any}
use Rattle.std.proofs.lemmas.Bool.{or_cases}
use Rattle.mb_model.specs.Members.{In}

module _ {A : Type 0} where
  pub in_contained : (l : List A) (x : A) → Contains l x → In l x
  in_contained [] x c = let lt = c.1 in absurd (omega arith)
  in_contained (y ∷ l) x (zero, lt, at) = inl at
  in_contained (y ∷ l) x (suc i, lt, at) = inr (in_contained l x (i, omega arith, at))

  pub contained : (l : List A) (x : A) → In l x → Contains l x
  contained [] x i = absurd i
  contained (y ∷ l) x (inl is) = (0, omega arith, is)
  contained (y ∷ l) x (inr i) = let c = contained l x i in let lt = c.1 in (suc c.0, omega arith, c.2)

  pub in_left : (a b : List A) (x : A) → In a x → In (a ++ b) x
  in_left [] b x i = absurd i
  in_left (y ∷ a) b x (inl is) = inl is
  in_left (y ∷ a) b x (inr i) = inr (in_left a b x i)

  pub in_right : (a b : List A) (x : A) → In b x → In (a ++ b) x
  in_right [] b x i = i
  in_right (y ∷ a) b x i = inr (in_right a b x i)

  -- what holds of all members holds of each
  pub all_in : (P : A → Type 0) (l : List A) (x : A) → AllByRecursion P l → In l x → P x
  all_in P [] x all i = absurd i
  all_in P (y ∷ l) x all (inl is) = subst P is all.0
  all_in P (y ∷ l) x all (inr i) = all_in P l x all.1 i

  -- where a member passes the test, here is one
  pub any_in : (p : A → Bool) (l : List A) → list_any p l ≡ true → (x : A) × (In l x) × (p x ≡ true)
  any_in p [] e = absurd cc
  any_in p (y ∷ l) e = elim (or_cases (p y) (list_any p l) e) [
    | inl here ↦ (y, inl refl, here)
    | inr later ↦ let r = any_in p l later in (r.0, inr r.1, r.2)
  ]

pub in_map : {A B : Type 0} (f : A → B) (l : List A) (x : A) → In l x → In (map f l) (f x)
in_map f [] x i = absurd i
in_map f (y ∷ l) x (inl is) = inl (ap f is)
in_map f (y ∷ l) x (inr i) = inr (in_map f l x i)
