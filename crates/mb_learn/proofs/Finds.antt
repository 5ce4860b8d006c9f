-- What is found in a list, and what is in two lists.
use Rattle.std.proofs.Common.{◌≡◌, ℕ, ◌+◌, ◌⊎◌, Bool, true, false, cond, List, [], ◌∷◌, ◌++◌, find, take, slice_get, Option, Some, None, IsSome, is_some, refl, sym, ap, subst, ◌∙◌, inl, inr}
use Rattle.std.specs.Option.{option_or}
use Rattle.std.proofs.lemmas.Bool.{cases_Bool}
use Rattle.std.proofs.lemmas.Option.{same_Some, none-some}
use Rattle.std.proofs.lemmas.List.Folds.{find-append}
use Rattle.mb_model.specs.Members.{In}
use Rattle.mb_learn.proofs.Going.{taken_next}
use Rattle.mb_learn.proofs.Tests.{true_false}

pub or_none : {A : Type 0} (o : Option A) → option_or o None ≡ o
or_none None = refl
or_none (Some x) = refl

-- one behind the other
or_then : {A : Type 0} (a b c : Option A) → option_or (option_or a b) c ≡ option_or a (option_or b c)
or_then None b c = refl
or_then (Some x) b c = refl

-- what is found with one item more
pub find_next : {A : Type 0} (p : A → Bool) (l : List A) (i : ℕ) (x : A) → slice_get l i ≡ Some x → (a : Option A) → option_or (option_or a (find p (take i l))) (cond (p x) (Some x) None) ≡ option_or a (find p (take (i + 1) l))
find_next {A} p l i x at a =
    or_then a (find p (take i l)) (cond (p x) (Some x) None)
    ∙ ap (option_or a) (sym (ap (find p) (taken_next (λ (z : List A). z) (λ (z : A). z ∷ []) (λ z y. refl) refl l i x at) ∙ find-append p (take i l) (x ∷ [])))

pub none_when : {A : Type 0} (o : Option A) → is_some o ≡ false → o ≡ None
none_when None not_so = refl
none_when (Some x) not_so = true_false not_so

pub some_when : {A : Type 0} (o : Option A) → is_some o ≡ true → (x : A) × (o ≡ Some x)
some_when None so = true_false (sym so)
some_when (Some x) so = (x, refl)

pub in_either : {A : Type 0} (a b : List A) (x : A) → In (a ++ b) x → In a x ⊎ In b x
in_either [] b x i = inr i
in_either (y ∷ a) b x (inl is) = inl (inl is)
in_either (y ∷ a) b x (inr i) = elim (in_either a b x i) [
  | inl front ↦ inl (inr front)
  | inr back ↦ inr back
]

module _ {A : Type 0} (p : A → Bool) where
  -- what is found is there, and passes
  pub found_there : (l : List A) (x : A) → find p l ≡ Some x → In l x × (p x ≡ true)
  found_there [] x e = absurd (none-some x e)
  found_there (y ∷ l) x e = elim (cases_Bool (p y)) [
    | inl so ↦
        let is : y ≡ x = same_Some y x (sym (ap (λ b. cond b (Some y) (find p l)) so) ∙ e) in
        (inl is, subst (λ z. p z ≡ true) is so)
    | inr not_so ↦ let r = found_there l x (sym (ap (λ b. cond b (Some y) (find p l)) not_so) ∙ e) in (inr r.0, r.1)
  ]

  -- where one passes, one is found
  pub there_found : (l : List A) (x : A) → In l x → p x ≡ true → IsSome (find p l)
  there_found [] x i so = absurd i
  there_found (y ∷ l) x i so = elim (cases_Bool (p y)) [
    | inl here ↦ ap (λ b. is_some (cond b (Some y) (find p l))) here
    | inr other ↦ ap (λ b. is_some (cond b (Some y) (find p l))) other ∙ later i other (λ j. there_found l x j so)
  ] where
    later : In (y ∷ l) x → p y ≡ false → (In l x → IsSome (find p l)) → IsSome (find p l)
    later (inl is) not_so rest = true_false (sym so ∙ (sym (ap p is) ∙ not_so))
    later (inr j) not_so rest = rest j
