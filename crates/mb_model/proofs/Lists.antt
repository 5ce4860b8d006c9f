-- Elements and places of lists, and one element more at the end.
use Rattle.std.proofs.Common.{◌≡◌, ℕ, zero, suc, ◌+◌, ◌<◌, List, [], ◌∷◌, ◌++◌, length, reverse, refl, sym, ap, subst, ◌∙◌, inl, inr, ◌⊎◌, arith, Some}
use Rattle.std.specs.Prelude.{slice_get, map, take}
use Rattle.std.specs.List.{AllByRecursion}
use Rattle.std.proofs.lemmas.List.{take_more, reverse-append}
use Rattle.std.proofs.lemmas.Option.{get_or_from_slice_get, slice_get_within}
use Rattle.mb_model.specs.Members.{In}

module _ {A : Type 0} where
  -- ---- what holds of all elements

  pub all_append : (P : A → Type 0) (xs ys : List A) → AllByRecursion P xs → AllByRecursion P ys → AllByRecursion P (xs ++ ys)
  all_append P [] ys h k = k
  all_append P (x ∷ xs) ys h k = (h.0, all_append P xs ys h.1 k)

  pub all_reverse : (P : A → Type 0) (l : List A) → AllByRecursion P l → AllByRecursion P (reverse l)
  all_reverse P [] a = tt
  all_reverse P (x ∷ l) a = subst (AllByRecursion P) (sym (reverse-append (x ∷ []) l)) (all_append P (reverse l) (x ∷ []) (all_reverse P l a.1) (a.0, tt))

  pub all_at : (P : A → Type 0) (xs : List A) (i : ℕ) (x : A) → AllByRecursion P xs → slice_get xs i ≡ Some x → P x
  all_at P [] i x h e = absurd cc
  all_at P (y ∷ xs) zero x h e = let same : y ≡ x = cc in subst P same h.0
  all_at P (y ∷ xs) (suc i) x h e = all_at P xs i x h.1 e

  -- ---- places

  -- what stands at a place stays there
  pub get_more : (xs ys : List A) (i : ℕ) (x : A) → slice_get xs i ≡ Some x → slice_get (xs ++ ys) i ≡ Some x
  get_more [] ys i x e = absurd cc
  get_more (y ∷ xs) ys zero x e = e
  get_more (y ∷ xs) ys (suc i) x e = get_more xs ys i x e

  -- what stands in a list with one more stood there before, or is the last
  pub get_last : (xs : List A) (y : A) (i : ℕ) (x : A) → slice_get (xs ++ y ∷ []) i ≡ Some x → (slice_get xs i ≡ Some x) ⊎ ((i ≡ length xs) × (y ≡ x))
  get_last [] y zero x e = inr (refl, cc)
  get_last [] y (suc i) x e = absurd cc
  get_last (z ∷ xs) y zero x e = inl e
  get_last (z ∷ xs) y (suc i) x e = elim (get_last xs y i x e) [
    | inl before ↦ inl before
    | inr (at, is) ↦ inr (ap suc at, is)
  ]

  pub get_push : (xs : List A) (y : A) → slice_get (xs ++ y ∷ []) (length xs) ≡ Some y
  get_push [] y = refl
  get_push (x ∷ xs) y = get_push xs y

  pub get_there : (xs : List A) (i : ℕ) → i < length xs → (x : A) × (slice_get xs i ≡ Some x)
  get_there [] i lt = absurd (omega arith)
  get_there (x ∷ xs) zero lt = (x, refl)
  get_there (x ∷ xs) (suc i) lt = get_there xs i (omega arith)

  pub take_next : (xs : List A) (i : ℕ) (x : A) → slice_get xs i ≡ Some x → take (i + 1) xs ≡ take i xs ++ x ∷ []
  take_next xs i x e = take_more xs i x (slice_get_within xs i x e) ∙ ap (λ (y : A). take i xs ++ y ∷ []) (get_or_from_slice_get xs i x x e)

  -- what stands at a place is a member
  pub in_at : (xs : List A) (i : ℕ) (x : A) → slice_get xs i ≡ Some x → In xs x
  in_at [] i x e = absurd cc
  in_at (y ∷ xs) zero x e = inl cc
  in_at (y ∷ xs) (suc i) x e = inr (in_at xs i x e)

  -- ---- lists that grow

  -- a list is another one with more at its end
  pub record IsLonger (short long : List A) : Type 0 where
    pub rest : List A
    pub is : short ++ rest ≡ long

pub all_map : {A B : Type 0} (P : A → Type 0) (Q : B → Type 0) (f : A → B) → ((x : A) → P x → Q (f x)) → (l : List A) → AllByRecursion P l → AllByRecursion Q (map f l)
all_map P Q f so [] a = tt
all_map P Q f so (x ∷ l) a = (so x a.0, all_map P Q f so l a.1)
