-- What stands at the places of a list after a write or a push.
use Rattle.std.proofs.Common.{◌≡◌, ℕ, zero, suc, ◌<◌, ◌⊎◌, ◌∙◌, inl, inr, List, [], ◌∷◌, ◌++◌, length, set, Some, refl, ap, arith, eq-eqb}
use Rattle.std.specs.Prelude.{get_or}
use Rattle.std.specs.List.{slice_get}
use Rattle.std.proofs.lemmas.Bool.{cases_eq, ne_eqb}
use Rattle.std.proofs.lemmas.Option.{slice_get_read}
use Rattle.mb_world_model.specs.World.{update}

pub some_is : {X : Type 0} (x y : X) → Some x ≡ Some y → x ≡ y
some_is x y e = cc

-- what was found at a place, and is this
pub member_at : {X : Type 0} (xs : List X) (i : ℕ) (found x : X) → i < length xs → found ≡ get_or xs i found → found ≡ x → slice_get xs i ≡ Some x
member_at xs i found x lt read is = slice_get_read xs (length xs) i found refl lt read ∙ ap Some is

-- after a write
pub set_read : {X : Type 0} (xs : List X) (i h : ℕ) (y r : X) → slice_get (set xs i y) h ≡ Some r → ((h ≡ i) × (y ≡ r)) ⊎ ((h ≡ i → ⊥) × (slice_get xs h ≡ Some r))
set_read [] i h y r e = absurd cc
set_read (x ∷ xs) zero zero y r e = inl (refl, some_is y r e)
set_read (x ∷ xs) zero (suc h) y r e = inr (λ q. omega arith, e)
set_read (x ∷ xs) (suc i) zero y r e = inr (λ q. omega arith, e)
set_read (x ∷ xs) (suc i) (suc h) y r e = elim (set_read xs i h y r e) [ inl p ↦ inl (ap suc p.0, p.1) | inr p ↦ inr (λ q. p.0 (omega arith), p.1) ]

-- after a push
pub push_read : {X : Type 0} (xs : List X) (h : ℕ) (y r : X) → slice_get (xs ++ y ∷ []) h ≡ Some r → ((h ≡ length xs) × (y ≡ r)) ⊎ (slice_get xs h ≡ Some r)
push_read [] zero y r e = inl (refl, some_is y r e)
push_read [] (suc h) y r e = absurd cc
push_read (x ∷ xs) zero y r e = inr e
push_read (x ∷ xs) (suc h) y r e = elim (push_read xs h y r e) [ inl p ↦ inl (ap suc p.0, p.1) | inr p ↦ inr p ]

-- one is written, and it has the property
pub each_set : {X : Type 0} (P Q : ℕ → X → Type 0) (xs : List X) (i : ℕ) (y : X) → ((h : ℕ) (x : X) → slice_get xs h ≡ Some x → P h x) → Q i y
    → ((h : ℕ) (x : X) → (h ≡ i → ⊥) → P h x → Q h x) → (h : ℕ) (x : X) → slice_get (set xs i y) h ≡ Some x → Q h x
each_set P Q xs i y old new stays h x e =
    elim (set_read xs i h y x e) [
      | inl p ↦ rw (p.0, ← p.1) new
      | inr p ↦ stays h x p.0 (old h x p.1)
    ]

pub each_push : {X : Type 0} (P : ℕ → X → Type 0) (xs : List X) (y : X) → ((h : ℕ) (x : X) → slice_get xs h ≡ Some x → P h x) → P (length xs) y
    → (h : ℕ) (x : X) → slice_get (xs ++ y ∷ []) h ≡ Some x → P h x
each_push P xs y old new h x e =
    elim (push_read xs h y x e) [
      | inl p ↦ rw (p.0, ← p.1) new
      | inr p ↦ old h x p
    ]

-- ---- one of all

pub update_here : {A : Type 0} (f : ℕ → A) (h : ℕ) (x : A) → update f h x h ≡ x
update_here f h x = rw (eq-eqb h h refl) refl

pub update_there : {A : Type 0} (f : ℕ → A) (h g : ℕ) (x : A) → (g ≡ h → ⊥) → update f h x g ≡ f g
update_there f h g x other = rw (ne_eqb g h other) refl

pub update_same : {A : Type 0} (f : ℕ → A) (h g : ℕ) → f g ≡ update f h (f h) g
update_same f h g = elim (cases_eq g h) [
  | inl same ↦ rw (same, eq-eqb h h refl) refl
  | inr other ↦ rw (ne_eqb g h other) refl
]
