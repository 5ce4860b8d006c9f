-- What is found for each host: as many of it pass a test as hosts have something that does; and where f+1 agree with one of it, the first f+1 that agree are
-- found.
use Rattle.std.proofs.Common.{◌≡◌, ℕ, zero, suc, ◌+◌, ◌≤◌, Bool, true, false, List, [], ◌∷◌, length, take, refl, sym, ap, ◌∙◌, subst, inl, inr, arith, Option, Some, None}
use Rattle.std.specs.Prelude.{nat_le, filter, filter_map, option_and_then, if◌then◌else◌}
use Rattle.std.specs.List.{range_with_len, cons_option}
use Rattle.std.proofs.lemmas.Bool.{cases_Bool, leb-true, leb-false}
use Rattle.std.proofs.lemmas.List.{length-take-le}
use Rattle.mb_base.specs.Shapes.{tally}
use Rattle.mb_model.specs.Stable.{first_agreed}
use Rattle.mb_model.proofs.Options.{option_cases}
use Rattle.mb_model.specs.Members.{In}
use Rattle.mb_steps.proofs.StepPotential.{tally_same}

-- counted from the first host on
tally_first : (q : ℕ → Bool) (n : ℕ) → tally q (suc n) ≡ (if q 0 then 1 else 0) + tally (λ h. q (suc h)) n
tally_first q zero = refl
tally_first q (suc n) = omega (arith, tally_first q n)

module _ {A : Type 0} where
  -- There is something, and it passes the test.
  abbrev pub passes : (A → Bool) → Option A → Bool
  passes t None = false
  passes t (Some x) = t x

  counted : (t : A → Bool) (o : Option A) (l : List A) → length (filter t (cons_option o l)) ≡ (if passes t o then 1 else 0) + length (filter t l)
  counted t None l = omega arith
  counted t (Some x) l = elim (cases_Bool (t x)) [
    | inl passes ↦ rw passes (omega arith)
    | inr fails ↦ rw fails (omega arith)
  ]

  as_many_from : (t : A → Bool) (f : ℕ → Option A) (n a : ℕ) → length (filter t (filter_map f (range_with_len a n))) ≡ tally (λ h. passes t (f (a + h))) n
  as_many_from t f zero a = refl
  as_many_from t f (suc n) a =
      let rest = as_many_from t f n (a + 1) ∙ tally_same (λ h. passes t (f (a + 1 + h))) (λ h. passes t (f (a + suc h))) n (λ h. ap (λ (x : ℕ). passes t (f x)) (omega arith)) in
      let here : a + 0 ≡ a = omega arith in
      let first = ap {B = ℕ} (λ (x : ℕ). if passes t (f x) then 1 else 0) here in
      omega (arith, counted t (f a) (filter_map f (range_with_len (a + 1) n)), rest, first, tally_first (λ h. passes t (f (a + h))) n)

  pub as_many : (t : A → Bool) (f : ℕ → Option A) (n : ℕ) → length (filter t (filter_map f (range_with_len 0 n))) ≡ tally (λ h. passes t (f h)) n
  as_many t f n = as_many_from t f n 0 ∙ tally_same (λ h. passes t (f (0 + h))) (λ h. passes t (f h)) n (λ h. ap (λ (x : ℕ). passes t (f x)) (omega arith))

  -- ---- members that pass

  pub some_in : (p : A → Bool) (l : List A) → 1 ≤ length (filter p l) → (x : A) × (In l x) × (p x ≡ true)
  some_in p [] many = absurd (omega arith)
  some_in p (y ∷ l) many = elim (cases_Bool (p y)) [
    | inl passes ↦ (y, inl refl, passes)
    | inr fails ↦ let more = some_in p l (rw fails at many) in (more.0, inr more.1, more.2)
  ]

  pub filter_more : (p q : A → Bool) (l : List A) → ((x : A) → p x ≡ true → q x ≡ true) → length (filter p l) ≤ length (filter q l)
  filter_more p q [] so = omega arith
  filter_more p q (y ∷ l) so = elim (cases_Bool (p y)) [
    | inl passes ↦ rw (passes, so y passes) (omega (arith, filter_more p q l so))
    | inr fails ↦ elim (cases_Bool (q y)) [
      | inl passes ↦ rw (fails, passes) (omega (arith, filter_more p q l so))
      | inr fails_too ↦ rw (fails, fails_too) (filter_more p q l so)
    ]
  ]

  pub of_filter : (p : A → Bool) (l : List A) (x : A) → In (filter p l) x → (In l x) × (p x ≡ true)
  of_filter p [] x i = absurd i
  of_filter p (y ∷ l) x i = elim (cases_Bool (p y)) [
    | inl stays ↦ here stays (λ j. of_filter p l x j) (rw stays at i)
    | inr goes ↦ let r = of_filter p l x (rw goes at i) in (inr r.0, r.1)
  ] where
    here : p y ≡ true → (In (filter p l) x → (In l x) × (p x ≡ true)) → In (y ∷ filter p l) x → (In (y ∷ l) x) × (p x ≡ true)
    here stays more (inl is) = (inl is, subst (λ (z : A). p z ≡ true) is stays)
    here stays more (inr j) = let r = more j in (inr r.0, r.1)

  pub of_take : (n : ℕ) (l : List A) (x : A) → In (take n l) x → In l x
  of_take zero l x i = absurd i
  of_take (suc n) [] x i = absurd i
  of_take (suc n) (y ∷ l) x (inl is) = inl is
  of_take (suc n) (y ∷ l) x (inr i) = inr (of_take n l x i)

  -- ---- the first that agree

  pub agreement : (like : A → A → Bool) (many : ℕ) (all l : List A) (x : A) → In l x → many ≤ length (filter (like x) all)
      → (r : List A) × (first_agreed like many all l ≡ Some r) × (length r ≡ many)
  unfolding first_agreed
  agreement like many all [] x i enough = absurd i
  agreement like many all (y ∷ l) x i enough = elim (cases_Bool (nat_le many (length (filter (like y) all)))) [
    | inl here ↦ (take many (filter (like y) all), rw here refl, length-take-le many (filter (like y) all) (leb-true many (length (filter (like y) all)) here))
    | inr few ↦ let r = agreement like many all l x (behind few i) enough in (r.0, rw few r.1, r.2)
  ] where
    behind : nat_le many (length (filter (like y) all)) ≡ false → In (y ∷ l) x → In l x
    behind few (inl is) =
        let all_same : many ≤ length (filter (like y) all) = subst (λ (z : A). many ≤ length (filter (like z) all)) (sym is) enough in
        absurd (omega (arith, all_same, leb-false many (length (filter (like y) all)) few))
    behind few (inr i) = i

-- What is found in what is found.
pub found_both : {A B C : Type 0} (g : B → Option C) (f : A → Option B) (l : List A) → filter_map g (filter_map f l) ≡ filter_map (λ x. option_and_then g (f x)) l
found_both g f [] = refl
found_both g f (x ∷ l) = elim (option_cases (f x)) [
  | inl none ↦ rw none (found_both g f l)
  | inr (y, some) ↦ rw some (ap (cons_option (g y)) (found_both g f l))
]

pub of_found : {A B : Type 0} (g : A → Option B) (l : List A) (y : B) → In (filter_map g l) y → (x : A) × (g x ≡ Some y)
of_found g [] y i = absurd i
of_found {A = A} {B = B} g (x ∷ l) y i = elim (option_cases (g x)) [
  | inl none ↦ of_found g l y (rw none at i)
  | inr (z, some) ↦ here z some (λ j. of_found g l y j) (rw some at i)
] where
  here : (z : B) → g x ≡ Some z → (In (filter_map g l) y → (v : A) × (g v ≡ Some y)) → In (z ∷ filter_map g l) y → (v : A) × (g v ≡ Some y)
  here z some more (inl is) = (x, some ∙ ap (λ (v : B). Some v) is)
  here z some more (inr j) = more j
