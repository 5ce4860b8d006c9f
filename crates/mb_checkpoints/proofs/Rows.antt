-- What is gathered of the hosts, one host more at a time.
use Rattle.std.proofs.Common.{◌≡◌, ℕ, zero, suc, ◌+◌, ◌-◌, ◌<◌, ◌≤◌, Bool, true, false, cond, List, [], ◌∷◌, ◌++◌, length, take, Option, Some, None, refl, sym, ap, ◌∙◌, arith, add-one, inl, inr}
use Rattle.std.specs.List.{range_with_len, filter, filter_map, cons_option}
use Rattle.std.specs.Prelude.{option_and_then}
use Rattle.std.proofs.lemmas.Bool.{cases_Bool}
use Rattle.mb_checkpoints.specs.Certificates.{if_so}

range_more : (a n : ℕ) → range_with_len a (suc n) ≡ range_with_len a n ++ (a + n) ∷ []
range_more a zero = let e : a ≡ a + 0 = omega arith in ap (λ k. k ∷ []) e
range_more a (suc n) =
    let e : (a + 1) + n ≡ a + suc n = omega arith in
    ap (λ l. a ∷ l) (range_more (a + 1) n ∙ ap (λ k. range_with_len (a + 1) n ++ k ∷ []) e)

module _ {A B : Type 0} (f : A → Option B) where
  found_behind : (xs ys : List A) → filter_map f (xs ++ ys) ≡ filter_map f xs ++ filter_map f ys
  found_behind [] ys = refl
  found_behind (x ∷ xs) ys = elim (f x) as (λ o. cons_option o (filter_map f (xs ++ ys)) ≡ cons_option o (filter_map f xs) ++ filter_map f ys) [
    | None ↦ found_behind xs ys
    | Some y ↦ ap (λ l. y ∷ l) (found_behind xs ys)
  ]

-- of one number more
pub found_more : {B : Type 0} (f : ℕ → Option B) (n : ℕ) → filter_map f (range_with_len 0 (n + 1)) ≡ filter_map f (range_with_len 0 n) ++ cons_option (f n) []
found_more f n =
    let e : 0 + n ≡ n = omega arith in
    ap (λ k. filter_map f (range_with_len 0 k)) (add-one n) ∙ ap (filter_map f) (range_more 0 n) ∙ found_behind f (range_with_len 0 n) ((0 + n) ∷ []) ∙ ap (λ k. filter_map f (range_with_len 0 n) ++ cons_option (f k) []) e

-- the same where what is found is looked into
pub found_in_more : {A B : Type 0} (g : A → Option B) (f : ℕ → Option A) (n : ℕ)
    → filter_map g (filter_map f (range_with_len 0 (n + 1))) ≡ filter_map g (filter_map f (range_with_len 0 n)) ++ cons_option (option_and_then g (f n)) []
found_in_more g f n = ap (filter_map g) (found_more f n) ∙ found_behind g (filter_map f (range_with_len 0 n)) (cons_option (f n) []) ∙ ap (λ l. filter_map g (filter_map f (range_with_len 0 n)) ++ l) (one (f n)) where
  one : (o : Option _) → filter_map g (cons_option o []) ≡ cons_option (option_and_then g o) []
  one None = refl
  one (Some x) = refl

-- two searches that find the same of these hosts
pub found_same : {B : Type 0} (f g : ℕ → Option B) (a n : ℕ) → ((h : ℕ) → a ≤ h → h < a + n → f h ≡ g h) → filter_map f (range_with_len a n) ≡ filter_map g (range_with_len a n)
found_same f g a zero same = refl
found_same f g a (suc n) same =
    ap (λ o. cons_option o (filter_map f (range_with_len (a + 1) n))) (same a (omega arith) (omega arith))
    ∙ ap (cons_option (g a)) (found_same f g (a + 1) n (λ h above below. same h (omega (arith, above)) (omega (arith, below))))

-- ---- the first so many of those with a property

module _ {A : Type 0} (p : A → Bool) where
  filter_behind : (xs ys : List A) → filter p (xs ++ ys) ≡ filter p xs ++ filter p ys
  filter_behind [] ys = refl
  filter_behind (x ∷ xs) ys = elim (p x) as (λ b. cond b (x ∷ filter p (xs ++ ys)) (filter p (xs ++ ys)) ≡ cond b (x ∷ filter p xs) (filter p xs) ++ filter p ys) [
    | true ↦ ap (λ l. x ∷ l) (filter_behind xs ys)
    | false ↦ filter_behind xs ys
  ]

take_fewer : {A : Type 0} (many : ℕ) (xs : List A) (x : A) → length (take many xs) < many → take many (xs ++ x ∷ []) ≡ take many xs ++ x ∷ []
take_fewer zero xs x lt = absurd (omega arith)
take_fewer (suc many) [] x lt = elim many as (λ m. take (suc m) (x ∷ []) ≡ x ∷ []) [ zero ↦ refl | suc m ↦ refl ]
take_fewer (suc many) (y ∷ xs) x lt = ap (λ l. y ∷ l) (take_fewer many xs x (omega arith))

take_enough : {A : Type 0} (many : ℕ) (xs ys : List A) → many ≤ length (take many xs) → take many (xs ++ ys) ≡ take many xs
take_enough zero xs ys le = refl
take_enough (suc many) [] ys le = absurd (omega arith)
take_enough (suc many) (y ∷ xs) ys le = ap (λ l. y ∷ l) (take_enough many xs ys (omega arith))

module _ {A : Type 0} (p : A → Bool) (many : ℕ) (f : ℕ → Option A) where
  -- of the hosts below this number
  abbrev pub chosen : ℕ → List A
  chosen n = take many (filter p (filter_map f (range_with_len 0 n)))

  one_more : (n : ℕ) → chosen (n + 1) ≡ take many (filter p (filter_map f (range_with_len 0 n)) ++ filter p (cons_option (f n) []))
  one_more n = ap (λ l. take many (filter p l)) (found_more f n) ∙ ap (take many) (filter_behind p (filter_map f (range_with_len 0 n)) (cons_option (f n) []))

  pub chosen_none : (n : ℕ) → f n ≡ None → chosen (n + 1) ≡ chosen n
  chosen_none n none = one_more n ∙ ap (λ o. take many (filter p (filter_map f (range_with_len 0 n)) ++ filter p (cons_option o []))) none ∙ ap (take many) (append_nil (filter p (filter_map f (range_with_len 0 n)))) where
    append_nil : (xs : List A) → xs ++ [] ≡ xs
    append_nil [] = refl
    append_nil (x ∷ xs) = ap (λ l. x ∷ l) (append_nil xs)

  pub chosen_enough : (n : ℕ) → many ≤ length (chosen n) → chosen (n + 1) ≡ chosen n
  chosen_enough n le = one_more n ∙ take_enough many (filter p (filter_map f (range_with_len 0 n))) (filter p (cons_option (f n) [])) le

  pub chosen_more : (n : ℕ) (x : A) → f n ≡ Some x → p x ≡ true → length (chosen n) < many → chosen (n + 1) ≡ chosen n ++ x ∷ []
  chosen_more n x is same lt = one_more n ∙ ap (λ o. take many (filter p (filter_map f (range_with_len 0 n)) ++ filter p (cons_option o []))) is
      ∙ ap (λ b. take many (filter p (filter_map f (range_with_len 0 n)) ++ cond b (x ∷ []) [])) same
      ∙ take_fewer many (filter p (filter_map f (range_with_len 0 n))) x lt

  pub chosen_other : (n : ℕ) (x : A) → f n ≡ Some x → p x ≡ false → chosen (n + 1) ≡ chosen n
  chosen_other n x is other = one_more n ∙ ap (λ o. take many (filter p (filter_map f (range_with_len 0 n)) ++ filter p (cons_option o []))) is
      ∙ ap (λ b. take many (filter p (filter_map f (range_with_len 0 n)) ++ cond b (x ∷ []) [])) other
      ∙ ap (take many) (append_nil (filter p (filter_map f (range_with_len 0 n)))) where
        append_nil : (xs : List A) → xs ++ [] ≡ xs
        append_nil [] = refl
        append_nil (y ∷ xs) = ap (λ l. y ∷ l) (append_nil xs)

  -- once there are so many, no host behind them counts
  pub chosen_all : (n more : ℕ) → many ≤ length (chosen n) → chosen (n + more) ≡ chosen n
  chosen_all n zero le = ap chosen (let e : n + 0 ≡ n = omega arith in e)
  chosen_all n (suc more) le =
      let rest = chosen_all n more le in
      let e : n + suc more ≡ (n + more) + 1 = omega arith in
      ap chosen e ∙ chosen_enough (n + more) (rw rest le) ∙ rest

-- ---- what is gathered of them

module _ {A B : Type 0} (p : A → Bool) (g : A → Option B) (full : (x : A) → p x ≡ true → g x ≡ None → ⊥) where
  some_of : (x : A) (o : Option B) → g x ≡ o → p x ≡ true → (l : List B) → length (cons_option (g x) l) ≡ suc (length l)
  some_of x None is t l = absurd (full x t is)
  some_of x (Some y) is t l = ap (λ o. length (cons_option o l)) is

  as_many_of : (all : List A) (many : ℕ) → length (filter_map g (take many (filter p all))) ≡ length (take many (filter p all))
  as_many_of [] zero = refl
  as_many_of [] (suc many) = refl
  as_many_of (x ∷ all) zero = refl
  as_many_of (x ∷ all) (suc many) = elim (cases_Bool (p x)) [
    | inl t ↦ rw t (some_of x (g x) refl t (filter_map g (take many (filter p all))) ∙ ap suc (as_many_of all many))
    | inr f ↦ rw f (as_many_of all (suc many))
  ]

  module _ (many : ℕ) (f : ℕ → Option A) where
    abbrev pub gathered : ℕ → List B
    gathered n = filter_map g (chosen p many f n)

    as_many : (n : ℕ) → length (gathered n) ≡ length (chosen p many f n)
    as_many n = as_many_of (filter_map f (range_with_len 0 n)) many

    abbrev picked : Option A → Option B
    picked o = option_and_then (λ x. if_so (p x) (g x)) o

    pub gather_more : (n : ℕ) (o : Option B) → o ≡ picked (f n) → length (gathered n) < many → gathered (n + 1) ≡ gathered n ++ cons_option o []
    gather_more n o is lt = by_found (f n) refl where
      room : length (chosen p many f n) < many
      room = let e = as_many n in omega (arith, e, lt)

      nothing : (l : List B) → l ≡ l ++ []
      nothing [] = refl
      nothing (y ∷ l) = ap (λ k. y ∷ k) (nothing l)

      none : o ≡ None → chosen p many f (n + 1) ≡ chosen p many f n → gathered (n + 1) ≡ gathered n ++ cons_option o []
      none e same = ap (filter_map g) same ∙ nothing (gathered n) ∙ ap (λ x. gathered n ++ cons_option x []) (sym e)

      by_found : (found : Option A) → f n ≡ found → gathered (n + 1) ≡ gathered n ++ cons_option o []
      by_found None e = none (is ∙ ap picked e) (chosen_none p many f n e)
      by_found (Some x) e = elim (cases_Bool (p x)) [
        | inl t ↦ ap (filter_map g) (chosen_more p many f n x e t room) ∙ found_behind g (chosen p many f n) (x ∷ []) ∙ ap (λ y. gathered n ++ cons_option y []) (sym (is ∙ ap picked e ∙ ap (λ b. if_so b (g x)) t))
        | inr h ↦ none (is ∙ ap picked e ∙ ap (λ b. if_so b (g x)) h) (chosen_other p many f n x e h)
      ]

    pub gather_all : (n m : ℕ) → n ≤ m → many ≤ length (gathered n) → gathered m ≡ gathered n
    gather_all n m le enough =
        let e = as_many n in
        let at : m ≡ n + (m - n) = omega (arith, le) in
        ap gathered at ∙ ap (filter_map g) (chosen_all p many f n (m - n) (omega (arith, e, enough)))
