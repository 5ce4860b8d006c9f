-- Lists by numbers: one item more at a number's list, and an item that is found by the first eight bytes of a digest.
use Rattle.std.proofs.Common.{◌≡◌, ℕ, Ordering, Less, Equal, Greater, Bool, true, false, cond, ◌==◌, List, [], ◌∷◌, ◌++◌, Option, Some, None, unwrap_or, refl, sym, ap, ◌∙◌, inl, inr}
use Rattle.std.specs.Prelude.{find}
use Rattle.std.specs.Option.{option_or}
use Rattle.std.specs.Ordering.{is_eq, nat_cmp}
use Rattle.std.specs.Cmp.{nat_cmp_is}
use Rattle.std.specs.Cmp.Lexicographic.{bytes_decides}
use Rattle.std.specs.FinMap.{nat_cmp-IsAntisymmetric}
use Rattle.std.proofs.lemmas.Bool.{cases_Bool, eqb-true, eq-eqb}
use Rattle.std.proofs.lemmas.List.Folds.{find-append}
use Rattle.mb_base.specs.Shapes.{Bytes}
use Rattle.mb_usig.specs.Tags.{same_bytes}
use Rattle.mb_learn.specs.Tables.{first_number}

tied : (o : Ordering) → is_eq o ≡ true → o ≡ Equal
tied Less e = absurd cc
tied Equal e = refl
tied Greater e = absurd cc

pub same_number : (a b : ℕ) → is_eq (nat_cmp a b) ≡ true → a ≡ b
same_number a b e = nat_cmp-IsAntisymmetric a b (tied (nat_cmp a b) e)

pub same_order : (a b : ℕ) → a ≡ b → is_eq (nat_cmp a b) ≡ true
same_order a b e = sym (ap is_eq (nat_cmp_is a b Equal e))

abbrev pub those : {A : Type 0} → Option (List A) → List A
those o = unwrap_or o []

-- the look-ups before and behind, with one item more at a number
module _ {A : Type 0} (old new : ℕ → Option (List A)) (x : A) (own : ℕ) (set : (n : ℕ) → new n ≡ cond (is_eq (nat_cmp own n)) (Some (those (old own) ++ x ∷ [])) (old n)) where
  at_own : (n : ℕ) → own ≡ n → those (new n) ≡ those (old n) ++ x ∷ []
  at_own n e = ap those (set n ∙ ap (λ b. cond b (Some (those (old own) ++ x ∷ [])) (old n)) (same_order own n e)) ∙ ap (λ k. those (old k) ++ x ∷ []) e

  at_other : (n : ℕ) → is_eq (nat_cmp own n) ≡ false → those (new n) ≡ those (old n)
  at_other n e = ap those (set n ∙ ap (λ b. cond b (Some (those (old own) ++ x ∷ [])) (old n)) e)

  pub one_more : (n : ℕ) → those (new n) ≡ cond (n == own) (those (old n) ++ x ∷ []) (those (old n))
  one_more n = elim (cases_Bool (is_eq (nat_cmp own n))) [
    | inl same ↦
        let e : own ≡ n = same_number own n same in
        at_own n e ∙ ap (λ b. cond b (those (old n) ++ x ∷ []) (those (old n))) (sym (eq-eqb n own (sym e)))
    | inr other ↦ elim (cases_Bool (n == own)) [
      | inl same ↦ absurd (true_false (sym (same_order own n (sym (eqb-true n own same))) ∙ other))
      | inr differs ↦ at_other n other ∙ ap (λ b. cond b (those (old n) ++ x ∷ []) (those (old n))) (sym differs)
    ]
  ] where
    true_false : true ≡ false → ⊥
    true_false e = cc

-- the look-ups before and behind, with none at a number
module _ {A : Type 0} (old new : ℕ → Option (List A)) (own : ℕ) (set : (n : ℕ) → new n ≡ cond (is_eq (nat_cmp own n)) None (old n)) where
  pub one_less : (n : ℕ) → those (new n) ≡ cond (n == own) [] (those (old n))
  one_less n = elim (cases_Bool (is_eq (nat_cmp own n))) [
    | inl same ↦
        let e : own ≡ n = same_number own n same in
        ap those (set n ∙ ap (λ b. cond b None (old n)) same) ∙ ap (λ b. cond b [] (those (old n))) (sym (eq-eqb n own (sym e)))
    | inr other ↦ elim (cases_Bool (n == own)) [
      | inl same ↦ absurd (true_false (sym (same_order own n (sym (eqb-true n own same))) ∙ other))
      | inr differs ↦ ap those (set n ∙ ap (λ b. cond b None (old n)) other) ∙ ap (λ b. cond b [] (those (old n))) (sym differs)
    ]
  ] where
    true_false : true ≡ false → ⊥
    true_false e = cc

-- ---- found by a digest

module _ {A : Type 0} (digest : A → Bytes) where
  abbrev is_of : Bytes → A → Bool
  is_of d a = same_bytes (digest a) d

  found_behind : (l : List A) (x : A) (d : Bytes) → find (is_of d) (l ++ x ∷ []) ≡ option_or (find (is_of d) l) (cond (same_bytes (digest x) d) (Some x) None)
  found_behind l x d = find-append (is_of d) l (x ∷ [])

  none_more : (o : Option A) → o ≡ option_or o None
  none_more (Some a) = refl
  none_more None = refl

  -- Digests that begin otherwise differ.
  other_digests : (a b : Bytes) → is_eq (nat_cmp (first_number a) (first_number b)) ≡ false → same_bytes a b ≡ false
  other_digests a b other = elim (cases_Bool (same_bytes a b)) [
    | inl same ↦
        let numbers : first_number a ≡ first_number b = ap first_number ((bytes_decides a b).0 same) in
        absurd (true_false (ap is_eq (nat_cmp_is (first_number a) (first_number b) Equal numbers) ∙ other))
    | inr differs ↦ differs
  ] where
    true_false : true ≡ false → ⊥
    true_false e = cc

  module _ (old new : ℕ → Option (List A)) (x : A) (own : ℕ) (is : own ≡ first_number (digest x)) (set : (n : ℕ) → new n ≡ cond (is_eq (nat_cmp own n)) (Some (those (old own) ++ x ∷ [])) (old n)) where
    pub finds_one_more : (d : Bytes) → find (is_of d) (those (new (first_number d))) ≡ option_or (find (is_of d) (those (old (first_number d)))) (cond (same_bytes (digest x) d) (Some x) None)
    finds_one_more d = elim (cases_Bool (is_eq (nat_cmp own (first_number d)))) [
      | inl same ↦
          ap (find (is_of d)) (at_own old new x own set (first_number d) (same_number own (first_number d) same)) ∙ found_behind (those (old (first_number d))) x d
      | inr other ↦
          let differs : same_bytes (digest x) d ≡ false = other_digests (digest x) d (ap (λ n. is_eq (nat_cmp n (first_number d))) (sym is) ∙ other) in
          ap (find (is_of d)) (at_other old new x own set (first_number d) other)
          ∙ (none_more (find (is_of d) (those (old (first_number d)))) ∙ ap (λ b. option_or (find (is_of d) (those (old (first_number d)))) (cond b (Some x) None)) (sym differs))
    ]
