-- The list of a host is one, and with more certificates it goes on.
use Rattle.std.proofs.Common.{◌≡◌, ℕ, ◌+◌, ◌<◌, ◌≤◌, ◌⊎◌, true, false, List, [], ◌∷◌, length, Option, Some, IfSome, refl, sym, ap, subst, ◌∙◌, inl, inr, arith}
use Rattle.std.proofs.lemmas.Bool.{cases_lt}
use Rattle.std.proofs.lemmas.Option.{same_Some}
use Rattle.mb_base.specs.Shapes.{Bytes}
use Rattle.mb_base.specs.declared.shape.Shape.{Shape}
use Rattle.mb_parts.specs.Bares.{Bare}
use Rattle.mb_parts.specs.Counters.{IsBeginning}
use Rattle.mb_learn.specs.Lists.{may_follow, AreInOrder, IsList}
use Rattle.mb_learn.proofs.Followed.{Grows, in_order_more}
use Rattle.mb_learn.proofs.Tests.{true_false}

module _ (s : Shape) (secret : Bytes) (host : ℕ) (first : ℕ → Option Bare) where
  -- Two of one length are equal.
  pub as_long : (a b : List Bare) → length a ≡ length b → AreInOrder s secret host first a → AreInOrder s secret host first b → a ≡ b
  as_long [] [] e o p = refl
  as_long [] (y ∷ b) e o p = absurd (omega (arith, e))
  as_long (x ∷ a) [] e o p = absurd (omega (arith, e))
  as_long (x ∷ a) (y ∷ b) e o p =
      let rest : a ≡ b = as_long a b (omega (arith, e)) o.2 p.2 in
      let here : x ≡ y = same_Some x y (sym o.0 ∙ ap (λ (l : List Bare). first (length l + 1)) rest ∙ p.0) in
      ap (λ (l : List Bare). x ∷ l) rest ∙ ap (λ (m : Bare). m ∷ b) here

  -- None is longer than the one that ends.
  no_longer : (l : List Bare) → IsList s secret host first l → (b : List Bare) → AreInOrder s secret host first b → length b ≤ length l
  no_longer l whole [] o = omega arith
  no_longer l whole (m ∷ b) o = by (cases_lt (length b) (length l)) (no_longer l whole b o.2) where
    ends : length l ≡ length b → ⊥
    ends e =
        let same : l ≡ b = as_long l b e whole.in_order o.2 in
        let shown : first (length l + 1) ≡ Some m = ap (λ (x : List Bare). first (length x + 1)) same ∙ o.0 in
        let refused : may_follow s secret host l m ≡ false = subst (λ (x : Option Bare). IfSome x (λ y. may_follow s secret host l y ≡ false)) shown whole.ends in
        let taken : may_follow s secret host l m ≡ true = ap (λ (x : List Bare). may_follow s secret host x m) same ∙ o.1 in
        true_false (sym taken ∙ refused)

    by : (length b < length l) ⊎ (length l ≤ length b) → length b ≤ length l → length (m ∷ b) ≤ length l
    by (inl lt) shorter = omega (arith, lt)
    by (inr le) shorter = absurd (ends (omega (arith, le, shorter)))

  pub one_list : (a b : List Bare) → IsList s secret host first a → IsList s secret host first b → a ≡ b
  one_list a b p q =
      let le = no_longer b q a p.in_order in
      let ge = no_longer a p b q.in_order in
      as_long a b (omega (arith, le, ge)) p.in_order q.in_order

  -- A list in order is a beginning of it.
  pub begins : (b l : List Bare) → AreInOrder s secret host first b → IsList s secret host first l → IsBeginning b l
  begins b l o whole = by l whole.in_order (no_longer l whole b o) where
    by : (l : List Bare) → AreInOrder s secret host first l → length b ≤ length l → IsBeginning b l
    by [] p le = record { later = []; is = as_long b [] (omega (arith, le)) o tt }
    by (m ∷ l) p le = elim (cases_lt (length l) (length b)) [
      | inl lt ↦ record { later = []; is = as_long b (m ∷ l) (omega (arith, le, lt)) o p }
      | inr shorter ↦ let r = by l p.2 shorter in record { later = m ∷ r.later; is = ap (λ (x : List Bare). m ∷ x) r.is }
    ]

-- With more certificates the list goes on.
pub goes_on : (s : Shape) (secret : Bytes) (host : ℕ) (first more : ℕ → Option Bare) → Grows first more → (l longer : List Bare) → IsList s secret host first l → IsList s secret host more longer → IsBeginning l longer
goes_on s secret host first more grows l longer p q = begins s secret host more l longer (in_order_more s secret host first more grows l p.in_order) q
