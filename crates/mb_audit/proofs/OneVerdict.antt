-- The verdict is one: two lists that are taken are beginnings of each other, and of the shorter one the next counter would be taken in the longer one,
-- which no verdict allows.
use Rattle.std.proofs.Common.{◌≡◌, ℕ, ◌+◌, ◌<◌, ◌≤◌, true, false, List, [], ◌∷◌, length, refl, sym, ap, subst, ◌∙◌, arith, inl, inr}
use Rattle.std.proofs.lemmas.Bool.{cases_order}
use Rattle.mb_base.specs.Shapes.{Bytes}
use Rattle.mb_base.specs.declared.shape.Shape.{Shape}
use Rattle.mb_parts.specs.Bares.{Bare, bare_bytes}
use Rattle.mb_parts.specs.Rules.{rule_of}
use Rattle.mb_audit.specs.Stamps.{IsStamp}
use Rattle.mb_audit.specs.declared.auditing.Verdict.{Verdict}
use Rattle.mb_audit.specs.declared.auditing.Verdict.TheVariants.{Double, Gap, Illegal, Ordered}
use Rattle.mb_audit.specs.Verdicts.{IsOnly, may_follow, AreTaken, Fits, IsVerdict, OneVerdict}

module _ (s : Shape) (secret : Bytes) (given : List Bytes) (host : ℕ) where
  abbrev Stamped : ℕ → Bare → Type 0
  Stamped = IsStamp s secret given host

  abbrev Only : ℕ → Bare → Type 0
  Only = IsOnly s secret given host

  abbrev Taken : List Bare → Type 0
  Taken = AreTaken s secret given host

  abbrev Found : List Bare → Verdict → Type 0
  Found = Fits s secret given host

  -- something stands at the counter behind these
  abbrev IsNext : List Bare → Type 0
  IsNext a = (m : Bare) × Stamped (length a + 1) m

  -- ---- lists that are taken

  both : (m n : Bare) (a b : List Bare) → m ≡ n → a ≡ b → m ∷ a ≡ n ∷ b
  both m n a b e f = ap (λ (x : Bare). x ∷ a) e ∙ ap (λ (l : List Bare). n ∷ l) f

  same_length : (a b : List Bare) → Taken a → Taken b → length a ≡ length b → a ≡ b
  same_length [] [] x y e = refl
  same_length [] (n ∷ b) x y e = absurd (omega (arith, e))
  same_length (m ∷ a) [] x y e = absurd (omega (arith, e))
  same_length (m ∷ a) (n ∷ b) x y e =
      let l : length a ≡ length b = omega (arith, e) in
      both m n a b (y.0.only m (subst (λ (k : ℕ). Stamped (k + 1) m) l x.0.stamped)) (same_length a b x.2 y.2 l)

  -- Behind the shorter one the longer one goes on.
  goes_on : (a b : List Bare) → Taken a → Taken b → length a < length b → (m : Bare) × Only (length a + 1) m × (may_follow s secret given host a m ≡ true)
  goes_on a [] x y lt = absurd (omega (arith, lt))
  goes_on a (n ∷ b) x y lt = elim (cases_order (length a) (length b)) [
    | inl same ↦
        let e : b ≡ a = same_length b a y.2 x (sym same) in
        (n, subst (λ (l : List Bare). Only (length l + 1) n) e y.0, subst (λ (l : List Bare). may_follow s secret given host l n ≡ true) e y.1)
    | inr (inl less) ↦ goes_on a b x y.2 less
    | inr (inr more) ↦ absurd (omega (arith, lt, more))
  ]

  -- ---- what a verdict says of the next counter

  two_differ : (a : List Bare) (counter : ℕ) → Found a (Double counter) → (m : Bare) → Only (length a + 1) m → ⊥
  two_differ a counter f m only =
      let t = f.1 in
      let first : t.0 ≡ m = only.only t.0 (subst (λ (n : ℕ). Stamped n t.0) f.0 t.2) in
      let second : t.1 ≡ m = only.only t.1 (subst (λ (n : ℕ). Stamped n t.1) f.0 t.3) in
      t.4 (ap bare_bytes (first ∙ sym second))

  double_is : (a : List Bare) (counter : ℕ) → Found a (Double counter) → IsNext a
  double_is a counter f = let t = f.1 in (t.0, subst (λ (n : ℕ). Stamped n t.0) f.0 t.2)

  illegal_only : (a : List Bare) (counter rule : ℕ) (f : Found a (Illegal counter rule)) → Only (length a + 1) f.1.0
  illegal_only a counter rule f = subst (λ (n : ℕ). Only n f.1.0) f.0 f.1.1

  illegal_is : (a : List Bare) (counter rule : ℕ) → Found a (Illegal counter rule) → IsNext a
  illegal_is a counter rule f = (f.1.0, (illegal_only a counter rule f).stamped)

  gap_none : (a : List Bare) (missing seen : ℕ) → Found a (Gap missing seen) → IsNext a → ⊥
  gap_none a missing seen f n = f.1 n.0 (subst (λ (k : ℕ). Stamped k n.0) (sym f.0) n.1)

  ordered_none : (a : List Bare) (last : ℕ) → Found a (Ordered last) → IsNext a → ⊥
  ordered_none a last f n = absurd (omega (arith, f.0, f.1 (length a + 1) n.0 n.1))

  -- So no list goes on behind it.
  none_goes_on : (a : List Bare) (v : Verdict) → Found a v → (m : Bare) → Only (length a + 1) m → may_follow s secret given host a m ≡ true → ⊥
  none_goes_on a (Double counter) f m only may = two_differ a counter f m only
  none_goes_on a (Gap missing seen) f m only may = gap_none a missing seen f (m, only.stamped)
  none_goes_on a (Illegal counter rule) f m only may =
      let same : f.1.0 ≡ m = only.only f.1.0 (illegal_only a counter rule f).stamped in
      let e : true ≡ false = sym may ∙ (ap (may_follow s secret given host a) (sym same) ∙ f.1.2) in
      absurd cc
  none_goes_on a (Ordered last) f m only may = ordered_none a last f (m, only.stamped)

  -- ---- behind the same list

  lowest : (a : List Bare) (m n : ℕ) (x y : ℕ) → Found a (Gap m x) → Found a (Gap n y) → x ≤ y
  lowest a m n x y f g = f.4 y g.3.0 (omega (arith, f.0, g.0, g.2)) g.3.1

  one : (a : List Bare) (v w : Verdict) → Found a v → Found a w → v ≡ w
  one a (Double c) (Double d) f g = ap (λ (k : ℕ). Double k) (f.0 ∙ sym g.0)
  one a (Double c) (Gap m x) f g = absurd (gap_none a m x g (double_is a c f))
  one a (Double c) (Illegal d r) f g = absurd (two_differ a c f g.1.0 (illegal_only a d r g))
  one a (Double c) (Ordered l) f g = absurd (ordered_none a l g (double_is a c f))
  one a (Gap m x) (Double d) f g = absurd (gap_none a m x f (double_is a d g))
  one a (Gap m x) (Gap n y) f g =
      let seen : x ≡ y = omega (arith, lowest a m n x y f g, lowest a n m y x g f) in
      ap (λ (k : ℕ). Gap k x) (f.0 ∙ sym g.0) ∙ ap (λ (k : ℕ). Gap n k) seen
  one a (Gap m x) (Illegal d r) f g = absurd (gap_none a m x f (illegal_is a d r g))
  one a (Gap m x) (Ordered l) f g = absurd (omega (arith, f.0, f.2, g.0, g.1 x f.3.0 f.3.1))
  one a (Illegal c r) (Double d) f g = absurd (two_differ a d g f.1.0 (illegal_only a c r f))
  one a (Illegal c r) (Gap m x) f g = absurd (gap_none a m x g (illegal_is a c r f))
  one a (Illegal c r) (Illegal d q) f g =
      let same : f.1.0 ≡ g.1.0 = (illegal_only a d q g).only f.1.0 (illegal_only a c r f).stamped in
      ap (λ (k : ℕ). Illegal k r) (f.0 ∙ sym g.0) ∙ ap (λ (k : ℕ). Illegal d k) (f.1.3 ∙ (ap rule_of same ∙ sym g.1.3))
  one a (Illegal c r) (Ordered l) f g = absurd (ordered_none a l g (illegal_is a c r f))
  one a (Ordered l) (Double d) f g = absurd (ordered_none a l f (double_is a d g))
  one a (Ordered l) (Gap n y) f g = absurd (omega (arith, g.0, g.2, f.0, f.1 y g.3.0 g.3.1))
  one a (Ordered l) (Illegal d r) f g = absurd (ordered_none a l f (illegal_is a d r g))
  one a (Ordered l) (Ordered k) f g = ap (λ (n : ℕ). Ordered n) (f.0 ∙ sym g.0)

  shorter : (v w : Verdict) (x : IsVerdict s secret given host v) (y : IsVerdict s secret given host w) → length x.before < length y.before → ⊥
  shorter v w x y lt =
      let t = goes_on x.before y.before x.taken y.taken lt in
      none_goes_on x.before v x.next t.0 t.1 t.2

  pub verdict_is_one : (v w : Verdict) → IsVerdict s secret given host v → IsVerdict s secret given host w → v ≡ w
  verdict_is_one v w x y = elim (cases_order (length x.before) (length y.before)) [
    | inl same ↦
        let e : y.before ≡ x.before = same_length y.before x.before y.taken x.taken (sym same) in
        one x.before v w x.next (subst (λ (l : List Bare). Found l w) e y.next)
    | inr (inl less) ↦ absurd (shorter v w x y less)
    | inr (inr more) ↦ absurd (shorter w v y x more)
  ]

pub one_verdict : OneVerdict
one_verdict s secret given host v w x y = verdict_is_one s secret given host v w x y
