-- The ordered prefix of a list is the longest ordered beginning of it.
use Rattle.std.proofs.Common.{◌≡◌, ℕ, Bool, true, false, List, [], ◌∷◌, ◌++◌, length, refl, sym, ap, ◌∙◌, inl, inr, arith, length-append}
use Rattle.std.proofs.lemmas.Bool.{cases_Bool}
use Rattle.mb_base.specs.declared.shape.Shape.{Shape}
use Rattle.mb_parts.specs.declared.floor.Floor.{Floor}
use Rattle.mb_parts.specs.Bares.{Bare}
use Rattle.mb_parts.specs.Counters.{IsBeginning}
use Rattle.mb_parts.specs.Ordered.{permits, is_ordered, ordered_prefix}
use Rattle.mb_parts.specs.OrderedLists.{IsLongestOrdered}
use Rattle.mb_parts.proofs.OrderedParts.{ordered_nil, ordered_cons}

module _ (o : Floor) (s : Shape) (host : ℕ) (inner : Bare → Bool) where
  abbrev prefix_of : List Bare → List Bare
  prefix_of l = ordered_prefix o s host inner l

  pub prefix_whole : (m : Bare) (l : List Bare) → is_ordered o s host inner (m ∷ l) ≡ true → prefix_of (m ∷ l) ≡ m ∷ l
  unfolding ordered_prefix
  prefix_whole m l e = rw e refl

  prefix_less : (m : Bare) (l : List Bare) → is_ordered o s host inner (m ∷ l) ≡ false → prefix_of (m ∷ l) ≡ prefix_of l
  unfolding ordered_prefix
  prefix_less m l e = rw e refl

  prefix_nil : prefix_of [] ≡ []
  unfolding ordered_prefix
  prefix_nil = refl

  whole_begins : (l : List Bare) → IsBeginning l l
  whole_begins l = record { later = []; is = refl }

  -- An ordered beginning of a list is at most as long as the ordered prefix.
  at_most : (later l : List Bare) → is_ordered o s host inner l ≡ true → IsBeginning l (prefix_of (later ++ l))
  at_most [] [] h = record { later = []; is = sym prefix_nil }
  at_most [] (m ∷ l) h = record { later = []; is = sym (prefix_whole m l h) }
  at_most (x ∷ later) l h = elim (cases_Bool (is_ordered o s host inner (x ∷ later ++ l))) [
    | inl all ↦ record { later = x ∷ later; is = sym (prefix_whole x (later ++ l) all) }
    | inr less ↦ let b = at_most later l h in record { later = b.later; is = b.is ∙ sym (prefix_less x (later ++ l) less) }
  ]

  begins : (l : List Bare) → IsBeginning (prefix_of l) l
  begins [] = record { later = []; is = prefix_nil }
  begins (m ∷ l) = elim (cases_Bool (is_ordered o s host inner (m ∷ l))) [
    | inl all ↦ record { later = []; is = prefix_whole m l all }
    | inr less ↦ let b = begins l in record { later = m ∷ b.later; is = ap (λ (x : List Bare). m ∷ b.later ++ x) (prefix_less m l less) ∙ ap (λ (x : List Bare). m ∷ x) b.is }
  ]

  is_so : (l : List Bare) → is_ordered o s host inner (prefix_of l) ≡ true
  is_so [] = rw prefix_nil (ordered_nil o s host inner)
  is_so (m ∷ l) = elim (cases_Bool (is_ordered o s host inner (m ∷ l))) [
    | inl all ↦ rw (prefix_whole m l all) all
    | inr less ↦ rw (prefix_less m l less) (is_so l)
  ]

  too_long : (later l : List Bare) (m : Bare) (p : List Bare) → later ++ m ∷ l ≡ p → p ≡ l → ⊥
  too_long later l m p a b = absurd (omega (arith, ap length (a ∙ b), length-append later (m ∷ l)))

  pub longest : (l : List Bare) → IsLongestOrdered o s host inner (prefix_of l) l
  longest l = record {
    beginning = begins l;
    ordered = is_so l;
    longest = λ later m is. elim (cases_Bool (permits o s host inner (prefix_of l) m)) [
      | inr not_so ↦ not_so
      | inl allowed ↦
          let longer = at_most later (m ∷ prefix_of l) (ordered_cons o s host inner m (prefix_of l) allowed (is_so l)) in
          absurd (too_long longer.later (prefix_of l) m (prefix_of (later ++ m ∷ prefix_of l)) longer.is (ap (λ (x : List Bare). prefix_of x) is))
    ];
  }
