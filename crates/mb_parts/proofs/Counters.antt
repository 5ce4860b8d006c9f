-- Messages and their counters in lists that stand newest first.
use Rattle.std.proofs.Common.{◌≡◌, ℕ, ◌+◌, ◌≤◌, false, List, [], ◌∷◌, ◌++◌, length, refl, sym, ap, inl, inr, arith, eqb, Some, length-append}
use Rattle.std.proofs.lemmas.Bool.{cases_Bool, eqb-true, eq-eqb, ne_eqb}
use Rattle.mb_parts.specs.Counters.{at_counter}

module _ {A : Type 0} where
  pub at_here : (later : List A) (m : A) (l : List A) → at_counter (later ++ m ∷ l) (length l + 1) ≡ Some m
  at_here [] m l = rw (eq-eqb (length l + 1) (length l + 1) refl) refl
  at_here (x ∷ later) m l =
      let other : eqb (length l + 1) (length (later ++ m ∷ l) + 1) ≡ false = ne_eqb _ _ (λ e. omega (arith, length-append later (m ∷ l))) in
      rw other (at_here later m l)

  -- A message stands at a counter: so many messages are before it, less one.
  pub record StandsAt (l : List A) (c : ℕ) (m : A) : Type 0 where
    pub before : List A
    pub later : List A
    pub is : later ++ m ∷ before ≡ l
    pub counter : c ≡ length before + 1

  pub some_is : (x m : A) → Some x ≡ Some m → x ≡ m
  some_is x m e = cc

  pub at_split : (l : List A) (c : ℕ) (m : A) → at_counter l c ≡ Some m → StandsAt l c m
  at_split [] c m e = absurd cc
  at_split (x ∷ l) c m e = elim (cases_Bool (eqb c (length l + 1))) [
    | inl same ↦
        let here : x ≡ m = some_is x m (rw same at e) in
        record { before = l; later = []; is = ap (λ y. y ∷ l) (sym here); counter = eqb-true _ _ same }
    | inr other ↦
        let deeper = at_split l c m (rw other at e) in
        record { before = deeper.before; later = x ∷ deeper.later; is = ap (λ y. x ∷ y) deeper.is; counter = deeper.counter }
  ]

  pub at_bound : (l : List A) (c : ℕ) (m : A) → at_counter l c ≡ Some m → (1 ≤ c) × (c ≤ length l)
  at_bound l c m e =
      let s = at_split l c m e in
      (omega (arith, s.counter), omega (arith, s.counter, length-append s.later (m ∷ s.before), ap length s.is))

  -- what is at a counter stays there
  pub at_more : (later l : List A) (c : ℕ) (m : A) → at_counter l c ≡ Some m → at_counter (later ++ l) c ≡ Some m
  at_more [] l c m e = e
  at_more (x ∷ later) l c m e =
      let b = at_bound l c m e in
      let other : eqb c (length (later ++ l) + 1) ≡ false = ne_eqb _ _ (λ e. omega (arith, length-append later l)) in
      rw other (at_more later l c m e)

  -- what stands at a counter before the last message stands there in the list without it
  pub at_less : (later l : List A) (c : ℕ) → c ≤ length l → at_counter (later ++ l) c ≡ at_counter l c
  at_less [] l c le = refl
  at_less (x ∷ later) l c le =
      let other : eqb c (length (later ++ l) + 1) ≡ false = ne_eqb _ _ (λ e. omega (arith, length-append later l)) in
      rw other (at_less later l c le)
