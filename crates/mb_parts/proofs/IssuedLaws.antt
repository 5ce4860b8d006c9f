-- Whatever hosts stamped, the ordered prefixes of it are as far as they can be, and agree with what was issued.
--
-- What was stamped at a counter is read alone; the list of messages is read up to the first bytes that are none. Up to there both find the same
-- at a counter (`read_at`), and right behind it nothing is read (`none_behind`). So an issued message behind the prefix stands in the list that
-- the prefix begins, and as the prefix is the longest ordered beginning, that message may not stand there.
use Rattle.std.proofs.Common.{◌≡◌, ℕ, ◌+◌, ◌≤◌, Bool, true, false, List, [], ◌∷◌, ◌++◌, length, drop, refl, sym, ap, ◌∙◌, inl, inr, ◌⊎◌, arith, eqb, Option, Some, None, length-append, append_assoc}
use Rattle.std.specs.Prelude.{option_and_then}
use Rattle.std.proofs.lemmas.Bool.{cases_Bool, eqb-true, eqb-false, eq-eqb, ne_eqb, cases_lt}
use Rattle.std.proofs.lemmas.List.{drop_at}
use Rattle.std.proofs.lemmas.Option.{none-some}
use Rattle.mb_base.specs.Shapes.{Bytes}
use Rattle.mb_base.specs.declared.shape.Shape.{Shape}
use Rattle.mb_parts.specs.Bares.{Bare}
use Rattle.mb_parts.specs.BareReading.{bare_of_bytes, bares_of}
use Rattle.mb_parts.specs.Counters.{at_counter}
use Rattle.mb_parts.specs.Claims.{Claim}
use Rattle.mb_parts.specs.Certificates.{inner_valid}
use Rattle.mb_parts.specs.Ordered.{initial_floor, permits}
use Rattle.mb_parts.specs.OrderedLists.{IsLongestOrdered}
use Rattle.mb_parts.specs.Issued.{is_that, stamped_at, is_issued, stamped_prefix, ArePrefixes}
use Rattle.mb_parts.proofs.SameBareLaws.{same_bare_is, same_bare_own}
use Rattle.mb_parts.proofs.Counters.{StandsAt, at_split, at_bound, at_less}
use Rattle.mb_parts.proofs.LongestOrdered.{longest}

that_is : (o : Option Bare) (m : Bare) → is_that o m ≡ true → o ≡ Some m
that_is None m h = absurd cc
that_is (Some x) m h = ap Some (same_bare_is x m h)

-- beginnings of one list that are as long are the same
same_beginning : {A : Type 0} (x y a b : List A) → x ++ a ≡ y ++ b → length a ≡ length b → a ≡ b
same_beginning x y a b e long =
    let sizes : length x ≡ length y = omega (arith, ap length e, length-append x a, length-append y b, long) in
    sym (drop_at x a (length x) refl) ∙ ap (λ z. drop (length x) z) e ∙ drop_at y b (length x) (sym sizes)

module _ (s : Shape) where
  -- ---- what is read of the bytes that a host stamped

  abbrev read_all : List Bytes → List Bare
  read_all l = bares_of s l

  abbrev read_one : List Bytes → ℕ → Option Bare
  read_one l c = option_and_then (bare_of_bytes s) (at_counter l c)

  -- The list of messages goes on, or it ended before.
  step_more : (bytes : Bytes) (l : List Bytes) (m : Bare) → length (read_all l) ≡ length l → bare_of_bytes s bytes ≡ Some m → read_all (bytes ∷ l) ≡ m ∷ read_all l
  unfolding bares_of
  step_more bytes l m long is = rw (eq-eqb (length (read_all l)) (length l) long, is) refl

  step_none : (bytes : Bytes) (l : List Bytes) → bare_of_bytes s bytes ≡ None → read_all (bytes ∷ l) ≡ read_all l
  unfolding bares_of
  step_none bytes l none = elim (cases_Bool (eqb (length (read_all l)) (length l))) [
    | inl long ↦ rw (long, none) refl
    | inr short ↦ rw short refl
  ]

  step_short : (bytes : Bytes) (l : List Bytes) → eqb (length (read_all l)) (length l) ≡ false → read_all (bytes ∷ l) ≡ read_all l
  unfolding bares_of
  step_short bytes l short = rw short refl

  record Step (bytes : Bytes) (l : List Bytes) (m : Bare) : Type 0 where
    long : length (read_all l) ≡ length l
    read : bare_of_bytes s bytes ≡ Some m
    is : read_all (bytes ∷ l) ≡ m ∷ read_all l

  record Stop (bytes : Bytes) (l : List Bytes) : Type 0 where
    is : read_all (bytes ∷ l) ≡ read_all l
    why : (bare_of_bytes s bytes ≡ None) ⊎ (length (read_all l) ≡ length l → ⊥)

  step : (bytes : Bytes) (l : List Bytes) → ((m : Bare) × Step bytes l m) ⊎ Stop bytes l
  step bytes l = by_first (bare_of_bytes s bytes) refl (cases_Bool (eqb (length (read_all l)) (length l))) where
    by_first : (o : Option Bare) → bare_of_bytes s bytes ≡ o → (eqb (length (read_all l)) (length l) ≡ true) ⊎ (eqb (length (read_all l)) (length l) ≡ false) → ((m : Bare) × Step bytes l m) ⊎ Stop bytes l
    by_first o e (inr short) = inr (record { is = step_short bytes l short; why = inr (eqb-false _ _ short) })
    by_first None e (inl long) = inr (record { is = step_none bytes l e; why = inl e })
    by_first (Some m) e (inl long) = let same = eqb-true _ _ long in inl (m, record { long = same; read = e; is = step_more bytes l m same e })

  -- no more is read than was stamped
  read_short : (l : List Bytes) → length (read_all l) ≤ length l
  unfolding bares_of
  read_short [] = omega arith
  read_short (bytes ∷ l) = elim (step bytes l) [
    | inl (m, go) ↦ omega (arith, ap length go.is, go.long)
    | inr stop ↦ omega (arith, ap length stop.is, read_short l)
  ]

  -- as far as the list of messages goes, it has at each counter what the bytes there are read as
  read_at : (l : List Bytes) (c : ℕ) → c ≤ length (read_all l) → at_counter (read_all l) c ≡ read_one l c
  unfolding bares_of
  read_at [] c le = refl
  read_at (bytes ∷ l) c le = elim (step bytes l) [
    | inl (m, go) ↦ rw go.is (elim (cases_Bool (eqb c (length l + 1))) [
      | inl here ↦ rw (go.long, here) (sym go.read)
      | inr other ↦ rw (go.long, other) (read_at l c (below m go.is go.long (eqb-false c (length l + 1) other)))
    ])
    | inr stop ↦
        let short = read_short l in
        let le2 : c ≤ length (read_all l) = omega (arith, ap length stop.is) in
        rw (stop.is, ne_eqb c (length l + 1) (λ e. omega arith)) (read_at l c le2)
  ] where
    below : (m : Bare) → read_all (bytes ∷ l) ≡ m ∷ read_all l → length (read_all l) ≡ length l → (c ≡ length l + 1 → ⊥) → c ≤ length (read_all l)
    below m is long ne = omega (arith, ap length is)

  -- right behind the list of messages nothing is read
  none_behind : (l : List Bytes) (c : ℕ) (m : Bare) → c ≡ length (read_all l) + 1 → read_one l c ≡ Some m → ⊥
  unfolding bares_of
  none_behind [] c m is e = none-some m e
  none_behind (bytes ∷ l) c m is e = elim (cases_Bool (eqb c (length l + 1))) [
    | inl here ↦ first (step bytes l) (eqb-true c (length l + 1) here) (rw here at e)
    | inr other ↦ later (step bytes l) (λ is2. none_behind l c m is2 (rw other at e)) (eqb-false c (length l + 1) other) (rw other at e)
  ] where
    first : ((n : Bare) × Step bytes l n) ⊎ Stop bytes l → c ≡ length l + 1 → bare_of_bytes s bytes ≡ Some m → ⊥
    first (inl (n, go)) here e = absurd (omega (arith, ap length go.is, go.long))
    first (inr stop) here e = elim stop.why [
      | inl none ↦ none-some m (sym none ∙ e)
      | inr short ↦ short (omega (arith, ap length stop.is))
    ]

    later : ((n : Bare) × Step bytes l n) ⊎ Stop bytes l → (c ≡ length (read_all l) + 1 → ⊥) → (c ≡ length l + 1 → ⊥) → read_one l c ≡ Some m → ⊥
    later (inl (n, go)) before ne e = past (at_counter l c) refl e where
      past : (o : Option Bytes) → at_counter l c ≡ o → option_and_then (bare_of_bytes s) o ≡ Some m → ⊥
      past None is2 e = none-some m e
      past (Some b) is2 e = absurd (omega (arith, ap length go.is, go.long, (at_bound l c b is2).1))
    later (inr stop) before ne e = before (omega (arith, ap length stop.is))

  -- ---- what is issued

  module _ (stamped : ℕ → List Bytes) where
    pub says : (c : Claim) → is_issued s stamped c ≡ true → read_one (stamped c.host) c.counter ≡ Some c.says
    unfolding is_issued
    says c h = that_is (stamped_at s stamped c.host c.counter) c.says h

    pub issued_again : (c : Claim) → stamped_at s stamped c.host c.counter ≡ Some c.says → is_issued s stamped c ≡ true
    unfolding is_issued
    issued_again c e = rw e (same_bare_own c.says)

    abbrev all_of : ℕ → List Bare
    all_of h = read_all (stamped h)

    abbrev prefix : ℕ → List Bare
    prefix h = stamped_prefix s stamped h

    is_longest : (h : ℕ) → IsLongestOrdered initial_floor s h (inner_valid s (is_issued s stamped)) (prefix h) (all_of h)
    unfolding stamped_prefix
    is_longest h = longest initial_floor s h (inner_valid s (is_issued s stamped)) (all_of h)

    within : (h : ℕ) → length (prefix h) ≤ length (all_of h)
    within h = let b = (is_longest h).beginning in omega (arith, ap length b.is, length-append b.later (prefix h))

    stands : (c : Claim) → is_issued s stamped c ≡ true → c.counter ≤ length (prefix c.host) → at_counter (prefix c.host) c.counter ≡ Some c.says
    stands c h le =
        let b = (is_longest c.host).beginning in
        let all : at_counter (all_of c.host) c.counter ≡ Some c.says = read_at (stamped c.host) c.counter (omega (arith, within c.host)) ∙ says c h in
        sym (at_less b.later (prefix c.host) c.counter le) ∙ ap (λ (l : List Bare). at_counter l c.counter) b.is ∙ all

    maximal : (c : Claim) → is_issued s stamped c ≡ true → c.counter ≡ length (prefix c.host) + 1
        → permits initial_floor s c.host (inner_valid s (is_issued s stamped)) (prefix c.host) c.says ≡ true → ⊥
    maximal c h count allowed = elim (cases_lt (length (all_of c.host)) c.counter) [
      | inl gt ↦ none_behind (stamped c.host) c.counter c.says (omega (arith, within c.host)) (says c h)
      | inr le ↦
          let b = (is_longest c.host).beginning in
          let there = at_split (all_of c.host) c.counter c.says (read_at (stamped c.host) c.counter le ∙ says c h) in
          let same : there.before ≡ prefix c.host = same_beginning (there.later ++ c.says ∷ []) b.later there.before (prefix c.host) (joined there ∙ there.is ∙ sym b.is) (omega (arith, there.counter)) in
          let not_so = (is_longest c.host).longest there.later c.says (ap (λ (l : List Bare). there.later ++ c.says ∷ l) (sym same) ∙ there.is) in
          clash _ allowed not_so
    ] where
      joined : (t : StandsAt (all_of c.host) c.counter c.says) → (t.later ++ c.says ∷ []) ++ t.before ≡ t.later ++ c.says ∷ t.before
      joined t = append_assoc t.later (c.says ∷ []) t.before

      clash : (b : Bool) → b ≡ true → b ≡ false → ⊥
      clash b x y = cc

    pub are_prefixes : ArePrefixes s stamped
    are_prefixes = record { ordered = λ h. (is_longest h).ordered; stands = stands; maximal = maximal }
