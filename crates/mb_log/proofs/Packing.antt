-- What goes into a LOG, entry by entry.
use Rattle.std.proofs.Common.{◌≡◌, ℕ, zero, suc, ◌+◌, ◌-◌, ◌<◌, ◌≤◌, ◌^◌, Bool, true, false, cond, leb, List, [], ◌∷◌, ◌++◌, length, min, drop, ◌⊎◌, refl, sym, ap, ◌∙◌, arith, add-one, inl, inr}
use Rattle.std.specs.Prelude.{slice_get, Some, None, nat_le, nat_lt, ◌||◌, ◌&&◌}
use Rattle.std.proofs.lemmas.Bool.{cases_lt, lt-leb, le-leb, lt-ltb, le-ltb}
use Rattle.std.proofs.lemmas.List.{length-append, append_assoc, append-nil}
use Rattle.mb_base.specs.Limits.{entry_limit, entry_bytes_limit}
use Rattle.mb_parts.specs.Counted.{counted}
use Rattle.mb_msg.specs.declared.stamped.Stamped.{Stamped as StampedMessage}
use Rattle.mb_msg.specs.Spelling.{stamped_bytes}
use Rattle.mb_model.specs.OwnLog.{packed, first_packed}
use Rattle.mb_log.specs.Packing.{is_too_much}

-- what goes behind those that were sent, which have so many bytes
abbrev pub more : List StampedMessage → ℕ → List StampedMessage → List StampedMessage
more [] used rest = first_packed rest
more (m ∷ sent) used rest = packed (entry_limit - 1 - length sent) used rest

past : (n used : ℕ) (l : List StampedMessage) → entry_bytes_limit < used → packed n used l ≡ []
unfolding packed
past zero used l lt = refl
past (suc n) used [] lt = refl
past (suc n) used (m ∷ l) lt = rw (lt-leb (used + length (stamped_bytes m)) entry_bytes_limit (omega arith)) refl

-- The greatest number that is counted to is past the limit.
pub packed_counted : (n used : ℕ) (l : List StampedMessage) → packed n (min used (2 ^ 64 - 1)) l ≡ packed n used l
packed_counted n used l = elim (cases_lt (2 ^ 64 - 1) used) [
  | inl lt ↦ past n (min used (2 ^ 64 - 1)) l (omega arith) ∙ sym (past n used l (omega arith))
  | inr le ↦ ap (λ (u : ℕ). packed n u l) (let e : min used (2 ^ 64 - 1) ≡ used = omega arith in e)
]

-- ---- one message more, or none

past_end : {A : Type 0} (xs : List A) (n : ℕ) → length xs ≤ n → drop n xs ≡ []
past_end [] zero le = refl
past_end [] (suc n) le = refl
past_end (y ∷ ys) zero le = absurd (omega (arith, le))
past_end (y ∷ ys) (suc n) le = past_end ys n (omega (arith, le))

dropped_at : {A : Type 0} (xs : List A) (i : ℕ) (x : A) → slice_get xs i ≡ Some x → drop i xs ≡ x ∷ drop (suc i) xs
dropped_at [] i x e = absurd cc
dropped_at (y ∷ ys) zero x e = let same : y ≡ x = cc in ap (λ z. z ∷ ys) same
dropped_at (y ∷ ys) (suc i) x e = dropped_at ys i x e

pub drop_at : {A : Type 0} (xs : List A) (i : ℕ) (x : A) → slice_get xs i ≡ Some x → drop i xs ≡ x ∷ drop (i + 1) xs
drop_at xs i x e = let n : i + 1 ≡ suc i = add-one i in rw (n) (dropped_at xs i x e)

pub drop_min : {A : Type 0} (k : ℕ) (xs : List A) → drop (min k (length xs)) xs ≡ drop k xs
drop_min k xs = elim (cases_lt k (length xs)) [
  | inl lt ↦ ap (λ n. drop n xs) (let e : min k (length xs) ≡ k = omega (arith, lt) in e)
  | inr le ↦ past_end xs (min k (length xs)) (omega (arith, le)) ∙ sym (past_end xs k le)
]

none_behind : (n used : ℕ) → packed n used [] ≡ []
unfolding packed
none_behind zero used = refl
none_behind (suc n) used = refl

pub more_none : (sent : List StampedMessage) (used : ℕ) → more sent used [] ≡ []
more_none [] used = refl
more_none (m ∷ sent) used = none_behind (entry_limit - 1 - length sent) used

packed_stops : (n used : ℕ) (m : StampedMessage) (rest : List StampedMessage) → (n ≡ 0) ⊎ (entry_bytes_limit < used + length (stamped_bytes m)) → packed n used (m ∷ rest) ≡ []
unfolding packed
packed_stops zero used m rest why = refl
packed_stops (suc n) used m rest (inl none) = absurd (omega (arith, none))
packed_stops (suc n) used m rest (inr lt) = rw (lt-leb (used + length (stamped_bytes m)) entry_bytes_limit lt) refl

packed_goes_on : (n used : ℕ) (m : StampedMessage) (rest : List StampedMessage) → used + length (stamped_bytes m) ≤ entry_bytes_limit → packed (suc n) used (m ∷ rest) ≡ m ∷ packed n (used + length (stamped_bytes m)) rest
unfolding packed
packed_goes_on n used m rest le = rw (le-leb (used + length (stamped_bytes m)) entry_bytes_limit le) refl

module _ (m : StampedMessage) (rest : List StampedMessage) where
  stops_with : (sent : List StampedMessage) (used : ℕ) → is_too_much (length sent) (counted used (stamped_bytes m)) ≡ true → more sent used (m ∷ rest) ≡ []
  unfolding counted
  stops_with [] used e = absurd cc
  stops_with (y ∷ ys) used e = elim (cases_lt (length ys) (entry_limit - 1)) [
    | inr le ↦ packed_stops (entry_limit - 1 - length ys) used m rest (inl (omega (arith, le)))
    | inl lt ↦ elim (cases_lt entry_bytes_limit (used + length (stamped_bytes m))) [
      | inl beyond ↦ packed_stops (entry_limit - 1 - length ys) used m rest (inr beyond)
      | inr fits ↦
          let few : nat_le entry_limit (suc (length ys)) ≡ false = lt-leb entry_limit (suc (length ys)) (omega (arith, lt)) in
          let short : nat_lt entry_bytes_limit (min (used + length (stamped_bytes m)) (2 ^ 64 - 1)) ≡ false = le-ltb entry_bytes_limit (min (used + length (stamped_bytes m)) (2 ^ 64 - 1)) (omega (arith, fits)) in
          let some : nat_lt 0 (suc (length ys)) ≡ true = lt-ltb 0 (suc (length ys)) (omega arith) in
          let bad : false ≡ true = rw (few, some, short) at e in absurd cc
    ]
  ]

  goes_on_with : (sent : List StampedMessage) (used : ℕ) → (length sent ≡ 0 → used ≡ 0) → is_too_much (length sent) (counted used (stamped_bytes m)) ≡ false
      → (length sent + 1 ≤ entry_limit) × (m ∷ more (sent ++ m ∷ []) (counted used (stamped_bytes m)) rest ≡ more sent used (m ∷ rest))
  unfolding counted
  goes_on_with [] used start e =
      let none : used ≡ 0 = start refl in (
        omega arith,
        ap (λ l. m ∷ l) (packed_counted (entry_limit - 1) (used + length (stamped_bytes m)) rest ∙ ap (λ n. packed (entry_limit - 1) n rest) (let same : used + length (stamped_bytes m) ≡ length (stamped_bytes m) = omega (arith, none) in same)),
      )
  goes_on_with (y ∷ ys) used start e = elim (cases_lt (length ys) (entry_limit - 1)) [
    | inr le ↦
        let all : nat_le entry_limit (suc (length ys)) ≡ true = le-leb entry_limit (suc (length ys)) (omega (arith, le)) in
        let bad : true ≡ false = rw (all) at e in absurd cc
    | inl lt ↦ elim (cases_lt entry_bytes_limit (used + length (stamped_bytes m))) [
      | inl beyond ↦
          let few : nat_le entry_limit (suc (length ys)) ≡ false = lt-leb entry_limit (suc (length ys)) (omega (arith, lt)) in
          let long : nat_lt entry_bytes_limit (min (used + length (stamped_bytes m)) (2 ^ 64 - 1)) ≡ true = lt-ltb entry_bytes_limit (min (used + length (stamped_bytes m)) (2 ^ 64 - 1)) (omega (arith, beyond)) in
          let some : nat_lt 0 (suc (length ys)) ≡ true = lt-ltb 0 (suc (length ys)) (omega arith) in
          let bad : true ≡ false = rw (few, some, long) at e in absurd cc
      | inr fits ↦
          let more_long = length-append ys (m ∷ []) in
          let left : entry_limit - 1 - length (ys ++ m ∷ []) ≡ entry_limit - 2 - length ys = omega (arith, more_long) in
          let next : entry_limit - 1 - length ys ≡ suc (entry_limit - 2 - length ys) = omega (arith, lt) in (
            omega (arith, lt),
            ap (λ l. m ∷ l) (packed_counted (entry_limit - 1 - length (ys ++ m ∷ [])) (used + length (stamped_bytes m)) rest ∙ ap (λ n. packed n (used + length (stamped_bytes m)) rest) left)
                ∙ (sym (packed_goes_on (entry_limit - 2 - length ys) used m rest fits) ∙ ap (λ n. packed n used (m ∷ rest)) (sym next)),
          )
    ]
  ]

module _ (xs : List StampedMessage) (i : ℕ) (m : StampedMessage) (at : slice_get xs i ≡ Some m) (sent whole : List StampedMessage) (used : ℕ) where
  pub stops : sent ++ more sent used (drop i xs) ≡ whole → is_too_much (length sent) (counted used (stamped_bytes m)) ≡ true → sent ≡ whole
  stops so e =
      let none : more sent used (drop i xs) ≡ [] = ap (more sent used) (drop_at xs i m at) ∙ stops_with m (drop (i + 1) xs) sent used e in
      sym (append-nil sent) ∙ (ap (λ l. sent ++ l) (sym none) ∙ so)

  pub goes_on : sent ++ more sent used (drop i xs) ≡ whole → (length sent ≡ 0 → used ≡ 0) → is_too_much (length sent) (counted used (stamped_bytes m)) ≡ false
      → (length (sent ++ m ∷ []) ≤ entry_limit) × ((sent ++ m ∷ []) ++ more (sent ++ m ∷ []) (counted used (stamped_bytes m)) (drop (i + 1) xs) ≡ whole)
  goes_on so start e =
      let step = goes_on_with m (drop (i + 1) xs) sent used start e in
      let long = length-append sent (m ∷ []) in
      let few = step.0 in (
        omega (arith, long, few),
        append_assoc sent (m ∷ []) (more (sent ++ m ∷ []) (counted used (stamped_bytes m)) (drop (i + 1) xs))
            ∙ (ap (λ l. sent ++ l) (step.1 ∙ ap (more sent used) (sym (drop_at xs i m at))) ∙ so),
      )

pub all_sent : (xs sent whole : List StampedMessage) (i used : ℕ) → length xs ≤ i → sent ++ more sent used (drop i xs) ≡ whole → sent ≡ whole
all_sent xs sent whole i used le so = sym (append-nil sent) ∙ (ap (λ l. sent ++ l) (sym (ap (more sent used) (past_end xs i le) ∙ more_none sent used)) ∙ so)
