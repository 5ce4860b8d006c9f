-- Whether the parts of a STATE are held, part by part.
use Rattle.std.proofs.Common.{◌≡◌, ℕ, zero, suc, ◌+◌, ◌-◌, ◌<◌, ◌≤◌, Bool, true, false, length, Option, Some, None, refl, sym, ap, ◌∙◌, arith, inl, inr, subst}
use Rattle.std.specs.Prelude.{is_some}
use Rattle.std.specs.List.{range_with_len, list_all}
use Rattle.std.proofs.lemmas.Bool.{cases_Bool, cases_eq, cases_lt, lt-leb, le-leb}
use Rattle.std.proofs.lemmas.Option.{slice_get_past}
use Rattle.mb_base.specs.Shapes.{Bytes}
use Rattle.mb_msg.specs.declared.transfer.StateMsg.{StateMsg}
use Rattle.mb_model.specs.Execution.{part_in}
use Rattle.mb_fetch.specs.Parts.{joined}
use Rattle.mb_executor.specs.Taking.{are_held}

all_in_range : (p : ℕ → Bool) (first n i : ℕ) → list_all p (range_with_len first n) ≡ true → first ≤ i → i < first + n → p i ≡ true
all_in_range p first zero i e low high = absurd (omega (arith, low, high))
all_in_range p first (suc n) i e low high = elim (cases_Bool (p first)) [
  | inl so ↦ elim (cases_eq i first) [
    | inl same ↦ subst (λ (j : ℕ). p j ≡ true) (sym same) so
    | inr other ↦ all_in_range p (first + 1) n i (rw so at e) (omega (arith, low, other)) (omega (arith, high))
  ]
  | inr not_so ↦ let never = rw not_so at e in absurd cc
]

module _ (search : ℕ → Option Bytes) (m : StateMsg) where
  -- those from an index on
  abbrev pub held_from : ℕ → Bool
  held_from n = list_all (λ i. is_some (search i)) (range_with_len (m.first + n) (length m.parts - n))

  pub held_start : held_from 0 ≡ are_held search m
  held_start =
      let none : m.first + 0 ≡ m.first = omega arith in
      let all : length m.parts - 0 ≡ length m.parts = omega arith in
      rw (none, all) refl

  module _ (n place : ℕ) (at : place ≡ m.first + n) where
    pub held_step : n < length m.parts → is_some (search place) ≡ true → held_from (n + 1) ≡ held_from n
    held_step lt held =
        let one : length m.parts - n ≡ suc (length m.parts - (n + 1)) = omega (arith, lt) in
        let next : m.first + (n + 1) ≡ (m.first + n) + 1 = omega arith in
        let here : is_some (search (m.first + n)) ≡ true = ap (λ (i : ℕ). is_some (search i)) (sym at) ∙ held in
        rw (one, next, here) refl

    pub held_stop : n < length m.parts → is_some (search place) ≡ false → held_from n ≡ false
    held_stop lt free =
        let one : length m.parts - n ≡ suc (length m.parts - (n + 1)) = omega (arith, lt) in
        let here : is_some (search (m.first + n)) ≡ false = ap (λ (i : ℕ). is_some (search i)) (sym at) ∙ free in
        rw (one, here) refl

  pub held_end : (n : ℕ) → length m.parts ≤ n → held_from n ≡ true
  held_end n le = let none : length m.parts - n ≡ 0 = omega (arith, le) in rw none refl

  -- Where all are held, joining them changes nothing.
  pub joined_same : are_held search m ≡ true → (i : ℕ) → joined search m i ≡ search i
  joined_same all i = by_case (search i) refl where
    absent : search i ≡ None → part_in m i ≡ None
    absent none = elim (cases_lt i m.first) [
      | inl below ↦ rw (lt-leb m.first i below) refl
      | inr from ↦ elim (cases_lt i (m.first + length m.parts)) [
        | inl within ↦
            let held : is_some (search i) ≡ true = all_in_range (λ j. is_some (search j)) m.first (length m.parts) i all from within in
            let never = rw none at held in absurd cc
        | inr past ↦ rw (le-leb m.first i from) (slice_get_past m.parts (i - m.first) (omega (arith, past)))
      ]
    ]

    by_case : (o : Option Bytes) → search i ≡ o → joined search m i ≡ search i
    by_case None is = rw (is, absent is) refl
    by_case (Some part) is = rw is refl
