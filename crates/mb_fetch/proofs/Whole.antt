-- All fetched parts.
use Rattle.std.proofs.Common.{◌≡◌, ℕ, suc, ◌+◌, ◌-◌, ◌<◌, ◌≤◌, true, false, [], Option, Some, None, is_none, inl, inr, refl, sym, ap, ◌∙◌, arith, slice_get, get_or, unwrap_or}
use Rattle.std.specs.Prelude.{find, map, filter_map}
use Rattle.std.specs.List.{range_with_len}
use Rattle.std.proofs.lemmas.Bool.{cases_Bool}
use Rattle.mb_base.specs.Limits.{part_count}
use Rattle.mb_base.specs.Shapes.{Bytes}
use Rattle.mb_fetch.specs.Fetched.{Fetched, IsFetched, part_at}
use Rattle.mb_fetch.specs.Parts.{Represents, first_missing, in_places}
use Rattle.mb_fetch.specs.Assembled.{IsWhole}
use Rattle.std.proofs.lemmas.Option.{slice_get_within}
use Rattle.mb_fetch.proofs.Places.{got, find_same, none_in_range, all_listed, all_placed}

pub missing_stands : (t : Fetched) (pos : ℕ) (digest : Bytes) (search : ℕ → Option Bytes) → Represents t pos digest search → first_missing (part_at t) ≡ first_missing search
missing_stands t pos digest search st = find_same (λ i. is_none (part_at t i)) (λ i. is_none (search i)) (λ i. ap is_none (st.finds i)) (range_with_len 0 part_count)

module _ (t : Fetched) (is : IsFetched t) where
  -- a place tells whether there is a part
  pub held_there : (i : ℕ) → i < part_count → get_or t.held i false ≡ true → is_none (part_at t i) ≡ false
  held_there i lt full =
      let width = is.width in
      let some : part_at t i ≡ Some (unwrap_or (slice_get t.parts i) []) = rw full (got t.parts i [] (omega (arith, lt, width))) in
      rw some refl

  pub missing_there : (i : ℕ) → get_or t.held i false ≡ false → is_none (part_at t i) ≡ true
  missing_there i free = rw free refl

  abbrev pub missing_from : ℕ → Option ℕ
  missing_from n = find (λ i. is_none (part_at t i)) (range_with_len n (part_count - n))

  pub missing_found : (n : ℕ) → n < part_count → get_or t.held n false ≡ false → missing_from n ≡ first_missing (part_at t) → Some n ≡ first_missing (part_at t)
  missing_found n lt free e =
      let one : part_count - n ≡ suc (part_count - (n + 1)) = omega (arith, lt) in
      let here : missing_from n ≡ Some n = rw (one, missing_there n free) refl in
      sym here ∙ e

  pub missing_step : (n : ℕ) → n < part_count → get_or t.held n false ≡ true → missing_from n ≡ first_missing (part_at t) → missing_from (n + 1) ≡ first_missing (part_at t)
  missing_step n lt full e =
      let one : part_count - n ≡ suc (part_count - (n + 1)) = omega (arith, lt) in
      let next : missing_from n ≡ missing_from (n + 1) = rw (one, held_there n lt full) refl in
      sym next ∙ e

  pub missing_end : (n : ℕ) → part_count ≤ n → missing_from n ≡ first_missing (part_at t) → None ≡ first_missing (part_at t)
  missing_end n past e =
      let none : part_count - n ≡ 0 = omega (arith, past) in
      let here : missing_from n ≡ None = rw none refl in
      sym here ∙ e

  pub all_in_places : (pos : ℕ) (digest : Bytes) (search : ℕ → Option Bytes) → Represents t pos digest search → t.parts ≡ in_places search
  all_in_places pos digest search st =
      all_placed t.parts 0 (λ i. unwrap_or (search i) []) (λ i lt. let none_more : 0 + i ≡ i = omega arith in rw none_more (placed i))
      ∙ ap (λ (n : ℕ). map (λ i. unwrap_or (search i) []) (range_with_len 0 n)) is.width where
        placed : (i : ℕ) → unwrap_or (search i) [] ≡ unwrap_or (slice_get t.parts i) []
        placed i = elim (cases_Bool (get_or t.held i false)) [
          | inl full ↦
              let some : part_at t i ≡ slice_get t.parts i = rw full refl in
              ap (λ (o : Option Bytes). unwrap_or o []) (sym (st.finds i) ∙ some)
          | inr free ↦
              let none : part_at t i ≡ None = rw free refl in
              ap (λ (o : Option Bytes). unwrap_or o []) (sym (st.finds i) ∙ none) ∙ sym (is.empty i none)
        ]

  -- where none is missing
  module _ (all : first_missing (part_at t) ≡ None) where
    there : (i : ℕ) → i < part_count → part_at t i ≡ slice_get t.parts i
    there i lt = elim (cases_Bool (get_or t.held i false)) [
      | inl full ↦ rw full refl
      | inr free ↦
          let some = none_in_range (λ j. is_none (part_at t j)) 0 part_count i all (omega arith) (omega (arith, lt)) in
          let none = missing_there i free in
          absurd cc
    ]

    pub whole : IsWhole t t.parts
    whole =
        let width = is.width in record {
          count = is.width;
          certified = λ i part e. let lt = slice_get_within t.parts i part e in is.certified i part (there i (omega (arith, lt, width)) ∙ e);
          stands = λ pos digest search st. all_listed t.parts 0 search (λ i lt. let none_more : 0 + i ≡ i = omega arith in rw none_more (sym (st.finds i) ∙ there i (omega (arith, lt, width))))
              ∙ ap (λ (n : ℕ). filter_map search (range_with_len 0 n)) is.width;
        }
