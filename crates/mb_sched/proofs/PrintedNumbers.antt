-- A number that is printed is read again.
use Rattle.std.proofs.Common.{◌≡◌, ℕ, ◌+◌, ◌-◌, ◌*◌, ◌/◌, ◌%◌, ◌^◌, ◌<◌, ◌≤◌, leb, true, ◌&&◌, ◌⊎◌, inl, inr, [], ◌∷◌, ◌++◌, length, get_or, Some, refl, sym, ◌∙◌, arith}
use Rattle.std.specs.Char.{is_ascii_digit}
use Rattle.std.specs.Fmt.{decimal}
use Rattle.std.specs.List.{list_all}
use Rattle.std.proofs.lemmas.Bool.{and_parts, and_from, leb-true, le-leb, ne_eqb, cases_lt}
use Rattle.std.proofs.lemmas.Fmt.{decimal_by_steps}
use Rattle.std.proofs.lemmas.List.Folds.{list_all-append}
use Rattle.std.proofs.lemmas.List.Sums.{fold-append}
use Rattle.mb_base.specs.Shapes.{Bytes}
use Rattle.mb_sched.specs.Words.{is_decimal, decimal_value, number_in}
use Rattle.mb_sched.proofs.PrintedWords.{IsWord, weaker}

-- what printing a number gives
record Prints (n : ℕ) (digits : Bytes) : Type 0 where
  value : decimal_value digits ≡ n
  are_digits : list_all is_ascii_digit digits ≡ true
  some : 0 < length digits
  single : n < 10 → length digits ≡ 1
  first : 0 < n → get_or digits 0 0 ≡ 48 → ⊥

is_digit : (d : ℕ) → d < 10 → is_ascii_digit (48 + d) ≡ true
is_digit d lt = and_from (leb 48 (48 + d)) (leb (48 + d) 57) (le-leb _ _ (omega arith)) (le-leb _ _ (omega arith))

one_digit : (n : ℕ) → n < 10 → Prints n ((48 + n) ∷ [])
one_digit n lt = record {
  value = omega arith;
  are_digits = and_from (is_ascii_digit (48 + n)) true (is_digit n lt) refl;
  some = omega arith;
  single = λ _. refl;
  first = λ some e. omega arith;
}

same_first : (digits : Bytes) (d : ℕ) → 0 < length digits → get_or (digits ++ d ∷ []) 0 0 ≡ get_or digits 0 0
same_first [] d lt = absurd (omega arith)
same_first (e ∷ es) d lt = refl

some_more : (digits : Bytes) (d : ℕ) → 0 < length (digits ++ d ∷ [])
some_more [] d = omega arith
some_more (e ∷ es) d = omega arith

more_digits : (n : ℕ) (digits : Bytes) → 10 ≤ n → Prints (n / 10) digits → Prints n (digits ++ (48 + n % 10) ∷ [])
more_digits n digits le before = record {
  value =
      let whole : n / 10 * 10 + (48 + n % 10 - 48) ≡ n = omega arith in
      fold-append (λ n digit. n * 10 + (digit - 48)) 0 digits ((48 + n % 10) ∷ []) ∙ (rw before.value whole);
  are_digits =
      list_all-append is_ascii_digit digits ((48 + n % 10) ∷ [])
      ∙ and_from (list_all is_ascii_digit digits) (is_ascii_digit (48 + n % 10) && true) before.are_digits (and_from (is_ascii_digit (48 + n % 10)) true (is_digit (n % 10) (omega arith)) refl);
  some = some_more digits (48 + n % 10);
  single = λ lt. absurd (omega arith);
  first = λ some e. before.first (omega arith) (sym (same_first digits (48 + n % 10) before.some) ∙ e);
}

prints : (n : ℕ) → n < 2 ^ 64 → Prints n (decimal n)
prints n lt = decimal_by_steps Prints one_digit more_digits n lt

-- digits without a leading zero
decimal_form : (digits : Bytes) → list_all is_ascii_digit digits ≡ true → 0 < length digits → (length digits ≡ 1) ⊎ (get_or digits 0 0 ≡ 48 → ⊥) → is_decimal digits ≡ true
decimal_form [] are some form = absurd (omega arith)
decimal_form (d ∷ []) are some form = (and_parts (is_ascii_digit d) true are).0
decimal_form (d ∷ e ∷ ds) are some (inl one) = absurd (omega arith)
decimal_form (d ∷ e ∷ ds) are some (inr first) = rw (ne_eqb d 48 first) are

is_decimal-decimal : (n : ℕ) → n < 2 ^ 64 → is_decimal (decimal n) ≡ true
is_decimal-decimal n lt =
    let p = prints n lt in
    decimal_form (decimal n) p.are_digits p.some (elim (cases_lt n 10) [ inl small ↦ inl (p.single small) | inr large ↦ inr (p.first (omega arith)) ])

pub number_in-decimal : (low high n : ℕ) → n < 2 ^ 64 → low ≤ n → n ≤ high → number_in low high (decimal n) ≡ Some n
number_in-decimal low high n lt above below =
    rw (is_decimal-decimal n lt, (prints n lt).value, le-leb low n above, le-leb n high below) refl

digit_in_word : (b : ℕ) → is_ascii_digit b ≡ true → leb 33 b ≡ true
digit_in_word b e = let le = leb-true _ _ (and_parts (leb 48 b) (leb b 57) e).0 in le-leb _ _ (omega arith)

pub IsWord-decimal : (n : ℕ) → n < 2 ^ 64 → IsWord (decimal n)
IsWord-decimal n lt = weaker is_ascii_digit (leb 33) digit_in_word (decimal n) (prints n lt).are_digits
