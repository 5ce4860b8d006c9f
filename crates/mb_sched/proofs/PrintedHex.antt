-- Bytes that are printed in hexadecimal are read again.
use Rattle.std.proofs.Common.{◌≡◌, ℕ, zero, suc, ◌*◌, ◌/◌, ◌%◌, ◌<◌, ◌≤◌, leb, ltb, eqb, Bool, true, false, ◌&&◌, [], ◌∷◌, length, slice_index, cond, Some, None, refl, ap, ◌∙◌, inl, inr, arith}
use Rattle.std.specs.List.{list_all}
use Rattle.std.proofs.lemmas.Bool.{and_parts, and_from, and_right, leb-true, le-leb, lt-ltb, eq-eqb, cases_eq, or_cases}
use Rattle.hex.specs.Hex.{IsBytes, encode_with, encode_lower, lower_digits}
use Rattle.hex.proofs.HexLemmas.{length-encode_with, decode_of-encode_lower, decode_sized-encode_lower}
use Rattle.mb_base.specs.Limits.{text_limit}
use Rattle.mb_base.specs.Shapes.{Bytes}
use Rattle.mb_sched.specs.Words.{is, is_lower_hex_digit, is_hex, bytes_of, operation_of, digest_of}
use Rattle.mb_sched.specs.Printing.{hex_word}
use Rattle.mb_sched.proofs.PrintedWords.{IsWord, weaker}

-- the first n digits of the table are lower-case digits
abbrev all_lower : ℕ → Bool
all_lower zero = true
all_lower (suc n) = is_lower_hex_digit (slice_index lower_digits n) && all_lower n

lower_at : (n d : ℕ) → all_lower n ≡ true → d < n → is_lower_hex_digit (slice_index lower_digits d) ≡ true
lower_at zero d e lt = absurd (omega arith)
lower_at (suc n) d e lt =
    let parts = and_parts (is_lower_hex_digit (slice_index lower_digits n)) (all_lower n) e in
    elim (cases_eq d n) [
      | inl same ↦ rw same parts.0
      | inr other ↦ lower_at n d parts.1 (omega arith)
    ]

lower : (bytes : Bytes) → IsBytes bytes → list_all is_lower_hex_digit (encode_lower bytes) ≡ true
unfolding encode_with
lower [] fits = refl
lower (b ∷ bs) fits =
    let byte : b < 256 = fits 0 in
    let high = lower_at 16 (b / 16) refl (omega arith) in
    let low = lower_at 16 (b % 16) refl (omega arith) in
    and_from (is_lower_hex_digit (slice_index lower_digits (b / 16))) (is_lower_hex_digit (slice_index lower_digits (b % 16)) && list_all is_lower_hex_digit (encode_lower bs)) high
    (and_from (is_lower_hex_digit (slice_index lower_digits (b % 16))) (list_all is_lower_hex_digit (encode_lower bs)) low (lower bs (λ k. fits (suc k))))

no_dash : (word : Bytes) → 1 < length word → is "-" word ≡ false
no_dash [] lt = absurd (omega arith)
no_dash (b ∷ []) lt = absurd (omega arith)
no_dash (b ∷ c ∷ bs) lt = and_right (eqb b 45) false refl

is_hex-hex_word : (bytes : Bytes) → IsBytes bytes → is_hex (hex_word bytes) ≡ true
is_hex-hex_word [] fits = refl
is_hex-hex_word (b ∷ bs) fits =
    let len : length (encode_lower (b ∷ bs)) ≡ 2 * length (b ∷ bs) = length-encode_with lower_digits (b ∷ bs) in
    let even : eqb (length (encode_lower (b ∷ bs)) % 2) 0 ≡ true = eq-eqb _ _ (omega arith) in
    let some : ltb 0 (length (encode_lower (b ∷ bs))) ≡ true = lt-ltb _ _ (omega arith) in
    let dash = no_dash (encode_lower (b ∷ bs)) (omega arith) in
    rw (dash, lower (b ∷ bs) fits, some, even) refl

pub bytes_of-hex_word : (bytes : Bytes) → IsBytes bytes → bytes_of (hex_word bytes) ≡ Some bytes
bytes_of-hex_word [] fits = refl
bytes_of-hex_word (b ∷ bs) fits =
    let len : length (encode_lower (b ∷ bs)) ≡ 2 * length (b ∷ bs) = length-encode_with lower_digits (b ∷ bs) in
    let dash = no_dash (encode_lower (b ∷ bs)) (omega arith) in
    rw (is_hex-hex_word (b ∷ bs) fits, dash, decode_of-encode_lower (b ∷ bs) fits) refl

short_word : (bytes : Bytes) → length bytes ≤ text_limit → leb (length (hex_word bytes)) (2 * text_limit) ≡ true
short_word [] le = refl
short_word (b ∷ bs) le =
    let len : length (encode_lower (b ∷ bs)) ≡ 2 * length (b ∷ bs) = length-encode_with lower_digits (b ∷ bs) in
    le-leb _ _ (omega arith)

pub operation_of-hex_word : (op : Bytes) → IsBytes op → length op ≤ text_limit → operation_of (hex_word op) ≡ Some op
operation_of-hex_word op fits le =
    let allowed = and_from (is_hex (hex_word op)) (leb (length (hex_word op)) (2 * text_limit)) (is_hex-hex_word op fits) (short_word op le) in
    ap (λ (b : Bool). cond b (bytes_of (hex_word op)) None) allowed ∙ bytes_of-hex_word op fits

pub digest_of-encode_lower : (bytes : Bytes) → IsBytes bytes → length bytes ≡ 32 → digest_of (encode_lower bytes) ≡ Some bytes
digest_of-encode_lower bytes fits len = rw (decode_sized-encode_lower bytes 32 len fits) refl

digit_in_word : (b : ℕ) → is_lower_hex_digit b ≡ true → leb 33 b ≡ true
digit_in_word b e =
    elim (or_cases (leb 48 b && leb b 57) (leb 97 b && leb b 102) e) [
      | inl number ↦ let le = leb-true _ _ (and_parts (leb 48 b) (leb b 57) number).0 in le-leb _ _ (omega arith)
      | inr letter ↦ let le = leb-true _ _ (and_parts (leb 97 b) (leb b 102) letter).0 in le-leb _ _ (omega arith)
    ]

pub IsWord-encode_lower : (bytes : Bytes) → IsBytes bytes → IsWord (encode_lower bytes)
IsWord-encode_lower bytes fits = weaker is_lower_hex_digit (leb 33) digit_in_word (encode_lower bytes) (lower bytes fits)

pub IsWord-hex_word : (bytes : Bytes) → IsBytes bytes → IsWord (hex_word bytes)
IsWord-hex_word [] fits = refl
IsWord-hex_word (b ∷ bs) fits = IsWord-encode_lower (b ∷ bs) fits
