-- The value of decimal digits, digit after digit.
use Rattle.std.proofs.Common.{◌≡◌, ℕ, ◌+◌, ◌-◌, ◌*◌, ◌<◌, ◌≤◌, cond, leb, [], ◌∷◌, length, drop, get_or, Some, None, refl, arith, add-one}
use Rattle.std.proofs.Math.Seq.{drop-cons}
use Rattle.std.specs.List.{fold}
use Rattle.std.proofs.lemmas.Bool.{lt-leb}
use Rattle.mb_base.specs.Shapes.{Bytes}

-- the value of further digits behind a value
abbrev pub value_from : ℕ → Bytes → ℕ
value_from n digits = fold (λ n digit. n * 10 + (digit - 48)) n digits

-- further digits make no smaller value
pub value_grows : (n : ℕ) (digits : Bytes) → n ≤ value_from n digits
value_grows n [] = omega arith
value_grows n (d ∷ ds) = let e = value_grows (n * 10 + (d - 48)) ds in omega arith

-- one digit more
value_next : (n : ℕ) (digits : Bytes) (i : ℕ) → i < length digits → value_from n (drop i digits) ≡ value_from (n * 10 + (get_or digits i 0 - 48)) (drop (i + 1) digits)
value_next n digits i lt = rw (add-one, drop-cons digits i 0) refl

-- once a value is too great, the whole value is
pub too_great : (high n total : ℕ) (digits : Bytes) (i : ℕ) → i < length digits → value_from n (drop i digits) ≡ total → high < n * 10 + (get_or digits i 0 - 48)
    → None ≡ cond (leb total high) (Some total) None
too_great high n total digits i lt e past =
    let grows = value_grows (n * 10 + (get_or digits i 0 - 48)) (drop (i + 1) digits) in
    let next = value_next n digits i lt in
    rw (lt-leb total high (omega arith)) refl
