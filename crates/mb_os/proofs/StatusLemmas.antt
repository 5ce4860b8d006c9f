-- The code with which a child ended is a byte.
use Rattle.std.proofs.Common.{◌≡◌, ℕ, ◌/◌, ◌%◌, ◌<◌, Some, Result, Ok, Err, sym, ap, subst, ◌∙◌, eqb, arith, inl, inr}
use Rattle.std.specs.Prelude.{ℤ, pos, unsigned_abs, OkIff}
use Rattle.std.specs.Int.{FitsUnsignedBits}
use Rattle.std.specs.Result.{result_unwrap_or}
use Rattle.std.specs.Process.{status_bits, exit_code}
use Rattle.std.specs.declared.process.status.ExitStatus.{ExitStatus}
use Rattle.std.proofs.lemmas.Bool.{cases_Bool}
use Rattle.std.proofs.lemmas.Option.{same_Some}

code_small : (s : ExitStatus) (n : ℕ) → exit_code s ≡ Some (pos n) → n < 256
code_small s n is = elim (cases_Bool (eqb (status_bits s % 128) 0)) [
  | inl ended ↦
      let same : Some (pos (status_bits s / 256 % 256)) ≡ Some (pos n) = rw ended at is in
      let here : status_bits s / 256 % 256 ≡ n = cc in
      omega (arith, here)
  | inr signal ↦ let no = rw signal at is in absurd cc
]

told : {E : Type 0} (r : Result ℕ E) (code : ℤ) (n : ℕ) → OkIff r (FitsUnsignedBits 8 code) (unsigned_abs code) → code ≡ pos n → n < 256 → result_unwrap_or r 255 ≡ n
told (Ok x) code n is same small = is.1 ∙ ap unsigned_abs same
told (Err e) code n is same small = absurd (is (subst (FitsUnsignedBits 8) (sym same) small))

pub code_told : {E : Type 0} (s : ExitStatus) (code z : ℤ) (r : Result ℕ E) (n : ℕ) → exit_code s ≡ Some code → z ≡ code → OkIff r (FitsUnsignedBits 8 z) (unsigned_abs z) → exit_code s ≡ Some (pos n) → result_unwrap_or r 255 ≡ n
code_told s code z r n found read is wanted = told r z n is (read ∙ same_Some code (pos n) (sym found ∙ wanted)) (code_small s n wanted)
