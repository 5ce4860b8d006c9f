-- Arrays that are written piece by piece, from the front on.
use Rattle.std.proofs.Common.{◌≡◌, ℕ, ◌+◌, ◌^◌, ◌≤◌, List, ◌++◌, length, take, refl, sym, ◌∙◌, arith}
use Rattle.std.specs.Int.{w64}
use Rattle.mb_base.specs.Spelling.{number}
use Rattle.mb_base.proofs.Laws.{wide64, number_length}
use Rattle.std.proofs.lemmas.List.{take_all}

-- The next piece begins where this one ends.
pub follows : (place next : ℕ) (front bytes bare : List ℕ) → place + length bytes ≡ next → take (place + length bytes) bare ≡ front ++ bytes → take next bare ≡ front ++ bytes
follows place next front bytes bare e t = rw (← e) t

-- What is written up to the end is the whole array.
pub whole : (count : ℕ) (bare all : List ℕ) → length bare ≤ count → take count bare ≡ all → bare ≡ all
whole count bare all le t = sym (take_all count bare le) ∙ t

pub eight : (n : ℕ) (bytes : List ℕ) → bytes ≡ number w64 n → length bytes ≡ 8
eight n bytes e = rw e (number_length w64 (2 ^ 64) n wide64)
