-- What stands in front of a tagged text.
use Rattle.std.proofs.Common.{ℕ, ◌<◌, ◌%◌, ◌≡◌, [], ◌∷◌, ◌++◌, refl, arith}
use Rattle.std.proofs.lemmas.List.{append-nil}
use Rattle.std.specs.Int.{w8}
use Rattle.mb_base.specs.Shapes.{Bytes}
use Rattle.mb_base.specs.Spelling.{number}

-- a byte is spelled as it is
pub number-byte : (n : ℕ) → n < 256 → number w8 n ≡ n ∷ []
unfolding number
number-byte n lt = let e : n % 256 ≡ n = omega arith in rw e refl

-- the front of what is certified, in the pieces that it is made of
pub front-pieces : (host : ℕ) (counter bytes : Bytes) → host < 256 → bytes ≡ counter → 85 ∷ host ∷ (bytes ++ []) ≡ 85 ∷ (number w8 host ++ counter)
front-pieces host counter bytes lt e = rw (number-byte host lt, append-nil, e) refl
