-- Byte strings as hexadecimal text.
use Rattle.std.specs.Prelude.{ℕ, ◌+◌, ◌-◌, ◌*◌, nat_lt, if◌then◌else◌, List, [], ◌∷◌}

-- of the code of a digit, 0 to 9 or a to f
abbrev digit : ℕ → ℕ
digit c = if nat_lt c 58 then c - 48 else c - 87

abbrev pub unhex : List ℕ → List ℕ
unhex [] = []
unhex (a ∷ []) = []
unhex (a ∷ b ∷ l) = (16 * digit a + digit b) ∷ unhex l
