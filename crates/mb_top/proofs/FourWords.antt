-- What four words ask for.
use Rattle.std.proofs.Common.{◌≡◌, List, [], ◌∷◌, length, get_or, map, String, Global, string_bytes, refl, arith}
use Rattle.mb_top.specs.Commands.{command_of, with_path_of}

-- four words, by their places
pub four_asked : (words : List (String Global)) (name host events : String Global) → length words ≡ 4 → name ≡ get_or words 0 name → host ≡ get_or words 1 host → events ≡ get_or words 2 events
    → with_path_of (string_bytes name) (string_bytes host) (string_bytes events) ≡ command_of (map string_bytes words)
four_asked [] name host events four first second third = absurd (omega (arith, four))
four_asked (x ∷ []) name host events four first second third = absurd (omega (arith, four))
four_asked (x ∷ y ∷ []) name host events four first second third = absurd (omega (arith, four))
four_asked (x ∷ y ∷ z ∷ []) name host events four first second third = absurd (omega (arith, four))
four_asked (x ∷ y ∷ z ∷ path ∷ []) name host events four first second third =
    let one : name ≡ x = first in
    let two : host ≡ y = second in
    let three : events ≡ z = third in
    rw (one, two, three) refl
four_asked (x ∷ y ∷ z ∷ path ∷ more ∷ words) name host events four first second third = absurd (omega (arith, four))
