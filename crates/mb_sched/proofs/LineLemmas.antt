-- Lines whose last words are numbers.
use Rattle.std.proofs.Common.{◌≡◌, ℕ, List, [], ◌∷◌, ◌++◌, map, refl, sym, ap, ◌∙◌, append_assoc}
use Rattle.std.specs.Prelude.{codes}
use Rattle.std.specs.List.{flat_map, join_with_byte}
use Rattle.std.proofs.lemmas.List.{append-nil}
use Rattle.std.proofs.lemmas.Grind.{flat_map-append}
use Rattle.std.proofs.lemmas.List.Concat.{flat_map-cons}
use Rattle.std.specs.Fmt.{decimal}
use Rattle.mb_base.specs.Shapes.{Bytes}
use Rattle.mb_sched.specs.Printing.{line_of, spaced_number}
use Rattle.mb_sched.specs.ScheduleText.{spaced, line_text}

-- a word, and numbers behind it
line_of_numbers : (w : Bytes) (ns : List ℕ) → line_of (w ∷ map decimal ns) ≡ w ++ (flat_map spaced_number ns ++ codes "\n")
line_of_numbers w [] = refl
line_of_numbers w (n ∷ ns) = rw (line_of_numbers (decimal n) ns) (simp append_assoc)

-- the same behind a text, in the order in which it is printed
pub numbers_behind : (text w : Bytes) (ns : List ℕ) → ((text ++ w) ++ flat_map spaced_number ns) ++ codes "\n" ≡ text ++ line_of (w ∷ map decimal ns)
numbers_behind text w ns = rw (line_of_numbers w ns) (simp append_assoc)

-- words behind a word
join_spaced : (w : Bytes) (ws : List Bytes) → join_with_byte 32 (w ∷ ws) ≡ w ++ flat_map spaced ws
join_spaced w [] = sym (append-nil w)
join_spaced w (v ∷ ws) = rw (join_spaced v ws, flat_map-cons {X = Bytes} spaced v ws) refl

flat-append : (vs ws : List Bytes) → flat_map spaced (vs ++ ws) ≡ flat_map spaced vs ++ flat_map spaced ws
flat-append vs ws = flat_map-append spaced vs ws

-- names behind a text and a word, in the order in which they are printed
pub names_behind : (text w : Bytes) (vs ws : List Bytes) → (((text ++ w) ++ flat_map spaced vs) ++ flat_map spaced ws) ++ codes "\n" ≡ text ++ line_text (w ∷ vs ++ ws)
names_behind text w vs ws = rw (join_spaced w (vs ++ ws), flat-append vs ws) (simp append_assoc)

-- numbers are words
numbers_are : (ns : List ℕ) → flat_map spaced (map decimal ns) ≡ flat_map spaced_number ns
numbers_are [] = refl
numbers_are (n ∷ ns) = rw (flat_map-cons {X = Bytes} spaced (decimal n) (map decimal ns), numbers_are ns) refl

join_numbers : (w : Bytes) (ns : List ℕ) → join_with_byte 32 (w ∷ map decimal ns) ≡ w ++ flat_map spaced_number ns
join_numbers w ns = join_spaced w (map decimal ns) ∙ ap (λ (x : Bytes). w ++ x) (numbers_are ns)

-- the same behind a text, in the order in which it is printed
pub numbers_end : (text w : Bytes) (ns : List ℕ) → ((text ++ w) ++ flat_map spaced_number ns) ++ codes "\n" ≡ text ++ line_text (w ∷ map decimal ns)
numbers_end text w ns = rw (join_numbers w ns) (simp append_assoc)
