-- Words that are printed into a line are the words of that line, and lines that are printed are the lines of the text.
use Rattle.std.proofs.Common.{◌≡◌, ℕ, ◌<◌, leb, eqb, Bool, true, false, List, [], ◌∷◌, ◌++◌, refl, sym, ap, ◌∙◌, append_assoc, lit<, arith}
use Rattle.std.specs.List.{list_all, join_with_byte, All, AllByRecursion}
use Rattle.std.proofs.lemmas.Bool.{and_parts, and_from, leb-true, le-leb, ne_eqb}
use Rattle.std.proofs.lemmas.List.Folds.{list_all-append}
use Rattle.std.proofs.lemmas.List.Splits.{slice_split_at, slice_split_none}
use Rattle.std.proofs.lemmas.List.Sums.{AllPass-from_list_all}
use Rattle.mb_base.specs.Shapes.{Bytes}
use Rattle.mb_sched.specs.Words.{pieces, words}
use Rattle.mb_sched.specs.ScheduleText.{line_text}

-- whether bytes are at least low, as all that is printed in a word is at least 33
abbrev pub from_byte : ℕ → Bytes → Bool
from_byte low bytes = list_all (leb low) bytes

abbrev pub IsWord : Bytes → Type 0
IsWord word = from_byte 33 word ≡ true

-- a test of each byte that is weaker
pub weaker : (p q : ℕ → Bool) → ((b : ℕ) → p b ≡ true → q b ≡ true) → (bytes : Bytes) → list_all p bytes ≡ true → list_all q bytes ≡ true
weaker p q h [] e = refl
weaker p q h (b ∷ bs) e =
    let parts = and_parts (p b) (list_all p bs) e in
    and_from (q b) (list_all q bs) (h b parts.0) (weaker p q h bs parts.1)

-- greater bytes are no separators
no_separator : (low c : ℕ) (bytes : Bytes) → c < low → from_byte low bytes ≡ true → All (λ b. eqb b c ≡ false) bytes
no_separator low c bytes lt e = λ k d at.
    let le = leb-true _ _ (AllPass-from_list_all (leb low) bytes e k d at) in
    ne_eqb _ _ (λ same. omega arith)

first_piece : (low c : ℕ) (bytes rest : Bytes) → c < low → eqb c c ≡ true → from_byte low bytes ≡ true → pieces c (bytes ++ c ∷ rest) ≡ bytes ∷ pieces c rest
first_piece low c bytes rest lt same e = slice_split_at (λ b. eqb b c) bytes c rest (no_separator low c bytes lt e) same

-- the words of a line of words
pub words-join : (word : Bytes) (more : List Bytes) → IsWord word → AllByRecursion IsWord more → words (join_with_byte 32 (word ∷ more)) ≡ word ∷ more
words-join word [] is more_is = slice_split_none (λ b. eqb b 32) word (no_separator 33 32 word (lit< tt) is)
words-join word (next ∷ more) is more_is =
    first_piece 33 32 word (join_with_byte 32 (next ∷ more)) (lit< tt) refl is
    ∙ ap (λ (ws : List Bytes). word ∷ ws) (words-join next more more_is.0 more_is.1)

-- a line of words has no LF
no_end : (word : Bytes) (more : List Bytes) → IsWord word → AllByRecursion IsWord more → from_byte 32 (join_with_byte 32 (word ∷ more)) ≡ true
no_end word [] is more_is = weaker (leb 33) (leb 32) (λ b e. le-leb _ _ (let le = leb-true _ _ e in omega arith)) word is
no_end word (next ∷ more) is more_is =
    let one = weaker (leb 33) (leb 32) (λ b e. le-leb _ _ (let le = leb-true _ _ e in omega arith)) word is in
    rw (list_all-append (leb 32) word (32 ∷ join_with_byte 32 (next ∷ more)), one) (no_end next more more_is.0 more_is.1)

-- a first part of a line of words is one piece
pub cut_line-piece : (word : Bytes) (more : List Bytes) (part rest : Bytes) → IsWord word → AllByRecursion IsWord more → part ++ rest ≡ join_with_byte 32 (word ∷ more) → pieces 10 part ≡ part ∷ []
cut_line-piece word more part rest is more_is parts =
    let whole : from_byte 32 (part ++ rest) ≡ true = ap (from_byte 32) parts ∙ no_end word more is more_is in
    let both = and_parts (from_byte 32 part) (from_byte 32 rest) (sym (list_all-append (leb 32) part rest) ∙ whole) in
    slice_split_none (λ b. eqb b 10) part (no_separator 32 10 part (lit< tt) both.0)

-- the first line of a text that begins with a line of words
pub line_text-piece : (word : Bytes) (more : List Bytes) (rest : Bytes) → IsWord word → AllByRecursion IsWord more
    → pieces 10 (line_text (word ∷ more) ++ rest) ≡ join_with_byte 32 (word ∷ more) ∷ pieces 10 rest
line_text-piece word more rest is more_is =
    rw (append_assoc (join_with_byte 32 (word ∷ more)) (10 ∷ []) rest)
    (first_piece 32 10 (join_with_byte 32 (word ∷ more)) rest (lit< tt) refl (no_end word more is more_is))
