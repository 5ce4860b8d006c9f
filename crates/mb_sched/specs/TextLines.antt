-- Lines that begin with a keyword, all lines to the end of a text, and what a call makes of a text.
use Rattle.std.specs.Prelude.{◌≡◌, ℕ, ◌+◌, ◌≤◌, ◌<◌, Bool, if◌then◌else◌, List, [], ◌∷◌, length, Option, Some, None, option_and_then, Result, Ok, Err}
use Rattle.std.specs.Str.{bytes_eq}
use Rattle.mb_base.specs.Shapes.{Bytes}
use Rattle.mb_sched.specs.declared.bad_text.BadText.{BadText}
use Rattle.mb_sched.specs.declared.bad_text.BadText.TheVariants as text
use Rattle.mb_sched.specs.Words.{words}
use Rattle.mb_sched.specs.Lines.{◌>>=◌, numbered}

-- a line that is these bytes
abbrev pub exact_line : Bytes → Bytes → Option Unit
exact_line expected line = if bytes_eq line expected then Some tt else None

-- the second of two words, where the first is the keyword
abbrev pub second_word : Bytes → List Bytes → Option Bytes
second_word keyword (first ∷ word ∷ []) = if bytes_eq first keyword then Some word else None
second_word keyword _ = None

-- the word behind a keyword, on a line of these two words
abbrev pub word_behind : Bytes → Bytes → Option Bytes
word_behind keyword line = second_word keyword (words line)

-- a keyword, and a word behind it that says something by `read`
abbrev pub keyword_line : {A : Type 0} → Bytes → (Bytes → Option A) → Bytes → Option A
keyword_line keyword read line = option_and_then read (word_behind keyword line)

-- what all lines say by `read`, the first of which has the number n; where the text isn't ended, one more line is bad
unfoldable pub all_lines : {A : Type 0} → (Bytes → Option A) → Bool → ℕ → List Bytes → Result (List A) ℕ
all_lines read ended n [] = if ended then Ok [] else Err n
all_lines read ended n (line ∷ more) = do
  x ← numbered n (read line)
  xs ← all_lines read ended (n + 1) more
  Ok (x ∷ xs)

-- a call reads a text of at most so many bytes: a longer one is too long before all else; any other is what it is by `read`, seen by
-- `view`, or its first bad line is told; only where memory runs out nothing is said of the lines
abbrev pub ReadsText : {X A : Type 0} → ℕ → (X → A) → (Bytes → Result A ℕ) → Result X BadText → Bytes → Type 0
ReadsText most view read (Ok x) bytes = (length bytes ≤ most) × (read bytes ≡ Ok (view x))
ReadsText most view read (Err text.TooLong) bytes = most < length bytes
ReadsText most view read (Err (text.BadLine number)) bytes = (length bytes ≤ most) × (read bytes ≡ Err number)
ReadsText most view read (Err text.NoMemory) bytes = length bytes ≤ most
