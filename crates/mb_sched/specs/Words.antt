-- The words of a line, each read for itself: numbers, names, and bytes in hexadecimal.
use Prim.Native.String.{String}
use Rattle.std.specs.Prelude.{ℕ, ◌+◌, ◌-◌, ◌*◌, ◌%◌, Bool, false, not, ◌&&◌, ◌||◌, ◌==◌, nat_lt, nat_le, if◌then◌else◌, List, [], ◌∷◌, ◌++◌, length, Option, Some, None, codes, map, option_map}
use denote.Ref.{Bor}
use Rattle.std.specs.Char.{is_ascii_digit}
use Rattle.std.specs.List.{slice_split, list_all, fold}
use Rattle.std.specs.Option.{option_or}
use Rattle.std.specs.Result.{result_ok}
use Rattle.std.specs.Str.{byte, bytes_eq}
use Rattle.hex.specs.Hex.{decode_of, decode_sized}
use Rattle.mb_base.specs.Limits.{text_limit}
use Rattle.mb_base.specs.Shapes.{Bytes, is_within}
use Rattle.mb_schedule.specs.declared.schedule.Name.{Name}
use Rattle.mb_schedule.specs.declared.schedule.Name.TheVariants as name

-- the pieces of a text between the bytes that part it: one more than there are such bytes
abbrev pub pieces : ℕ → Bytes → List Bytes
pieces separator text = slice_split (λ b. b == separator) text

-- the words of a line stand between its spaces; one at the line's end or behind another space stands before an empty word
abbrev pub words : Bytes → List Bytes
words line = pieces (byte " ") line

-- what references to words point to
abbrev pub texts : List (Bor Bytes) → List Bytes
texts list = map (λ word. word.now) list

-- whether a word is this one
abbrev pub is : String → Bytes → Bool
is text word = bytes_eq word (codes text)

-- the value of decimal digits, the highest first
abbrev pub decimal_value : Bytes → ℕ
decimal_value digits = fold (λ n digit. n * 10 + (digit - byte "0")) 0 digits

-- whether a word is decimal digits, of which the first of several isn't 0
abbrev pub is_decimal : Bytes → Bool
is_decimal [] = false
is_decimal (digit ∷ []) = is_ascii_digit digit
is_decimal (first ∷ second ∷ more) = not (first == byte "0") && list_all is_ascii_digit (first ∷ second ∷ more)

-- a number from low to high
abbrev pub number_in : ℕ → ℕ → Bytes → Option ℕ
number_in low high word =
    if is_decimal word && is_within low high (decimal_value word) then Some (decimal_value word) else None

-- a name is a letter and a number below a count
abbrev pub named : ℕ → ℕ → Bytes → Option ℕ
named letter count [] = None
named letter count (first ∷ digits) = if first == letter then number_in 0 (count - 1) digits else None

-- a host's number by its name, as h2
abbrev pub host_in : ℕ → Bytes → Option ℕ
host_in hosts word = named (byte "h") hosts word

-- a client's number by its name, as c2
abbrev pub client_in : ℕ → Bytes → Option ℕ
client_in clients word = named (byte "c") clients word

-- a host or a client by its name
abbrev pub name_in : ℕ → ℕ → Bytes → Option Name
name_in hosts clients word = option_or (option_map name.Host (host_in hosts word)) (option_map name.Client (client_in clients word))

-- the digits 0 to 9 and a to f
abbrev pub is_lower_hex_digit : ℕ → Bool
is_lower_hex_digit digit = is_ascii_digit digit || is_within (byte "a") (byte "f") digit

-- whether a word is two lower-case hexadecimal digits for each of at least one byte, or a dash for no bytes
abbrev pub is_hex : Bytes → Bool
is_hex word = is "-" word || (list_all is_lower_hex_digit word && (nat_lt 0 (length word) && (length word % 2 == 0)))

-- the same, of at most 1,024 bytes: an operation or a result
abbrev pub is_operation : Bytes → Bool
is_operation word = is_hex word && nat_le (length word) (2 * text_limit)

-- the bytes of a word in hexadecimal
abbrev pub bytes_of : Bytes → Option Bytes
bytes_of word = if is_hex word then (if is "-" word then Some [] else result_ok (decode_of word)) else None

-- the bytes of an operation or a result
abbrev pub operation_of : Bytes → Option Bytes
operation_of word = if is_operation word then bytes_of word else None

-- 32 bytes in 64 hexadecimal digits, which may be upper case
abbrev pub digest_of : Bytes → Option Bytes
digest_of word = result_ok (decode_sized word 32)

-- one thing after the other, as far as they can be read
infixl 10 ◌>>=◌
abbrev pub ◌>>=◌ : {A B : Type 0} → Option A → (A → Option B) → Option B
None >>= f = None
(Some x) >>= f = f x

-- what all words say, where each says something by `read`
abbrev pub all_of : {A : Type 0} → (Bytes → Option A) → List Bytes → Option (List A)
all_of read [] = Some []
all_of read (word ∷ more) = do
  x ← read word
  xs ← all_of read more
  Some (x ∷ xs)

-- the words of what stands behind a first word, if there is something
abbrev pub words_behind : Option Bytes → List Bytes
words_behind None = []
words_behind (Some line) = words line

-- what was read before, and what is still read
abbrev pub after : {A : Type 0} → List A → Option (List A) → Option (List A)
after front None = None
after front (Some xs) = Some (front ++ xs)
