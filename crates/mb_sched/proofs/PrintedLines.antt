-- Lines that are printed are read again: settings, and lines of a keyword and a word.
use Rattle.std.proofs.Common.{◌≡◌, ℕ, ◌^◌, ◌<◌, ◌≤◌, true, List, [], ◌∷◌, ◌++◌, length, codes, Option, Some, Ok, refl, sym, ap, ◌∙◌, arith, append_assoc}
use Rattle.std.specs.Fmt.{decimal}
use Rattle.std.specs.List.{join_with_byte, AllByRecursion}
use Rattle.std.specs.Str.{bytes_eq}
use Rattle.hex.specs.Hex.{IsBytes, encode_lower}
use Rattle.mb_base.specs.Limits.{most_faults, least_interval, most_interval, most_clients}
use Rattle.mb_base.specs.Shapes.{Bytes, max_faults, interval, client_count}
use Rattle.mb_base.specs.declared.shape.Shape.{Shape}
use Rattle.mb_sched.specs.Words.{pieces, number_in, digest_of}
use Rattle.mb_sched.specs.Lines.{lines, is_ended}
use Rattle.mb_sched.specs.ScheduleText.{line_text}
use Rattle.mb_sched.specs.TextLines.{keyword_line}
use Rattle.mb_sched.specs.Settings.{settings_by, settings_of, settings_text, least_port, most_port}
use Rattle.mb_sched.proofs.Pieces.{line_first, same_end}
use Rattle.mb_sched.proofs.PrintedHex.{digest_of-encode_lower, IsWord-encode_lower}
use Rattle.mb_sched.proofs.PrintedNumbers.{number_in-decimal, IsWord-decimal}
use Rattle.mb_sched.proofs.PrintedWords.{IsWord, words-join, line_text-piece}

-- a text begins with this line, and behind it stands the rest
pub record Begins (line text rest : Bytes) : Type 0 where
  pub first : lines text ≡ line ∷ lines rest
  pub end : is_ended text ≡ is_ended rest

pub by_piece : (line text rest : Bytes) → pieces 10 text ≡ line ∷ pieces 10 rest → Begins line text rest
by_piece line text rest e = record { first = line_first text line rest e; end = sym (same_end text line rest e) }

-- a line of words
pub line_begins : (word : Bytes) (more : List Bytes) (rest : Bytes) → IsWord word → AllByRecursion IsWord more → Begins (join_with_byte 32 (word ∷ more)) (line_text (word ∷ more) ++ rest) rest
line_begins word more rest is more_is = by_piece (join_with_byte 32 (word ∷ more)) (line_text (word ∷ more) ++ rest) rest (line_text-piece word more rest is more_is)

-- a line of a keyword and a word
abbrev pub keyword_text : Bytes → Bytes → Bytes
keyword_text keyword word = join_with_byte 32 (keyword ∷ word ∷ [])

pub keyword_begins : (keyword word rest : Bytes) → IsWord keyword → IsWord word → Begins (keyword_text keyword word) (line_text (keyword ∷ word ∷ []) ++ rest) rest
keyword_begins keyword word rest is word_is = line_begins keyword (word ∷ []) rest is (word_is, tt)

pub keyword_again : {A : Type 0} (read : Bytes → Option A) (keyword word : Bytes) (x : A) → IsWord keyword → bytes_eq keyword keyword ≡ true → IsWord word → read word ≡ Some x
    → keyword_line keyword read (keyword_text keyword word) ≡ Some x
keyword_again read keyword word x is same word_is read_is = rw (words-join keyword (word ∷ []) is (word_is, tt), same, read_is) refl

pub number_again : (low high n : ℕ) (keyword : Bytes) → IsWord keyword → bytes_eq keyword keyword ≡ true → n < 2 ^ 64 → low ≤ n → n ≤ high
    → keyword_line keyword (number_in low high) (keyword_text keyword (decimal n)) ≡ Some n
number_again low high n keyword is same lt above below = keyword_again (number_in low high) keyword (decimal n) n is same (IsWord-decimal n lt) (number_in-decimal low high n lt above below)

-- two texts that begin with lines, one behind the other
pub then : (line text rest : Bytes) (more : List Bytes) (behind : Bytes) → Begins line text rest → (lines rest ≡ more ++ lines behind) × (is_ended rest ≡ is_ended behind)
    → (lines text ≡ line ∷ (more ++ lines behind)) × (is_ended text ≡ is_ended behind)
then line text rest more behind b e = (b.first ∙ ap (λ (ls : List Bytes). line ∷ ls) e.0, b.end ∙ e.1)

five : (a b c d e rest : Bytes) → (a ++ (b ++ (c ++ (d ++ e)))) ++ rest ≡ a ++ (b ++ (c ++ (d ++ (e ++ rest))))
five a b c d e rest = simp append_assoc

-- the lines of settings behind a title
abbrev pub settings_lines : Bytes → Shape → Bytes → ℕ → List Bytes
settings_lines title shape secret port =
    title ∷ keyword_text (codes "f") (decimal (max_faults shape)) ∷ keyword_text (codes "k") (decimal (interval shape)) ∷ keyword_text (codes "clients") (decimal (client_count shape))
    ∷ keyword_text (codes "secret") (encode_lower secret) ∷ keyword_text (codes "port") (decimal port) ∷ []

module _ (title titled : Bytes) (is_title : (behind : Bytes) → pieces 10 (titled ++ behind) ≡ title ∷ pieces 10 behind) (same_title : bytes_eq title title ≡ true) (shape : Shape) (secret : Bytes) (port : ℕ) (fits : IsBytes secret) (low_port : least_port ≤ port) (high_port : port ≤ most_port) where
  pub settings_are : (rest : Bytes) → (lines (titled ++ (settings_text shape secret port ++ rest)) ≡ settings_lines title shape secret port ++ lines rest) × (is_ended (titled ++ (settings_text shape secret port ++ rest)) ≡ is_ended rest)
  settings_are rest =
      let w2 : Bytes = decimal (max_faults shape) in
      let w3 : Bytes = decimal (interval shape) in
      let w4 : Bytes = decimal (client_count shape) in
      let w5 : Bytes = encode_lower secret in
      let w6 : Bytes = decimal port in
      let l6 : Bytes = line_text (codes "port" ∷ w6 ∷ []) ++ rest in
      let l5 : Bytes = line_text (codes "secret" ∷ w5 ∷ []) ++ l6 in
      let l4 : Bytes = line_text (codes "clients" ∷ w4 ∷ []) ++ l5 in
      let l3 : Bytes = line_text (codes "k" ∷ w3 ∷ []) ++ l4 in
      let l2 : Bytes = line_text (codes "f" ∷ w2 ∷ []) ++ l3 in
      let b6 = keyword_begins (codes "port") w6 rest refl (IsWord-decimal port (omega (arith, high_port))) in
      let b5 = keyword_begins (codes "secret") w5 l6 refl (IsWord-encode_lower secret fits) in
      let b4 = keyword_begins (codes "clients") w4 l5 refl (IsWord-decimal (client_count shape) (omega arith)) in
      let b3 = keyword_begins (codes "k") w3 l4 refl (IsWord-decimal (interval shape) (omega arith)) in
      let b2 = keyword_begins (codes "f") w2 l3 refl (IsWord-decimal (max_faults shape) (omega arith)) in
      let b1 = by_piece title (titled ++ l2) l2 (is_title l2) in
      let k2 : Bytes = keyword_text (codes "f") w2 in
      let k3 : Bytes = keyword_text (codes "k") w3 in
      let k4 : Bytes = keyword_text (codes "clients") w4 in
      let k5 : Bytes = keyword_text (codes "secret") w5 in
      let k6 : Bytes = keyword_text (codes "port") w6 in
      let e6 = then k6 l6 rest [] rest b6 (refl, refl) in
      let e5 = then k5 l5 l6 (k6 ∷ []) rest b5 e6 in
      let e4 = then k4 l4 l5 (k5 ∷ k6 ∷ []) rest b4 e5 in
      let e3 = then k3 l3 l4 (k4 ∷ k5 ∷ k6 ∷ []) rest b3 e4 in
      let e2 = then k2 l2 l3 (k3 ∷ k4 ∷ k5 ∷ k6 ∷ []) rest b2 e3 in
      let e1 = then title (titled ++ l2) l2 (k2 ∷ k3 ∷ k4 ∷ k5 ∷ k6 ∷ []) rest b1 e2 in
      let behind : settings_text shape secret port ++ rest ≡ l2 = five (line_text (codes "f" ∷ w2 ∷ [])) (line_text (codes "k" ∷ w3 ∷ [])) (line_text (codes "clients" ∷ w4 ∷ [])) (line_text (codes "secret" ∷ w5 ∷ [])) (line_text (codes "port" ∷ w6 ∷ [])) rest in
      (ap (λ (t : Bytes). lines (titled ++ t)) behind ∙ e1.0, ap (λ (t : Bytes). is_ended (titled ++ t)) behind ∙ e1.1)

  pub settings_again : length secret ≡ 32 → (rest : List Bytes)
      → settings_of title (settings_lines title shape secret port ++ rest) ≡ Ok (record { f = max_faults shape; k = interval shape; clients = client_count shape; secret = secret; port = port })
  unfolding settings_by
  settings_again len rest =
      rw (
        same_title,
        number_again 1 most_faults (max_faults shape) (codes "f") refl refl (omega arith) (omega arith) (omega arith),
        number_again least_interval most_interval (interval shape) (codes "k") refl refl (omega arith) (omega arith) (omega arith),
        number_again 1 most_clients (client_count shape) (codes "clients") refl refl (omega arith) (omega arith) (omega arith),
        keyword_again digest_of (codes "secret") (encode_lower secret) secret refl refl (IsWord-encode_lower secret fits) (digest_of-encode_lower secret fits len),
        number_again least_port most_port port (codes "port") refl refl (omega (arith, high_port)) low_port high_port,
      ) refl
