-- The pieces of a text, one after the other.
use Rattle.std.proofs.Common.{◌≡◌, ℕ, suc, ◌+◌, ◌-◌, ◌<◌, ◌≤◌, Bool, true, false, cond, ltb, ◌==◌, List, [], ◌∷◌, length, take, drop, Option, Some, None, refl, sym, ap, ◌∙◌, arith}
use Rattle.std.specs.Prelude.{slice_index_or, MatchOption, IfSome}
use Rattle.std.specs.List.{position, position_or_len}
use Rattle.std.proofs.lemmas.Bool.{ltb-true, ltb-false}
use Rattle.std.proofs.lemmas.List.Splits.{slice_split_first, slice_split_none, length-slice_split}
use Rattle.std.proofs.lemmas.List.Sums.{fails_before_first}
use Rattle.mb_base.specs.Shapes.{Bytes}
use denote.Ref.{Bor}
use Rattle.mb_sched.specs.Words.{pieces, words}
use Rattle.mb_sched.specs.Lines.{lines, is_ended}

chosen : (b : Bool) (x y : ℕ) → cond b (Some x) None ≡ Some y → (b ≡ true) × (x ≡ y)
chosen true x y e = (refl, cc)
chosen false x y e = absurd cc

not_chosen : (b : Bool) (x : ℕ) → cond b (Some x) None ≡ None → b ≡ false
not_chosen true x e = absurd cc
not_chosen false x e = refl

-- where the first separator stands
pub found : (c : ℕ) (xs : Bytes) (at : ℕ) → Some at ≡ position (λ b. b == c) xs → (at < length xs) × (pieces c xs ≡ take at xs ∷ pieces c (drop (at + 1) xs))
found c xs at e =
    let h = chosen (ltb (position_or_len (λ b. b == c) xs) (length xs)) (position_or_len (λ b. b == c) xs) at (sym e) in
    let lt = ltb-true _ _ h.0 in
    rw (← h.1) (lt, slice_split_first (λ b. b == c) xs 0 lt)

-- no separator
pub not_found : (c : ℕ) (xs : Bytes) → None ≡ position (λ b. b == c) xs → pieces c xs ≡ xs ∷ []
not_found c xs e =
    let no = ltb-false _ _ (not_chosen (ltb (position_or_len (λ b. b == c) xs) (length xs)) (position_or_len (λ b. b == c) xs) (sym e)) in
    slice_split_none (λ b. b == c) xs (λ k d lt. fails_before_first (λ b. b == c) xs k d (omega arith))

-- there is at least one piece
pub some_piece : (c : ℕ) (xs : Bytes) → 0 < length (pieces c xs)
some_piece c xs = let e = length-slice_split (λ b. b == c) xs in omega arith

abbrev front : List Bytes → List Bytes
front ps = take (length ps - 1) ps

abbrev last : List Bytes → Bytes
last ps = slice_index_or ps (length ps - 1) []

front_of : (p : Bytes) (ps : List Bytes) → 0 < length ps → front (p ∷ ps) ≡ p ∷ front ps
front_of p [] lt = absurd (omega arith)
front_of p (q ∷ qs) lt =
    let e : length (p ∷ q ∷ qs) - 1 ≡ suc (length (q ∷ qs) - 1) = omega arith in
    rw e refl

last_of : (p : Bytes) (ps : List Bytes) → 0 < length ps → last (p ∷ ps) ≡ last ps
last_of p [] lt = absurd (omega arith)
last_of p (q ∷ qs) lt =
    let e : length (p ∷ q ∷ qs) - 1 ≡ suc (length (q ∷ qs) - 1) = omega arith in
    rw e refl

-- a line and the lines behind it
pub line_first : (text line rest : Bytes) → pieces 10 text ≡ line ∷ pieces 10 rest → lines text ≡ line ∷ lines rest
line_first text line rest e = rw e (front_of line (pieces 10 rest) (some_piece 10 rest))

-- the end is the end of what is behind a line
pub same_end : (text line rest : Bytes) → pieces 10 text ≡ line ∷ pieces 10 rest → is_ended rest ≡ is_ended text
same_end text line rest e = rw (e, last_of line (pieces 10 rest) (some_piece 10 rest)) refl

-- one piece is no line
pub no_line : (text : Bytes) → pieces 10 text ≡ text ∷ [] → lines text ≡ []
no_line text e = rw e refl

pub is_end : (text : Bytes) → pieces 10 text ≡ text ∷ [] → is_ended text ≡ (length text == 0)
is_end text e = rw e refl

-- the words of what is left, if anything is
abbrev pub words_left : Option (Bor Bytes) → List Bytes
words_left None = []
words_left (Some text) = words text.now

-- one more than the bytes that are left, if anything is
abbrev pub bytes_left : Option (Bor Bytes) → ℕ
bytes_left None = 0
bytes_left (Some text) = suc (length text.now)

-- the words of a text, the first of which was cut off
pub cut_words : (text word : Bytes) (behind : Option (Bor Bytes)) → MatchOption behind ((pieces 32 text ≡ text ∷ []) × (word ≡ text)) (λ b. pieces 32 text ≡ word ∷ pieces 32 b.now) → words text ≡ word ∷ words_left behind
cut_words text word None parts = parts.0 ∙ ap (λ (w : Bytes). w ∷ []) (sym parts.1)
cut_words text word (Some b) parts = parts

-- less is left behind a cut
pub cut_bytes : (text : Bytes) (behind : Option (Bor Bytes)) → IfSome behind (λ b. length b.now < length text) → bytes_left behind ≤ length text
cut_bytes text None shorter = omega arith
cut_bytes text (Some b) shorter = omega arith
