-- Reading the entries of a record one after the other, as a loop does.
use Rattle.std.proofs.Common.{◌≡◌, ℕ, ◌+◌, ◌==◌, Bool, true, false, cond, List, [], ◌∷◌, ◌++◌, length, take, drop, Option, Some, None, Result, Ok, Err, refl, sym, ap, ◌∙◌, ◌⊎◌, inl, inr, arith}
use Rattle.std.specs.List.{position}
use Rattle.std.proofs.lemmas.Bool.{ne_eqb}
use Rattle.mb_base.specs.Shapes.{Bytes}
use Rattle.mb_msg.specs.declared.event.Event.{Event}
use Rattle.mb_sched.specs.declared.records.Entry.{Entry}
use Rattle.mb_sched.specs.declared.bad_text.BadText.{BadText}
use Rattle.mb_sched.specs.declared.bad_text.BadText.TheVariants as text
use Rattle.mb_sched.specs.Words.{is}
use Rattle.mb_sched.specs.Lines.{lines, is_ended, ◌>>=◌, numbered, Faults}
use Rattle.mb_sched.specs.Records.{event_said, entry_by, end_by, entries_from, next_entry}
use Rattle.mb_sched.proofs.AllLines.{with_front, regroup, all_front}
use Rattle.mb_sched.proofs.Pieces.{found, not_found, line_first, no_line, is_end}

-- ---- the last line

-- a text without lines is ended where it is empty; one with lines is not empty
abbrev AtEnd : Bytes → Type 0
AtEnd text = (lines text ≡ []) × (is_ended text ≡ (length text == 0))

abbrev HasLine : Bytes → Type 0
HasLine text = (line : Bytes) × (rest : Bytes) × (lines text ≡ line ∷ lines rest) × ((length text == 0) ≡ false)

by_end : (text : Bytes) (at : Option ℕ) → at ≡ position (λ b. b == 10) text → AtEnd text ⊎ HasLine text
by_end text None e = let none = not_found 10 text e in inl (no_line text none, is_end text none)
by_end text (Some at) e =
    let some = found 10 text at e in
    let lt = some.0 in
    inr (take at text, drop (at + 1) text, line_first text (take at text) (drop (at + 1) text) some.1, ne_eqb (length text) 0 (λ same. omega (arith, same, lt)))

pub reads_end : (text line : Bytes) (n : ℕ) → is "end" line ≡ true → next_entry (is_ended text) n (line ∷ lines text) ≡ end_by None (length text == 0) n
reads_end text line n word = elim (by_end text (position (λ b. b == 10) text) refl) [
  | inl e ↦ ap (λ (ls : List Bytes). next_entry (is_ended text) n (line ∷ ls)) e.0 ∙ rw (word, e.1) refl
  | inr e ↦ ap (λ (ls : List Bytes). next_entry (is_ended text) n (line ∷ ls)) e.2 ∙ rw (word, e.3) refl
]

-- ---- one entry after the other

-- the entry that was read, and those behind it, if there is one
abbrev and_more : Bool → ℕ → List Bytes → Option Entry → Result (List Entry) ℕ
and_more ended n ls None = Ok []
and_more ended n ls (Some entry) = entries_from ended (n + 2) (drop 2 ls) >>= λ entries. Ok (entry ∷ entries)

one_line : (last ended : Bool) (n : ℕ) (ls : List Bytes) (event : Option Event)
    → cond last (end_by [] ended n) (numbered n event >>= λ e. Ok []) ≡ (cond last (end_by None ended n) (numbered n event >>= λ e. Ok None) >>= and_more ended n ls)
one_line true true n ls event = refl
one_line true false n ls event = refl
one_line false ended n ls None = refl
one_line false ended n ls (Some e) = refl

two_lines : (last ended : Bool) (n : ℕ) (ls : List Bytes) (entry : Result Entry ℕ)
    → cond last (Err (n + 1)) (entry >>= λ e. entries_from ended (n + 2) (drop 2 ls) >>= λ es. Ok (e ∷ es)) ≡ (cond last (Err (n + 1)) (entry >>= λ e. Ok (Some e)) >>= and_more ended n ls)
two_lines true ended n ls entry = refl
two_lines false ended n ls (Ok e) = refl
two_lines false ended n ls (Err m) = refl

-- the entries are the next one and those behind it
by_next : (ended : Bool) (n : ℕ) (ls : List Bytes) → entries_from ended n ls ≡ (next_entry ended n ls >>= and_more ended n ls)
unfolding entries_from
by_next ended n [] = refl
by_next ended n (line ∷ []) = one_line (is "end" line) ended n (line ∷ []) (event_said line)
by_next ended n (first ∷ second ∷ more) = two_lines (is "end" first) ended n (first ∷ second ∷ more) (entry_by n first second)

module _ (ended : Bool) (front : List Entry) (n : ℕ) (ls : List Bytes) (total : Result (List Entry) ℕ) where
  pub goes_on : (entry : Entry) → next_entry ended n ls ≡ Ok (Some entry) → with_front front (entries_from ended n ls) ≡ total → with_front (front ++ entry ∷ []) (entries_from ended (n + 2) (drop 2 ls)) ≡ total
  goes_on entry is so_far =
      let next = by_next ended n ls in
      let now = rw next at so_far in
      sym (regroup front entry (entries_from ended (n + 2) (drop 2 ls))) ∙ (rw is at now)

  pub is_done : next_entry ended n ls ≡ Ok None → with_front front (entries_from ended n ls) ≡ total → total ≡ Ok front
  is_done is so_far =
      let next = by_next ended n ls in
      let now = rw next at so_far in
      sym (rw is at now) ∙ all_front front

  stops : (m : ℕ) → next_entry ended n ls ≡ Err m → with_front front (entries_from ended n ls) ≡ total → total ≡ Err m
  stops m is so_far =
      let next = by_next ended n ls in
      let now = rw next at so_far in
      sym (rw is at now)

  -- what the next entry's error means, it means of all
  pub fails : (e : BadText) → Faults e (next_entry ended n ls) → with_front front (entries_from ended n ls) ≡ total → Faults e total
  fails text.TooLong is so_far = is
  fails (text.BadLine m) is so_far = stops m is so_far
  fails text.NoMemory is so_far = tt
