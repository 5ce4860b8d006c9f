-- Reading all lines one after the other, as a loop does.
use Rattle.std.proofs.Common.{◌≡◌, ℕ, ◌+◌, Bool, true, false, List, [], ◌∷◌, ◌++◌, drop, Option, Some, None, Result, Ok, Err, refl, sym, ap, ◌∙◌, append_assoc}
use Rattle.std.specs.Prelude.{slice_get}
use Rattle.std.proofs.lemmas.List.{append-nil}
use Rattle.mb_base.specs.Shapes.{Bytes}
use Rattle.mb_sched.specs.Lines.{◌>>=◌}
use Rattle.mb_sched.specs.TextLines.{all_lines}

-- what was read before, and what is still read
abbrev pub with_front : {A : Type 0} → List A → Result (List A) ℕ → Result (List A) ℕ
with_front front (Ok xs) = Ok (front ++ xs)
with_front front (Err n) = Err n

-- the lines begin with the one that was taken
pub first_line : (ls : List Bytes) (line : Bytes) → Some line ≡ slice_get ls 0 → ls ≡ line ∷ drop 1 ls
first_line [] line e = absurd cc
first_line (l ∷ ls) line e = let same : line ≡ l = cc in rw same refl

module _ {A : Type 0} where
  pub regroup : (front : List A) (x : A) (read : Result (List A) ℕ) → with_front front (read >>= λ xs. Ok (x ∷ xs)) ≡ with_front (front ++ x ∷ []) read
  regroup front x (Ok xs) = ap (λ (ys : List A). Ok ys) (simp append_assoc)
  regroup front x (Err n) = refl

  pub all_front : (front : List A) → with_front front (Ok []) ≡ Ok front
  all_front front = ap (λ (xs : List A). Ok xs) (append-nil front)

module _ {A : Type 0} (read : Bytes → Option A) (ended : Bool) where
  pub goes_on : (front : List A) (n : ℕ) (ls : List Bytes) (line : Bytes) (x : A) (total : Result (List A) ℕ) → Some line ≡ slice_get ls 0 → read line ≡ Some x
      → with_front front (all_lines read ended n ls) ≡ total → with_front (front ++ x ∷ []) (all_lines read ended (n + 1) (drop 1 ls)) ≡ total
  unfolding all_lines
  goes_on front n ls line x total first is so_far =
      let parts = first_line ls line first in
      let now = rw parts at so_far in
      sym (regroup front x (all_lines read ended (n + 1) (drop 1 ls))) ∙ (rw is at now)

  -- a line that says nothing
  pub stops : (front : List A) (n : ℕ) (ls : List Bytes) (line : Bytes) (total : Result (List A) ℕ) → Some line ≡ slice_get ls 0 → read line ≡ None
      → with_front front (all_lines read ended n ls) ≡ total → total ≡ Err n
  unfolding all_lines
  stops front n ls line total first is so_far =
      let parts = first_line ls line first in
      let now = rw parts at so_far in
      sym (rw is at now)

  -- no line is left
  pub is_done : (front : List A) (n : ℕ) (total : Result (List A) ℕ) → ended ≡ true → with_front front (all_lines read ended n []) ≡ total → total ≡ Ok front
  unfolding all_lines
  is_done front n total is so_far = let now = rw is at so_far in sym now ∙ all_front front

  pub is_unended : (front : List A) (n : ℕ) (total : Result (List A) ℕ) → ended ≡ false → with_front front (all_lines read ended n []) ≡ total → total ≡ Err n
  unfolding all_lines
  is_unended front n total is so_far = let now = rw is at so_far in sym now
