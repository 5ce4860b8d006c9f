-- A place of a window, written to through a reference.
use Rattle.std.proofs.Common.{◌≡◌, ℕ, zero, suc, ◌+◌, ◌-◌, ◌<◌, ◌≤◌, ◌^◌, Bool, true, false, cond, leb, List, [], ◌∷◌, length, set, drop, Option, Some, None, refl, sym, ap, add-one, arith, inl, inr}
use Rattle.std.specs.Prelude.{slice_get, is_some}
use Rattle.std.specs.Option.{option_copied_mut, ghost_name_of}
use Rattle.std.specs.Borrow.{MutBor}
use Rattle.std.proofs.lemmas.Bool.{lt-leb, leb-false}
use borrow.Follows.Closed.{read_of}
use Rattle.mb_window.specs.Places.{Places, flat, item_at, first_none}

-- a reference that is lent leaves one value by one function, and one that isn't leaves it as it was
pub lent_alike : {X D : Type 0} (r : Option (MutBor X)) (F G : X → D) (u v : D) → F ≡ G → (option_copied_mut r ≡ None → u ≡ v) → read_of (ghost_name_of r) F u ≡ read_of (ghost_name_of r) G v
lent_alike None F G u v e f = ap inr (f refl)
lent_alike (Some m) F G u v e f = ap (λ h. inl (m.ghost_name, h)) e

-- a write of what is there changes nothing
pub set_same : {X : Type 0} (xs : List X) (i : ℕ) (x : X) → slice_get xs i ≡ Some x → set xs i x ≡ xs
set_same [] i x e = refl
set_same (y ∷ xs) zero x e = let same : y ≡ x = cc in ap (λ z. z ∷ xs) (sym same)
set_same (y ∷ xs) (suc i) x e = ap (λ zs. y ∷ zs) (set_same xs i x e)

pub item_within : {X : Type 0} (s : Places X) (pos : ℕ) (o : Option X) → s.low < pos → slice_get s.items (pos - s.low - 1) ≡ Some o → item_at s pos ≡ o
item_within s pos o lt e = let no : leb pos s.low ≡ false = lt-leb _ _ lt in rw (no, e) refl

by_test : (b : Bool) (pos low i n : ℕ) → leb pos low ≡ b → i ≡ cond b (2 ^ 64 - 1) (pos - low - 1) → i < n → n ≤ 2 ^ 64 - 2 → (low < pos) × (i ≡ pos - low - 1)
by_test true pos low i n h e lt top = absurd (omega (arith, e))
by_test false pos low i n h e lt top = (leb-false pos low h, e)

pub index_is : (pos low i n : ℕ) → i ≡ cond (leb pos low) (2 ^ 64 - 1) (pos - low - 1) → i < n → n ≤ 2 ^ 64 - 2 → (low < pos) × (i ≡ pos - low - 1)
index_is pos low i n e lt top = by_test (leb pos low) pos low i n refl e lt top

pub gap_here : {X : Type 0} (xs : List (Option X)) (i : ℕ) → i < length xs → is_some (flat (slice_get xs i)) ≡ false → first_none (drop i xs) ≡ 0
gap_here [] i lt h = absurd (omega arith)
gap_here (None ∷ xs) zero lt h = refl
gap_here (Some x ∷ xs) zero lt h = absurd cc
gap_here (x ∷ xs) (suc i) lt h = gap_here xs i (omega arith) h

gap_next : {X : Type 0} (xs : List (Option X)) (i : ℕ) → i < length xs → is_some (flat (slice_get xs i)) ≡ true → first_none (drop i xs) ≡ first_none (drop (suc i) xs) + 1
gap_next [] i lt h = absurd (omega arith)
gap_next (None ∷ xs) zero lt h = absurd cc
gap_next (Some x ∷ xs) zero lt h = refl
gap_next (x ∷ xs) (suc i) lt h = gap_next xs i (omega arith) h

pub gap_later : {X : Type 0} (xs : List (Option X)) (i : ℕ) → i < length xs → is_some (flat (slice_get xs i)) ≡ true → first_none (drop i xs) ≡ first_none (drop (i + 1) xs) + 1
gap_later xs i lt h = let e : i + 1 ≡ suc i = add-one i in rw e (gap_next xs i lt h)
