-- One client of a list asks, or takes a reply.
use Rattle.std.proofs.Common.{◌≡◌, ℕ, ◌+◌, ◌≤◌, List, [], ◌∷◌, ◌++◌, length, set, Some, Result, Ok, Err, OnOk, OnErr, IfOk, subst, ◌∙◌, arith}
use Rattle.std.specs.List.{slice_get}
use Rattle.mb_base.specs.declared.shape.Shape.{Shape}
use Rattle.mb_model.specs.Clients.{Asker, no_asker}
use Rattle.mb_schedule.specs.declared.schedule.Schedule.{Schedule}
use Rattle.mb_client.specs.declared.asker.Asker.{Asker as Kept}
use Rattle.mb_client.specs.Represents.{Represents}
use Rattle.mb_world_model.specs.World.{update}
use Rattle.mb_members.specs.Askers.{AskedWithin, AreOfShape, RepresentsAskers}
use Rattle.mb_members.proofs.ListLaws.{each_set, each_push, update_here, update_there}

pub side_written : (s : Schedule) (askers : List Kept) (sides : ℕ → Asker) (i : ℕ) (k : Kept) (a : Asker) → RepresentsAskers s askers sides → Represents s.shape s.secret i k a
    → RepresentsAskers s (set askers i k) (update sides i a)
side_written s askers sides i k a old new =
    each_set (λ c y. Represents s.shape s.secret c y (sides c)) (λ c y. Represents s.shape s.secret c y (update sides i a c)) askers i k old (rw (update_here sides i a) new)
    (λ c y other is. rw (update_there sides i c a other) is)

pub asker_made : (s : Schedule) (askers : List Kept) (k : Kept) → RepresentsAskers s askers (λ c. no_asker) → Represents s.shape s.secret (length askers) k no_asker
    → RepresentsAskers s (askers ++ k ∷ []) (λ c. no_asker)
asker_made s askers k old new = each_push (λ c y. Represents s.shape s.secret c y no_asker) askers k old new

-- ---- invariants

pub asked_more : (n : ℕ) (askers : List Kept) → AskedWithin n askers → AskedWithin (n + 1) askers
asked_more n askers all = λ c k e. let h = all c k e in omega arith

pub asked_set : (n : ℕ) (askers : List Kept) (i : ℕ) (k : Kept) → AskedWithin n askers → k.number ≤ n → AskedWithin n (set askers i k)
asked_set n askers i k old new = each_set (λ c y. y.number ≤ n) (λ c y. y.number ≤ n) askers i k old new (λ c y other is. is)

pub asked_push : (n : ℕ) (askers : List Kept) (k : Kept) → AskedWithin n askers → k.number ≤ n → AskedWithin n (askers ++ k ∷ [])
asked_push n askers k old new = each_push (λ c y. y.number ≤ n) askers k old new

pub shape_set : (s : Shape) (askers : List Kept) (i : ℕ) (k : Kept) → AreOfShape s askers → k.shape ≡ s → AreOfShape s (set askers i k)
shape_set s askers i k old new = each_set (λ c y. y.shape ≡ s) (λ c y. y.shape ≡ s) askers i k old new (λ c y other is. is)

pub shape_push : (s : Shape) (askers : List Kept) (k : Kept) → AreOfShape s askers → k.shape ≡ s → AreOfShape s (askers ++ k ∷ [])
shape_push s askers k old new = each_push (λ c y. y.shape ≡ s) askers k old new

-- ---- the one that asks or takes

pub ok_then : {T E : Type 0} (r : Result T E) (P Q : Type 0) → OnOk r P → (P → Q) → OnOk r Q
ok_then (Ok x) P Q h f = f h
ok_then (Err e) P Q h f = tt

-- one more, where it asked, and else as before
pub one_more : {T E : Type 0} (r : Result T E) (old new : Kept) → OnOk r (new.number ≡ old.number + 1) → OnErr r (new ≡ old) → new.number ≤ old.number + 1
one_more (Ok x) old new asked same = omega arith
one_more (Err e) old new asked same = rw same (omega arith)

pub asked_one : (n : ℕ) (askers : List Kept) (i : ℕ) (old new : Kept) → AskedWithin n askers → slice_get askers i ≡ Some old → new.number ≤ old.number + 1 → AskedWithin (n + 1) (set askers i new)
asked_one n askers i old new all at more = let before = all i old at in asked_set (n + 1) askers i new (asked_more n askers all) (omega arith)

pub taken_one : (n : ℕ) (askers : List Kept) (i : ℕ) (old new : Kept) → AskedWithin n askers → slice_get askers i ≡ Some old → new.number ≡ old.number → AskedWithin n (set askers i new)
taken_one n askers i old new all at same = let before = all i old at in asked_set n askers i new all (omega arith)

pub shape_one : (s : Shape) (askers : List Kept) (i : ℕ) (old new : Kept) → AreOfShape s askers → slice_get askers i ≡ Some old → new.shape ≡ old.shape → AreOfShape s (set askers i new)
shape_one s askers i old new all at same = shape_set s askers i new all (same ∙ all i old at)

pub fits_of : {T E : Type 0} (r : Result T E) (P : Shape → T → Type 0) (s t : Shape) → s ≡ t → IfOk r (P s) → IfOk r (P t)
fits_of r P s t same h = subst (λ (z : Shape). IfOk r (P z)) same h
