-- What is missing where a device failed, of calls one after the other.
use Rattle.std.proofs.Common.{◌≡◌, ℕ, ◌+◌, ◌-◌, ◌^◌, ◌≤◌, ◌⊎◌, List, [], ◌∷◌, ◌++◌, length, map, Option, Result, Ok, Err, inl, inr, refl, length-append, arith}
use Rattle.std.specs.Prelude.{IsErrOf}
use Rattle.std.proofs.lemmas.Bool.{cases_lt}
use Rattle.std.proofs.lemmas.List.{map-append}
use Rattle.mb_base.specs.Shapes.{Bytes}
use Rattle.mb_edge.specs.declared.outside.Failed.{Failed}
use Rattle.mb_edge.specs.declared.outside.Failed.TheVariants as failed
use Rattle.mb_edge.specs.Faults.{Rose, HasCause}
use Rattle.mb_edge.specs.Told.{with_more, added_by}
use Rattle.mb_cluster.specs.Missing.{MissesFew, SendsBut, AwaitsBut}
use Rattle.mb_cluster.proofs.SendLemmas.{all_are_some, some_both}
use Rattle.mb_cluster.proofs.WireLemmas.{more_both, more_none}

-- ---- of one device, by its count of faults

pub few_none : {A : Type 0} (f g : ℕ) → f ≤ g → MissesFew {A = A} [] [] f g
few_none f g later = record { among = tt; few = inr (omega (arith, later)) }

-- a call that succeeded
few_done : {A : Type 0} (x : A) (f g : ℕ) → f ≤ g → MissesFew (x ∷ []) (x ∷ []) f g
few_done x f g later = record { among = all_are_some (x ∷ []); few = inr (omega (arith, later)) }

risen : (f g : ℕ) → Rose f g → (2 ^ 64 - 1 ≤ g) ⊎ (1 + f ≤ 0 + g)
risen f g rose = elim (cases_lt g (2 ^ 64 - 1)) [
  | inl small ↦ inr (omega (arith, rose, small))
  | inr full ↦ inl full
]

-- one that failed
few_failed : {A : Type 0} (x : A) (f g : ℕ) → Rose f g → MissesFew [] (x ∷ []) f g
few_failed x f g rose = record { among = tt; few = risen f g rose }

both_counted : {A : Type 0} (xs ys zs ws : List A) (f g h : ℕ) → g ≤ h → (2 ^ 64 - 1 ≤ g) ⊎ (length ys + f ≤ length xs + g) → (2 ^ 64 - 1 ≤ h) ⊎ (length ws + g ≤ length zs + h)
    → (2 ^ 64 - 1 ≤ h) ⊎ (length (ys ++ ws) + f ≤ length (xs ++ zs) + h)
both_counted xs ys zs ws f g h later (inl full) second = inl (omega (arith, full, later))
both_counted xs ys zs ws f g h later (inr first) (inl full) = inl full
both_counted xs ys zs ws f g h later (inr first) (inr second) = inr (omega (arith, first, second, length-append ys ws, length-append xs zs))

few_both : {A : Type 0} (xs ys zs ws : List A) (f g h : ℕ) → MissesFew xs ys f g → MissesFew zs ws g h → g ≤ h → MissesFew (xs ++ zs) (ys ++ ws) f h
few_both xs ys zs ws f g h first second later = record { among = some_both xs ys zs ws first.among second.among; few = both_counted xs ys zs ws f g h later first.few second.few }

sooner_counted : (many some f g h : ℕ) → f ≤ g → (2 ^ 64 - 1 ≤ h) ⊎ (many + g ≤ some + h) → (2 ^ 64 - 1 ≤ h) ⊎ (many + f ≤ some + h)
sooner_counted many some f g h sooner (inl full) = inl full
sooner_counted many some f g h sooner (inr few) = inr (omega (arith, few, sooner))

-- since an earlier count
pub few_since : {A : Type 0} (some all : List A) (f g h : ℕ) → f ≤ g → MissesFew some all g h → MissesFew some all f h
few_since some all f g h sooner misses = record { among = misses.among; few = sooner_counted (length all) (length some) f g h sooner misses.few }

-- ---- sends

pub buts_none : (f : ℕ) (old : Option (List (ℕ × Bytes))) → SendsBut [] f f old old
buts_none f old = record { some = []; told = more_none old; few = few_none f f (omega arith) }

pub buts_both : (xs ys : List (ℕ × Bytes)) (f g h : ℕ) (old mid new : Option (List (ℕ × Bytes))) → SendsBut xs f g old mid → SendsBut ys g h mid new → g ≤ h → SendsBut (xs ++ ys) f h old new
buts_both xs ys f g h old mid new first second later = record {
  some = first.some ++ second.some;
  told = more_both old mid new first.some second.some first.told second.told;
  few = few_both first.some xs second.some ys f g h first.few second.few later;
}

pub buts_call : (x : ℕ × Bytes) (r : Result (Unit {0}) Failed) (f g : ℕ) (old new : Option (List (ℕ × Bytes))) → new ≡ with_more old (added_by r (λ _. x)) → HasCause f g r → ¬ IsErrOf r failed.NoMemory → SendsBut (x ∷ []) f g old new
buts_call x (Ok done) f g old new told cause ample = record { some = x ∷ []; told = told; few = few_done x f g cause.later }
buts_call x (Err failed.Device) f g old new told cause ample = record { some = []; told = told; few = few_failed x f g (cause.rose refl) }
buts_call x (Err failed.NoMemory) f g old new told cause ample = absurd (ample refl)

-- ---- waits

pub awaits_none : (f g : ℕ) (old : Option (List (ℕ × ℕ))) → f ≤ g → AwaitsBut [] f g old old
awaits_none f g old later = record { some = []; told = more_none old; few = few_none f g later }

pub awaits_more : (children : List ℕ) (child : ℕ) (waited : Result ℕ Failed) (f g h : ℕ) (old mid new : Option (List (ℕ × ℕ))) → AwaitsBut children f g old mid → new ≡ with_more mid (added_by waited (λ status. (child, status)))
    → HasCause g h waited → ¬ IsErrOf waited failed.NoMemory → AwaitsBut (children ++ child ∷ []) f h old new
awaits_more children child (Ok status) f g h old mid new before told cause ample = record {
  some = before.some ++ (child, status) ∷ [];
  told = more_both old mid new before.some ((child, status) ∷ []) before.told told;
  few = rw (map-append (λ (w : ℕ × ℕ). w.0) before.some ((child, status) ∷ [])) (few_both (map (λ (w : ℕ × ℕ). w.0) before.some) children (child ∷ []) (child ∷ []) f g h before.few (few_done child g h cause.later) cause.later);
}
awaits_more children child (Err failed.Device) f g h old mid new before told cause ample = record {
  some = before.some ++ [];
  told = more_both old mid new before.some [] before.told told;
  few = rw (map-append (λ (w : ℕ × ℕ). w.0) before.some []) (few_both (map (λ (w : ℕ × ℕ). w.0) before.some) children [] (child ∷ []) f g h before.few (few_failed child g h (cause.rose refl)) cause.later);
}
awaits_more children child (Err failed.NoMemory) f g h old mid new before told cause ample = absurd (ample refl)
