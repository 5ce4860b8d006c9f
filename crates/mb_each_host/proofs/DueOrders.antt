-- A primary orders what waits, and a backup commits the next position.
use Rattle.std.proofs.Common.{◌≡◌, ℕ, zero, suc, ◌+◌, ◌<◌, ◌≤◌, Bool, true, false, ◌&&◌, not, List, [], ◌∷◌, refl, ap, ◌∙◌, inl, inr, ◌⊎◌, arith, eqb, Option, Some, None}
use Rattle.std.specs.Prelude.{map, filter_map, option_map}
use Rattle.std.specs.List.{range_with_len}
use Rattle.std.proofs.lemmas.Bool.{cases_Bool, eqb-true, eqb-false, ltb-true, lt-ltb}
use Rattle.mb_base.specs.Limits.{ahead_limit}
use Rattle.mb_base.specs.Shapes.{client_count}
use Rattle.mb_parts.specs.declared.request.Request.{Request}
use Rattle.mb_parts.specs.declared.batch.Batch.{Batch}
use Rattle.mb_model.specs.declared.known.KnownSlot.{KnownSlot}
use Rattle.mb_model.specs.Batches.{first_batch}
use Rattle.mb_model.specs.Service.{reply_of}
use Rattle.mb_model.specs.Histories.{History, Identity, here, view_of, is_open, is_primary}
use Rattle.mb_model.specs.OwnLog.{has_room}
use Rattle.mb_model.specs.Positions.{exec_of, slot_in, slot_at, in_window}
use Rattle.mb_model.specs.Execution.{state_of}
use Rattle.mb_model.specs.EnabledRules.{Rule, Commit, Prepare, rule_where, with_batch, next_position, number_of, greatest, greatest_in, number_in_slot, greatest_in_slots, window, unordered_of, unordered, may_order, commit_enabled, prepare_enabled}
use Rattle.mb_model.proofs.Options.{option_cases, if_some}
use Rattle.mb_model.specs.Members.{In}
use Rattle.mb_model.proofs.Members.{contained}
use Rattle.mb_promise.specs.NothingLeft.{IsInWindow, AreBelow, IsUnordered, OrdersRequests, CommitsNext}
use Rattle.mb_each_host.proofs.Words.{room_is, window_is, window_says}

-- A rule whose test holds and that has what it is carried out with is not left.
pub not_left : (t : Bool) (r : Option Rule) (x : Rule) → t ≡ true → r ≡ Some x → rule_where t r ≡ None → ⊥
not_left true (Some y) x t r e = absurd cc
not_left true None x t r e = absurd cc
not_left false r x t s e = absurd cc

-- ---- lists

pub in_range : (from n c : ℕ) → from ≤ c → c < from + n → In (range_with_len from n) c
in_range from zero c le lt = absurd (omega (arith, le, lt))
in_range from (suc n) c le lt = elim (cases_Bool (eqb from c)) [
  | inl same ↦ inl (eqb-true from c same)
  | inr other ↦ let differs = eqb-false from c other in inr (in_range (from + 1) n c (omega (arith, le, differs)) (omega (arith, lt)))
]

found_some : (f : ℕ → Option Request) (l : List ℕ) (c : ℕ) (r : Request) → In l c → f c ≡ Some r → filter_map f l ≡ [] → ⊥
found_some f [] c r i e none = absurd i
found_some f (x ∷ l) c r (inl is) e none = let here : f x ≡ Some r = ap f is ∙ e in let no : r ∷ filter_map f l ≡ [] = rw here at none in absurd cc
found_some f (x ∷ l) c r (inr i) e none = elim (option_cases (f x)) [
  | inl absent ↦ found_some f l c r i e (rw absent at none)
  | inr (y, some) ↦ let no : y ∷ filter_map f l ≡ [] = rw some at none in absurd cc
]

some_batch : (l : List Request) → (l ≡ [] → ⊥) → (b : Batch) × (first_batch l ≡ Some b)
some_batch [] none = absurd (none refl)
some_batch (r ∷ l) none = (_, refl)

greatest_below : (f : ℕ → ℕ) (l : List ℕ) (n : ℕ) → 0 < n → ((x : ℕ) → f x < n) → greatest (map f l) < n
unfolding greatest
greatest_below f [] n more all = omega (arith, more)
greatest_below f (x ∷ l) n more all = omega (arith, all x, greatest_below f l n more all)

number_below : (c n : ℕ) (l : List Request) → 0 < n → ((q : Request) → In l q → q.client ≡ c → q.seq < n) → greatest (map (number_of c) l) < n
unfolding greatest
number_below c n [] more all = omega (arith, more)
number_below c n (q ∷ l) more all =
    let rest = number_below c n l more (λ r i e. all r (inr i) e) in
    let one : number_of c q < n = elim (cases_Bool (eqb q.client c)) [
      | inl same ↦ rw same (all q (inl refl) (eqb-true q.client c same))
      | inr other ↦ rw other (omega (arith, more))
    ] in
    omega (arith, rest, one)

module _ {S : Type 0} (self : Identity S) (d : History) where
  pub slot_held : (p : ℕ) (k : KnownSlot) → IsInWindow self d p → slot_in self d (view_of self d) p ≡ Some k → slot_at self d p ≡ Some k
  slot_held p k inside e = rw (window_is self d p inside) e

  pub commits_next : commit_enabled self d ≡ None → CommitsNext self d
  unfolding commit_enabled
  commits_next none k b opened backs room there =
      let p : ℕ = next_position self d in
      let test : (is_open self d && (not (is_primary self d) && has_room self d)) ≡ true = rw (opened, backs, room_is self d room) refl in
      let slot : with_batch (Commit p) (slot_at self d p) ≡ Some (Commit p k b) = ap (with_batch (Commit p)) (slot_held p k there.0.0 there.0.1) ∙ ap (option_map (Commit p k)) there.1 in
      not_left _ _ (Commit p k b) test slot none

  -- The numbers of a client in the slots are below one that is in none of them.
  slot_below : (c n p : ℕ) → 0 < n → IsUnordered self d c n → number_in_slot self d c p < n
  slot_below c n p more free = elim (option_cases (slot_at self d p)) [
    | inl none ↦ rw none (omega (arith, more))
    | inr (k, some) ↦ rw some (in_batch k some (option_cases k.batch))
  ] where
    in_batch : (k : KnownSlot) → slot_at self d p ≡ Some k → (k.batch ≡ None) ⊎ ((b : Batch) × (k.batch ≡ Some b)) → greatest_in c k.batch < n
    in_batch k some (inl none) = rw none (omega (arith, more))
    in_batch k some (inr (b, is)) =
        let t = if_some (in_window self d p) (slot_in self d (view_of self d) p) k some in
        let below : AreBelow self d c n b.requests = free p k b ((window_says self d p t.0, t.1), is) in
        rw is (number_below c n b.requests more (λ q i e. below q (contained b.requests q i) e))

  pub orders_requests : prepare_enabled self d ≡ None → OrdersRequests self d
  unfolding prepare_enabled greatest_in_slots unordered
  orders_requests none c r opened leads room next near client waits fresh free =
      let p : ℕ = next_position self d in
      let test : may_order self d ≡ true = rw (opened, leads, window_is self d p next, lt-ltb (here self d).last (exec_of d + ahead_limit) near, room_is self d room) refl in
      let above : (reply_of (state_of self d) r.client).seq < r.seq = ltb-true _ _ fresh in
      let low : greatest_in_slots self d c (window self d) < r.seq = greatest_below (number_in_slot self d c) (window self d) r.seq (omega (arith, above)) (λ p. slot_below c r.seq p (omega (arith, above)) free) in
      let found : unordered_of self d c ≡ Some r = rw (waits, lt-ltb _ r.seq low) refl in
      let some = some_batch (unordered self d) (λ e. found_some (unordered_of self d) (range_with_len 0 (client_count self.shape)) c r (in_range 0 (client_count self.shape) c (omega arith) (omega (arith, client))) found e) in
      not_left _ _ (Prepare p some.0) test (ap (option_map (Prepare p)) some.1) none
