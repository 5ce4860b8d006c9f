-- Along a line whose marks are right, the numbers of a client's fresh requests rise.
use Rattle.std.proofs.Common.{◌≡◌, ℕ, ◌+◌, ◌≤◌, ◌<◌, true, List, ◌++◌, length, sym, ap, subst, ◌∙◌, inl, inr, ◌⊎◌, arith, Some}
use Rattle.std.specs.Prelude.{slice_get, take, drop}
use Rattle.std.proofs.lemmas.Bool.{ltb-true}
use Rattle.std.proofs.lemmas.List.{take-append-drop, take-take, take_all}
use Rattle.std.proofs.lemmas.Option.{slice_get_within}
use Rattle.mb_msg.specs.declared.event.Placed.{Placed}
use Rattle.mb_msg.specs.declared.event.Slot.{Slot}
use Rattle.mb_model.specs.Service.{Machine, Served, reply_of, is_fresh, served, served_each, served_all}
use Rattle.mb_model.proofs.ServiceLaws.{each_push, each_rises, each_length, served_push, served_append, table_length, last_rises, last_served}
use Rattle.mb_model.proofs.Lists.{take_next}
use Rattle.mb_host_laws.proofs.Marked.{each_later}

module _ {S : Type 0} (m : Machine S) (first : Served S) (line : List Slot) where
  abbrev before : ℕ → Served S
  before q = served_all m first (take q line)

  -- behind so many requests of the next slot
  abbrev within : ℕ → Slot → ℕ → Served S
  within q slot i = served_each m (before q) slot.pos (take i slot.requests)

  -- right behind a slot
  next_state : (q : ℕ) (slot : Slot) → slice_get line q ≡ Some slot → before (q + 1) ≡ within q slot (length slot.requests)
  next_state q slot at = ap (served_all m first) (take_next line q slot at) ∙ served_push m first (take q line) slot
      ∙ ap (served_each m (before q) slot.pos) (sym (take_all (length slot.requests) slot.requests (omega arith)))

  -- right behind a request
  next_within : (q : ℕ) (slot : Slot) (i : ℕ) (p : Placed) → slice_get slot.requests i ≡ Some p → within q slot (i + 1) ≡ served m (within q slot i) slot.pos p.request
  next_within q slot i p at = ap (served_each m (before q) slot.pos) (take_next slot.requests i p at) ∙ each_push m (before q) slot.pos (take i slot.requests) p

  -- the number of a client's last request is no lower further on
  later_seq : (q r c : ℕ) → q ≤ r → (reply_of (before q) c).seq ≤ (reply_of (before r) c).seq
  later_seq q r c le =
      let rest : List Slot = drop q (take r line) in
      let parts : take r line ≡ take q line ++ rest = sym (take-append-drop q (take r line)) ∙ ap (λ (l : List Slot). l ++ rest) (take-take q r line le) in
      let state : before r ≡ served_all m (before q) rest = ap (served_all m first) parts ∙ served_append m first (take q line) rest in
      omega (arith, last_rises m (before q) rest c, ap (λ (x : Served S). (reply_of x c).seq) state)

  -- A client's number behind a fresh request is that request's.
  served_seq : (q : ℕ) (slot : Slot) (i : ℕ) (p : Placed) → slice_get slot.requests i ≡ Some p → p.request.client < length first.table → is_fresh (within q slot i) p.request ≡ true
      → (reply_of (within q slot (i + 1)) p.request.client).seq ≡ p.request.seq
  served_seq q slot i p at known fresh =
      let long : p.request.client < length (within q slot i).table = omega (arith, known, each_length m (before q) slot.pos (take i slot.requests), table_length m first (take q line)) in
      ap (λ (s : Served S). (reply_of s p.request.client).seq) (next_within q slot i p at) ∙ last_served m (within q slot i) slot.pos p.request fresh long

  -- in the same slot, and from slot to slot
  within_later : (q : ℕ) (slot : Slot) (i j c : ℕ) → i ≤ j → (reply_of (within q slot i) c).seq ≤ (reply_of (within q slot j) c).seq
  within_later q slot i j c le = each_later m (before q) slot.pos slot.requests i j c le

  across : (q r : ℕ) (slot slot' : Slot) (i j c : ℕ) → q < r → slice_get line q ≡ Some slot → i ≤ length slot.requests → (reply_of (within q slot i) c).seq ≤ (reply_of (within r slot' j) c).seq
  across q r slot slot' i j c lt at short =
      let a = within_later q slot i (length slot.requests) c short in
      let b = ap (λ (s : Served S). (reply_of s c).seq) (next_state q slot at) in
      let d = later_seq (q + 1) r c (omega arith) in
      let e : (reply_of (before r) c).seq ≤ (reply_of (within r slot' j) c).seq = each_rises m (before r) slot'.pos (take j slot'.requests) c in
      omega (arith, a, b, d, e)

  pub fresh_rises : (q r : ℕ) (slot slot' : Slot) (i j : ℕ) (x y : Placed) → (q < r) ⊎ ((q ≡ r) × (i < j)) → slice_get line q ≡ Some slot → slice_get line r ≡ Some slot'
      → slice_get slot.requests i ≡ Some x → x.request.client < length first.table → is_fresh (within q slot i) x.request ≡ true → is_fresh (within r slot' j) y.request ≡ true
      → x.request.client ≡ y.request.client → x.request.seq < y.request.seq
  fresh_rises q r slot slot' i j x y order at at' there known fresh fresh' same =
      let c : ℕ = x.request.client in
      let here = served_seq q slot i x there known fresh in
      let above : (reply_of (within r slot' j) y.request.client).seq < y.request.seq = ltb-true _ _ fresh' in
      let long = slice_get_within slot.requests i x there in
      let between : (reply_of (within q slot (i + 1)) c).seq ≤ (reply_of (within r slot' j) c).seq = elim order [
        | inl lt ↦ across q r slot slot' (i + 1) j c lt at (omega (arith, long))
        | inr (e, lt) ↦
            let one : slot ≡ slot' = same_slot slot slot' (sym at ∙ ap (slice_get line) e ∙ at') in
            subst (λ (s : Slot). (reply_of (within q slot (i + 1)) c).seq ≤ (reply_of (within r s j) c).seq) one
            (subst (λ (n : ℕ). (reply_of (within q slot (i + 1)) c).seq ≤ (reply_of (within n slot j) c).seq) e (within_later q slot (i + 1) j c (omega arith)))
      ] in
      omega (arith, here, above, between, ap (λ (n : ℕ). (reply_of (within r slot' j) n).seq) same) where
        same_slot : (a b : Slot) → Some a ≡ Some b → a ≡ b
        same_slot a b e = cc
