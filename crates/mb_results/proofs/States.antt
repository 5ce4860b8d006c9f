-- Where the service stands after a beginning of the line, as the machine alone has it: request by request, and slot by slot.
use Rattle.std.proofs.Common.{◌≡◌, ℕ, zero, suc, ◌+◌, ◌≤◌, List, [], ◌∷◌, ◌++◌, length, refl, sym, ap, subst, ◌∙◌, inl, inr, arith, append_assoc, Some}
use Rattle.std.specs.Prelude.{slice_get, take}
use Rattle.std.proofs.lemmas.Bool.{cases_Bool}
use Rattle.std.proofs.lemmas.List.{append-nil, take_all}
use Rattle.mb_base.specs.Shapes.{Bytes, client_count}
use Rattle.mb_msg.specs.declared.event.Placed.{Placed}
use Rattle.mb_msg.specs.declared.event.Slot.{Slot}
use Rattle.mb_model.specs.Service.{Machine, Served, is_fresh, served, served_each, served_all, start}
use Rattle.mb_model.proofs.ServiceLaws.{each_push, served_push}
use Rattle.mb_promise.specs.Headline.{state_after}
use Rattle.mb_world_model.specs.World.{World, System}
use Rattle.mb_promise.specs.Safety.{after_line, after_requests, IsSafe}
use Rattle.mb_model.proofs.Lists.{get_there, take_next}
use Rattle.mb_results.specs.Sequential.{operations, line_operations, state_at, state_before}

-- ---- lists of operations

operations_append : (a b : List Placed) → operations (a ++ b) ≡ operations a ++ operations b
unfolding operations
operations_append [] b = refl
operations_append (p ∷ a) b = elim (cases_Bool p.fresh) [
  | inl fresh ↦ rw fresh (ap (λ (l : List Bytes). p.request.op ∷ l) (operations_append a b))
  | inr again ↦ rw again (operations_append a b)
]

line_append : (a b : List Slot) → line_operations (a ++ b) ≡ line_operations a ++ line_operations b
unfolding line_operations
line_append [] b = refl
line_append (s ∷ a) b = ap (λ (l : List Bytes). operations s.requests ++ l) (line_append a b) ∙ sym (append_assoc (operations s.requests) (line_operations a) (line_operations b))

one_slot : (slot : Slot) → line_operations (slot ∷ []) ≡ operations slot.requests
unfolding line_operations
one_slot slot = append-nil (operations slot.requests)

module _ {S : Type 0} (m : Machine S) where
  state_append : (x : S) (a b : List Bytes) → state_after m x (a ++ b) ≡ state_after m (state_after m x a) b
  unfolding state_after
  state_append x [] b = refl
  state_append x (op ∷ a) b = state_append (m.after x op) a b

  -- A request moves the machine where it is fresh.
  served_state : (x : Served S) (pos : ℕ) (p : Placed) → p.fresh ≡ is_fresh x p.request → (served m x pos p.request).state ≡ state_after m x.state (operations (p ∷ []))
  unfolding served state_after operations
  served_state x pos p mark = elim (cases_Bool (is_fresh x p.request)) [
    | inl fresh ↦ let both = mark ∙ fresh in rw (both, fresh) refl
    | inr again ↦ let both = mark ∙ again in rw (both, again) refl
  ]

  -- one request more, and one slot more
  state_next : (x : S) (ps : List Placed) (p : Placed) → state_after m (state_after m x (operations ps)) (operations (p ∷ [])) ≡ state_after m x (operations (ps ++ p ∷ []))
  state_next x ps p = sym (ap (state_after m x) (operations_append ps (p ∷ [])) ∙ state_append x (operations ps) (operations (p ∷ [])))

  state_slot : (x : S) (slots : List Slot) (slot : Slot) → state_after m (state_after m x (line_operations slots)) (operations slot.requests) ≡ state_after m x (line_operations (slots ++ slot ∷ []))
  state_slot x slots slot = ap (state_after m (state_after m x (line_operations slots))) (sym (one_slot slot))
      ∙ sym (ap (state_after m x) (line_append slots (slot ∷ [])) ∙ state_append x (line_operations slots) (line_operations (slot ∷ [])))

-- ---- the line

module _ {S : Type 0} (system : System S) (w : World) where
  abbrev m : Machine S
  m = system.machine

  abbrev first : Served S
  first = start m system.initial (client_count system.schedule.shape)

  abbrev after : ℕ → Served S
  after n = after_line system w n

  abbrev during : ℕ → Slot → ℕ → Served S
  during n slot i = after_requests system w n slot i

  -- right behind a request, and right behind a slot
  pub next_within : (q : ℕ) (slot : Slot) (i : ℕ) (p : Placed) → slice_get slot.requests i ≡ Some p → during q slot (i + 1) ≡ served m (during q slot i) slot.pos p.request
  next_within q slot i p at = ap (served_each m (after q) slot.pos) (take_next slot.requests i p at) ∙ each_push m (after q) slot.pos (take i slot.requests) p

  pub next_slot : (q : ℕ) (slot : Slot) → slice_get w.line q ≡ Some slot → after (q + 1) ≡ during q slot (length slot.requests)
  next_slot q slot at = ap (served_all m first) (take_next w.line q slot at) ∙ served_push m first (take q w.line) slot
      ∙ ap (served_each m (after q) slot.pos) (sym (take_all (length slot.requests) slot.requests (omega arith)))

  module _ (safe : IsSafe system w) where
    abbrev IsAt : ℕ → Type 0
    IsAt n = (after n).state ≡ state_at system w n

    abbrev IsWithin : ℕ → Slot → ℕ → Type 0
    IsWithin q slot i = (during q slot i).state ≡ state_before system w q slot i

    none_within : (q : ℕ) (slot : Slot) → IsAt q → IsWithin q slot 0
    unfolding served_each state_after operations
    none_within q slot before = before

    more_within : (q : ℕ) (slot : Slot) (i : ℕ) (p : Placed) → slice_get w.line q ≡ Some slot → slice_get slot.requests i ≡ Some p → IsWithin q slot i → IsWithin q slot (i + 1)
    more_within q slot i p at there before =
        let mark = ((safe.line q slot at).requests i p there).fresh in
        let x : Served S = during q slot i in
        ap (λ (y : Served S). y.state) (next_within q slot i p there)
        ∙ served_state m x slot.pos p mark
        ∙ ap (λ (y : S). state_after m y (operations (p ∷ []))) before
        ∙ state_next m (state_at system w q) (take i slot.requests) p
        ∙ ap (λ (l : List Placed). state_after m (state_at system w q) (operations l)) (sym (take_next slot.requests i p there))

    all_within : (q : ℕ) (slot : Slot) → slice_get w.line q ≡ Some slot → IsAt q → (i : ℕ) → i ≤ length slot.requests → IsWithin q slot i
    all_within q slot at before zero le = none_within q slot before
    all_within q slot at before (suc i) le =
        let t = get_there slot.requests i (omega (arith, le)) in
        let one : i + 1 ≡ suc i = omega arith in
        subst (IsWithin q slot) one (more_within q slot i t.0 at t.1 (all_within q slot at before i (omega (arith, le))))

    none_at : IsAt 0
    unfolding served_all state_after line_operations
    none_at = refl

    more_at : (q : ℕ) (slot : Slot) → slice_get w.line q ≡ Some slot → IsAt q → IsAt (q + 1)
    more_at q slot at before =
        let n : ℕ = length slot.requests in
        let all : take n slot.requests ≡ slot.requests = take_all n slot.requests (omega arith) in
        ap (λ (y : Served S). y.state) (next_slot q slot at)
        ∙ all_within q slot at before n (omega arith)
        ∙ ap (λ (l : List Placed). state_after m (state_at system w q) (operations l)) all
        ∙ state_slot m system.initial (take q w.line) slot
        ∙ ap (λ (l : List Slot). state_after m system.initial (line_operations l)) (sym (take_next w.line q slot at))

    pub line_state : (n : ℕ) → n ≤ length w.line → (after n).state ≡ state_at system w n
    line_state zero le = none_at
    line_state (suc n) le =
        let t = get_there w.line n (omega (arith, le)) in
        let one : n + 1 ≡ suc n = omega arith in
        subst IsAt one (more_at n t.0 t.1 (line_state n (omega (arith, le))))

    pub state_within : (q : ℕ) (slot : Slot) (i : ℕ) → slice_get w.line q ≡ Some slot → q ≤ length w.line → i ≤ length slot.requests → (during q slot i).state ≡ state_before system w q slot i
    state_within q slot i at le less = all_within q slot at (line_state q le) i less
