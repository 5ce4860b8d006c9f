-- One position more is executed.
use Rattle.std.proofs.Common.{◌≡◌, ℕ, zero, suc, ◌+◌, ◌*◌, ◌/◌, ◌%◌, ◌<◌, ◌≤◌, ◌⊎◌, Bool, true, false, cond, eqb, List, [], ◌∷◌, ◌++◌, length, map, take, drop, take_all, append_assoc, append-nil, slice_get, Option, Some, None, refl, sym, ap, subst, ◌∙◌, inl, inr, arith, length-append, add-one, add-mul, mul-le-mul_right}
use Rattle.std.specs.Prelude.{nat_le, if◌then◌else◌}
use Rattle.std.specs.List.{range_with_len}
use Rattle.std.proofs.lemmas.Bool.{cases_Bool, cases_lt, eqb-true, eqb-false, le-leb, leb-true, false_from_ne_true}
use Rattle.std.proofs.lemmas.List.{take-append-le, map-append, drop_all}
use Rattle.std.proofs.lemmas.List.FromFn.{map-range_with_len_more}
use Rattle.std.proofs.lemmas.Nat.{div-add-mod'}
use Rattle.std.proofs.lemmas.Option.{none-some, same_Some, slice_get_past}
use Rattle.std.proofs.Math.Nat.{mul-mod_left}
use Rattle.std.specs.Global.{Vec}
use Rattle.mb_base.specs.Shapes.{Bytes, interval, client_count}
use Rattle.mb_base.specs.declared.shape.Shape.{Shape}
use Rattle.mb_parts.specs.declared.request.Request.{Request}
use Rattle.mb_parts.specs.declared.batch.Batch.{Batch}
use Rattle.mb_msg.specs.declared.event.Placed.{Placed}
use Rattle.mb_msg.specs.declared.event.Slot.{Slot}
use Rattle.mb_model.specs.Service.{Machine, Served, start, is_fresh, served, served_each}
use Rattle.mb_model.specs.States.{Snapshots, parts_of, state_digest}
use Rattle.mb_model.proofs.ServiceLaws.{served_push}
use Rattle.mb_model.specs.declared.known.LastReply.{LastReply}
use Rattle.mb_cache.specs.Represents.{joined}
use Rattle.mb_learn.specs.declared.line.Line.{Line}
use Rattle.mb_learn.specs.Executed.{with_mark, placed_all, state_now, noted_at, KeepsSlots, NotesState, Executes, ExecutesToo}
use Rattle.mb_learn.specs.Proved.{behind, AreMarked, digest_behind}

-- ---- lists with one item more

module _ {A : Type 0} where
  pub got_before : (l : List A) (x : A) (i : ℕ) → i < length l → slice_get (l ++ x ∷ []) i ≡ slice_get l i
  got_before [] x i lt = absurd (omega arith)
  got_before (y ∷ l) x zero lt = refl
  got_before (y ∷ l) x (suc i) lt = got_before l x i (omega (arith, lt))

  pub got_last : (l : List A) (x : A) (i : ℕ) → i ≡ length l → slice_get (l ++ x ∷ []) i ≡ Some x
  got_last [] x zero e = refl
  got_last [] x (suc i) e = absurd (omega (arith, e))
  got_last (y ∷ l) x zero e = absurd (omega (arith, e))
  got_last (y ∷ l) x (suc i) e = got_last l x i (omega (arith, e))

  -- which one it is
  pub got_either : (l : List A) (x : A) (i : ℕ) (y : A) → slice_get (l ++ x ∷ []) i ≡ Some y → ((i < length l) × (slice_get l i ≡ Some y)) ⊎ ((i ≡ length l) × (x ≡ y))
  got_either [] x zero y at = inr (refl, same_Some x y at)
  got_either [] x (suc i) y at = absurd (none-some y at)
  got_either (z ∷ l) x zero y at = inl (omega arith, at)
  got_either (z ∷ l) x (suc i) y at = by (got_either l x i y at) where
    by : ((i < length l) × (slice_get l i ≡ Some y)) ⊎ ((i ≡ length l) × (x ≡ y)) → ((suc i < length (z ∷ l)) × (slice_get (z ∷ l) (suc i) ≡ Some y)) ⊎ ((suc i ≡ length (z ∷ l)) × (x ≡ y))
    by (inl before) = let lt = before.0 in inl (omega (arith, lt), before.1)
    by (inr last) = inr (ap suc last.0, last.1)

  -- the part of a list with one more, up to the old end
  pub take_before : (l : List A) (x : A) (n : ℕ) → n ≤ length l → take n (l ++ x ∷ []) ≡ take n l
  take_before l x n le = take-append-le n l (x ∷ []) le

-- ---- requests at a position

module _ {S : Type 0} (m : Machine S) where
  pub placed_batch : (x : Served S) (pos : ℕ) (rs : List Request) → map (λ (p : Placed). p.request) (placed_all m x pos rs) ≡ rs
  placed_batch x pos [] = refl
  placed_batch x pos (r ∷ rs) = ap (λ (l : List Request). r ∷ l) (placed_batch (served m x pos r) pos rs)

  pub marked_at : (x : Served S) (pos : ℕ) (rs : List Request) (i : ℕ) (p : Placed) → slice_get (placed_all m x pos rs) i ≡ Some p
      → p.fresh ≡ is_fresh (served_each m x pos (take i (placed_all m x pos rs))) p.request
  unfolding served_each
  marked_at x pos [] i p at = absurd (none-some p at)
  marked_at x pos (r ∷ rs) zero p at = subst (λ (q : Placed). q.fresh ≡ is_fresh x q.request) (same_Some (with_mark x r) p at) refl
  marked_at x pos (r ∷ rs) (suc i) p at = marked_at (served m x pos r) pos rs i p at

  -- the requests in front of a place were served
  pub record Places (old now : Line S) (pos : ℕ) (requests : List Request) (index : ℕ) (placed : List Placed) : Type 0 where
    pub placed_is : placed ++ placed_all m (joined now.service now.table) pos (drop index requests) ≡ placed_all m (joined old.service old.table) pos requests
    pub served_is : joined now.service now.table ≡ served_each m (joined old.service old.table) pos placed
    pub keeps : KeepsSlots old now

  pub places_first : (t : Line S) (pos : ℕ) (requests : List Request) (placed : List Placed) → placed ≡ [] → Places t t pos requests 0 placed
  unfolding served_each
  places_first t pos requests placed none = record {
    placed_is = ap (λ (l : List Placed). l ++ placed_all m (joined t.service t.table) pos requests) none;
    served_is = sym (ap (served_each m (joined t.service t.table) pos) none);
    keeps = record { shape = refl; slots = refl; states = refl; clients = refl };
  }

  served_one : (x : Served S) (pos : ℕ) (l : List Placed) (p : Placed) → served_each m x pos (l ++ p ∷ []) ≡ served m (served_each m x pos l) pos p.request
  unfolding served_each
  served_one x pos [] p = refl
  served_one x pos (q ∷ l) p = served_one (served m x pos q.request) pos l p

  pub places_next : (old now new : Line S) (pos : ℕ) (requests : List Request) (index : ℕ) (placed more : List Placed) (r : Request) (p : Placed) → Places old now pos requests index placed → slice_get requests index ≡ Some r
      → p ≡ with_mark (joined now.service now.table) r → joined new.service new.table ≡ served m (joined now.service now.table) pos r → KeepsSlots now new → more ≡ placed ++ p ∷ [] → Places old new pos requests (index + 1) more
  places_next old now new pos requests index placed more r p g at p_is served_is keeps more_is = record {
    placed_is =
        ap (λ (l : List Placed). l ++ placed_all m (joined new.service new.table) pos (drop (index + 1) requests)) (more_is ∙ ap (λ (q : Placed). placed ++ q ∷ []) p_is)
        ∙ append_assoc placed (with_mark (joined now.service now.table) r ∷ []) (placed_all m (joined new.service new.table) pos (drop (index + 1) requests))
        ∙ ap (λ (x : Served S). placed ++ with_mark (joined now.service now.table) r ∷ placed_all m x pos (drop (index + 1) requests)) served_is
        ∙ sym (ap (λ (l : List Request). placed ++ placed_all m (joined now.service now.table) pos l) (rest requests index at))
        ∙ g.placed_is;
    served_is =
        served_is ∙ ap (λ (x : Served S). served m x pos r) g.served_is ∙ sym (ap (λ (q : Placed). served m (served_each m (joined old.service old.table) pos placed) pos q.request) p_is)
        ∙ sym (ap (served_each m (joined old.service old.table) pos) more_is ∙ served_one (joined old.service old.table) pos placed p);
    keeps = record { shape = keeps.shape ∙ g.keeps.shape; slots = keeps.slots ∙ g.keeps.slots; states = keeps.states ∙ g.keeps.states; clients = keeps.clients ∙ g.keeps.clients };
  } where
    rest : (l : List Request) (i : ℕ) → slice_get l i ≡ Some r → drop i l ≡ r ∷ drop (i + 1) l
    rest l i at = rw (add-one i) (by l i at) where
      by : (l : List Request) (i : ℕ) → slice_get l i ≡ Some r → drop i l ≡ r ∷ drop (suc i) l
      by [] i at = absurd (none-some r at)
      by (x ∷ l) zero at = ap (λ (y : Request). y ∷ l) (same_Some x r at)
      by (x ∷ l) (suc i) at = by l i at

  -- all were
  pub places_last : (old now : Line S) (pos : ℕ) (requests : List Request) (index : ℕ) (placed : List Placed) → length requests ≤ index → Places old now pos requests index placed
      → placed ≡ placed_all m (joined old.service old.table) pos requests
  places_last old now pos requests index placed le g =
      sym (append-nil placed) ∙ sym (ap (λ (l : List Request). placed ++ placed_all m (joined now.service now.table) pos l) (drop_all index requests le)) ∙ g.placed_is

-- ---- multiples

-- one above a multiple is none that is not the next
is_multiple : (pos k : ℕ) → eqb (pos % k) 0 ≡ true → pos ≡ (pos / k) * k
is_multiple pos k e =
    let none : pos % k ≡ 0 = eqb-true (pos % k) 0 e in
    let whole = div-add-mod' pos k in
    omega (arith, none, whole)

no_multiple : (pos k i : ℕ) → eqb (pos % k) 0 ≡ false → (i * k ≡ pos → ⊥)
no_multiple pos k i other e = eqb-false (pos % k) 0 other (ap (λ n. n % k) (sym e) ∙ mul-mod_left i k)

-- multiples in order
multiples : (i j k : ℕ) → i < j → i * k + k ≤ j * k
multiples i j k lt =
    let up : (i + 1) * k ≤ j * k = mul-le-mul_right k (omega (arith, lt)) in
    let one = add-mul i 1 k in
    omega (arith, up, one)

module _ {S : Type 0} (s : Shape) (m : Machine S) (initial : S) (snapshots : Snapshots S) where
  -- ---- one slot more

  module _ (slots : List Slot) (slot : Slot) where
    abbrev more : List Slot
    more = slots ++ slot ∷ []

    pub more_long : length more ≡ length slots + 1
    more_long = length-append slots (slot ∷ [])

    digest_before : (p : ℕ) → p ≤ length slots → digest_behind s m initial snapshots more p ≡ digest_behind s m initial snapshots slots p
    digest_before p le = ap (λ (l : List Slot). state_digest (parts_of snapshots (behind s m initial l)) p) (take_before slots slot p le)

    pub places_more : slot.pos ≡ length slots + 1 → map (λ (x : Slot). x.pos) slots ≡ range_with_len 1 (length slots) → map (λ (x : Slot). x.pos) more ≡ range_with_len 1 (length more)
    places_more at places =
        map-append (λ (x : Slot). x.pos) slots (slot ∷ []) ∙ ap (λ (l : List ℕ). l ++ slot.pos ∷ []) places ∙ ap (λ (n : ℕ). range_with_len 1 (length slots) ++ n ∷ []) at
        ∙ sym (ap (range_with_len 1) more_long ∙ ranged (length slots) (length slots + 1) (omega arith)) where
          ranged : (n j : ℕ) → 1 + n ≡ j → range_with_len 1 (n + 1) ≡ range_with_len 1 n ++ j ∷ []
          ranged n j e = sym (ids (range_with_len 1 (n + 1))) ∙ map-range_with_len_more (λ (x : ℕ). x) 1 n j e ∙ ap (λ (l : List ℕ). l ++ j ∷ []) (ids (range_with_len 1 n)) where
            ids : (l : List ℕ) → map (λ (x : ℕ). x) l ≡ l
            ids [] = refl
            ids (x ∷ l) = ap (λ (y : List ℕ). x ∷ y) (ids l)

    pub marks_more : (rs : List Request) → slot.requests ≡ placed_all m (behind s m initial slots) slot.pos rs → AreMarked s m initial slots → AreMarked s m initial more
    marks_more rs placed marks q i sl p at there = by (got_either slots slot q sl at) where
      by : ((q < length slots) × (slice_get slots q ≡ Some sl)) ⊎ ((q ≡ length slots) × (slot ≡ sl)) → p.fresh ≡ is_fresh (served_each m (behind s m initial (take q more)) sl.pos (take i sl.requests)) p.request
      by (inl before) =
          let lt = before.0 in
          marks q i sl p before.1 there ∙ ap (λ (l : List Slot). is_fresh (served_each m (behind s m initial l) sl.pos (take i sl.requests)) p.request) (sym (take_before slots slot q (omega (arith, lt))))
      by (inr last) = subst (λ (x : Slot). slice_get x.requests i ≡ Some p → p.fresh ≡ is_fresh (served_each m (behind s m initial (take q more)) x.pos (take i x.requests)) p.request) last.1 own there where
        whole : take q more ≡ slots
        whole = ap (λ (n : ℕ). take n more) last.0 ∙ take_before slots slot (length slots) (omega arith) ∙ take_all (length slots) slots (omega arith)

        own : slice_get slot.requests i ≡ Some p → p.fresh ≡ is_fresh (served_each m (behind s m initial (take q more)) slot.pos (take i slot.requests)) p.request
        own at =
            marked_at m (behind s m initial slots) slot.pos rs i p (ap (λ (l : List Placed). slice_get l i) (sym placed) ∙ at)
            ∙ ap (λ (l : List Placed). is_fresh (served_each m (behind s m initial slots) slot.pos (take i l)) p.request) (sym placed)
            ∙ ap (λ (l : List Slot). is_fresh (served_each m (behind s m initial l) slot.pos (take i slot.requests)) p.request) (sym whole)

    -- ---- the digests that are noted

    abbrev k : ℕ
    k = interval s

    abbrev old_at : ℕ → Option Bytes
    old_at = noted_at s m initial snapshots slots

    abbrev new_at : ℕ → Option Bytes
    new_at = noted_at s m initial snapshots more

    low_same : (i : ℕ) → (i + 1) * k ≤ length slots → new_at i ≡ old_at i
    low_same i le =
        ap (λ b. if b then Some (digest_behind s m initial snapshots more ((i + 1) * k)) else None) (le-leb ((i + 1) * k) (length more) (omega (arith, le, more_long)))
        ∙ ap (λ (d : Bytes). Some d) (digest_before ((i + 1) * k) le)
        ∙ sym (ap (λ b. if b then Some (digest_behind s m initial snapshots slots ((i + 1) * k)) else None) (le-leb ((i + 1) * k) (length slots) le))

    none_at : (l : List Slot) (i : ℕ) → length l < (i + 1) * k → noted_at s m initial snapshots l i ≡ None
    none_at l i lt =
        ap (λ b. if b then Some (digest_behind s m initial snapshots l ((i + 1) * k)) else None)
        (false_from_ne_true (nat_le ((i + 1) * k) (length l)) (λ e. let le = leb-true ((i + 1) * k) (length l) e in absurd (omega (arith, le, lt))))

    -- no multiple of the interval
    pub notes_none : (states : List Bytes) → eqb ((length slots + 1) % k) 0 ≡ false → ((i : ℕ) → slice_get states i ≡ old_at i) → (i : ℕ) → slice_get states i ≡ new_at i
    notes_none states other old i = old i ∙ sym (by (cases_lt (length slots) ((i + 1) * k))) where
      by : (length slots < (i + 1) * k) ⊎ ((i + 1) * k ≤ length slots) → new_at i ≡ old_at i
      by (inr le) = low_same i le
      by (inl lt) = none_at more i (above (cases_lt (length slots + 1) ((i + 1) * k))) ∙ sym (none_at slots i lt) where
        above : (length slots + 1 < (i + 1) * k) ⊎ ((i + 1) * k ≤ length slots + 1) → length more < (i + 1) * k
        above (inl far) = omega (arith, far, more_long)
        above (inr near) = absurd (no_multiple (length slots + 1) k (i + 1) other (omega (arith, lt, near)))

    -- a multiple of the interval
    module _ (states : List Bytes) (digest : Bytes) (old : (i : ℕ) → slice_get states i ≡ old_at i) (one : 1 ≤ k) where
      as_many : (j : ℕ) → length slots + 1 ≡ (j + 1) * k → length states ≡ j
      as_many j e = by (cases_lt (length states) j) where
        no_more : length states ≤ j
        no_more = none (cases_lt j (length states)) where
          none : (j < length states) ⊎ (length states ≤ j) → length states ≤ j
          none (inr le) = le
          none (inl lt) = absurd (some_none (slice_get states j) (there states j lt) (old j ∙ none_at slots j (omega (arith, e)))) where
            there : (l : List Bytes) (i : ℕ) → i < length l → (x : Bytes) × (slice_get l i ≡ Some x)
            there [] i lt = absurd (omega arith)
            there (x ∷ l) zero lt = (x, refl)
            there (x ∷ l) (suc i) lt = there l i (omega (arith, lt))

            some_none : (o : Option Bytes) → (x : Bytes) × (o ≡ Some x) → o ≡ None → ⊥
            some_none o t none = none-some t.0 (sym none ∙ t.1)

        by : (length states < j) ⊎ (j ≤ length states) → length states ≡ j
        by (inr le) = let ge = no_more in omega (arith, le, ge)
        by (inl lt) =
            let below = multiples (length states + 1) (j + 1) k (omega (arith, lt)) in
            let noted : slice_get states (length states) ≡ Some (digest_behind s m initial snapshots slots ((length states + 1) * k)) =
            old (length states) ∙ ap (λ b. if b then Some (digest_behind s m initial snapshots slots ((length states + 1) * k)) else None) (le-leb ((length states + 1) * k) (length slots) (omega (arith, e, below, one))) in
            absurd (none-some _ (sym (slice_get_past states (length states) (omega arith)) ∙ noted))

      pub notes_one : eqb ((length slots + 1) % k) 0 ≡ true → digest ≡ state_digest (parts_of snapshots (behind s m initial more)) (length slots + 1) → (i : ℕ) → slice_get (states ++ digest ∷ []) i ≡ new_at i
      notes_one multiple is i = by (cases_lt i (length states)) where
        whole : length slots + 1 ≡ ((length slots + 1) / k) * k
        whole = is_multiple (length slots + 1) k multiple

        next : length slots + 1 ≡ (length states + 1) * k
        next = at ((length slots + 1) / k) whole where
          at : (q : ℕ) → length slots + 1 ≡ q * k → length slots + 1 ≡ (length states + 1) * k
          at zero e = absurd (omega (arith, e))
          at (suc q) e =
              let e' : length slots + 1 ≡ (q + 1) * k = e ∙ ap (λ n. n * k) (sym (add-one q)) in
              e' ∙ ap (λ n. (n + 1) * k) (sym (as_many q e'))

        by : (i < length states) ⊎ (length states ≤ i) → slice_get (states ++ digest ∷ []) i ≡ new_at i
        by (inl lt) =
            let below = multiples (i + 1) (length states + 1) k (omega (arith, lt)) in
            got_before states digest i lt ∙ old i ∙ sym (low_same i (omega (arith, next, below, one)))
        by (inr le) = at (cases_lt (length states) i) where
          at : (length states < i) ⊎ (i ≤ length states) → slice_get (states ++ digest ∷ []) i ≡ new_at i
          at (inl lt) =
              let above = multiples (length states + 1) (i + 1) k (omega (arith, lt)) in
              slice_get_past (states ++ digest ∷ []) i (omega (arith, length-append states (digest ∷ []), lt)) ∙ sym (none_at more i (omega (arith, above, next, more_long, one)))
          at (inr ge) =
              let same : i ≡ length states = omega (arith, le, ge) in
              let here : (i + 1) * k ≡ length slots + 1 = ap (λ n. (n + 1) * k) same ∙ sym next in
              got_last states digest i same
              ∙ sym (ap (λ b. if b then Some (digest_behind s m initial snapshots more ((i + 1) * k)) else None) (le-leb ((i + 1) * k) (length more) (omega (arith, here, more_long)))
              ∙ ap (λ (n : ℕ). Some (digest_behind s m initial snapshots more n)) here
              ∙ ap (λ (d : Bytes). Some d) (ap (λ (l : List Slot). state_digest (parts_of snapshots (behind s m initial l)) (length slots + 1)) (take_all (length slots + 1) more (omega (arith, more_long))) ∙ sym is))

  -- ---- a batch is executed

  module _ (slots : List Slot) (old placed new : Line S) (batch : Batch) (pos : ℕ) (requests : List Placed) (items : Vec Slot) where
    -- the one that is executed
    abbrev pub next_slot : Slot
    next_slot = record { pos = pos; requests = requests }

    -- the line with it
    abbrev pub pushed : Line S
    pushed = record placed { slots = items }

    pub executes_more : Executes s m initial snapshots slots old → 1 ≤ interval s → pos ≡ length old.slots.items + 1 → requests ≡ placed_all m (joined old.service old.table) pos batch.requests
        → joined placed.service placed.table ≡ served_each m (joined old.service old.table) pos requests → KeepsSlots old placed → items.items ≡ placed.slots.items ++ next_slot ∷ [] → NotesState snapshots pos pushed new
        → ExecutesToo s m initial snapshots slots batch new
    executes_more ex one pos_is placed_is served keeps items_are notes = record {
      slot = next_slot;
      batch_is = ap (λ (l : List Request). record { requests = l }) (ap (λ (l : List Placed). map (λ (p : Placed). p.request) l) placed_is ∙ placed_batch m (joined old.service old.table) pos batch.requests);
      executes = record {
        shape = notes.shape ∙ keeps.shape ∙ ex.shape;
        slots_are = ap (λ (v : Vec Slot). v.items) notes.slots ∙ slots_now;
        served_is = ap (λ (x : S). joined x new.table) notes.service ∙ ap (λ (t : List LastReply). joined placed.service t) notes.table ∙ served_now;
        places = places_more slots next_slot at ex.places;
        marks = marks_more slots next_slot batch.requests (placed_is ∙ ap (λ (x : Served S). placed_all m x pos batch.requests) ex.served_is) ex.marks;
        states = states_now;
      };
    } where
      at : pos ≡ length slots + 1
      at = pos_is ∙ ap (λ (l : List Slot). length l + 1) ex.slots_are

      slots_now : items.items ≡ slots ++ next_slot ∷ []
      slots_now = items_are ∙ ap (λ (l : List Slot). l ++ next_slot ∷ []) (ap (λ (v : Vec Slot). v.items) keeps.slots ∙ ex.slots_are)

      served_now : joined placed.service placed.table ≡ behind s m initial (slots ++ next_slot ∷ [])
      served_now = served ∙ ap (λ (x : Served S). served_each m x pos requests) ex.served_is ∙ sym (served_push m (start m initial (client_count s)) slots next_slot)

      interval_is : interval pushed.shape ≡ interval s
      interval_is = ap (λ (z : Shape). interval z) (keeps.shape ∙ ex.shape)

      states_before : pushed.states.items ≡ old.states.items
      states_before = ap (λ (v : Vec Bytes). v.items) keeps.states

      -- the digest that is noted is the one behind all of them
      digest_now : state_now snapshots pushed ≡ state_digest (parts_of snapshots (behind s m initial (slots ++ next_slot ∷ []))) (length slots + 1)
      digest_now =
          ap (λ (x : Served S). state_digest (parts_of snapshots x) (length items.items)) served_now
          ∙ ap (λ (n : ℕ). state_digest (parts_of snapshots (behind s m initial (slots ++ next_slot ∷ []))) n) (ap (λ (l : List Slot). length l) slots_now ∙ more_long slots next_slot)

      tested : eqb (pos % interval pushed.shape) 0 ≡ eqb ((length slots + 1) % interval s) 0
      tested = ap (λ (n : ℕ). eqb (n % interval pushed.shape) 0) at ∙ ap (λ (k : ℕ). eqb ((length slots + 1) % k) 0) interval_is

      noted_before : (i : ℕ) → slice_get pushed.states.items i ≡ noted_at s m initial snapshots slots i
      noted_before i = ap (λ (l : List Bytes). slice_get l i) states_before ∙ ex.states i

      states_now : (i : ℕ) → slice_get new.states.items i ≡ noted_at s m initial snapshots (slots ++ next_slot ∷ []) i
      states_now i = elim (cases_Bool (eqb ((length slots + 1) % interval s) 0)) [
        | inl so ↦
            ap (λ (l : List Bytes). slice_get l i) (notes.states ∙ ap (λ b. cond b (pushed.states.items ++ state_now snapshots pushed ∷ []) pushed.states.items) (tested ∙ so))
            ∙ notes_one slots next_slot pushed.states.items (state_now snapshots pushed) noted_before one so digest_now i
        | inr not_so ↦
            ap (λ (l : List Bytes). slice_get l i) (notes.states ∙ ap (λ b. cond b (pushed.states.items ++ state_now snapshots pushed ∷ []) pushed.states.items) (tested ∙ not_so))
            ∙ notes_none slots next_slot pushed.states.items not_so noted_before i
      ]
