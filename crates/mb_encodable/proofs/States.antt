-- The client table of a host has the values of the grammar, whatever state was installed: it is read so, and the service's results are short.
use Rattle.std.proofs.Common.{◌≡◌, ℕ, zero, suc, ◌-◌, ◌≤◌, true, ◌&&◌, List, [], ◌∷◌, length, refl, sym, ap, subst, ◌∙◌, inl, inr, arith, Option, Some, None, Result, Ok, Err}
use Rattle.std.specs.Prelude.{◌==◌, nat_lt, nat_le, take, find, filter_map, is_none, slice_get, slice_set, replicate, unwrap_or, if◌then◌else◌}
use Rattle.std.specs.List.{AllByRecursion, range_with_len}
use Rattle.std.specs.Int.{w16, w64}
use Rattle.std.proofs.lemmas.Bool.{cases_Bool, and_parts, eqb-true, leb-true}
use Rattle.std.proofs.lemmas.List.{length-replicate, length-set, length-take-le}
use Rattle.std.proofs.lemmas.List.FromFn.{length-range_with_len}
use Rattle.mb_base.specs.Limits.{service_parts, table_part, part_count, text_limit}
use Rattle.mb_base.specs.Shapes.{Bytes, client_count}
use Rattle.mb_base.specs.Spelling.{IsBytes}
use Rattle.mb_base.specs.Reading.{Cursor, cursor, number_at, bytes_at, checked_at, repeat_at}
use Rattle.mb_base.proofs.Laws.{bind_ok, allow_ok, ok_is}
use Rattle.mb_parts.specs.declared.limits.TheConstants.{MAX_PLACE}
use Rattle.mb_parts.specs.declared.request.Request.{Request}
use Rattle.mb_parts.specs.Fits.{IsPlace}
use Rattle.mb_msg.specs.declared.message.Message.TheVariants as message
use Rattle.mb_msg.specs.declared.transfer.StateMsg.{StateMsg}
use Rattle.mb_model.specs.declared.known.LastReply.{LastReply}
use Rattle.mb_model.specs.Service.{Served as ServedState, no_reply, start, served, is_fresh}
use Rattle.mb_model.specs.States.{is_place_of, is_size_of, last_reply_at, ended, table_of, joined_state, restored}
use Rattle.mb_model.specs.Histories.{Entry, Accepted, Stamped, Jumped, Closed, Executed, Installed, DroppedParts, LostPatience, Nudged, History, Identity}
use Rattle.mb_model.specs.Histories as entry
use Rattle.mb_model.specs.Execution.{part_in, if_restored, state_from, state_of, part_of, part_held, missing, parts_held}
use Rattle.mb_model.specs.Stable.{low_of}
use Rattle.mb_model.proofs.Options.{or_some, if_some}
use Rattle.mb_steps.proofs.StepPlanBases.{all_found, all_any}
use Rattle.mb_host_laws.proofs.Cases.{all_taken}
use Rattle.mb_host_laws.specs.Rests.{Each}
use Rattle.mb_reading_laws.proofs.Yields.{IsYield, bytes_yield, checked_yield, repeat_yield}
use Rattle.mb_encodable.specs.Fitting.{FitsLast, FitsTable, KeepsStates, HasBytes, HasValues, ComesOfRead}
use Rattle.mb_encodable.proofs.Batches.{got}

-- ---- a table that is read

place_fits : (seq pos : ℕ) → is_place_of seq pos ≡ true → IsPlace pos
place_fits seq pos e = elim (cases_Bool (seq == 0)) [
  | inl none ↦ let zero_pos = eqb-true pos 0 (rw none at e) in omega (arith, zero_pos)
  | inr some ↦ let low = leb-true pos MAX_PLACE (and_parts (nat_lt 0 pos) (nat_le pos MAX_PLACE) (rw some at e)).1 in omega (arith, low)
]

size_fits : (seq size : ℕ) → is_size_of seq size ≡ true → size ≤ text_limit
size_fits seq size e = elim (cases_Bool (seq == 0)) [
  | inl none ↦ let zero_size = eqb-true size 0 (rw none at e) in omega (arith, zero_size)
  | inr some ↦ leb-true size text_limit (rw some at e)
]

last_yield : IsYield last_reply_at FitsLast
unfolding last_reply_at
last_yield s x t e =
    let a = bind_ok (number_at w64 s) _ (x, t) e in
    let b = bind_ok (checked_at (is_place_of a.0.0) (number_at w64) a.0.1) _ (x, t) a.2 in
    let c = bind_ok (checked_at (is_size_of a.0.0) (number_at w16) b.0.1) _ (x, t) b.2 in
    let d = bind_ok (bytes_at c.0.0 c.0.1) _ (x, t) c.2 in
    let place = checked_yield (is_place_of a.0.0) (number_at w64) (λ n. Unit {0}) (λ s n t e. tt) a.0.1 b.0.0 b.0.1 b.1 in
    let size = checked_yield (is_size_of a.0.0) (number_at w16) (λ n. Unit {0}) (λ s n t e. tt) b.0.1 c.0.0 c.0.1 c.1 in
    let many = bytes_yield c.0.0 c.0.1 d.0.0 d.0.1 d.1 in
    let made : LastReply = record { seq = a.0.0; pos = b.0.0; result = d.0.0 } in
    let low = size_fits a.0.0 c.0.0 size.1 in
    subst (λ (v : LastReply × Cursor). FitsLast v.0) (ok_is (made, d.0.1) (x, t) d.2) (record { pos = place_fits a.0.0 b.0.0 place.1; result = omega (arith, low, many) })

read_table : (clients : ℕ) (bytes : Bytes) (table : List LastReply) → table_of clients bytes ≡ Ok table → (length table ≡ clients) × AllByRecursion FitsLast table
unfolding table_of
read_table clients bytes table e =
    let a = bind_ok (repeat_at last_reply_at clients (cursor 0 bytes)) ended table e in
    let b = allow_ok (length a.0.1.rest == 0) a.0.1.at a.0.0 table a.2 in
    subst (λ (l : List LastReply). (length l ≡ clients) × AllByRecursion FitsLast l) b.1 (repeat_yield last_reply_at FitsLast last_yield clients (cursor 0 bytes) a.0.0 a.0.1 a.1)

-- ---- one table after the other

all_replicate : (n : ℕ) (a : LastReply) → FitsLast a → AllByRecursion FitsLast (replicate n a)
all_replicate zero a f = tt
all_replicate (suc n) a f = (f, all_replicate n a f)

all_set : (t : List LastReply) (i : ℕ) (a : LastReply) → FitsLast a → AllByRecursion FitsLast t → AllByRecursion FitsLast (slice_set t i a)
all_set [] i a f all = tt
all_set (b ∷ t) zero a f all = (f, all.1)
all_set (b ∷ t) (suc i) a f all = (all.0, all_set t i a f all.1)

none_replied : FitsLast no_reply
none_replied = record { pos = omega arith; result = omega arith }

-- a client's last reply
pub last_fits : (table : List LastReply) → AllByRecursion FitsLast table → (c : ℕ) → FitsLast (unwrap_or (slice_get table c) no_reply)
last_fits table a c = go (slice_get table c) refl where
  go : (o : Option LastReply) → slice_get table c ≡ o → FitsLast (unwrap_or o no_reply)
  go None e = none_replied
  go (Some x) e = got FitsLast table a c x e

all_there : {A : Type 0} (f : ℕ → Option A) (l : List ℕ) → find (λ i. is_none (f i)) l ≡ None → length (filter_map f l) ≡ length l
all_there f [] e = refl
all_there {A = A} f (i ∷ l) e = go (all_there f l) (f i) refl where
  none_there : Some i ≡ None → ⊥
  none_there x = absurd cc

  go : (find (λ i. is_none (f i)) l ≡ None → length (filter_map f l) ≡ length l) → (o : Option A) → f i ≡ o → length (filter_map f (i ∷ l)) ≡ suc (length l)
  go more None is = absurd (none_there (rw is at e))
  go more (Some x) is = rw is (ap suc (more (rw is at e)))

ok_same : {A E : Type 0} (r : Result A E) (a b : A) → r ≡ Ok a → r ≡ Ok b → a ≡ b
ok_same r a b e f = cc

module _ {S : Type 0} (self : Identity S) (IsState : S → Type 0) (keeps : KeepsStates self IsState) where
  -- A state that the service may have, and a table.
  pub record FitsServed (x : ServedState S) : Type 0 where
    pub state : IsState x.state
    pub table : FitsTable self.shape x.table

  begins_served : FitsServed (start self.machine self.initial (client_count self.shape))
  begins_served = record { state = keeps.first; table = record { count = length-replicate {A = LastReply} (client_count self.shape) no_reply; each = all_replicate (client_count self.shape) no_reply none_replied } }

  pub served_fits : (x : ServedState S) (pos : ℕ) (r : Request) → IsPlace pos → FitsServed x → FitsServed (served self.machine x pos r)
  unfolding served
  served_fits x pos r place f = elim (cases_Bool (is_fresh x r)) [
    | inr again ↦ rw again f
    | inl fresh ↦ rw fresh (record {
      state = keeps.stays x.state r.op f.state;
      table = record {
        count = length-set x.table r.client _ ∙ f.table.count;
        each = all_set x.table r.client _ (record { pos = place; result = keeps.short x.state r.op f.state }) f.table.each;
      };
    })
  ]

  -- what parts give
  joined_fits : (parts : List Bytes) (t : Result (List LastReply) ℕ) (x : Result S (ℕ × ℕ)) → ((l : List LastReply) → t ≡ Ok l → FitsTable self.shape l) → ((y : S) → x ≡ Ok y → IsState y)
      → (z : ServedState S) → joined_state self.snapshots t x ≡ Ok z → FitsServed z
  joined_fits parts (Err at) x f g z e = absurd cc
  joined_fits parts (Ok l) (Err fault) f g z e = absurd cc
  joined_fits parts (Ok l) (Ok y) f g z e = subst FitsServed (ok_same (joined_state self.snapshots (Ok l) (Ok y)) (record { state = y; table = l }) z refl e) (record { state = g y refl; table = f l refl })

  restored_fits : (parts : List Bytes) → length parts ≡ part_count → AllByRecursion IsBytes parts → (z : ServedState S) → state_from self parts ≡ Ok z → FitsServed z
  unfolding restored
  restored_fits parts many bytes z e =
      joined_fits parts (table_of (client_count self.shape) (unwrap_or (slice_get parts table_part) [])) (self.snapshots.restored (take service_parts parts))
      (λ l is. let t = read_table (client_count self.shape) (unwrap_or (slice_get parts table_part) []) l is in record { count = t.0; each = t.1 })
      (λ y is. keeps.restored (take service_parts parts) y (length-take-le service_parts parts (omega (arith, many))) (all_taken IsBytes service_parts parts bytes) is) z e

  installed_fits : (parts : List Bytes) → length parts ≡ part_count → AllByRecursion IsBytes parts → (x : ServedState S) → FitsServed x → FitsServed (if_restored self x (state_from self parts))
  installed_fits parts many bytes x f = go (state_from self parts) refl where
    go : (r : Result (ServedState S) (ℕ × ℕ)) → state_from self parts ≡ r → FitsServed (if_restored self x r)
    go (Ok y) e = restored_fits parts many bytes y e
    go (Err fault) e = f

  -- ---- fetched parts

  part_bytes : (m : StateMsg) → AllByRecursion IsBytes m.parts → (i : ℕ) (p : Bytes) → part_in m i ≡ Some p → IsBytes p
  part_bytes m a i p e = got IsBytes m.parts a (i - m.first) p (if_some (nat_le m.first i) (slice_get m.parts (i - m.first)) p e).1

  held_bytes : (d : History) → Each HasBytes d → (pos i : ℕ) (p : Bytes) → part_of self d pos i ≡ Some p → IsBytes p
  unfolding part_of
  held_bytes [] a pos i p e = absurd cc
  held_bytes (Accepted (message.State m) ∷ d) a pos i p e = elim (or_some (part_of self d pos i) (if m.pos == pos && low_of self d == pos then part_in m i else None) p e) [
    | inl before ↦ held_bytes d a.1 pos i p before
    | inr now ↦ part_bytes m a.0 i p (if_some (m.pos == pos && low_of self d == pos) (part_in m i) p now).1
  ]
  held_bytes (DroppedParts ∷ d) a pos i p e = absurd cc
  held_bytes (Installed q parts ∷ d) a pos i p e = absurd cc
  held_bytes (x ∷ d) a pos i p e = held_bytes d a.1 pos i p e

  all_held : (d : History) → Each HasBytes d → AllByRecursion IsBytes (parts_held self d)
  all_held d a = all_found (λ (i : ℕ). Unit {0}) IsBytes (part_held self d) (λ i p u e. held_bytes d a (low_of self d) i p e) (range_with_len 0 part_count) (all_any (range_with_len 0 part_count))

  held_many : (d : History) → missing self d ≡ None → length (parts_held self d) ≡ part_count
  held_many d none = all_there (part_held self d) (range_with_len 0 part_count) none ∙ length-range_with_len 0 part_count

  -- ---- histories

  -- So it is with each state to which steps lead.
  pub state_fits : (d : History) → Each (ComesOfRead self) d → Each (HasValues self) d → Each HasBytes d → FitsServed (state_of self d)
  unfolding state_of
  state_fits [] r a b = begins_served
  state_fits (entry.Served pos placed ∷ d) r a b = served_fits (state_of self d) pos placed.request a.0.0.1 (state_fits d r.1 a.1 b.1)
  state_fits (Installed pos parts ∷ d) r a b =
      let same : parts_held self d ≡ parts = sym r.0.0 in
      installed_fits parts (subst (λ (l : List Bytes). length l ≡ part_count) same (held_many d r.0.1)) (subst (AllByRecursion IsBytes) same (all_held d b.1)) (state_of self d) (state_fits d r.1 a.1 b.1)
  state_fits (x ∷ d) r a b = state_fits d r.1 a.1 b.1
