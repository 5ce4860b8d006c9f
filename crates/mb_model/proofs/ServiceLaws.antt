-- The sequential service: one request or slot more, and the numbers of a client's requests.
use Rattle.std.proofs.Common.{◌≡◌, ℕ, ◌≤◌, ◌<◌, true, List, [], ◌∷◌, ◌++◌, length, refl, ap, ◌∙◌, inl, inr, arith, get_or, set}
use Rattle.std.proofs.lemmas.Bool.{cases_Bool, cases_lt, cases_eq, ltb-true}
use Rattle.std.proofs.lemmas.List.{length-set, get_or-set_same, get_or-set_other, set_past}
use Rattle.std.proofs.lemmas.Option.{unwrap_or-slice_get}
use Rattle.mb_parts.specs.declared.request.Request.{Request}
use Rattle.mb_msg.specs.declared.event.Placed.{Placed}
use Rattle.mb_msg.specs.declared.event.Slot.{Slot}
use Rattle.mb_model.specs.declared.known.LastReply.{LastReply}
use Rattle.mb_model.specs.Service.{Machine, Served, no_reply, reply_of, is_fresh, served, served_each, served_all}

module _ {S : Type 0} (m : Machine S) where
  -- one request more of a position
  pub each_push : (x : Served S) (pos : ℕ) (ps : List Placed) (p : Placed) → served_each m x pos (ps ++ p ∷ []) ≡ served m (served_each m x pos ps) pos p.request
  unfolding served_each
  each_push x pos [] p = refl
  each_push x pos (q ∷ ps) p = each_push (served m x pos q.request) pos ps p

  -- one slot more
  pub served_push : (x : Served S) (slots : List Slot) (slot : Slot) → served_all m x (slots ++ slot ∷ []) ≡ served_each m (served_all m x slots) slot.pos slot.requests
  unfolding served_all
  served_push x [] slot = refl
  served_push x (t ∷ slots) slot = served_push (served_each m x t.pos t.requests) slots slot

  -- some slots, and then others
  pub served_append : (x : Served S) (slots more : List Slot) → served_all m x (slots ++ more) ≡ served_all m (served_all m x slots) more
  unfolding served_all
  served_append x [] more = refl
  served_append x (t ∷ slots) more = served_append (served_each m x t.pos t.requests) slots more

  -- ---- the client table

  abbrev seq_of : List LastReply → ℕ → ℕ
  seq_of table c = (get_or table c no_reply).seq

  reply_seq : (x : Served S) (c : ℕ) → (reply_of x c).seq ≡ seq_of x.table c
  reply_seq x c = ap (λ (a : LastReply). a.seq) (unwrap_or-slice_get x.table c no_reply)

  -- the number of a client that is in the table is the one that was written
  set_here : (table : List LastReply) (c : ℕ) (a : LastReply) → c < length table → seq_of (set table c a) c ≡ a.seq
  set_here table c a lt = ap (λ (y : LastReply). y.seq) (get_or-set_same table c a no_reply lt)

  set_rises : (table : List LastReply) (i c : ℕ) (a : LastReply) → seq_of table i < a.seq → seq_of table c ≤ seq_of (set table i a) c
  set_rises table i c a lt = elim (cases_lt i (length table)) [
    | inl within ↦ elim (cases_eq c i) [
      | inl same ↦ rw same (omega (arith, set_here table i a within))
      | inr other ↦ omega (arith, ap (λ (y : LastReply). y.seq) (get_or-set_other table i c a no_reply other))
    ]
    | inr past ↦ omega (arith, ap (λ (t : List LastReply). seq_of t c) (set_past table i a past))
  ]

  pub table_kept : (x : Served S) (p : ℕ) (r : Request) → length (served m x p r).table ≡ length x.table
  unfolding served
  table_kept x p r = elim (cases_Bool (is_fresh x r)) [
    | inl fresh ↦ rw fresh (length-set x.table r.client _)
    | inr again ↦ rw again refl
  ]

  pub rises : (x : Served S) (p : ℕ) (r : Request) (c : ℕ) → (reply_of x c).seq ≤ (reply_of (served m x p r) c).seq
  unfolding served
  rises x p r c = elim (cases_Bool (is_fresh x r)) [
    | inl fresh ↦
        let above : (reply_of x r.client).seq < r.seq = ltb-true _ _ fresh in
        let a : LastReply = record { seq = r.seq; pos = p; result = m.result x.state r.op } in
        let more : seq_of x.table c ≤ seq_of (set x.table r.client a) c = set_rises x.table r.client c a (omega (arith, reply_seq x r.client)) in
        let y : Served S = record { state = m.after x.state r.op; table = set x.table r.client a } in
        rw fresh (omega (arith, reply_seq x c, reply_seq y c))
    | inr again ↦ rw again (omega arith)
  ]

  pub each_length : (x : Served S) (pos : ℕ) (ps : List Placed) → length (served_each m x pos ps).table ≡ length x.table
  unfolding served_each
  each_length x pos [] = refl
  each_length x pos (p ∷ ps) = each_length (served m x pos p.request) pos ps ∙ table_kept x pos p.request

  pub table_length : (x : Served S) (slots : List Slot) → length (served_all m x slots).table ≡ length x.table
  unfolding served_all
  table_length x [] = refl
  table_length x (t ∷ slots) = table_length (served_each m x t.pos t.requests) slots ∙ each_length x t.pos t.requests

  -- The number of a client's last request never falls.
  pub each_rises : (x : Served S) (pos : ℕ) (ps : List Placed) (c : ℕ) → (reply_of x c).seq ≤ (reply_of (served_each m x pos ps) c).seq
  unfolding served_each
  each_rises x pos [] c = omega arith
  each_rises x pos (p ∷ ps) c = omega (arith, rises x pos p.request c, each_rises (served m x pos p.request) pos ps c)

  pub last_rises : (x : Served S) (slots : List Slot) (c : ℕ) → (reply_of x c).seq ≤ (reply_of (served_all m x slots) c).seq
  unfolding served_all
  last_rises x [] c = omega arith
  last_rises x (t ∷ slots) c = omega (arith, each_rises x t.pos t.requests c, last_rises (served_each m x t.pos t.requests) slots c)

  -- after a fresh request it is that request's number
  pub last_served : (x : Served S) (p : ℕ) (r : Request) → is_fresh x r ≡ true → r.client < length x.table → (reply_of (served m x p r) r.client).seq ≡ r.seq
  unfolding served
  last_served x p r fresh within =
      let a : LastReply = record { seq = r.seq; pos = p; result = m.result x.state r.op } in
      let y : Served S = record { state = m.after x.state r.op; table = set x.table r.client a } in
      rw fresh (reply_seq y r.client ∙ set_here x.table r.client a within)
