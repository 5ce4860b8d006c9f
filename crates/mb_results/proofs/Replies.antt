-- What the client table of the service has along the line: for each client no reply, or the answer to its last request that took effect.
use Rattle.std.proofs.Common.{◌≡◌, ℕ, zero, suc, ◌+◌, ◌≤◌, ◌<◌, ◌⊎◌, true, false, List, length, refl, sym, ap, subst, ◌∙◌, inl, inr, arith, set, Some}
use Rattle.std.specs.Prelude.{slice_get, take, replicate, unwrap_or}
use Rattle.std.proofs.lemmas.Bool.{cases_Bool, cases_lt, cases_eq, ltb-true, ltb-false}
use Rattle.std.proofs.lemmas.List.{get_or-set_same, get_or-set_other, set_past, length-replicate}
use Rattle.std.proofs.lemmas.Option.{unwrap_or-slice_get, slice_get_within}
use Rattle.mb_base.specs.Shapes.{client_count}
use Rattle.mb_parts.specs.declared.request.Request.{Request}
use Rattle.mb_msg.specs.declared.event.Placed.{Placed}
use Rattle.mb_msg.specs.declared.event.Slot.{Slot}
use Rattle.mb_model.specs.declared.known.LastReply.{LastReply}
use Rattle.mb_model.specs.Service.{Machine, Served, no_reply, reply_of, is_fresh, served, served_each, served_all, start}
use Rattle.mb_model.proofs.ServiceLaws.{each_length, table_length}
use Rattle.mb_world_model.specs.World.{World, System}
use Rattle.mb_promise.specs.Safety.{after_line, after_requests, IsSafe, IsAt, IsBefore}
use Rattle.mb_model.proofs.Lists.{get_there}
use Rattle.mb_results.specs.Sequential.{IsAnswer}
use Rattle.mb_results.proofs.States.{next_within, next_slot, state_within}

-- ---- one request

module _ {S : Type 0} (m : Machine S) where
  pub reply_new : (x : Served S) (pos : ℕ) (r : Request) → is_fresh x r ≡ true → r.client < length x.table → reply_of (served m x pos r) r.client ≡ record { seq = r.seq; pos = pos; result = m.result x.state r.op }
  unfolding served
  reply_new x pos r fresh lt =
      let a : LastReply = record { seq = r.seq; pos = pos; result = m.result x.state r.op } in
      rw fresh (unwrap_or-slice_get (set x.table r.client a) r.client no_reply ∙ get_or-set_same x.table r.client a no_reply lt)

  pub reply_again : (x : Served S) (pos : ℕ) (r : Request) → is_fresh x r ≡ false → served m x pos r ≡ x
  unfolding served
  reply_again x pos r again = rw again refl

  pub reply_other : (x : Served S) (pos : ℕ) (r : Request) (c : ℕ) → (c ≡ r.client → ⊥) → reply_of (served m x pos r) c ≡ reply_of x c
  unfolding served
  reply_other x pos r c other =
      let a : LastReply = record { seq = r.seq; pos = pos; result = m.result x.state r.op } in
      elim (cases_Bool (is_fresh x r)) [
        | inl fresh ↦ rw fresh (unwrap_or-slice_get (set x.table r.client a) c no_reply ∙ get_or-set_other x.table r.client c a no_reply other ∙ sym (unwrap_or-slice_get x.table c no_reply))
        | inr again ↦ rw again refl
      ]

  -- of a client beyond the table
  pub reply_past : (x : Served S) (pos : ℕ) (r : Request) (c : ℕ) → length x.table ≤ r.client → reply_of (served m x pos r) c ≡ reply_of x c
  unfolding served
  reply_past x pos r c past =
      let a : LastReply = record { seq = r.seq; pos = pos; result = m.result x.state r.op } in
      elim (cases_Bool (is_fresh x r)) [
        | inl fresh ↦ rw fresh (ap (λ (t : List LastReply). unwrap_or (slice_get t c) no_reply) (set_past x.table r.client a past))
        | inr again ↦ rw again refl
      ]

no_reply_first : (n c : ℕ) → unwrap_or (slice_get (replicate n no_reply) c) no_reply ≡ no_reply
no_reply_first zero c = refl
no_reply_first (suc n) zero = refl
no_reply_first (suc n) (suc c) = no_reply_first n c

-- ---- along the line

module _ {S : Type 0} (system : System S) (w : World) (safe : IsSafe system w) where
  abbrev m : Machine S
  m = system.machine

  abbrev clients : ℕ
  clients = client_count system.schedule.shape

  abbrev after : ℕ → Served S
  after n = after_line system w n

  abbrev during : ℕ → Slot → ℕ → Served S
  during n slot i = after_requests system w n slot i

  -- What a client's reply is in a state before a place of the line: none yet, or an answer to a request before that place, above which none is numbered.
  pub record IsKnown (x : Served S) (c q i : ℕ) : Type 0 where
    pub answer : (reply_of x c ≡ no_reply) ⊎ ((a : IsAnswer system w c (reply_of x c)) × IsBefore system w a.q a.i q i)
    pub most : (r j : ℕ) (y : Placed) → IsBefore system w r j q i → IsAt system w r j y → y.request.client ≡ c → y.request.seq ≤ (reply_of x c).seq

  -- A place before the next one is before this one, or this one.
  earlier : (r j q i : ℕ) → IsBefore system w r j q (i + 1) → IsBefore system w r j q i ⊎ ((r ≡ q) × (j ≡ i))
  earlier r j q i (inl lt) = inl (inl lt)
  earlier r j q i (inr (e, lt)) = elim (cases_lt j i) [
    | inl less ↦ inl (inr (e, less))
    | inr ge ↦ inr (e, omega (arith, lt, ge))
  ]

  later : (r j q i : ℕ) → IsBefore system w r j q i → IsBefore system w r j q (i + 1)
  later r j q i (inl lt) = inl lt
  later r j q i (inr (e, lt)) = inr (e, omega (arith, lt))

  -- One request stands at a place.
  the_one : (q i r j : ℕ) (slot : Slot) (p y : Placed) → slice_get w.line q ≡ Some slot → slice_get slot.requests i ≡ Some p → r ≡ q → j ≡ i → IsAt system w r j y → y ≡ p
  the_one q i r j slot p y at within e f s =
      let same : s.slot ≡ slot = parts s.slot slot (sym s.in_line ∙ ap (slice_get w.line) e ∙ at) in
      placed_parts y p (sym s.in_slot ∙ ap (slice_get s.slot.requests) f ∙ ap (λ (t : Slot). slice_get t.requests i) same ∙ within) where
        parts : (a b : Slot) → Some a ≡ Some b → a ≡ b
        parts a b h = cc

        placed_parts : (a b : Placed) → Some a ≡ Some b → a ≡ b
        placed_parts a b h = cc

  -- the same reply, where the place is behind one more
  kept_known : (x y : Served S) (c q i : ℕ) → reply_of y c ≡ reply_of x c → ((r j : ℕ) (z : Placed) → r ≡ q → j ≡ i → IsAt system w r j z → z.request.client ≡ c → z.request.seq ≤ (reply_of x c).seq)
      → IsKnown x c q i → IsKnown y c q (i + 1)
  kept_known x y c q i same new k = record {
    answer = subst (λ (a : LastReply). (a ≡ no_reply) ⊎ ((b : IsAnswer system w c a) × IsBefore system w b.q b.i q (i + 1))) (sym same) (moved k.answer);
    most = λ r j z before there client. subst (λ (a : LastReply). z.request.seq ≤ a.seq) (sym same) (elim (earlier r j q i before) [
      | inl old ↦ k.most r j z old there client
      | inr (e, f) ↦ new r j z e f there client
    ]);
  } where
    moved : (reply_of x c ≡ no_reply) ⊎ ((a : IsAnswer system w c (reply_of x c)) × IsBefore system w a.q a.i q i) → (reply_of x c ≡ no_reply) ⊎ ((a : IsAnswer system w c (reply_of x c)) × IsBefore system w a.q a.i q (i + 1))
    moved (inl none) = inl none
    moved (inr (a, before)) = inr (a, later a.q a.i q i before)

  module _ (q : ℕ) (slot : Slot) (i : ℕ) (p : Placed) (at : slice_get w.line q ≡ Some slot) (within : slice_get slot.requests i ≡ Some p) where
    abbrev x : Served S
    x = during q slot i

    abbrev next : Served S
    next = served m x slot.pos p.request

    mark : p.fresh ≡ is_fresh x p.request
    mark = ((safe.line q slot at).requests i p within).fresh

    short : i ≤ length slot.requests
    short = let lt = slice_get_within slot.requests i p within in omega (arith, lt)

    low : q ≤ length w.line
    low = let lt = slice_get_within w.line q slot at in omega (arith, lt)

    pub long : (c : ℕ) → c < clients → c < length x.table
    long c lt = omega (arith, lt, each_length m (after q) slot.pos (take i slot.requests), table_length m (start m system.initial clients) (take q w.line), length-replicate {A = LastReply} clients no_reply)

    -- A fresh request of the client has its answer.
    pub new_answer : is_fresh x p.request ≡ true → (a : LastReply) → a ≡ record { seq = p.request.seq; pos = slot.pos; result = m.result x.state p.request.op } → (b : IsAnswer system w p.request.client a) × IsBefore system w b.q b.i q (i + 1)
    new_answer fresh a is = (
      record {
        q = q;
        i = i;
        slot = slot;
        in_line = at;
        placed = p;
        in_slot = within;
        fresh = mark ∙ fresh;
        client = refl;
        number = sym (ap (λ (b : LastReply). b.seq) is);
        place = ap (λ (b : LastReply). b.pos) is ∙ (safe.line q slot at).place;
        result = ap (λ (b : LastReply). b.result) is ∙ ap (λ (y : S). m.result y p.request.op) (state_within system w safe q slot i at low short);
      },
      inr (refl, omega arith),
    )

    new_known : is_fresh x p.request ≡ true → p.request.client < clients → IsKnown x p.request.client q i → IsKnown next p.request.client q (i + 1)
    new_known fresh lt k =
        let c : ℕ = p.request.client in
        let is = reply_new m x slot.pos p.request fresh (long c lt) in
        let seq : (reply_of next c).seq ≡ p.request.seq = ap (λ (b : LastReply). b.seq) is in
        let above : (reply_of x c).seq < p.request.seq = ltb-true (reply_of x c).seq p.request.seq fresh in
        record {
          answer = inr (new_answer fresh (reply_of next c) is);
          most = λ r j z before there client. elim (earlier r j q i before) [
            | inl old ↦ let low = k.most r j z old there client in omega (arith, low, above, seq)
            | inr (e, f) ↦ let one = ap (λ (y : Placed). y.request.seq) (the_one q i r j slot p z at within e f there) in omega (arith, one, seq)
          ];
        }

    same_known : (c : ℕ) → c < clients → p.request.client ≡ c → IsKnown x c q i → IsKnown next c q (i + 1)
    same_known c lt client k = elim (cases_Bool (is_fresh x p.request)) [
      | inl fresh ↦ subst (λ (d : ℕ). d < clients → IsKnown x d q i → IsKnown next d q (i + 1)) client (new_known fresh) lt k
      | inr again ↦
          let le : p.request.seq ≤ (reply_of x p.request.client).seq = ltb-false (reply_of x p.request.client).seq p.request.seq again in
          let low : p.request.seq ≤ (reply_of x c).seq = subst (λ (d : ℕ). p.request.seq ≤ (reply_of x d).seq) client le in
          kept_known x next c q i (ap (λ (y : Served S). reply_of y c) (reply_again m x slot.pos p.request again))
          (λ r j z e f there is. let one = ap (λ (y : Placed). y.request.seq) (the_one q i r j slot p z at within e f there) in omega (arith, one, low)) k
    ]

    other_known : (c : ℕ) → (p.request.client ≡ c → ⊥) → IsKnown x c q i → IsKnown next c q (i + 1)
    other_known c other k = kept_known x next c q i (reply_other m x slot.pos p.request c (λ e. other (sym e)))
        (λ r j z e f there is. absurd (other (sym (ap (λ (y : Placed). y.request.client) (the_one q i r j slot p z at within e f there)) ∙ is))) k

    more_known : (c : ℕ) → c < clients → IsKnown x c q i → IsKnown (during q slot (i + 1)) c q (i + 1)
    more_known c lt k =
        let new : IsKnown next c q (i + 1) = elim (cases_eq p.request.client c) [
          | inl same ↦ same_known c lt same k
          | inr other ↦ other_known c other k
        ] in
        subst (λ (y : Served S). IsKnown y c q (i + 1)) (sym (next_within system w q slot i p within)) new

  -- before the first request of a slot
  none_within : (q : ℕ) (slot : Slot) (c : ℕ) → IsKnown (after q) c q 0 → IsKnown (during q slot 0) c q 0
  unfolding served_each
  none_within q slot c k = k

  all_within : (q : ℕ) (slot : Slot) (c : ℕ) → slice_get w.line q ≡ Some slot → c < clients → IsKnown (after q) c q 0 → (i : ℕ) → i ≤ length slot.requests → IsKnown (during q slot i) c q i
  all_within q slot c at lt before zero le = none_within q slot c before
  all_within q slot c at lt before (suc i) le =
      let t = get_there slot.requests i (omega (arith, le)) in
      let one : i + 1 ≡ suc i = omega arith in
      subst (λ (n : ℕ). IsKnown (during q slot n) c q n) one (more_known q slot i t.0 at t.1 c lt (all_within q slot c at lt before i (omega (arith, le))))

  -- All places of a slot are before the next slot.
  slot_known : (q : ℕ) (slot : Slot) (c : ℕ) → slice_get w.line q ≡ Some slot → IsKnown (during q slot (length slot.requests)) c q (length slot.requests) → IsKnown (after (q + 1)) c (q + 1) 0
  slot_known q slot c at k = subst (λ (y : Served S). IsKnown y c (q + 1) 0) (sym (next_slot system w q slot at)) (record { answer = moved k.answer; most = λ r j z before there client. k.most r j z (placed r j z before there) there client }) where
    moved : {x : LastReply} → (x ≡ no_reply) ⊎ ((a : IsAnswer system w c x) × IsBefore system w a.q a.i q (length slot.requests)) → (x ≡ no_reply) ⊎ ((a : IsAnswer system w c x) × IsBefore system w a.q a.i (q + 1) 0)
    moved (inl none) = inl none
    moved (inr (a, inl lt)) = inr (a, inl (omega (arith, lt)))
    moved (inr (a, inr (e, lt))) = inr (a, inl (omega (arith, e)))

    placed : (r j : ℕ) (z : Placed) → IsBefore system w r j (q + 1) 0 → IsAt system w r j z → IsBefore system w r j q (length slot.requests)
    placed r j z (inr (e, lt)) s = absurd (omega (arith, lt))
    placed r j z (inl lt) s = elim (cases_eq r q) [
      | inr other ↦ inl (omega (arith, lt, other))
      | inl same ↦
          let is : s.slot ≡ slot = slots s.slot slot (sym s.in_line ∙ ap (slice_get w.line) same ∙ at) in
          let less = slice_get_within s.slot.requests j z s.in_slot in
          inr (same, subst (λ (t : Slot). j < length t.requests) is less)
    ] where
      slots : (a b : Slot) → Some a ≡ Some b → a ≡ b
      slots a b h = cc

  none_known : (c : ℕ) → IsKnown (after 0) c 0 0
  unfolding served_all
  none_known c = record { answer = inl (no_reply_first clients c); most = λ r j z before there client. absurd (never r j before) } where
    never : (r j : ℕ) → IsBefore system w r j 0 0 → ⊥
    never r j (inl lt) = absurd (omega (arith, lt))
    never r j (inr (e, lt)) = absurd (omega (arith, lt))

  pub known_at : (n c : ℕ) → n ≤ length w.line → c < clients → IsKnown (after n) c n 0
  known_at zero c le lt = none_known c
  known_at (suc n) c le lt =
      let t = get_there w.line n (omega (arith, le)) in
      let one : n + 1 ≡ suc n = omega arith in
      let before : IsKnown (after n) c n 0 = known_at n c (omega (arith, le)) lt in
      subst (λ (k : ℕ). IsKnown (after k) c k 0) one (slot_known n t.0 c t.1 (all_within n t.0 c t.1 lt before (length t.0.requests) (omega arith)))

  pub known_within : (q : ℕ) (slot : Slot) (i c : ℕ) → slice_get w.line q ≡ Some slot → i ≤ length slot.requests → c < clients → IsKnown (during q slot i) c q i
  known_within q slot i c at le lt = all_within q slot c at lt (known_at q c (low' q slot at) lt) i le where
    low' : (q : ℕ) (slot : Slot) → slice_get w.line q ≡ Some slot → q ≤ length w.line
    low' q slot at = let lt = slice_get_within w.line q slot at in omega (arith, lt)
