-- Accepted results are the service's: the reply of a correct host is that of the line, and where it stands the line has the client's request.
use Rattle.std.proofs.Common.{◌≡◌, ℕ, zero, suc, ◌+◌, ◌≤◌, ◌<◌, ◌⊎◌, true, List, [], ◌∷◌, length, length-append, refl, sym, ap, subst, ◌∙◌, inl, inr, arith, eqb, get_or, set, Some}
use Rattle.std.specs.Prelude.{◌==◌, slice_get, take, replicate, unwrap_or}
use Rattle.std.specs.List.{AllByRecursion}
use Rattle.std.proofs.lemmas.Bool.{and_parts, cases_Bool, cases_lt, cases_eq, eqb-true, leb-true}
use Rattle.std.proofs.lemmas.List.{get_or-set_same, get_or-set_other}
use Rattle.std.proofs.lemmas.Option.{unwrap_or-slice_get}
use Rattle.std.proofs.Math.Seq.{take-length, take-append_seam}
use Rattle.mb_base.specs.Limits.{text_limit}
use Rattle.mb_base.specs.Shapes.{Bytes, client_count}
use Rattle.mb_base.specs.Spelling.{number}
use Rattle.mb_usig.specs.Tags.{same_bytes, reply_tag}
use Rattle.mb_usig.proofs.Laws.{same_bytes-true, length-signed_reply}
use Rattle.mb_parts.specs.declared.request.Request.{Request}
use Rattle.mb_msg.specs.declared.event.Placed.{Placed}
use Rattle.mb_msg.specs.declared.event.Slot.{Slot}
use Rattle.mb_msg.specs.declared.normal.Reply.{Reply}
use Rattle.mb_msg.specs.declared.message.Message.{Message}
use Rattle.mb_msg.specs.declared.message.Message.TheVariants as message
use Rattle.mb_msg.specs.Spelling.{spelling}
use Rattle.mb_model.specs.declared.known.LastReply.{LastReply}
use Rattle.mb_model.specs.Service.{Machine, Served, no_reply, reply_of, is_fresh, served, served_each, served_all, start}
use Rattle.mb_model.specs.States.{is_size_of}
use Rattle.mb_model.specs.Histories.{Executed, History}
use Rattle.mb_model.specs.Positions.{exec_of}
use Rattle.mb_model.specs.Execution.{state_of}
use Rattle.mb_model.specs.CarriedOut.{just_served}
use Rattle.mb_model.specs.Clients.{agrees}
use Rattle.mb_model.proofs.Members.{in_contained, contained, all_in}
use Rattle.mb_model.proofs.ServiceLaws.{each_push, served_push, each_length}
use Rattle.mb_world_model.specs.WorldEvents.{IsCorrect, IsCorrectClient}
use Rattle.mb_world_model.specs.World.{World, System, self_of}
use Rattle.mb_promise.specs.Safety.{after_line, after_requests, IsServedResult, AreServedResults, IsSafe}
use Rattle.mb_model.proofs.Lists.{get_there, take_next}
use Rattle.mb_world_laws.proofs.Facts.{Facts}
use Rattle.mb_host_laws.proofs.Moments.{IsPast}
use Rattle.mb_one_log.proofs.ReplyBytes.{wish_differs, number_same, FitsWidely, AreLike, same_reply}
use Rattle.mb_one_log.proofs.Replied.{IsReplied, IsTagged, AllTagged}
use Rattle.mb_one_log.proofs.Askers.{IsCounted, IsAnswer, AskerStands}
use Rattle.mb_one_log.proofs.Executions.{executed_so, past_in}
use Rattle.mb_one_log.proofs.WholeBatches.{IsClosed}
use Rattle.mb_one_log.proofs.ServedFits.{FitsLast, FitsServed}

-- ---- the stored reply of a client

none_first : (n c : ℕ) → unwrap_or (slice_get (replicate n no_reply) c) no_reply ≡ no_reply
none_first zero c = refl
none_first (suc n) zero = refl
none_first (suc n) (suc c) = none_first n c

none_beyond : (t : List LastReply) (c : ℕ) → length t ≤ c → unwrap_or (slice_get t c) no_reply ≡ no_reply
none_beyond [] c le = refl
none_beyond (a ∷ t) zero le = absurd (omega (arith, le))
none_beyond (a ∷ t) (suc c) le = none_beyond t c (omega (arith, le))

fits_none : FitsLast no_reply
fits_none = record { seq = omega arith; pos = omega arith; place = refl; result = omega arith; size = refl }

fits_found : (t : List LastReply) (c : ℕ) → AllByRecursion FitsLast t → FitsLast (unwrap_or (slice_get t c) no_reply)
fits_found [] c a = fits_none
fits_found (x ∷ t) zero a = a.0
fits_found (x ∷ t) (suc c) a = fits_found t c a.1

short_result : (seq n : ℕ) → is_size_of seq n ≡ true → n ≤ text_limit
short_result seq n e = elim (cases_Bool (eqb seq 0)) [
  | inl none ↦ let z : n ≡ 0 = eqb-true n 0 (rw none at e) in omega (arith, z)
  | inr some ↦ leb-true n text_limit (rw some at e)
]

-- a served request writes the reply of its client, where it is fresh, and no other
reply_served : {S : Type 0} (m : Machine S) (x : Served S) (p : ℕ) (r : Request) (c : ℕ) → c < length x.table
    → ((is_fresh x r ≡ true) × (r.client ≡ c) × (reply_of (served m x p r) c ≡ record { seq = r.seq; pos = p; result = m.result x.state r.op })) ⊎ (reply_of (served m x p r) c ≡ reply_of x c)
unfolding served
reply_served m x p r c lt = elim (cases_Bool (is_fresh x r)) [
  | inr again ↦ rw again (inr refl)
  | inl fresh ↦
      let a : LastReply = record { seq = r.seq; pos = p; result = m.result x.state r.op } in
      elim (cases_eq c r.client) [
        | inl same ↦ rw fresh (inl (refl, sym same, unwrap_or-slice_get (set x.table r.client a) c no_reply ∙ subst (λ (i : ℕ). get_or (set x.table i a) c no_reply ≡ a) same (get_or-set_same x.table c a no_reply lt)))
        | inr other ↦ rw fresh (inr (unwrap_or-slice_get (set x.table r.client a) c no_reply ∙ get_or-set_other x.table r.client c a no_reply other ∙ sym (unwrap_or-slice_get x.table c no_reply)))
      ]
]

module _ {S : Type 0} (system : System S) (w : World) (safe : IsSafe system w) where
  abbrev clients : ℕ
  clients = client_count system.schedule.shape

  abbrev after : ℕ → Served S
  after n = after_line system w n

  abbrev during : ℕ → Slot → ℕ → Served S
  during q slot i = after_requests system w q slot i

  -- where the line has the request that a stored reply answers
  record IsAnswered (x : Served S) (c : ℕ) : Type 0 where
    q : ℕ
    i : ℕ
    slot : Slot
    there : slice_get w.line q ≡ Some slot
    placed : Placed
    within : slice_get slot.requests i ≡ Some placed
    fresh : placed.fresh ≡ true
    client : placed.request.client ≡ c
    seq : placed.request.seq ≡ (reply_of x c).seq
    place : (reply_of x c).pos ≡ q + 1
    kept : reply_of (during q slot (i + 1)) c ≡ reply_of x c

  kept_on : (x y : Served S) (c : ℕ) → reply_of y c ≡ reply_of x c → IsAnswered x c → IsAnswered y c
  kept_on x y c same a = record {
    q = a.q;
    i = a.i;
    slot = a.slot;
    there = a.there;
    placed = a.placed;
    within = a.within;
    fresh = a.fresh;
    client = a.client;
    seq = a.seq ∙ sym (ap (λ (b : LastReply). b.seq) same);
    place = ap (λ (b : LastReply). b.pos) same ∙ a.place;
    kept = a.kept ∙ sym same;
  }

  abbrev Answered : Served S → ℕ → Type 0
  Answered x c = 1 ≤ (reply_of x c).seq → IsAnswered x c

  module _ (line_fits : (q : ℕ) → q ≤ length w.line → FitsServed system.machine system.initial clients (after q)) where
    one_more : (q : ℕ) (slot : Slot) (i c : ℕ) (p : Placed) → slice_get w.line q ≡ Some slot → q ≤ length w.line → slice_get slot.requests i ≡ Some p → c < clients → Answered (during q slot i) c → Answered (during q slot (i + 1)) c
    one_more q slot i c p there le at lt before some =
        let x : Served S = during q slot i in
        let next : during q slot (i + 1) ≡ served system.machine x slot.pos p.request = ap (served_each system.machine (after q) slot.pos) (take_next slot.requests i p at) ∙ each_push system.machine (after q) slot.pos (take i slot.requests) p in
        let many = (line_fits q le).many in
        let long = each_length system.machine (after q) slot.pos (take i slot.requests) in
        let l = safe.line q slot there in
        elim (reply_served system.machine x slot.pos p.request c (omega (arith, many, long, lt))) [
          | inl (fresh, client, is) ↦
              let here = ap (λ (y : Served S). reply_of y c) next ∙ is in
              record {
                q = q;
                i = i;
                slot = slot;
                there = there;
                placed = p;
                within = at;
                fresh = (l.requests i p at).fresh ∙ fresh;
                client = client;
                seq = sym (ap (λ (a : LastReply). a.seq) here);
                place = ap (λ (a : LastReply). a.pos) here ∙ l.place;
                kept = refl;
              }
          | inr same ↦
              let kept : reply_of (during q slot (i + 1)) c ≡ reply_of x c = ap (λ (y : Served S). reply_of y c) next ∙ same in
              kept_on x (during q slot (i + 1)) c kept (before (subst (λ (a : LastReply). 1 ≤ a.seq) kept some))
        ]

    answered_during : (q : ℕ) (slot : Slot) (i c : ℕ) → slice_get w.line q ≡ Some slot → q ≤ length w.line → i ≤ length slot.requests → c < clients → Answered (after q) c → Answered (during q slot i) c
    unfolding served_each
    answered_during q slot zero c there within le lt before = before
    answered_during q slot (suc i) c there within le lt before =
        let t = get_there slot.requests i (omega (arith, le)) in
        let one : i + 1 ≡ suc i = omega arith in
        subst (λ (n : ℕ). Answered (during q slot n) c) one (one_more q slot i c t.0 there within t.1 lt (answered_during q slot i c there within (omega (arith, le)) lt before))

    answered_at : (e c : ℕ) → e ≤ length w.line → c < clients → Answered (after e) c
    unfolding served_all
    answered_at zero c le lt some = let z : (reply_of (after 0) c).seq ≡ 0 = ap (λ (a : LastReply). a.seq) (none_first clients c) in absurd (omega (arith, some, z))
    answered_at (suc e) c le lt some =
        let t = get_there w.line e (omega (arith, le)) in
        let slot : Slot = t.0 in
        let one : e + 1 ≡ suc e = omega arith in
        let next : after (suc e) ≡ served_each system.machine (after e) slot.pos slot.requests =
        ap after (sym one) ∙ ap (served_all system.machine (start system.machine system.initial clients)) (take_next w.line e slot t.1) ∙ served_push system.machine (start system.machine system.initial clients) (take e w.line) slot in
        let all : during e slot (length slot.requests) ≡ after (suc e) = ap (served_each system.machine (after e) slot.pos) (take-length slot.requests) ∙ sym next in
        subst (λ (x : Served S). Answered x c) all (answered_during e slot (length slot.requests) c t.1 (omega (arith, le)) (omega arith) lt (answered_at e c (omega (arith, le)) lt)) some

  -- ---- the states of correct hosts

  module _ (f : Facts system w) (line_fits : (q : ℕ) → q ≤ length w.line → FitsServed system.machine system.initial clients (after q))
      (along : (h : ℕ) (d : History) → IsCorrect system.schedule h → IsPast d (w.histories h)
      → (exec_of d ≤ length w.line) × (state_of (self_of system h) d ≡ served_each system.machine (after (exec_of d)) (exec_of d + 1) (just_served d)))
      (along_fits : (h : ℕ) (d : History) → IsCorrect system.schedule h → IsPast d (w.histories h) → FitsServed system.machine system.initial clients (state_of (self_of system h) d))
      (closed_later : (h : ℕ) (d : History) → IsPast d (w.histories h) → (just_served d ≡ []) ⊎ IsClosed (self_of system h) d (w.histories h)) (tagged : AllTagged system w) where
    -- Each stored reply answers a request of the line.
    state_answered : (h : ℕ) (d : History) → IsCorrect system.schedule h → IsPast d (w.histories h) → (c : ℕ) → c < clients → Answered (state_of (self_of system h) d) c
    unfolding served_each
    state_answered h d correct p c lt =
        let a = along h d correct p in
        let before : Answered (after (exec_of d)) c = answered_at line_fits (exec_of d) c a.0 lt in
        elim (closed_later h d p) [
          | inl none ↦ subst (λ (x : Served S). Answered x c) (sym (a.1 ∙ ap (served_each system.machine (after (exec_of d)) (exec_of d + 1)) none)) before
          | inr k ↦
              let on = safe.slots h k.slot correct (contained (w.histories h) (Executed k.slot) (past_in (w.histories h) (Executed k.slot) k.before k.past)) in
              let place : k.slot.pos ≡ exec_of k.before + 1 = (executed_so (self_of system h) k.before (w.histories h) k.slot (f.arises h) k.past).place in
              let last = k.last in
              let here : on.0 ≡ exec_of d = omega (arith, place, last, on.1) in
              let there : slice_get w.line (exec_of d) ≡ Some k.slot = ap (slice_get w.line) (sym here) ∙ on.2 in
              let first : take (length (just_served d)) k.slot.requests ≡ just_served d = ap (take (length (just_served d))) k.requests ∙ take-append_seam (just_served d) k.rest in
              let pos : k.slot.pos ≡ exec_of d + 1 = place ∙ ap (λ (n : ℕ). n + 1) last in
              let state : during (exec_of d) k.slot (length (just_served d)) ≡ state_of (self_of system h) d =
              ap (served_each system.machine (after (exec_of d)) k.slot.pos) first ∙ ap (λ (n : ℕ). served_each system.machine (after (exec_of d)) n (just_served d)) pos ∙ sym a.1 in
              let many = ap (λ (l : List Placed). length l) k.requests ∙ length-append (just_served d) k.rest in
              subst (λ (x : Served S). Answered x c) state (answered_during line_fits (exec_of d) k.slot (length (just_served d)) c there a.0 (omega (arith, many)) lt before)
        ]

    -- ---- a counted reply of a correct host

    -- It is a stored reply of the client at a moment of a correct host.
    record IsOfHost (c : ℕ) (y : Reply) : Type 0 where
      host : ℕ
      moment : History
      correct : IsCorrect system.schedule host
      past : IsPast moment (w.histories host)
      client : c < clients
      seq : (reply_of (state_of (self_of system host) moment) c).seq ≡ y.seq
      pos : (reply_of (state_of (self_of system host) moment) c).pos ≡ y.pos
      result : (reply_of (state_of (self_of system host) moment) c).result ≡ y.result

    of_stored : (c number : ℕ) (y : Reply) → IsCounted system.schedule c w.tagged number y → (m : Message) → IsReplied system w m → spelling m ≡ spelling (message.Reply y) → IsOfHost c y
    of_stored c number y k m x same =
        let h : ℕ = x.host in
        let d : History = x.moment in
        let state : Served S = state_of (self_of system h) d in
        let a : LastReply = reply_of state x.client in
        let fits = along_fits h d x.correct x.past in
        let last : FitsLast a = fits_found state.table x.client fits.table in
        let made : Reply = record { host = h; client = x.client; seq = a.seq; pos = a.pos; result = a.result; tag = reply_tag system.schedule.secret h x.client a.seq a.pos a.result } in
        let wide : FitsWidely made = record { seq = last.seq; pos = last.pos; result = short_result a.seq (length a.result) last.size; tag = length-signed_reply system.schedule.secret h x.client _ } in
        let pos = k.fits.pos in
        let wide' : FitsWidely y = record { seq = k.fits.seq.1; pos = omega (arith, pos); result = k.fits.result; tag = k.fits.tag } in
        let like : AreLike made y = same_reply made y wide wide' (ap spelling x.is ∙ same) in
        let count = f.shape.clients.1 in
        let many = fits.many in
        let below : x.client < clients = elim (cases_lt x.client clients) [
          | inl lt ↦ lt
          | inr ge ↦
              let zeroth : a ≡ no_reply = none_beyond state.table x.client (omega (arith, many, ge)) in
              let z : a.seq ≡ 0 = ap (λ (b : LastReply). b.seq) zeroth in
              let some = k.fits.seq.0 in
              absurd (omega (arith, z, like.seq, some))
        ] in
        let low = k.fits.client in
        let client : x.client ≡ c = number_same x.client y.client (omega (arith, below, count)) (omega (arith, low, count)) like.client ∙ k.client in
        let there : a ≡ reply_of state c = ap (λ (i : ℕ). reply_of state i) client in
        record {
          host = h;
          moment = d;
          correct = x.correct;
          past = x.past;
          client = subst (λ (i : ℕ). i < clients) client below;
          seq = sym (ap (λ (b : LastReply). b.seq) there) ∙ like.seq;
          pos = sym (ap (λ (b : LastReply). b.pos) there) ∙ like.pos;
          result = sym (ap (λ (b : LastReply). b.result) there) ∙ like.result;
        }

    of_tagged : (c number : ℕ) (y : Reply) → IsCounted system.schedule c w.tagged number y → (m : Message) → IsTagged system w m → spelling m ≡ spelling (message.Reply y) → IsOfHost c y
    of_tagged c number y k (message.Reply z) t same = of_stored c number y k (message.Reply z) (t.replied refl) same
    of_tagged c number y k (message.ReqViewChange z) t same = absurd (wish_differs z y same)
    of_tagged c number y k m t same = absurd (let e = t.kind in cc)

    pos_same : (a b : Reply) → agrees a b ≡ true → (a.pos ≡ b.pos) × (a.result ≡ b.result)
    pos_same a b e = let p = and_parts (a.pos == b.pos) (same_bytes a.result b.result) e in (eqb-true a.pos b.pos p.0, same_bytes-true a.result b.result p.1)

    reply_parts : (a : LastReply) (seq pos : ℕ) (result : Bytes) → a.seq ≡ seq → a.pos ≡ pos → a.result ≡ result → (let b : LastReply = record { seq = seq; pos = pos; result = result } in a ≡ b)
    reply_parts a seq pos result e g k = joined a.seq seq a.pos pos a.result result e g k where
      joined : (s t p q : ℕ) (x y : Bytes) → s ≡ t → p ≡ q → x ≡ y → (let a : LastReply = record { seq = s; pos = p; result = x } in let b : LastReply = record { seq = t; pos = q; result = y } in a ≡ b)
      joined s t p q x y e g k = cc

    served_result : (c : ℕ) (r : Reply) → IsCorrectClient system.schedule c → IsAnswer system.schedule c w.tagged r → IsServedResult system w c r
    served_result c r correct x =
        let y : Reply = x.reply in
        let made = x.counted.made x.correct.1 in
        let o : IsOfHost c y = of_tagged c r.seq y x.counted made.0 (tagged made.0 made.1) made.2 in
        let state : Served S = state_of (self_of system o.host) o.moment in
        let same = pos_same r y x.like in
        let some = x.counted.fits.seq.0 in
        let seq : (reply_of state c).seq ≡ r.seq = o.seq ∙ x.counted.seq in
        let a = state_answered o.host o.moment o.correct o.past c o.client (omega (arith, some, o.seq)) in
        let pos : (reply_of state c).pos ≡ r.pos = o.pos ∙ sym same.0 in
        let l = (safe.line a.q a.slot a.there).requests a.i a.placed a.within in
        record {
          q = a.q;
          i = a.i;
          place = sym pos ∙ a.place;
          slot = a.slot;
          there = a.there;
          placed = a.placed;
          within = a.within;
          fresh = a.fresh;
          request = (a.client, a.seq ∙ seq);
          asked = l.asked (subst (λ (i : ℕ). IsCorrectClient system.schedule i) (sym a.client) correct);
          result = a.kept ∙ reply_parts (reply_of state c) r.seq r.pos r.result seq pos (o.result ∙ sym same.1);
        }

    pub served_results : ((c : ℕ) → AskerStands system.schedule c w.tagged (w.askers c)) → AreServedResults system w
    served_results askers c r correct there = served_result c r correct (all_in (IsAnswer system.schedule c w.tagged) (w.askers c).accepted r (askers c).accepted (in_contained (w.askers c).accepted r there))
