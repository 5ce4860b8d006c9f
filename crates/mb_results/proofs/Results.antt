-- Each world that nothing stopped is sequential in words of the machine: of its line, of what correct hosts hold, and of what clients accepted.
use Rattle.std.proofs.Common.{◌≡◌, ℕ, ◌+◌, ◌≤◌, ◌<◌, ◌⊎◌, true, false, sym, ap, subst, ◌∙◌, inl, inr, arith}
use Rattle.std.proofs.lemmas.Bool.{ltb-true, ltb-false}
use Rattle.std.proofs.lemmas.Option.{slice_get_within}
use Rattle.mb_base.specs.Shapes.{client_count}
use Rattle.mb_msg.specs.declared.event.Placed.{Placed}
use Rattle.mb_msg.specs.declared.normal.Reply.{Reply}
use Rattle.mb_model.specs.declared.known.LastReply.{LastReply}
use Rattle.mb_model.specs.Service.{Served, no_reply, reply_of, is_fresh}
use Rattle.mb_model.specs.Positions.{exec_of}
use Rattle.mb_model.specs.Execution.{state_of}
use Rattle.mb_world_model.specs.WorldEvents.{IsCorrect}
use Rattle.mb_world_model.specs.World.{World, System, self_of}
use Rattle.mb_world_model.specs.WorldSteps.{world}
use Rattle.mb_promise.specs.Safety.{after_requests, IsSafe, IsAt, IsBefore, IsServedResult, AreServedResults}
use Rattle.mb_one_log.specs.Worlds.{HasOneList}
use Rattle.mb_one_log.proofs.InWorlds.{worlds_have_one_list}
use Rattle.mb_results.specs.Sequential.{IsAnswer, told, IsOvertaken, IsSequential, LineIsSequential}
use Rattle.mb_results.proofs.States.{line_state, next_within}
use Rattle.mb_results.proofs.Replies.{reply_new, long, new_answer, IsKnown, known_at, known_within}

module _ {S : Type 0} (system : System S) (w : World) (safe : IsSafe system w) where
  abbrev clients : ℕ
  clients = client_count system.schedule.shape

  -- ---- what correct hosts hold

  held : (h c : ℕ) → IsCorrect system.schedule h → c < clients → IsKnown system w safe (state_of (self_of system h) (w.histories h)) c (exec_of (w.histories h)) 0
  held h c correct lt = subst (λ (x : Served S). IsKnown system w safe x c (exec_of (w.histories h)) 0) (sym (safe.state h correct)) (known_at system w safe (exec_of (w.histories h)) c (safe.prefix h correct) lt)

  answered : (x : Served S) (c q i : ℕ) → IsKnown system w safe x c q i → (reply_of x c ≡ no_reply) ⊎ IsAnswer system w c (reply_of x c)
  answered x c q i k = go k.answer where
    go : (reply_of x c ≡ no_reply) ⊎ ((a : IsAnswer system w c (reply_of x c)) × IsBefore system w a.q a.i q i) → (reply_of x c ≡ no_reply) ⊎ IsAnswer system w c (reply_of x c)
    go (inl none) = inl none
    go (inr (a, before)) = inr a

  -- ---- marks

  -- what is known of the client of a request right before its place
  abbrev Before : (q i : ℕ) (x : Placed) → IsAt system w q i x → Type 0
  Before q i x s = IsKnown system w safe (after_requests system w q s.slot i) x.request.client q i

  before_it : (q i : ℕ) (x : Placed) (s : IsAt system w q i x) → Before q i x s
  before_it q i x s =
      let lt = slice_get_within s.slot.requests i x s.in_slot in
      let client = ((safe.line q s.slot s.in_line).requests i x s.in_slot).client in
      known_within system w safe q s.slot i x.request.client s.in_line (omega (arith, lt)) client

  mark : (q i : ℕ) (x : Placed) (s : IsAt system w q i x) → x.fresh ≡ is_fresh (after_requests system w q s.slot i) x.request
  mark q i x s = ((safe.line q s.slot s.in_line).requests i x s.in_slot).fresh

  fresh_above : (q i r j : ℕ) (x y : Placed) → IsBefore system w r j q i → IsAt system w q i x → IsAt system w r j y → x.fresh ≡ true → y.request.client ≡ x.request.client → y.request.seq < x.request.seq
  fresh_above q i r j x y before s t fresh client =
      let above : (reply_of (after_requests system w q s.slot i) x.request.client).seq < x.request.seq = ltb-true _ _ (sym (mark q i x s) ∙ fresh) in
      let low = (before_it q i x s).most r j y before t client in
      omega (arith, above, low)

  overtaken_by : (q i : ℕ) (x : Placed) (a : LastReply) → x.request.seq ≤ a.seq → (a ≡ no_reply) ⊎ ((b : IsAnswer system w x.request.client a) × IsBefore system w b.q b.i q i)
      → (x.request.seq ≡ 0) ⊎ IsOvertaken system w q i x.request.client x.request.seq
  overtaken_by q i x a le (inl none) = let z : a.seq ≡ 0 = ap (λ (b : LastReply). b.seq) none in inl (omega (arith, z, le))
  overtaken_by q i x a le (inr (b, before)) =
      let number = b.number in
      inr (record {
        r = b.q;
        j = b.i;
        before = before;
        request = b.placed;
        there = record { slot = b.slot; in_line = b.in_line; in_slot = b.in_slot };
        fresh = b.fresh;
        client = b.client;
        above = omega (arith, number, le);
      })

  overtaken : (q i : ℕ) (x : Placed) → IsAt system w q i x → x.fresh ≡ false → (x.request.seq ≡ 0) ⊎ IsOvertaken system w q i x.request.client x.request.seq
  overtaken q i x s again =
      let a : LastReply = reply_of (after_requests system w q s.slot i) x.request.client in
      overtaken_by q i x a (ltb-false a.seq x.request.seq (sym (mark q i x s) ∙ again)) (before_it q i x s).answer

  -- ---- accepted results

  accepted_so : (c : ℕ) (r : Reply) → IsServedResult system w c r → IsAnswer system w c (told system w r)
  accepted_so c r x =
      let p : Placed = x.placed in
      let before : Served S = after_requests system w x.q x.slot x.i in
      let client : p.request.client ≡ c = x.request.0 in
      let line = (safe.line x.q x.slot x.there).requests x.i p x.within in
      let fresh : is_fresh before p.request ≡ true = sym line.fresh ∙ x.fresh in
      let lt = long system w safe x.q x.slot x.i p x.there x.within p.request.client line.client in
      let new = reply_new system.machine before x.slot.pos p.request fresh lt in
      let is : told system w r ≡ record { seq = p.request.seq; pos = x.slot.pos; result = system.machine.result before.state p.request.op } =
      sym x.result ∙ ap (λ (d : ℕ). reply_of (after_requests system w x.q x.slot (x.i + 1)) d) (sym client)
      ∙ ap (λ (y : Served S). reply_of y p.request.client) (next_within system w x.q x.slot x.i p x.within) ∙ new in
      subst (λ (d : ℕ). IsAnswer system w d (told system w r)) client (new_answer system w safe x.q x.slot x.i p x.there x.within fresh (told system w r) is).0

  pub sequential : AreServedResults system w → IsSequential system w
  sequential results = record {
    states = λ h correct. ap (λ (x : Served S). x.state) (safe.state h correct) ∙ line_state system w safe (exec_of (w.histories h)) (safe.prefix h correct);
    replies = λ h c correct lt. answered (state_of (self_of system h) (w.histories h)) c (exec_of (w.histories h)) 0 (held h c correct lt);
    last = λ h c correct lt r j y low there client. (held h c correct lt).most r j y (inl low) there client;
    accepted = λ c r correct there. accepted_so c r (results c r correct there);
    fresh = λ q i r j x y before s t. fresh_above q i r j x y before s t;
    again = overtaken;
  }

pub lines_are_sequential : (S : Type 0) → LineIsSequential S
lines_are_sequential S system service fits k le none apart =
    let line : HasOneList system (world system k) = worlds_have_one_list S system service fits k le none apart in
    sequential system (world system k) line.safe line.results
