-- What a step adds came with its event: the walk through a given message, and the rules, which only do.
use Rattle.std.proofs.Common.{◌≡◌, ℕ, suc, ◌+◌, ◌-◌, ◌⊎◌, Bool, true, false, ◌&&◌, not, List, [], ◌∷◌, length, refl, sym, ap, subst, inl, inr, arith, Option, Some, None, Result, Ok, Err}
use Rattle.std.specs.Prelude.{◌==◌, nat_lt, is_none, slice_get, unwrap_or, Contains, if◌then◌else◌}
use Rattle.std.specs.Bool.{then_some}
use Rattle.std.specs.Option.{option_or}
use Rattle.std.proofs.lemmas.Bool.{cases_Bool, and_parts, eqb-true, ltb-true}
use Rattle.sha2.specs.Sha256.{sha256}
use Rattle.sha2.proofs.Facts256.{length-sha256}
use Rattle.mb_base.specs.Limits.{part_count}
use Rattle.mb_base.specs.Shapes.{Bytes}
use Rattle.mb_usig.specs.Tags.{certificate}
use Rattle.mb_usig.proofs.Laws.{same_bytes-true}
use Rattle.mb_parts.specs.Bares.{bare_bytes}
use Rattle.mb_parts.specs.declared.floor.Floor.{Floor}
use Rattle.mb_parts.specs.declared.certificates.FloorCert.{FloorCert}
use Rattle.mb_parts.specs.declared.request.Request.{Request}
use Rattle.mb_parts.specs.Certificates.{certified_floor}
use Rattle.mb_msg.specs.declared.message.Message.{Message}
use Rattle.mb_msg.specs.declared.message.Message.TheVariants as message
use Rattle.mb_msg.specs.declared.normal.Prepare.{Prepare}
use Rattle.mb_msg.specs.declared.normal.Commit.{Commit}
use Rattle.mb_msg.specs.declared.change.ReqViewChange.{ReqViewChange}
use Rattle.mb_msg.specs.declared.transfer.Resend.{Resend}
use Rattle.mb_msg.specs.declared.transfer.Log.{Log}
use Rattle.mb_msg.specs.declared.transfer.Fetch.{Fetch}
use Rattle.mb_msg.specs.declared.transfer.StateMsg.{StateMsg}
use Rattle.mb_msg.specs.declared.stamped.Stamped.{Stamped as StampedMessage}
use Rattle.mb_msg.specs.declared.stamped.Stamped.TheVariants as stamped
use Rattle.mb_msg.specs.declared.event.Event.{Event}
use Rattle.mb_msg.specs.declared.event.Event.TheVariants as event
use Rattle.mb_msg.specs.declared.event.Outcome.{Outcome}
use Rattle.mb_msg.specs.declared.event.Outcome.TheVariants as outcome
use Rattle.mb_msg.specs.Stamps.{bare_of, ui_of, as_message}
use Rattle.mb_msg.specs.Reading.{message_of}
use Rattle.mb_model.specs.Service.{Served as ServedState}
use Rattle.mb_model.specs.States.{digest_string}
use Rattle.mb_model.specs.Histories.{Entry, Accepted, Stamped, Jumped, Closed, Served, DroppedParts, LostPatience, Nudged, History, Identity, view_of, gate, closed_at}
use Rattle.mb_model.specs.Held.{view_limit, wish_of}
use Rattle.mb_model.specs.Stable.{low_of, stable_of}
use Rattle.mb_model.specs.Positions.{exec_of}
use Rattle.mb_model.specs.Execution.{missing, state_from, parts_held}
use Rattle.mb_model.specs.Compared.{compared_in}
use Rattle.mb_model.specs.Sending.{Progress, begin, write, note, signed}
use Rattle.mb_model.specs.GateChecks.{valid}
use Rattle.mb_model.specs.KindChecks.{stamped_refusal}
use Rattle.mb_model.specs.PlainChecks.{wrong_part, wrong_digest, fault_of, bad_state, is_wanted, is_list_right, are_all_held, request_refusal, wish_refusal, resend_refusal, log_refusal, fetch_refusal, state_refusal}
use Rattle.mb_model.specs.CarriedOut.{serve_all}
use Rattle.mb_model.specs.Given.{Answer, closing, named_prepare, offer_prepare, casts_vote, accept, give_stamped, give_request, give_wish, give_resend, give_fetch, install_where_all, give_state, floor_shown, jump, go_on, give_entries, give_log, give}
use Rattle.mb_model.specs.HostStep.{on_bytes, on_patience, on_nudge, transition}
use Rattle.mb_model.proofs.Options.{option_cases, if_some}
use Rattle.mb_world_model.specs.World.{System, self_of}
use Rattle.mb_world_model.specs.WorldSteps.{world}
use Rattle.mb_host_laws.proofs.Cases.{none_is}
use Rattle.mb_host_laws.proofs.RestsGiven.{convicts}
use Rattle.mb_one_log.proofs.StateParts.{part_digest}
use Rattle.mb_host_laws.proofs.KeptByEvents.{served_keep}
use Rattle.mb_one_log.proofs.Walks.{IsRuled, ruled_keeps}
use Rattle.mb_promise.specs.AddsGiven.{IsBroughtBy, IsDone, IsPartOf, ShowsFloor, IsOutOfOrder, BringsNoState, ComesOf, ComesWith, AddsWhatCame, AddsGiven}

-- ---- why a state is dropped

-- Where the answer is that it is no state, the tests before passed.
last_failed : (wanted list held : Bool) (wrong : Option ℕ) (last : Option Outcome) (p a : ℕ)
    → option_or (then_some (not wanted) outcome.Idle) (option_or (then_some (not list) (outcome.WrongDigest part_count)) (option_or (wrong_digest wrong) (option_or (then_some held outcome.Idle) last))) ≡ Some (outcome.BadState p a)
    → (wanted ≡ true) × (list ≡ true) × (wrong ≡ None) × (last ≡ Some (outcome.BadState p a))
last_failed false list held wrong last p a e = absurd cc
last_failed true false held wrong last p a e = absurd cc
last_failed true true held (Some i) last p a e = absurd cc
last_failed true true true None last p a e = absurd cc
last_failed true true false None last p a e = (refl, refl, refl, e)

-- A string of a list that has the length of a digest stands there.
listed : (o : Option Bytes) (part : Bytes) → sha256 part ≡ unwrap_or o [] → o ≡ Some (sha256 part)
listed (Some x) part e = ap (λ (y : Bytes). Some y) (sym e)
listed None part e = let n = ap (λ (y : Bytes). length y) e in absurd (omega (arith, n, length-sha256 part))

-- So the parts that pass stand in the list, each at its place.
pub parts_certified : (digests parts : List Bytes) (first : ℕ) → wrong_part digests first parts ≡ None → (i : ℕ) (part : Bytes) → slice_get parts i ≡ Some part → slice_get digests (first + i) ≡ Some (sha256 part)
parts_certified digests parts first e i part there =
    let place : i ≡ (first + i) - first = omega arith in
    listed (slice_get digests (first + i)) part (part_digest digests parts first (first + i) part e (omega arith) (subst (λ (j : ℕ). slice_get parts j ≡ Some part) place there))

module _ {S : Type 0} (self : Identity S) where
  fault_is : (r : Result (ServedState S) (ℕ × ℕ)) (o : Outcome) → fault_of self r ≡ Some o → (f : ℕ × ℕ) × (r ≡ Err f)
  fault_is (Ok x) o e = absurd cc
  fault_is (Err f) o e = (f, refl)

  brings_no_state : (d : History) (m : StateMsg) (part at : ℕ) → state_refusal self d m ≡ Some (outcome.BadState part at) → BringsNoState self d m
  unfolding state_refusal
  brings_no_state d m part at e =
      let after : History = Accepted (message.State m) ∷ d in
      let t = last_failed (is_wanted self d m.pos) (is_list_right self d m) (are_all_held self d m) (wrong_part m.digests m.first m.parts) (bad_state self after) part at e in
      let w = wanted (m.pos == low_of self d) (nat_lt (exec_of d) (low_of self d)) t.0 in
      let l = if_some (is_none (missing self after)) (fault_of self (state_from self (parts_held self after))) (outcome.BadState part at) t.3 in
      let f = fault_is (state_from self (parts_held self after)) (outcome.BadState part at) l.1 in
      record {
        position = eqb-true m.pos (low_of self d) w.0;
        behind = ltb-true (exec_of d) (low_of self d) w.1;
        list = same_bytes-true (sha256 (digest_string m.digests m.pos)) (stable_of self d).state t.1;
        parts = parts_certified m.digests m.parts m.first t.2;
        all = none_is (missing self after) l.0;
        fault = f.0;
        none = f.1;
      } where
        wanted : (a b : Bool) → (if a then b else false) ≡ true → (a ≡ true) × (b ≡ true)
        wanted true b e = (refl, e)
        wanted false b e = absurd cc

  out_of_order : (d : History) (x : StampedMessage) (r : ℕ) → stamped_refusal self d x ≡ Some (outcome.Illegal r) → IsOutOfOrder self d (ui_of x).host (ui_of x).counter x
  out_of_order d x r e =
      let c = convicts self d x r e in
      record {
        certified = same_bytes-true (ui_of x).cert (certificate self.secret (ui_of x).host (ui_of x).counter (bare_bytes (bare_of x))) c.certified;
        sender = refl;
        place = refl;
        next = c.next;
        refused = c.refused;
      }

  -- ---- what a step has added so far

  module _ (ev : Event) (d : History) where
    abbrev Came : Progress → Type 0
    Came x = AddsWhatCame self ev d x.history

    onto_came : (e : Entry) (h : History) → IsDone e ⊎ ComesWith self ev h e → AddsWhatCame self ev d h → AddsWhatCame self ev d (e ∷ h)
    onto_came e h c s = record {
      added = e ∷ s.added;
      is = ap (λ (y : History). e ∷ y) s.is;
      come = (subst (λ (y : History). IsDone e ⊎ ComesWith self ev y e) s.is c, s.come);
    }

    serves_come : (pos : ℕ) (rs : List Request) (x : Progress) → Came x → Came (serve_all self pos rs x)
    serves_come pos rs x s = served_keep self (AddsWhatCame self ev d) (λ q p h t. onto_came (Served q p) h (inl tt) t) pos rs x s

    came_ruled : IsRuled self Came
    came_ruled = record {
      stamped = λ m x s. onto_came (Stamped (signed self x.history m)) x.history (inl tt) s;
      noted = λ strings x s. s;
      sent = λ l x r s. s;
      executed = λ pos b x s. onto_came _ (serve_all self pos b.requests x).history (inl tt) (serves_come pos b.requests x s);
    }

  -- ---- a given message

  module _ (bytes : Bytes) (given : Message) (reads : message_of self.shape bytes ≡ Ok given) (d : History) where
    abbrev C : Progress → Type 0
    C x = AddsWhatCame self (event.Given bytes) d x.history

    brings : (e : Entry) (h : History) → ComesOf self given h e → AddsWhatCame self (event.Given bytes) d h → AddsWhatCame self (event.Given bytes) d (e ∷ h)
    brings e h c s = onto_came (event.Given bytes) d e h (inr (given, reads, c)) s

    closing_comes : (o : Outcome) (m : StampedMessage) (x : Progress) → IsPartOf self given (as_message m) → ((r : ℕ) → o ≡ outcome.Illegal r → IsOutOfOrder self x.history (ui_of m).host (ui_of m).counter m)
        → C x → C (closing o (ui_of m) x)
    closing_comes (outcome.Illegal r) m x p out s = brings (Closed (ui_of m).host (ui_of m).counter) x.history (m, p, out r refl) s
    closing_comes o m x p out s = s

    refused_comes : (o : Outcome) (m : StampedMessage) (x : Progress) → IsPartOf self given (as_message m) → stamped_refusal self x.history m ≡ Some o → C x → C (closing o (ui_of m) x)
    refused_comes o m x p e s = closing_comes o m x p (λ r is. out_of_order x.history m r (subst (λ (y : Outcome). stamped_refusal self x.history m ≡ Some y) is e)) s

    offer_comes : (c : Commit) (x : Progress) → IsBroughtBy given (stamped.Commit c) → C x → C (offer_prepare self (named_prepare self c) x)
    unfolding offer_prepare
    offer_comes c x b s =
        let m : Prepare = named_prepare self c in
        let part : IsPartOf self given (message.Prepare m) = inr (inr (c, b, refl)) in
        elim (option_cases (stamped_refusal self x.history (stamped.Prepare m))) [
          | inl none ↦ rw none (brings (Accepted (message.Prepare m)) x.history part s)
          | inr (o, some) ↦ rw some (refused_comes o (stamped.Prepare m) x part some s)
        ]

    accepted_comes : (m : StampedMessage) (x : Progress) → IsBroughtBy given m → C x → C (write (Accepted (as_message m)) x)
    accepted_comes m x b s = brings (Accepted (as_message m)) x.history (inr (inl (m, b, refl))) s

    accept_comes : (m : StampedMessage) (x : Progress) → IsBroughtBy given m → C x → C (accept self m x)
    accept_comes (stamped.Commit m) x b s = elim (cases_Bool (casts_vote self x.history m)) [
      | inl casts ↦ rw casts (offer_comes m (write (Accepted (message.Commit m)) x) b (accepted_comes (stamped.Commit m) x b s))
      | inr only ↦ rw only (accepted_comes (stamped.Commit m) x b s)
    ]
    accept_comes m x b s = accepted_comes m x b s

    stamped_comes : (m : StampedMessage) (x : Progress) → IsBroughtBy given m → C x → C (give_stamped self m x).left
    unfolding give_stamped
    stamped_comes m x b s =
        let y : Progress = note (compared_in self x.history m) x in
        elim (option_cases (stamped_refusal self x.history m)) [
          | inl none ↦ rw none (accept_comes m y b s)
          | inr (o, some) ↦ rw some (refused_comes o m y (inr (inl (m, b, refl))) some s)
        ]

    -- ---- the other kinds

    request_comes : (r : Request) (x : Progress) → given ≡ message.Request r → C x → C (give_request self r x).left
    unfolding give_request
    request_comes r x g s = elim (option_cases (request_refusal self x.history r)) [
      | inl none ↦ rw none (brings (Accepted (message.Request r)) x.history (inl g) s)
      | inr (o, some) ↦ go o some
    ] where
      go : (o : Outcome) → request_refusal self x.history r ≡ Some o → C (give_request self r x).left
      go outcome.Again some = rw some s
      go o some = rw some s

    wish_comes : (m : ReqViewChange) (x : Progress) → given ≡ message.ReqViewChange m → C x → C (give_wish self m x).left
    unfolding give_wish
    wish_comes m x g s = elim (option_cases (wish_refusal self x.history m)) [
      | inl none ↦ rw none (brings (Accepted (message.ReqViewChange m)) x.history (inl g) s)
      | inr (o, some) ↦ rw some s
    ]

    resend_comes : (m : Resend) (x : Progress) → given ≡ message.Resend m → C x → C (give_resend self m x).left
    unfolding give_resend
    resend_comes m x g s = elim (option_cases (resend_refusal self x.history m)) [
      | inl none ↦ rw none (brings (Accepted (message.Resend m)) x.history (inl g) s)
      | inr (o, some) ↦ rw some s
    ]

    fetch_comes : (m : Fetch) (x : Progress) → given ≡ message.Fetch m → C x → C (give_fetch self m x).left
    unfolding give_fetch
    fetch_comes m x g s = elim (option_cases (fetch_refusal self x.history m)) [
      | inl none ↦ rw none (brings (Accepted (message.Fetch m)) x.history (inl g) s)
      | inr (o, some) ↦ rw some s
    ]

    install_comes : (x : Progress) → C x → C (install_where_all self x)
    install_comes x s = elim (cases_Bool (is_none (missing self x.history))) [
      | inl all ↦ rw all (onto_came (event.Given bytes) d _ x.history (inl tt) s)
      | inr some ↦ rw some s
    ]

    state_comes : (m : StateMsg) (x : Progress) → given ≡ message.State m → C x → C (give_state self m x).left
    unfolding give_state
    state_comes m x g s = elim (option_cases (state_refusal self x.history m)) [
      | inl none ↦ rw none (install_comes (write (Accepted (message.State m)) x) (brings (Accepted (message.State m)) x.history (inl g) s))
      | inr (o, some) ↦ go o some
    ] where
      go : (o : Outcome) → state_refusal self x.history m ≡ Some o → C (give_state self m x).left
      go (outcome.BadState part at) some = rw some (brings DroppedParts x.history (m, g, brings_no_state x.history m part at some) s)
      go o some = rw some s

    -- ---- LOG

    go_comes : (o : Outcome) (x : Progress) (more : Progress → Answer) → ((y : Progress) → C y → C (more y).left) → C x → C (go_on self o x more).left
    go_comes outcome.Took x more f s = f x s
    go_comes (outcome.Stale next) x more f s = f x s
    go_comes outcome.Idle x more f s = f x s
    go_comes o x more f s = s

    entries_come : (ms : List StampedMessage) (x : Progress) → ((m : StampedMessage) → Contains ms m → IsBroughtBy given m) → C x → C (give_entries self ms x).left
    unfolding give_entries
    entries_come [] x b s = s
    entries_come (m ∷ ms) x b s =
        go_comes (give_stamped self m x).outcome (give_stamped self m x).left (λ y. give_entries self ms y)
        (λ y r. entries_come ms y (λ n c. b n (let lt = c.1 in (suc c.0, omega (arith, lt), c.2))) r) (stamped_comes m x (b m (0, omega arith, refl)) s)

    jump_comes : (l : Log) (f : Option FloorCert) (x : Progress) → given ≡ message.Log l → l.floor ≡ f → C x → C (jump self l.host (floor_shown self l.host f) x)
    jump_comes l None x g is s = s
    jump_comes l (Some c) x g is s = go (certified_floor self.shape (valid self) l.host c) refl where
      go : (o : Option Floor) → certified_floor self.shape (valid self) l.host c ≡ o → C (jump self l.host o x)
      go None e = s
      go (Some f) e = elim (cases_Bool (is_none (closed_at x.history l.host) && nat_lt (gate x.history l.host).counter f.counter)) [
        | inl forward ↦
            let t = and_parts (is_none (closed_at x.history l.host)) (nat_lt (gate x.history l.host).counter f.counter) forward in
            let shows : ShowsFloor self x.history l.host f l = record {
              host = refl;
              cert = c;
              shows = is;
              certified = e;
              ahead = ltb-true (gate x.history l.host).counter f.counter t.1;
              free = none_is (closed_at x.history l.host) t.0;
            } in
            rw forward (brings (Jumped l.host f) x.history (l, g, shows) s)
        | inr stays ↦ rw stays s
      ]

    log_comes : (m : Log) (x : Progress) → given ≡ message.Log m → C x → C (give_log self m x).left
    unfolding give_log
    log_comes m x g s =
        let y : Progress = jump self m.host (floor_shown self m.host m.floor) x in
        elim (option_cases (log_refusal self m)) [
          | inl none ↦ rw none (entries_come m.entries (write (Accepted (message.Log m)) y) (λ n i. inr (m, g, i)) (brings (Accepted (message.Log m)) y.history (inl g) (jump_comes m m.floor x g refl s)))
          | inr (o, some) ↦ rw some s
        ]

    give_comes : (m : Message) (x : Progress) → given ≡ m → C x → C (give self m x).left
    give_comes (message.Request m) x g s = request_comes m x g s
    give_comes (message.Prepare m) x g s = stamped_comes (stamped.Prepare m) x (inl g) s
    give_comes (message.Commit m) x g s = stamped_comes (stamped.Commit m) x (inl g) s
    give_comes (message.Reply m) x g s = s
    give_comes (message.Checkpoint m) x g s = stamped_comes (stamped.Checkpoint m) x (inl g) s
    give_comes (message.ReqViewChange m) x g s = wish_comes m x g s
    give_comes (message.ViewChange m) x g s = stamped_comes (stamped.ViewChange m) x (inl g) s
    give_comes (message.NewView m) x g s = stamped_comes (stamped.NewView m) x (inl g) s
    give_comes (message.Enter m) x g s = stamped_comes (stamped.Enter m) x (inl g) s
    give_comes (message.Open m) x g s = stamped_comes (stamped.Open m) x (inl g) s
    give_comes (message.Join m) x g s = stamped_comes (stamped.Join m) x (inl g) s
    give_comes (message.Resend m) x g s = resend_comes m x g s
    give_comes (message.Log m) x g s = log_comes m x g s
    give_comes (message.Fetch m) x g s = fetch_comes m x g s
    give_comes (message.State m) x g s = state_comes m x g s
    give_comes (message.Stop m) x g s = s

  -- ---- each event

  begins : (ev : Event) (d : History) → AddsWhatCame self ev d d
  begins ev d = record { added = []; is = refl; come = tt }

  bytes_come : (bytes : Bytes) (d : History) (r : Result Message ℕ) → message_of self.shape bytes ≡ r → AddsWhatCame self (event.Given bytes) d (on_bytes self r d).left.history
  bytes_come bytes d (Ok m) reads =
      let ev : Event = event.Given bytes in
      ruled_keeps self (Came ev d) (came_ruled ev d) _ _ d (give self m (begin d)) (give_comes bytes m reads d m (begin d) refl (begins ev d))
  bytes_come bytes d (Err at) reads = begins (event.Given bytes) d

  patience_comes : (d : History) → Came event.Patience d (on_patience self (begin d)).left
  unfolding on_patience
  patience_comes d = elim (cases_Bool (view_of self d == view_limit)) [
    | inl last ↦ rw last (begins event.Patience d)
    | inr below ↦ rw below (onto_came event.Patience d LostPatience d (inr refl) (begins event.Patience d))
  ]

  nudge_comes : (d : History) → Came event.Nudge d (on_nudge self (begin d)).left
  unfolding on_nudge
  nudge_comes d = elim (cases_Bool (nat_lt (view_of self (Nudged ∷ d)) (wish_of self (Nudged ∷ d) self.host))) [
    | inl wishes ↦ rw wishes (onto_came event.Nudge d Nudged d (inr refl) (begins event.Nudge d))
    | inr none ↦ rw none (onto_came event.Nudge d Nudged d (inr refl) (begins event.Nudge d))
  ]

  adds_given : (d : History) → AddsGiven self d
  unfolding transition
  adds_given d (event.Given bytes) = bytes_come bytes d (message_of self.shape bytes) refl
  adds_given d event.Patience = ruled_keeps self (Came event.Patience d) (came_ruled event.Patience d) _ _ d (on_patience self (begin d)) (patience_comes d)
  adds_given d event.Nudge = ruled_keeps self (Came event.Nudge d) (came_ruled event.Nudge d) true true d (on_nudge self (begin d)) (nudge_comes d)

pub hosts_add_given : {S : Type 0} (system : System S) (k h : ℕ) → AddsGiven (self_of system h) ((world system k).histories h)
hosts_add_given system k h = adds_given (self_of system h) ((world system k).histories h)
