-- What an event makes a host send: what is given leaves letters as they were, but for its answer; the rules send what they stamp and the replies to what they serve;
-- and a FETCH ends the step.
use Rattle.std.proofs.Common.{◌≡◌, ℕ, zero, suc, ◌<◌, arith, Bool, true, false, ◌&&◌, ◌||◌, List, [], ◌∷◌, ◌++◌, refl, sym, ap, subst, ◌∙◌, inl, inr, append-nil, Option, Some, None, Result, Ok, Err}
use Rattle.std.specs.Prelude.{nat_lt, is_none, if◌then◌else◌, ◌==◌}
use Rattle.std.proofs.lemmas.Bool.{cases_Bool, and_parts, or_cases, ltb-true}
use Rattle.std.proofs.lemmas.List.{append_assoc}
use Rattle.mb_base.specs.Shapes.{Bytes}
use Rattle.mb_base.specs.declared.names.Ui.{Ui}
use Rattle.mb_parts.specs.declared.floor.Floor.{Floor}
use Rattle.mb_parts.specs.declared.request.Request.{Request}
use Rattle.mb_msg.specs.declared.event.Placed.{Placed}
use Rattle.mb_msg.specs.declared.normal.Prepare.{Prepare}
use Rattle.mb_msg.specs.declared.message.Message.{Message}
use Rattle.mb_msg.specs.declared.message.Message.TheVariants as message
use Rattle.mb_msg.specs.declared.change.ReqViewChange.{ReqViewChange}
use Rattle.mb_msg.specs.declared.transfer.Resend.{Resend}
use Rattle.mb_msg.specs.declared.transfer.Log.{Log}
use Rattle.mb_msg.specs.declared.transfer.Fetch.{Fetch}
use Rattle.mb_msg.specs.declared.transfer.StateMsg.{StateMsg}
use Rattle.mb_msg.specs.declared.stamped.Stamped.{Stamped as StampedMessage}
use Rattle.mb_msg.specs.declared.stamped.Stamped.TheVariants as stamped
use Rattle.mb_msg.specs.declared.event.Event.{Event}
use Rattle.mb_msg.specs.declared.event.Event.TheVariants as event
use Rattle.mb_msg.specs.declared.event.Outcome.{Outcome}
use Rattle.mb_msg.specs.declared.event.Outcome.TheVariants as outcome
use Rattle.mb_msg.specs.Reading.{message_of}
use Rattle.mb_msg.specs.Stamps.{ui_of, as_message}
use Rattle.mb_model.specs.Histories.{Entry, Accepted, Stamped, Jumped, Closed, Served, Executed, DroppedParts, LostPatience, Nudged, History, Identity, origin, taken_of, gate, closed_at, view_of}
use Rattle.mb_model.specs.Held.{view_limit, wish_of}
use Rattle.mb_model.specs.Stable.{low_of}
use Rattle.mb_model.specs.Positions.{exec_of, is_behind}
use Rattle.mb_model.specs.Execution.{missing, asked_host}
use Rattle.mb_model.specs.Compared.{compared_in}
use Rattle.mb_model.specs.Sending.{Letter, Progress, begin, write, send, note, stamp, signed, to_all, to_host, to_client}
use Rattle.mb_model.specs.Making.{resend, fetch}
use Rattle.mb_model.specs.KindChecks.{stamped_refusal}
use Rattle.mb_model.specs.PlainChecks.{request_refusal, wish_refusal, resend_refusal, log_refusal, fetch_refusal, state_refusal}
use Rattle.mb_model.specs.EnabledRules.{Rule, next_rule}
use Rattle.mb_model.specs.CarriedOut.{placed_in, with_reply, serve, serve_all, slot_for, close_slot, carry_out, run_rules, enough}
use Rattle.mb_model.specs.Given.{Answer, closing, offer_prepare, named_prepare, casts_vote, accept, give_stamped, stored_reply, give_request, give_wish, give_resend, give_fetch, install_where_all, give_state, floor_shown, jump, go_on, give_entries, give_log, give}
use Rattle.mb_model.specs.HostStep.{on_patience, on_nudge, wish_again, low_rose, with_fetch, is_taken, rules_follow, finished_where, asks_on, on_message, on_bytes, transition}
use Rattle.mb_model.proofs.Options.{option_cases}
use Rattle.mb_world_model.specs.World.{self_of}
use Rattle.mb_world_model.specs.WorldSteps.{world}
use Rattle.mb_host_laws.proofs.Walks.{KeepsGiven, give_keeps, state_keeps, carried_keeps}
use Rattle.mb_pins.specs.Sent.{AtMostOne, IsWish, letters_of, letters_of_all, AnswersMessage, AnswersBytes, AnswersNudge, Answers, IsOfState, MayAsk, SendsThis, SendsNoMore, HostsSendNoMore}

nothing_more : {A : Type 0} (a b : List A) → a ≡ [] → b ≡ [] → a ++ b ≡ []
nothing_more a b is none = rw (is, none) refl

-- at most one, where there is none
none_of : (P : Letter → Type 0) (l : List Letter) → l ≡ [] → AtMostOne P l
none_of P l is = subst (λ (x : List Letter). AtMostOne P x) (sym is) tt

module _ {S : Type 0} (self : Identity S) where
  -- ---- a stamped message that is given, and a LOG, send nothing

  closing_sent : (o : Outcome) (u : Ui) (x : Progress) → (closing o u x).sent ≡ x.sent
  closing_sent (outcome.Illegal r) u x = refl
  closing_sent o u x = refl

  offer_sent : (m : Prepare) (x : Progress) → (offer_prepare self m x).sent ≡ x.sent
  unfolding offer_prepare
  offer_sent m x = elim (option_cases (stamped_refusal self x.history (stamped.Prepare m))) [
    | inl none ↦ rw none refl
    | inr (o, some) ↦ rw some (closing_sent o m.ui x)
  ]

  accept_sent : (m : StampedMessage) (x : Progress) → (accept self m x).sent ≡ x.sent
  accept_sent (stamped.Commit m) x = elim (cases_Bool (casts_vote self x.history m)) [
    | inl votes ↦ rw votes (offer_sent (named_prepare self m) (write (Accepted (message.Commit m)) x))
    | inr not_so ↦ rw not_so refl
  ]
  accept_sent (stamped.Prepare m) x = refl
  accept_sent (stamped.Checkpoint m) x = refl
  accept_sent (stamped.ViewChange m) x = refl
  accept_sent (stamped.NewView m) x = refl
  accept_sent (stamped.Enter m) x = refl
  accept_sent (stamped.Open m) x = refl
  accept_sent (stamped.Join m) x = refl

  stamped_sent : (m : StampedMessage) (x : Progress) → (give_stamped self m x).left.sent ≡ x.sent
  unfolding give_stamped
  stamped_sent m x =
      let y : Progress = note (compared_in self x.history m) x in
      elim (option_cases (stamped_refusal self x.history m)) [
        | inl none ↦ rw none (accept_sent m y)
        | inr (o, some) ↦ rw some (closing_sent o (ui_of m) y)
      ]

  go_sent : (o : Outcome) (x : Progress) (more : Progress → Answer) → ((y : Progress) → (more y).left.sent ≡ y.sent) → (go_on self o x more).left.sent ≡ x.sent
  go_sent outcome.Took x more f = f x
  go_sent (outcome.Stale next) x more f = f x
  go_sent outcome.Idle x more f = f x
  go_sent o x more f = refl

  entries_sent : (ms : List StampedMessage) (x : Progress) → (give_entries self ms x).left.sent ≡ x.sent
  unfolding give_entries
  entries_sent [] x = refl
  entries_sent (m ∷ ms) x = go_sent (give_stamped self m x).outcome (give_stamped self m x).left (λ y. give_entries self ms y) (λ y. entries_sent ms y) ∙ stamped_sent m x

  jump_sent : (h : ℕ) (f : Option Floor) (x : Progress) → (jump self h f x).sent ≡ x.sent
  jump_sent h None x = refl
  jump_sent h (Some f) x = elim (cases_Bool (is_none (closed_at x.history h) && nat_lt (gate x.history h).counter f.counter)) [
    | inl does ↦ rw does refl
    | inr not_so ↦ rw not_so refl
  ]

  log_sent : (m : Log) (x : Progress) → (give_log self m x).left.sent ≡ x.sent
  unfolding give_log
  log_sent m x =
      let y : Progress = jump self m.host (floor_shown self m.host m.floor) x in
      elim (option_cases (log_refusal self m)) [
        | inl none ↦ rw none (entries_sent m.entries (write (Accepted (message.Log m)) y) ∙ jump_sent m.host (floor_shown self m.host m.floor) x)
        | inr (o, some) ↦ rw some refl
      ]

  -- ---- so do a wish and a STATE

  wish_sent : (m : ReqViewChange) (x : Progress) → (give_wish self m x).left.sent ≡ x.sent
  unfolding give_wish
  wish_sent m x = elim (option_cases (wish_refusal self x.history m)) [
    | inl none ↦ rw none refl
    | inr (o, some) ↦ rw some refl
  ]

  installed_sent : (x : Progress) → (install_where_all self x).sent ≡ x.sent
  installed_sent x = elim (cases_Bool (is_none (missing self x.history))) [
    | inl all ↦ rw all refl
    | inr not_so ↦ rw not_so refl
  ]

  state_sent : (m : StateMsg) (x : Progress) → (give_state self m x).left.sent ≡ x.sent
  unfolding give_state
  state_sent m x = elim (option_cases (state_refusal self x.history m)) [
    | inl none ↦ rw none (installed_sent (write (Accepted (message.State m)) x))
    | inr (o, some) ↦ go o some
  ] where
    go : (o : Outcome) → state_refusal self x.history m ≡ Some o → (give_state self m x).left.sent ≡ x.sent
    go (outcome.BadState part at) some = rw some refl
    go o some = rw some refl

  module _ (d : History) where
    -- ---- each message that is given, and its answer

    abbrev IsAnswered : Message → Answer → Type 0
    IsAnswered m a = AtMostOne (AnswersMessage self d m a.outcome) a.left.sent

    request_answered : (r : Request) → IsAnswered (message.Request r) (give_request self r (begin d))
    unfolding give_request
    request_answered r = elim (option_cases (request_refusal self d r)) [
      | inl none ↦ rw none tt
      | inr (o, some) ↦ go o some
    ] where
      go : (o : Outcome) → request_refusal self d r ≡ Some o → IsAnswered (message.Request r) (give_request self r (begin d))
      go outcome.Again some = rw some refl
      go o some = rw some tt

    resend_answered : (m : Resend) → IsAnswered (message.Resend m) (give_resend self m (begin d))
    unfolding give_resend
    resend_answered m = elim (option_cases (resend_refusal self d m)) [
      | inl none ↦ rw none (_, refl)
      | inr (o, some) ↦ rw some tt
    ]

    fetch_answered : (m : Fetch) → IsAnswered (message.Fetch m) (give_fetch self m (begin d))
    unfolding give_fetch
    fetch_answered m = elim (option_cases (fetch_refusal self d m)) [
      | inl none ↦ rw none (_, refl)
      | inr (o, some) ↦ rw some tt
    ]

    stamped_answered : (m : Message) (x : StampedMessage) → IsAnswered m (give_stamped self x (begin d))
    stamped_answered m x = none_of (AnswersMessage self d m (give_stamped self x (begin d)).outcome) _ (stamped_sent x (begin d))

    answered : (m : Message) → IsAnswered m (give self m (begin d))
    answered (message.Request m) = request_answered m
    answered (message.Prepare m) = stamped_answered (message.Prepare m) (stamped.Prepare m)
    answered (message.Commit m) = stamped_answered (message.Commit m) (stamped.Commit m)
    answered (message.Reply m) = tt
    answered (message.Checkpoint m) = stamped_answered (message.Checkpoint m) (stamped.Checkpoint m)
    answered (message.ReqViewChange m) = none_of _ _ (wish_sent m (begin d))
    answered (message.ViewChange m) = stamped_answered (message.ViewChange m) (stamped.ViewChange m)
    answered (message.NewView m) = stamped_answered (message.NewView m) (stamped.NewView m)
    answered (message.Enter m) = stamped_answered (message.Enter m) (stamped.Enter m)
    answered (message.Open m) = stamped_answered (message.Open m) (stamped.Open m)
    answered (message.Join m) = stamped_answered (message.Join m) (stamped.Join m)
    answered (message.Resend m) = resend_answered m
    answered (message.Log m) = none_of _ _ (log_sent m (begin d))
    answered (message.Fetch m) = fetch_answered m
    answered (message.State m) = none_of _ _ (state_sent m (begin d))
    answered (message.Stop m) = tt

    -- ---- what is given writes no entry of which a letter tells

    record AddsSilently (x : History) : Type 0 where
      added : History
      is : x ≡ added ++ d
      silent : letters_of_all self added d ≡ []

    silent_more : (e : Entry) (x : History) → ((l : History) → letters_of self e l ≡ []) → AddsSilently x → AddsSilently (e ∷ x)
    silent_more e x none s = record {
      added = e ∷ s.added;
      is = ap (λ (y : History). e ∷ y) s.is;
      silent = nothing_more (letters_of_all self s.added d) (letters_of self e (s.added ++ d)) s.silent (none (s.added ++ d));
    }

    abbrev Silent : Progress → Type 0
    Silent x = AddsSilently x.history

    given_silent : KeepsGiven self Silent
    given_silent = record {
      accepted = λ m x other s. silent_more (Accepted m) x.history (λ l. refl) s;
      closed = λ h c x s. silent_more (Closed h c) x.history (λ l. refl) s;
      jumped = λ h f x free lower s. silent_more (Jumped h f) x.history (λ l. refl) s;
      noted = λ strings x s. s;
      sent = λ l x plain s. s;
      replied = λ c x s. s;
      state = state_keeps self Silent (λ m x s. silent_more (Accepted (message.State m)) x.history (λ l. refl) s) (λ x s. silent_more DroppedParts x.history (λ l. refl) s)
          (λ x s. silent_more _ x.history (λ l. refl) s);
    }

    nothing_added : Silent (begin d)
    nothing_added = record { added = []; is = refl; silent = refl }

    given_adds : (m : Message) → Silent (give self m (begin d)).left
    given_adds m = give_keeps self Silent given_silent m (begin d) (λ m s. silent_more (Accepted (message.Resend m)) d (λ l. refl) s) nothing_added

    -- ---- the rules, behind what was sent before

    module _ (before : List Letter) where
      -- Behind that are the letters of what was added.
      record Tells (x : Progress) : Type 0 where
        added : History
        is : x.history ≡ added ++ d
        sent : x.sent ≡ before ++ letters_of_all self added d

      stamp_tells : (m : StampedMessage) (x : Progress) → Tells x → Tells (stamp self m x)
      stamp_tells m x s =
          let y : StampedMessage = signed self x.history m in
          let l : List Letter = to_all (as_message y) ∷ [] in
          record {
            added = Stamped y ∷ s.added;
            is = ap (λ (h : History). Stamped y ∷ h) s.is;
            sent = ap (λ (t : List Letter). t ++ l) s.sent ∙ append_assoc before (letters_of_all self s.added d) l;
          }

      module _ (pos : ℕ) (p : Placed) (x : Progress) where
        -- the reply, where this is the history
        abbrev reply_behind : History → Letter
        reply_behind h = to_client p.request.client (stored_reply self (Served pos p ∷ h) p.request.client)

        abbrev served : Progress
        served = write (Served pos p) x

        served_is : (added : History) → x.history ≡ added ++ d → (t : Bool) → (if t then send (reply_behind x.history) served else served).history ≡ Served pos p ∷ (added ++ d)
        served_is added is true = ap (λ (h : History). Served pos p ∷ h) is
        served_is added is false = ap (λ (h : History). Served pos p ∷ h) is

        served_sends : (s : Tells x) (t : Bool) → (if t then send (reply_behind x.history) served else served).sent ≡ before ++ (letters_of_all self s.added d ++ (if t then reply_behind (s.added ++ d) ∷ [] else []))
        served_sends s true =
            ap (λ (l : List Letter). l ++ reply_behind x.history ∷ []) s.sent ∙ append_assoc before (letters_of_all self s.added d) (reply_behind x.history ∷ [])
            ∙ ap (λ (h : History). before ++ (letters_of_all self s.added d ++ reply_behind h ∷ [])) s.is
        served_sends s false = s.sent ∙ ap (λ (l : List Letter). before ++ l) (sym (append-nil (letters_of_all self s.added d)))

        serve_tells : Tells x → Tells (with_reply self p served)
        serve_tells s = record { added = Served pos p ∷ s.added; is = served_is s.added s.is p.fresh; sent = served_sends s p.fresh }

      serves_tell : (pos : ℕ) (rs : List Request) (x : Progress) → Tells x → Tells (serve_all self pos rs x)
      unfolding serve_all
      serves_tell pos [] x s = s
      serves_tell pos (r ∷ rs) x s = serves_tell pos rs (serve self pos r x) (serve_tells pos (placed_in self x.history r) x s)

      slot_tells : (pos : ℕ) (x : Progress) → Tells x → Tells (close_slot self pos x)
      slot_tells pos x s = record {
        added = Executed (slot_for self x.history pos) ∷ s.added;
        is = ap (λ (h : History). Executed (slot_for self x.history pos) ∷ h) s.is;
        sent = s.sent ∙ ap (λ (t : List Letter). before ++ t) (sym (append-nil (letters_of_all self s.added d)));
      }

      carried_tells : (rule : Rule) (x : Progress) → Tells x → Tells (carry_out self rule x)
      carried_tells rule x s =
          carried_keeps self Tells (λ strings y t. record { added = t.added; is = t.is; sent = t.sent }) stamp_tells
          (λ pos b y t. slot_tells pos (serve_all self pos b.requests y) (serves_tell pos b.requests y t)) rule x s

      rules_tell : (n : ℕ) (x : Progress) → Tells x → Tells (run_rules self n x)
      unfolding run_rules
      rules_tell zero x s = s
      rules_tell (suc n) x s = elim (option_cases (next_rule self x.history)) [
        | inl none ↦ rw none s
        | inr (rule, some) ↦ rw some (rules_tell n (carry_out self rule x) (carried_tells rule x s))
      ]

    -- ---- the end of a step

    abbrev to_fetch : History → Letter
    to_fetch h = to_host (asked_host self h) (fetch self h)

    module _ (e : Event) (o : Outcome) (ls : List Letter) (are : Answers self d e o ls) where
      at_its_end : (x : Progress) → Tells ls x → SendsThis self d e o x
      at_its_end x s = record {
        added = s.added;
        is = s.is;
        answers = ls;
        asks = [];
        sent = s.sent ∙ sym (append-nil (ls ++ letters_of_all self s.added d));
        are_answers = are;
        is_asking = tt;
      }

      asking : (x : Progress) → Tells ls x → is_behind self x.history ≡ true → MayAsk self d e x.history → SendsThis self d e o (send (to_fetch x.history) x)
      asking x s behind may = record {
        added = s.added;
        is = s.is;
        answers = ls;
        asks = to_fetch x.history ∷ [];
        sent = ap (λ (l : List Letter). l ++ to_fetch x.history ∷ []) s.sent;
        are_answers = are;
        is_asking = record { behind = ltb-true (exec_of x.history) (low_of self x.history) behind; may = may; is = refl };
      }

      module _ (asks : Bool) (may : (h : History) → asks ≡ true → MayAsk self d e h) (rose : (h : History) → low_of self d < low_of self h → MayAsk self d e h) where
        may_ask : (h : History) → (asks || low_rose self d h) ≡ true → MayAsk self d e h
        may_ask h t = elim (or_cases asks (low_rose self d h) t) [
          | inl does ↦ may h does
          | inr risen ↦ rose h (ltb-true (low_of self d) (low_of self h) risen)
        ]

        fetch_tells : (x : Progress) → Tells ls x → SendsThis self d e o (with_fetch self asks d x)
        fetch_tells x s = elim (cases_Bool (is_behind self x.history && (asks || low_rose self d x.history))) [
          | inl does ↦ let t = and_parts (is_behind self x.history) (asks || low_rose self d x.history) does in rw does (asking x s t.0 (may_ask x.history t.1))
          | inr not_so ↦ rw not_so (at_its_end x s)
        ]

    -- ---- each event

    abbrev SendsTo : Event → Answer → Type 0
    SendsTo e a = SendsThis self d e a.outcome a.left

    starts : (x : Progress) → Silent x → Tells x.sent x
    starts x s = record { added = s.added; is = s.is; sent = sym (ap (λ (l : List Letter). x.sent ++ l) s.silent ∙ append-nil x.sent) }

    finished_sends : (e : Event) (runs asks : Bool) (a : Answer) → Answers self d e a.outcome a.left.sent → Silent a.left → ((h : History) → asks ≡ true → MayAsk self d e h)
        → ((h : History) → low_of self d < low_of self h → MayAsk self d e h) → SendsTo e (finished_where self runs asks d a)
    finished_sends e true asks a are s may rose =
        fetch_tells e a.outcome a.left.sent are asks may rose (run_rules self enough a.left) (rules_tell a.left.sent enough a.left (starts a.left s))
    finished_sends e false asks a are s may rose = at_its_end e a.outcome a.left.sent are a.left (starts a.left s)

    asks_on_state : (m : Message) → asks_on self m ≡ true → IsOfState self d (Ok m)
    asks_on_state (message.State m) e = (m, refl)
    asks_on_state m e = absurd cc

    message_sends : (bytes : Bytes) (m : Message) → message_of self.shape bytes ≡ Ok m → SendsTo (event.Given bytes) (on_message self d m)
    message_sends bytes m reads =
        let a : Answer = give self m (begin d) in
        finished_sends (event.Given bytes) (rules_follow self a.outcome m) (asks_on self m) a
        (subst (λ (r : Result Message ℕ). AnswersBytes self d r a.outcome a.left.sent) (sym reads) (answered m)) (given_adds m)
        (λ h e. inl (subst (λ (r : Result Message ℕ). IsOfState self d r) (sym reads) (asks_on_state m e))) (λ h lt. inr lt)

    bytes_send : (bytes : Bytes) (r : Result Message ℕ) → message_of self.shape bytes ≡ r → SendsTo (event.Given bytes) (on_bytes self r d)
    bytes_send bytes (Ok m) reads = message_sends bytes m reads
    bytes_send bytes (Err at) reads = record {
      added = [];
      is = refl;
      answers = [];
      asks = [];
      sent = refl;
      are_answers = subst (λ (r : Result Message ℕ). AnswersBytes self d r (outcome.Malformed at) []) (sym reads) refl;
      is_asking = tt;
    }

    -- ---- lost patience, and a Nudge

    patience_answered : AtMostOne IsWish (on_patience self (begin d)).left.sent
    unfolding on_patience
    patience_answered = elim (cases_Bool (view_of self d == view_limit)) [
      | inl last ↦ rw last tt
      | inr more ↦ rw more (_, refl)
    ]

    patience_adds : Silent (on_patience self (begin d)).left
    unfolding on_patience
    patience_adds = elim (cases_Bool (view_of self d == view_limit)) [
      | inl last ↦ rw last nothing_added
      | inr more ↦ rw more (silent_more LostPatience d (λ l. refl) nothing_added)
    ]

    nudged_view : view_of self (Nudged ∷ d) ≡ view_of self d
    unfolding origin taken_of
    nudged_view = refl

    nudged_wish : wish_of self (Nudged ∷ d) self.host ≡ wish_of self d self.host
    unfolding wish_of
    nudged_wish = omega arith

    -- behind its RESEND
    abbrev nudged : Progress
    nudged = send (to_all (resend self d)) (write Nudged (begin d))

    again_answered : AnswersNudge self d (wish_again self nudged).sent
    again_answered = elim (cases_Bool (nat_lt (view_of self (Nudged ∷ d)) (wish_of self (Nudged ∷ d) self.host))) [
      | inl does ↦
          let lower = ltb-true (view_of self (Nudged ∷ d)) (wish_of self (Nudged ∷ d) self.host) does in
          rw does ((_, refl), (omega (arith, lower, nudged_view, nudged_wish), (_, refl)))
      | inr not_so ↦ rw not_so ((_, refl), tt)
    ]

    nudge_answered : AnswersNudge self d (on_nudge self (begin d)).left.sent
    unfolding on_nudge
    nudge_answered = again_answered

    again_adds : Silent (wish_again self nudged)
    again_adds = elim (cases_Bool (nat_lt (view_of self (Nudged ∷ d)) (wish_of self (Nudged ∷ d) self.host))) [
      | inl does ↦ rw does (silent_more Nudged d (λ l. refl) nothing_added)
      | inr not_so ↦ rw not_so (silent_more Nudged d (λ l. refl) nothing_added)
    ]

    nudge_adds : Silent (on_nudge self (begin d)).left
    unfolding on_nudge
    nudge_adds = again_adds

    nudge_sends : SendsTo event.Nudge (finished_where self true true d (on_nudge self (begin d)))
    nudge_sends = finished_sends event.Nudge true true (on_nudge self (begin d)) nudge_answered nudge_adds (λ h e. tt) (λ h lt. tt)

    sends_no_more : SendsNoMore self d
    unfolding transition
    sends_no_more (event.Given bytes) = bytes_send bytes (message_of self.shape bytes) refl
    sends_no_more event.Patience =
        let a : Answer = on_patience self (begin d) in
        finished_sends event.Patience (is_taken self a.outcome) false a patience_answered patience_adds (λ h e. absurd cc) (λ h lt. lt)
    sends_no_more event.Nudge = nudge_sends

pub hosts_send_no_more : (S : Type 0) → HostsSendNoMore S
hosts_send_no_more S system k h = sends_no_more (self_of system h) ((world system k).histories h)
