-- What each event of a host keeps of what its step has done so far.
--
-- A step is made of a few moves. A given message writes that it was accepted or that a gate is closed, lets a gate jump forward, notes strings, sends a
-- message that carries no word of others, or the stored reply of a client; a STATE brings parts, and with all of them the state; a RESEND is answered by a
-- LOG of the history as it stands. Then rules are carried out. What each of these moves keeps is kept by each given message (`give_keeps`), by the rules
-- (`finished_keeps`) and by each event (`event_keeps`). What a stamp and an execution keep, each rule keeps (`carried_keeps`). Where all quiet entries are
-- kept alike, few moves do (`KeepsMoves`).
use Rattle.std.proofs.Common.{◌≡◌, ℕ, zero, suc, ◌<◌, Bool, true, false, ◌&&◌, ◌||◌, List, [], ◌∷◌, refl, inl, inr, Option, Some, None, Ok, Err}
use Rattle.std.specs.Prelude.{◌==◌, ◌%◌, nat_lt, Result, is_none}
use Rattle.std.proofs.lemmas.Bool.{cases_Bool, and_parts, ltb-true}
use Rattle.mb_base.specs.Shapes.{Bytes, interval}
use Rattle.mb_base.specs.declared.names.Ui.{Ui}
use Rattle.mb_parts.specs.declared.floor.Floor.{Floor}
use Rattle.mb_parts.specs.declared.request.Request.{Request}
use Rattle.mb_parts.specs.declared.batch.Batch.{Batch}
use Rattle.mb_msg.specs.declared.event.Placed.{Placed}
use Rattle.mb_msg.specs.declared.normal.Prepare.{Prepare}
use Rattle.mb_msg.specs.declared.message.Message.{Message}
use Rattle.mb_msg.specs.declared.message.Message.TheVariants as message
use Rattle.mb_msg.specs.declared.change.ReqViewChange.{ReqViewChange}
use Rattle.mb_msg.specs.declared.transfer.Resend.{Resend}
use Rattle.mb_msg.specs.declared.transfer.Log.{Log}
use Rattle.mb_msg.specs.declared.transfer.Fetch.{Fetch}
use Rattle.mb_msg.specs.declared.transfer.StateMsg.{StateMsg}
use Rattle.mb_msg.specs.declared.stamped.Stamped.{Stamped as StampedMessage}
use Rattle.mb_msg.specs.declared.stamped.Stamped.TheVariants as stamped
use Rattle.mb_msg.specs.Plans.{plan_text}
use Rattle.mb_msg.specs.Reading.{message_of}
use Rattle.mb_msg.specs.Stamps.{ui_of}
use Rattle.mb_msg.specs.declared.event.Event.{Event}
use Rattle.mb_msg.specs.declared.event.Event.TheVariants as event
use Rattle.mb_msg.specs.declared.event.Outcome.{Outcome}
use Rattle.mb_msg.specs.declared.event.Outcome.TheVariants as outcome
use Rattle.mb_model.specs.Histories.{Entry, Accepted, Stamped, Jumped, Closed, Served, Executed, Installed, DroppedParts, LostPatience, Nudged, History, Identity, gate, closed_at, view_of}
use Rattle.mb_model.specs.Held.{view_limit, wish_of, plan_from}
use Rattle.mb_model.specs.OwnLog.{has_room}
use Rattle.mb_model.specs.Execution.{missing}
use Rattle.mb_model.specs.Compared.{compared_in}
use Rattle.mb_model.specs.Sending.{Letter, Progress, begin, write, send, note, stamp, signed, to_all, to_host, to_client}
use Rattle.mb_model.specs.Making.{log_for, resend, wish, view_change, new_view, enter, opening, join, commit, prepare, checkpoint}
use Rattle.mb_model.specs.KindChecks.{stamped_refusal}
use Rattle.mb_model.specs.PlainChecks.{request_refusal, wish_refusal, resend_refusal, log_refusal, fetch_refusal, state_refusal}
use Rattle.mb_model.specs.EnabledRules.{Rule, next_rule}
use Rattle.mb_model.specs.EnabledRules as rule
use Rattle.mb_model.specs.CarriedOut.{placed_in, with_reply, serve, serve_all, close_slot, state_strings, with_checkpoint, at_interval, execute, compared_in_own, carry_out, run_rules, enough}
use Rattle.mb_model.specs.Given.{Answer, closing, offer_prepare, named_prepare, casts_vote, accept, give_stamped, stored_reply, give_request, give_wish, give_resend, give_fetch, install, install_where_all, give_state, floor_shown, jump, go_on, give_entries, give_log, give}
use Rattle.mb_model.specs.Positions.{is_behind}
use Rattle.mb_model.specs.HostStep.{on_patience, on_nudge, wish_again, low_rose, with_fetch, finished_where, on_message, on_bytes, transition}
use Rattle.mb_model.proofs.Options.{option_cases}

-- It has neither certificates nor requests, and is no reply.
abbrev pub is_plain : Message → Bool
is_plain (message.ReqViewChange m) = true
is_plain (message.Resend m) = true
is_plain (message.Fetch m) = true
is_plain (message.State m) = true
is_plain m = false

-- Nothing is stamped, served or executed, no gate jumps, and no state is installed.
abbrev pub is_quiet : Entry → Bool
is_quiet (Stamped m) = false
is_quiet (Jumped h floor) = false
is_quiet (Served pos placed) = false
is_quiet (Executed slot) = false
is_quiet (Installed pos parts) = false
is_quiet e = true

abbrev pub is_state : Message → Bool
is_state (message.State m) = true
is_state m = false

module _ {S : Type 0} (self : Identity S) (Q : Progress → Type 0) where
  -- ---- a message that is given

  pub record KeepsGiven : Type 0 where
    pub accepted : (m : Message) (x : Progress) → is_state m ≡ false → Q x → Q (write (Accepted m) x)
    pub closed : (h c : ℕ) (x : Progress) → Q x → Q (write (Closed h c) x)
    pub jumped : (h : ℕ) (f : Floor) (x : Progress) → closed_at x.history h ≡ None → (gate x.history h).counter < f.counter → Q x → Q (write (Jumped h f) x)
    pub noted : (strings : List Bytes) (x : Progress) → Q x → Q (note strings x)
    pub sent : (l : Letter) (x : Progress) → is_plain l.says ≡ true → Q x → Q (send l x)
    pub replied : (c : ℕ) (x : Progress) → Q x → Q (send (to_client c (stored_reply self x.history c)) x)
    pub state : (m : StateMsg) (x : Progress) → Q x → Q (give_state self m x).left

  -- A RESEND is accepted and answered by a LOG.
  abbrev pub LogKeeps : Progress → Type 0
  LogKeeps x = (m : Resend) → Q x → Q (send (to_host m.host (log_for self x.history m)) (write (Accepted (message.Resend m)) x))

  module _ (kept : KeepsGiven) where
    closing_keeps : (o : Outcome) (u : Ui) (x : Progress) → Q x → Q (closing o u x)
    closing_keeps (outcome.Illegal r) u x q = kept.closed u.host u.counter x q
    closing_keeps o u x q = q

    pub offer_keeps : (m : Prepare) (x : Progress) → Q x → Q (offer_prepare self m x)
    unfolding offer_prepare
    offer_keeps m x q = elim (option_cases (stamped_refusal self x.history (stamped.Prepare m))) [
      | inl none ↦ rw none (kept.accepted (message.Prepare m) x refl q)
      | inr (o, some) ↦ rw some (closing_keeps o m.ui x q)
    ]

    accept_keeps : (m : StampedMessage) (x : Progress) → Q x → Q (accept self m x)
    accept_keeps (stamped.Commit m) x q = elim (cases_Bool (casts_vote self x.history m)) [
      | inl votes ↦ rw votes (offer_keeps (named_prepare self m) (write (Accepted (message.Commit m)) x) (kept.accepted (message.Commit m) x refl q))
      | inr not_so ↦ rw not_so (kept.accepted (message.Commit m) x refl q)
    ]
    accept_keeps (stamped.Prepare m) x q = kept.accepted (message.Prepare m) x refl q
    accept_keeps (stamped.Checkpoint m) x q = kept.accepted (message.Checkpoint m) x refl q
    accept_keeps (stamped.ViewChange m) x q = kept.accepted (message.ViewChange m) x refl q
    accept_keeps (stamped.NewView m) x q = kept.accepted (message.NewView m) x refl q
    accept_keeps (stamped.Enter m) x q = kept.accepted (message.Enter m) x refl q
    accept_keeps (stamped.Open m) x q = kept.accepted (message.Open m) x refl q
    accept_keeps (stamped.Join m) x q = kept.accepted (message.Join m) x refl q

    stamped_keeps : (m : StampedMessage) (x : Progress) → Q x → Q (give_stamped self m x).left
    unfolding give_stamped
    stamped_keeps m x q =
        let y : Progress = note (compared_in self x.history m) x in
        let more : Q y = kept.noted (compared_in self x.history m) x q in
        elim (option_cases (stamped_refusal self x.history m)) [
          | inl none ↦ rw none (accept_keeps m y more)
          | inr (o, some) ↦ rw some (closing_keeps o (ui_of m) y more)
        ]

    request_keeps : (r : Request) (x : Progress) → Q x → Q (give_request self r x).left
    unfolding give_request
    request_keeps r x q = elim (option_cases (request_refusal self x.history r)) [
      | inl none ↦ rw none (kept.accepted (message.Request r) x refl q)
      | inr (o, some) ↦ go o some
    ] where
      go : (o : Outcome) → request_refusal self x.history r ≡ Some o → Q (give_request self r x).left
      go outcome.Again some = rw some (kept.replied r.client x q)
      go o some = rw some q

    wish_keeps : (m : ReqViewChange) (x : Progress) → Q x → Q (give_wish self m x).left
    unfolding give_wish
    wish_keeps m x q = elim (option_cases (wish_refusal self x.history m)) [
      | inl none ↦ rw none (kept.accepted (message.ReqViewChange m) x refl q)
      | inr (o, some) ↦ rw some q
    ]

    resend_keeps : (m : Resend) (x : Progress) → LogKeeps x → Q x → Q (give_resend self m x).left
    unfolding give_resend
    resend_keeps m x logged q = elim (option_cases (resend_refusal self x.history m)) [
      | inl none ↦ rw none (logged m q)
      | inr (o, some) ↦ rw some q
    ]

    fetch_keeps : (m : Fetch) (x : Progress) → Q x → Q (give_fetch self m x).left
    unfolding give_fetch
    fetch_keeps m x q = elim (option_cases (fetch_refusal self x.history m)) [
      | inl none ↦ rw none (kept.sent _ (write (Accepted (message.Fetch m)) x) refl (kept.accepted (message.Fetch m) x refl q))
      | inr (o, some) ↦ rw some q
    ]

    is_nothing : (o : Option ℕ) → is_none o ≡ true → o ≡ None
    is_nothing None e = refl
    is_nothing (Some n) e = absurd cc

    jump_keeps : (h : ℕ) (f : Option Floor) (x : Progress) → Q x → Q (jump self h f x)
    jump_keeps h None x q = q
    jump_keeps h (Some f) x q = elim (cases_Bool (is_none (closed_at x.history h) && nat_lt (gate x.history h).counter f.counter)) [
      | inl does ↦
          let t = and_parts (is_none (closed_at x.history h)) (nat_lt (gate x.history h).counter f.counter) does in
          rw does (kept.jumped h f x (is_nothing (closed_at x.history h) t.0) (ltb-true (gate x.history h).counter f.counter t.1) q)
      | inr not_so ↦ rw not_so q
    ]

    go_keeps : (o : Outcome) (x : Progress) (more : Progress → Answer) → ((y : Progress) → Q y → Q (more y).left) → Q x → Q (go_on self o x more).left
    go_keeps outcome.Took x more f q = f x q
    go_keeps (outcome.Stale next) x more f q = f x q
    go_keeps outcome.Idle x more f q = f x q
    go_keeps o x more f q = q

    pub entries_keep : (ms : List StampedMessage) (x : Progress) → Q x → Q (give_entries self ms x).left
    unfolding give_entries
    entries_keep [] x q = q
    entries_keep (m ∷ ms) x q = go_keeps (give_stamped self m x).outcome (give_stamped self m x).left (λ y. give_entries self ms y) (λ y r. entries_keep ms y r) (stamped_keeps m x q)

    log_keeps : (m : Log) (x : Progress) → Q x → Q (give_log self m x).left
    unfolding give_log
    log_keeps m x q =
        let y : Progress = jump self m.host (floor_shown self m.host m.floor) x in
        elim (option_cases (log_refusal self m)) [
          | inl none ↦ rw none (entries_keep m.entries (write (Accepted (message.Log m)) y) (kept.accepted (message.Log m) y refl (jump_keeps m.host (floor_shown self m.host m.floor) x q)))
          | inr (o, some) ↦ rw some q
        ]

    pub give_keeps : (m : Message) (x : Progress) → LogKeeps x → Q x → Q (give self m x).left
    give_keeps (message.Request m) x logged q = request_keeps m x q
    give_keeps (message.Prepare m) x logged q = stamped_keeps (stamped.Prepare m) x q
    give_keeps (message.Commit m) x logged q = stamped_keeps (stamped.Commit m) x q
    give_keeps (message.Reply m) x logged q = q
    give_keeps (message.Checkpoint m) x logged q = stamped_keeps (stamped.Checkpoint m) x q
    give_keeps (message.ReqViewChange m) x logged q = wish_keeps m x q
    give_keeps (message.ViewChange m) x logged q = stamped_keeps (stamped.ViewChange m) x q
    give_keeps (message.NewView m) x logged q = stamped_keeps (stamped.NewView m) x q
    give_keeps (message.Enter m) x logged q = stamped_keeps (stamped.Enter m) x q
    give_keeps (message.Open m) x logged q = stamped_keeps (stamped.Open m) x q
    give_keeps (message.Join m) x logged q = stamped_keeps (stamped.Join m) x q
    give_keeps (message.Resend m) x logged q = resend_keeps m x logged q
    give_keeps (message.Log m) x logged q = log_keeps m x q
    give_keeps (message.Fetch m) x logged q = fetch_keeps m x q
    give_keeps (message.State m) x logged q = kept.state m x q
    give_keeps (message.Stop m) x logged q = q

  -- ---- a STATE, by the entries that it may bring

  module _ (accepted : (m : StateMsg) (x : Progress) → Q x → Q (write (Accepted (message.State m)) x)) (dropped : (x : Progress) → Q x → Q (write DroppedParts x)) (installed : (x : Progress) → Q x → Q (install self x)) where
    install_keeps : (x : Progress) → Q x → Q (install_where_all self x)
    install_keeps x q = elim (cases_Bool (is_none (missing self x.history))) [
      | inl all ↦ rw all (installed x q)
      | inr not_so ↦ rw not_so q
    ]

    pub state_keeps : (m : StateMsg) (x : Progress) → Q x → Q (give_state self m x).left
    unfolding give_state
    state_keeps m x q = elim (option_cases (state_refusal self x.history m)) [
      | inl none ↦ rw none (install_keeps (write (Accepted (message.State m)) x) (accepted m x q))
      | inr (o, some) ↦ go o some
    ] where
      go : (o : Outcome) → state_refusal self x.history m ≡ Some o → Q (give_state self m x).left
      go (outcome.BadState part at) some = rw some (dropped x q)
      go o some = rw some q

  -- ---- an execution, by what it serves and the CHECKPOINT that it may bring

  module _ (served : (pos : ℕ) (p : Placed) (x : Progress) → Q x → Q (write (Served pos p) x)) (replied : (c : ℕ) (x : Progress) → Q x → Q (send (to_client c (stored_reply self x.history c)) x)) where
    reply_keeps : (p : Placed) (x : Progress) → Q x → Q (with_reply self p x)
    reply_keeps p x q = elim (cases_Bool p.fresh) [
      | inl fresh ↦ rw fresh (replied p.request.client x q)
      | inr again ↦ rw again q
    ]

    pub serves_keep : (pos : ℕ) (requests : List Request) (x : Progress) → Q x → Q (serve_all self pos requests x)
    unfolding serve_all
    serves_keep pos [] x q = q
    serves_keep pos (r ∷ rs) x q =
        let p : Placed = placed_in self x.history r in
        serves_keep pos rs (serve self pos r x) (reply_keeps p (write (Served pos p) x) (served pos p x q))

  abbrev pub ServesAll : Type 0
  ServesAll = (pos : ℕ) (b : Batch) (x : Progress) → Q x → Q (close_slot self pos (serve_all self pos b.requests x))

  module _ (noted : (strings : List Bytes) (x : Progress) → Q x → Q (note strings x)) (checkpoints : (pos : ℕ) (x : Progress) → has_room self x.history ≡ true → Q x → Q (stamp self (checkpoint self x.history pos) x)) (serves : ServesAll) where
    checkpoint_keeps : (pos : ℕ) (x : Progress) → Q x → Q (with_checkpoint self pos x)
    checkpoint_keeps pos x q = elim (cases_Bool (has_room self x.history)) [
      | inl room ↦ rw room (checkpoints pos x room q)
      | inr full ↦ rw full q
    ]

    interval_keeps : (pos : ℕ) (x : Progress) → Q x → Q (at_interval self pos x)
    interval_keeps pos x q = elim (cases_Bool (pos % interval self.shape == 0)) [
      | inl at ↦ rw at (checkpoint_keeps pos (note (state_strings self x.history pos) x) (noted (state_strings self x.history pos) x q))
      | inr between ↦ rw between q
    ]

    pub execute_keeps : (pos : ℕ) (b : Batch) (x : Progress) → Q x → Q (execute self pos b x)
    unfolding execute
    execute_keeps pos b x q = interval_keeps pos (close_slot self pos (serve_all self pos b.requests x)) (serves pos b x q)

  -- ---- the rules

  module _ (noted : (strings : List Bytes) (x : Progress) → Q x → Q (note strings x)) (stamps : (m : StampedMessage) (x : Progress) → Q x → Q (stamp self m x)) (serves : ServesAll) where
    -- What notes, stamps and executions keep, each rule keeps.
    pub carried_keeps : (rule : Rule) (x : Progress) → Q x → Q (carry_out self rule x)
    unfolding carry_out
    carried_keeps (rule.ChangeView view) x q = noted (compared_in_own self (signed self x.history (view_change self x.history view))) (stamp self (view_change self x.history view) x) (stamps (view_change self x.history view) x q)
    carried_keeps (rule.Announce changes) x q = noted (plan_text (plan_from self changes) ∷ []) (stamp self (new_view self x.history changes) x) (stamps (new_view self x.history changes) x q)
    carried_keeps (rule.Enter n) x q = stamps (enter n) x q
    carried_keeps (rule.Open e plan) x q = noted (plan_text plan ∷ []) (stamp self (opening e plan) x) (stamps (opening e plan) x q)
    carried_keeps rule.Join x q = stamps (join self x.history) x q
    carried_keeps (rule.Commit pos k b) x q = stamps (commit self x.history pos k b) x q
    carried_keeps (rule.Execute pos b) x q = execute_keeps noted (λ p y room r. stamps (checkpoint self y.history p) y r) serves pos b x q
    carried_keeps (rule.Prepare pos b) x q = stamps (prepare self x.history pos b) x q

  pub record KeepsRules : Type 0 where
    pub sent : (l : Letter) (x : Progress) → is_plain l.says ≡ true → Q x → Q (send l x)
    pub carried : (rule : Rule) (x : Progress) → next_rule self x.history ≡ Some rule → Q x → Q (carry_out self rule x)

  module _ (kept : KeepsRules) where
    rules_keep : (n : ℕ) (x : Progress) → Q x → Q (run_rules self n x)
    unfolding run_rules
    rules_keep zero x q = q
    rules_keep (suc n) x q = elim (option_cases (next_rule self x.history)) [
      | inl none ↦ rw none q
      | inr (rule, some) ↦ rw some (rules_keep n (carry_out self rule x) (kept.carried rule x some q))
    ]

    fetch_sent_keeps : (asks : Bool) (d : History) (x : Progress) → Q x → Q (with_fetch self asks d x)
    fetch_sent_keeps asks d x q = elim (cases_Bool (is_behind self x.history && (asks || low_rose self d x.history))) [
      | inl does ↦ rw does (kept.sent _ x refl q)
      | inr not_so ↦ rw not_so q
    ]

    -- What follows an event: the rules, and a FETCH.
    pub finished_keeps : (runs asks : Bool) (d : History) (a : Answer) → Q a.left → Q (finished_where self runs asks d a).left
    finished_keeps true asks d a q = fetch_sent_keeps asks d (run_rules self enough a.left) (rules_keep enough a.left q)
    finished_keeps false asks d a q = q

  -- ---- an event

  pub record KeepsEvents : Type 0 where
    pub given : KeepsGiven
    pub lost : (x : Progress) → Q x → Q (write LostPatience x)
    pub nudged : (x : Progress) → Q x → Q (write Nudged x)
    pub carried : (rule : Rule) (x : Progress) → next_rule self x.history ≡ Some rule → Q x → Q (carry_out self rule x)

  module _ (kept : KeepsEvents) where
    rules : KeepsRules
    rules = record { sent = kept.given.sent; carried = kept.carried }

    patience_keeps : (x : Progress) → Q x → Q (on_patience self x).left
    unfolding on_patience
    patience_keeps x q = elim (cases_Bool (view_of self x.history == view_limit)) [
      | inl last ↦ rw last q
      | inr more ↦ rw more (kept.given.sent (to_all (wish self (LostPatience ∷ x.history))) (write LostPatience x) refl (kept.lost x q))
    ]

    pub again_keeps : (x : Progress) → Q x → Q (wish_again self x)
    again_keeps x q = elim (cases_Bool (nat_lt (view_of self x.history) (wish_of self x.history self.host))) [
      | inl does ↦ rw does (kept.given.sent (to_all (wish self x.history)) x refl q)
      | inr not_so ↦ rw not_so q
    ]

    nudge_keeps : (x : Progress) → Q x → Q (on_nudge self x).left
    unfolding on_nudge
    nudge_keeps x q = again_keeps (send (to_all (resend self x.history)) (write Nudged x)) (kept.given.sent (to_all (resend self x.history)) (write Nudged x) refl (kept.nudged x q))

    message_keeps : (d : History) (m : Message) → LogKeeps (begin d) → Q (begin d) → Q (on_message self d m).left
    message_keeps d m logged q = finished_keeps rules _ _ d (give self m (begin d)) (give_keeps kept.given m (begin d) logged q)

    bytes_keep : (d : History) (r : Result Message ℕ) → LogKeeps (begin d) → Q (begin d) → Q (on_bytes self r d).left
    bytes_keep d (Ok m) logged q = message_keeps d m logged q
    bytes_keep d (Err at) logged q = q

    pub event_keeps : (d : History) (e : Event) → LogKeeps (begin d) → Q (begin d) → Q (transition self d e).left
    unfolding transition
    event_keeps d (event.Given bytes) logged q = bytes_keep d (message_of self.shape bytes) logged q
    event_keeps d event.Patience logged q = finished_keeps rules _ false d (on_patience self (begin d)) (patience_keeps (begin d) q)
    event_keeps d event.Nudge logged q = finished_keeps rules true true d (on_nudge self (begin d)) (nudge_keeps (begin d) q)

  -- ---- few moves

  pub record KeepsMoves : Type 0 where
    pub quiet : (e : Entry) (x : Progress) → is_quiet e ≡ true → Q x → Q (write e x)
    pub jumped : (h : ℕ) (f : Floor) (x : Progress) → closed_at x.history h ≡ None → (gate x.history h).counter < f.counter → Q x → Q (write (Jumped h f) x)
    pub noted : (strings : List Bytes) (x : Progress) → Q x → Q (note strings x)
    pub sent : (l : Letter) (x : Progress) → is_plain l.says ≡ true → Q x → Q (send l x)
    pub replied : (c : ℕ) (x : Progress) → Q x → Q (send (to_client c (stored_reply self x.history c)) x)
    pub stamped : (m : StampedMessage) (x : Progress) → Q x → Q (stamp self m x)
    pub executed : ServesAll
    pub installed : (x : Progress) → Q x → Q (install self x)

  pub given_by : KeepsMoves → KeepsGiven
  given_by kept = record {
    accepted = λ m x other q. kept.quiet (Accepted m) x refl q;
    closed = λ h c x q. kept.quiet (Closed h c) x refl q;
    jumped = kept.jumped;
    noted = kept.noted;
    sent = kept.sent;
    replied = kept.replied;
    state = state_keeps (λ m x q. kept.quiet (Accepted (message.State m)) x refl q) (λ x q. kept.quiet DroppedParts x refl q) kept.installed;
  }

  pub events_by : KeepsMoves → KeepsEvents
  events_by kept = record {
    given = given_by kept;
    lost = λ x q. kept.quiet LostPatience x refl q;
    nudged = λ x q. kept.quiet Nudged x refl q;
    carried = λ rule x next q. carried_keeps kept.noted kept.stamped kept.executed rule x q;
  }
