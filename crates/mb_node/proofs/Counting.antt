-- How many messages a step sends: one for what was given, at most `most_by_rule` for each rule, and those of a Nudge and of the FETCH.
use Rattle.std.proofs.Common.{◌≡◌, ℕ, zero, suc, ◌+◌, ◌*◌, ◌≤◌, ◌<◌, ◌^◌, Bool, true, false, List, [], ◌∷◌, ◌++◌, length, refl, sym, ap, ◌∙◌, inl, inr, Option, Some, None, length-append, subst, arith}
use Rattle.std.proofs.lemmas.List.{length-map}
use Rattle.std.specs.Prelude.{◌&&◌, ◌||◌, ◌==◌, ◌%◌, nat_lt, is_none, Result, Ok, Err}
use Rattle.std.proofs.lemmas.Bool.{cases_Bool}
use Rattle.mb_base.specs.Limits.{batch_limit}
use Rattle.mb_base.specs.Shapes.{Bytes, interval, host_count}
use Rattle.mb_base.specs.declared.names.Ui.{Ui}
use Rattle.mb_base.specs.declared.shape.Shape.{Shape}
use Rattle.mb_parts.specs.declared.floor.Floor.{Floor}
use Rattle.mb_parts.specs.declared.request.Request.{Request}
use Rattle.mb_parts.specs.declared.batch.Batch.{Batch}
use Rattle.mb_parts.specs.Fits.{FitsBatch}
use Rattle.mb_msg.specs.declared.normal.Prepare.{Prepare}
use Rattle.mb_msg.specs.declared.change.ReqViewChange.{ReqViewChange}
use Rattle.mb_msg.specs.declared.transfer.Resend.{Resend}
use Rattle.mb_msg.specs.declared.transfer.Log.{Log}
use Rattle.mb_msg.specs.declared.transfer.Fetch.{Fetch}
use Rattle.mb_msg.specs.declared.transfer.StateMsg.{StateMsg}
use Rattle.mb_msg.specs.declared.stamped.Stamped.{Stamped as StampedMessage}
use Rattle.mb_msg.specs.declared.stamped.Stamped.TheVariants as stamped
use Rattle.mb_msg.specs.declared.message.Message.{Message}
use Rattle.mb_msg.specs.declared.message.Message.TheVariants as message
use Rattle.mb_msg.specs.declared.event.Event.{Event}
use Rattle.mb_msg.specs.declared.event.Event.TheVariants as event
use Rattle.mb_msg.specs.declared.event.Step.{Step}
use Rattle.mb_msg.specs.declared.event.Outcome.{Outcome}
use Rattle.mb_msg.specs.declared.event.Outcome.TheVariants as outcome
use Rattle.mb_msg.specs.Stamps.{ui_of}
use Rattle.mb_msg.specs.Reading.{message_of}
use Rattle.mb_model.specs.Histories.{History, Identity, LostPatience, Nudged, Accepted, gate, closed_at, here, view_of}
use Rattle.mb_model.specs.Held.{view_limit, wish_of}
use Rattle.mb_model.specs.Stable.{low_of}
use Rattle.mb_model.specs.OwnLog.{has_room, has_other_room}
use Rattle.mb_model.specs.Positions.{exec_of, is_behind}
use Rattle.mb_model.specs.Execution.{missing}
use Rattle.mb_model.specs.Compared.{compared_in}
use Rattle.mb_model.specs.Sending.{Letter, Progress, begin, write, note, send, to_all}
use Rattle.mb_model.specs.Making.{resend}
use Rattle.mb_model.specs.KindChecks.{stamped_refusal}
use Rattle.mb_model.specs.PlainChecks.{request_refusal, wish_refusal, resend_refusal, log_refusal, fetch_refusal, state_refusal}
use Rattle.mb_model.specs.EnabledRules.{Rule, Execute, next_rule}
use Rattle.mb_model.specs.EnabledRules as rule
use Rattle.mb_model.specs.CarriedOut.{placed_in, serve, serve_all, close_slot, at_interval, execute, carry_out, run_rules, enough}
use Rattle.mb_model.specs.Given.{Answer, closing, offer_prepare, named_prepare, casts_vote, accept, give_stamped, give_request, give_wish, give_resend, give_fetch, give_state, install_where_all, jump, floor_shown, go_on, give_entries, give_log, give}
use Rattle.mb_model.specs.HostStep.{on_patience, on_nudge, wish_again, with_fetch, low_rose, finished_where, on_message, on_bytes, transition, rules_follow, asks_on, is_taken}
use Rattle.mb_model.proofs.Options.{option_cases, or_some}
use Rattle.mb_steps.specs.Arises.{IsWhole}
use Rattle.mb_steps.proofs.StepGivenArise.{give_arises}
use Rattle.mb_model.proofs.ShapesFit.{shape_fits}
use Rattle.mb_reading_laws.proofs.ReadFits.{read_fits}
use Rattle.mb_host_laws.proofs.Executing.{may_execute}
use Rattle.mb_history_laws.specs.Sound.{IsSound}
use Rattle.mb_history_laws.proofs.Sound.{stays_sound}
use Rattle.mb_history_laws.proofs.SoundSteps.{give_sound}
use Rattle.mb_history_laws.proofs.SoundRules.{rule_sound}
use Rattle.mb_change.specs.declared.due.ChangeDue.{ChangeDue}
use Rattle.mb_change.specs.declared.due.ChangeDue.TheVariants as due
use Rattle.mb_change.specs.Histories.{IsRule, first_rule}
use Rattle.mb_change.specs.Represents.{searches_of}
use Rattle.mb_change.specs.Rules.{due_with}
use Rattle.mb_change.proofs.Agreeing.{rules_agree}
use Rattle.mb_refinement.proofs.PositionsRules.{normal_rule, next_is, ExecuteIs, execute_is}
use Rattle.mb_core.specs.declared.replica.Replica.{Replica}
use Rattle.mb_core.specs.Represents.{Represents}
use Rattle.mb_replica.specs.Represents.{IsStep, as_sent}
use Rattle.mb_encodable.specs.Fitting.{AreFit}
use Rattle.mb_encodable.proofs.Fit.{give_fit, rule_fit, unstamped_fit}
use Rattle.mb_encodable.proofs.Stamps.{execution_fits}

-- A rule that executes sends a reply to each request of its batch, and a CHECKPOINT; any other rule sends one message.
abbrev most_by_rule : ℕ
most_by_rule = batch_limit + 1

abbrev sent_count : Progress → ℕ
sent_count x = length x.sent

one_longer : (l : List Letter) (m : Letter) → length (l ++ m ∷ []) ≡ length l + 1
one_longer l m = length-append l (m ∷ [])

module _ {S : Type 0} (self : Identity S) where
  -- ---- what is given

  closing_sends : (o : Outcome) (u : Ui) (x : Progress) → (closing o u x).sent ≡ x.sent
  closing_sends (outcome.Illegal r) u x = refl
  closing_sends o u x = refl

  offer_sends : (m : Prepare) (x : Progress) → (offer_prepare self m x).sent ≡ x.sent
  unfolding offer_prepare
  offer_sends m x = elim (option_cases (stamped_refusal self x.history (stamped.Prepare m))) [
    | inl none ↦ rw none refl
    | inr (o, some) ↦ rw some (closing_sends o m.ui x)
  ]

  accept_sends : (m : StampedMessage) (x : Progress) → (accept self m x).sent ≡ x.sent
  accept_sends (stamped.Commit m) x = elim (cases_Bool (casts_vote self x.history m)) [
    | inl votes ↦ rw votes (offer_sends (named_prepare self m) (write (Accepted (message.Commit m)) x))
    | inr not_so ↦ rw not_so refl
  ]
  accept_sends (stamped.Prepare m) x = refl
  accept_sends (stamped.Checkpoint m) x = refl
  accept_sends (stamped.ViewChange m) x = refl
  accept_sends (stamped.NewView m) x = refl
  accept_sends (stamped.Enter m) x = refl
  accept_sends (stamped.Open m) x = refl
  accept_sends (stamped.Join m) x = refl

  stamped_sends : (m : StampedMessage) (x : Progress) → (give_stamped self m x).left.sent ≡ x.sent
  unfolding give_stamped
  stamped_sends m x = elim (option_cases (stamped_refusal self x.history m)) [
    | inl none ↦ rw none (accept_sends m (note (compared_in self x.history m) x))
    | inr (o, some) ↦ rw some (closing_sends o (ui_of m) (note (compared_in self x.history m) x))
  ]

  jump_sends : (h : ℕ) (f : Option Floor) (x : Progress) → (jump self h f x).sent ≡ x.sent
  jump_sends h None x = refl
  jump_sends h (Some f) x = elim (cases_Bool (is_none (closed_at x.history h) && nat_lt (gate x.history h).counter f.counter)) [
    | inl does ↦ rw does refl
    | inr not_so ↦ rw not_so refl
  ]

  go_sends : (o : Outcome) (x : Progress) (more : Progress → Answer) → (more x).left.sent ≡ x.sent → (go_on self o x more).left.sent ≡ x.sent
  go_sends outcome.Took x more e = e
  go_sends (outcome.Stale next) x more e = e
  go_sends outcome.Idle x more e = e
  go_sends o x more e = refl

  entries_send : (ms : List StampedMessage) (x : Progress) → (give_entries self ms x).left.sent ≡ x.sent
  unfolding give_entries
  entries_send [] x = refl
  entries_send (m ∷ ms) x = go_sends (give_stamped self m x).outcome (give_stamped self m x).left (λ y. give_entries self ms y) (entries_send ms (give_stamped self m x).left) ∙ stamped_sends m x

  log_sends : (m : Log) (x : Progress) → (give_log self m x).left.sent ≡ x.sent
  unfolding give_log
  log_sends m x =
      let y : Progress = jump self m.host (floor_shown self m.host m.floor) x in
      elim (option_cases (log_refusal self m)) [
        | inl none ↦ rw none (entries_send m.entries (write (Accepted (message.Log m)) y) ∙ jump_sends m.host (floor_shown self m.host m.floor) x)
        | inr (o, some) ↦ rw some refl
      ]

  wish_sends : (m : ReqViewChange) (x : Progress) → (give_wish self m x).left.sent ≡ x.sent
  unfolding give_wish
  wish_sends m x = elim (option_cases (wish_refusal self x.history m)) [
    | inl none ↦ rw none refl
    | inr (o, some) ↦ rw some refl
  ]

  install_sends : (x : Progress) → (install_where_all self x).sent ≡ x.sent
  install_sends x = elim (cases_Bool (is_none (missing self x.history))) [
    | inl all ↦ rw all refl
    | inr not_so ↦ rw not_so refl
  ]

  state_sends : (m : StateMsg) (x : Progress) → (give_state self m x).left.sent ≡ x.sent
  unfolding give_state
  state_sends m x = elim (option_cases (state_refusal self x.history m)) [
    | inl none ↦ rw none (install_sends (write (Accepted (message.State m)) x))
    | inr (o, some) ↦ go o some
  ] where
    go : (o : Outcome) → state_refusal self x.history m ≡ Some o → (give_state self m x).left.sent ≡ x.sent
    go (outcome.BadState part at) some = rw some refl
    go o some = rw some refl

  -- at most one more
  abbrev OneMore : Progress → Progress → Type 0
  OneMore x y = sent_count y ≤ sent_count x + 1

  no_more : (x : Progress) (l : List Letter) → l ≡ x.sent → length l ≤ sent_count x + 1
  no_more x l e = omega (arith, ap length e)

  request_sends : (r : Request) (x : Progress) → OneMore x (give_request self r x).left
  unfolding give_request
  request_sends r x = elim (option_cases (request_refusal self x.history r)) [
    | inl none ↦ rw none (no_more x x.sent refl)
    | inr (o, some) ↦ go o some
  ] where
    go : (o : Outcome) → request_refusal self x.history r ≡ Some o → OneMore x (give_request self r x).left
    go outcome.Again some = rw some (omega (arith, one_longer))
    go o some = rw some (no_more x x.sent refl)

  resend_sends : (m : Resend) (x : Progress) → OneMore x (give_resend self m x).left
  unfolding give_resend
  resend_sends m x = elim (option_cases (resend_refusal self x.history m)) [
    | inl none ↦ rw none (omega (arith, one_longer))
    | inr (o, some) ↦ rw some (no_more x x.sent refl)
  ]

  fetch_sends : (m : Fetch) (x : Progress) → OneMore x (give_fetch self m x).left
  unfolding give_fetch
  fetch_sends m x = elim (option_cases (fetch_refusal self x.history m)) [
    | inl none ↦ rw none (omega (arith, one_longer))
    | inr (o, some) ↦ rw some (no_more x x.sent refl)
  ]

  give_sends : (m : Message) (x : Progress) → OneMore x (give self m x).left
  give_sends (message.Request m) x = request_sends m x
  give_sends (message.Prepare m) x = no_more x _ (stamped_sends (stamped.Prepare m) x)
  give_sends (message.Commit m) x = no_more x _ (stamped_sends (stamped.Commit m) x)
  give_sends (message.Reply m) x = no_more x x.sent refl
  give_sends (message.Checkpoint m) x = no_more x _ (stamped_sends (stamped.Checkpoint m) x)
  give_sends (message.ReqViewChange m) x = no_more x _ (wish_sends m x)
  give_sends (message.ViewChange m) x = no_more x _ (stamped_sends (stamped.ViewChange m) x)
  give_sends (message.NewView m) x = no_more x _ (stamped_sends (stamped.NewView m) x)
  give_sends (message.Enter m) x = no_more x _ (stamped_sends (stamped.Enter m) x)
  give_sends (message.Open m) x = no_more x _ (stamped_sends (stamped.Open m) x)
  give_sends (message.Join m) x = no_more x _ (stamped_sends (stamped.Join m) x)
  give_sends (message.Resend m) x = resend_sends m x
  give_sends (message.Log m) x = no_more x _ (log_sends m x)
  give_sends (message.Fetch m) x = fetch_sends m x
  give_sends (message.State m) x = no_more x _ (state_sends m x)
  give_sends (message.Stop m) x = no_more x x.sent refl

  -- ---- a rule

  serve_sends : (pos : ℕ) (r : Request) (x : Progress) → OneMore x (serve self pos r x)
  serve_sends pos r x = elim (cases_Bool (placed_in self x.history r).fresh) [
    | inl fresh ↦ rw fresh (omega (arith, one_longer))
    | inr again ↦ rw again (no_more x x.sent refl)
  ]

  serve_all_sends : (pos : ℕ) (rs : List Request) (x : Progress) → sent_count (serve_all self pos rs x) ≤ sent_count x + length rs
  unfolding serve_all
  serve_all_sends pos [] x = omega arith
  serve_all_sends pos (r ∷ rs) x = let first = serve_sends pos r x in let later = serve_all_sends pos rs (serve self pos r x) in omega (arith, first, later)

  interval_sends : (pos : ℕ) (y : Progress) → OneMore y (at_interval self pos y)
  interval_sends pos y = elim (cases_Bool (pos % interval self.shape == 0)) [
    | inl at ↦ rw at (elim (cases_Bool (has_room self y.history)) [
      | inl room ↦ rw room (omega (arith, one_longer))
      | inr full ↦ rw full (no_more y y.sent refl)
    ])
    | inr between ↦ rw between (no_more y y.sent refl)
  ]

  execute_sends : (pos : ℕ) (b : Batch) (x : Progress) → sent_count (execute self pos b x) ≤ sent_count x + (length b.requests + 1)
  unfolding execute
  execute_sends pos b x =
      let served = serve_all_sends pos b.requests x in
      let last = interval_sends pos (close_slot self pos (serve_all self pos b.requests x)) in
      omega (arith, served, last)

  -- It is none of a view change.
  no_change : (d : History) (p : ℕ) (b : Batch) (x : ChangeDue) → IsRule self d x (Some (Execute p b)) → ⊥
  no_change d p b due.Nothing is = is
  no_change d p b (due.ViewChange view) is = is
  no_change d p b due.NewView is = is
  no_change d p b due.Enter is = is
  no_change d p b due.Open is = is
  no_change d p b (due.Join base) is = is

  execute_next : (d : History) (p : ℕ) (b : Batch) → next_rule self d ≡ Some (Execute p b) → ExecuteIs self d p b
  execute_next d p b e = execute_is self d p b (elim (or_some (first_rule self d) (normal_rule self d) (Execute p b) (sym (next_is self d) ∙ e)) [
    | inl first ↦ absurd (no_change d p b _ (subst (IsRule self d (due_with self.shape self.host (here self d) (searches_of self d) (exec_of d) (low_of self d) (has_other_room self d))) first (rules_agree S self d)))
    | inr normal ↦ normal
  ])

  module _ (there : self.host < host_count self.shape) where
    rule_sends : (r : Rule) (x : Progress) → next_rule self x.history ≡ Some r → AreFit self x.history → sent_count (carry_out self r x) ≤ sent_count x + most_by_rule
    unfolding carry_out
    rule_sends (rule.ChangeView view) x e f = omega (arith, one_longer)
    rule_sends (rule.Announce changes) x e f = omega (arith, one_longer)
    rule_sends (rule.Enter n) x e f = omega (arith, one_longer)
    rule_sends (rule.Open g plan) x e f = omega (arith, one_longer)
    rule_sends rule.Join x e f = omega (arith, one_longer)
    rule_sends (rule.Commit p k b) x e f = omega (arith, one_longer)
    rule_sends (rule.Execute p b) x e f =
        let batch : FitsBatch self.shape b = (execution_fits self x.history f.values p b (may_execute self x.history p b (execute_next x.history p b e).enabled)).batch in
        omega (arith, execute_sends p b x, batch.count.1)
    rule_sends (rule.Prepare p b) x e f = omega (arith, one_longer)

    rules_send : (n : ℕ) (x : Progress) → IsSound self x.history → IsWhole x.history → AreFit self x.history → sent_count (run_rules self n x) ≤ sent_count x + most_by_rule * n
    unfolding run_rules
    rules_send zero x s w f = omega arith
    rules_send (suc n) x s w f = elim (option_cases (next_rule self x.history)) [
      | inl none ↦ rw none (omega arith)
      | inr (r, some) ↦
          let next = rule_sound self r x some s w in
          let first = rule_sends r x some f in
          let later = rules_send n (carry_out self r x) next.0 next.1 (rule_fit self there r x some s w f) in
          rw some (omega (arith, first, later))
    ]

    -- ---- an event

    fetch_more : (asks : Bool) (d : History) (x : Progress) → OneMore x (with_fetch self asks d x)
    fetch_more asks d x = elim (cases_Bool (is_behind self x.history && (asks || low_rose self d x.history))) [
      | inl does ↦ rw does (omega (arith, one_longer))
      | inr not_so ↦ rw not_so (no_more x x.sent refl)
    ]

    record IsReady (x : Progress) : Type 0 where
      sound : IsSound self x.history
      whole : IsWhole x.history
      fit : AreFit self x.history

    ends_after : (runs asks : Bool) (d : History) (a : Answer) → IsReady a.left → sent_count (finished_where self runs asks d a).left ≤ sent_count a.left + (most_by_rule * enough + 1)
    ends_after true asks d a r =
        let rules = rules_send enough a.left r.sound r.whole r.fit in
        let last = fetch_more asks d (run_rules self enough a.left) in
        omega (arith, rules, last)
    ends_after false asks d a r = omega arith

    abbrev AtMost : Answer → Type 0
    AtMost a = sent_count a.left ≤ most_by_rule * enough + 3

    message_sends : (d : History) (bytes : Bytes) (m : Message) → message_of self.shape bytes ≡ Ok m → IsReady (begin d) → AtMost (on_message self d m)
    message_sends d bytes m is r =
        let first = give_sends m (begin d) in
        let later : IsReady (give self m (begin d)).left = record {
          sound = give_sound self m (begin d) r.sound r.whole;
          whole = (give_arises self m (begin d) (r.sound.arises, r.whole)).1;
          fit = give_fit self there m (begin d) (read_fits self.shape (shape_fits self.shape) bytes m is) r.sound r.whole r.fit;
        } in
        let all = ends_after (rules_follow self (give self m (begin d)).outcome m) (asks_on self m) d (give self m (begin d)) later in
        omega (arith, first, all)

    bytes_send : (d : History) (bytes : Bytes) (x : Result Message ℕ) → message_of self.shape bytes ≡ x → IsReady (begin d) → AtMost (on_bytes self x d)
    bytes_send d bytes (Ok m) is r = message_sends d bytes m is r
    bytes_send d bytes (Err at) is r = omega arith

    patience_ready : (d : History) → IsReady (begin d) → IsReady (on_patience self (begin d)).left
    unfolding on_patience
    patience_ready d r = elim (cases_Bool (view_of self d == view_limit)) [
      | inl last ↦ rw last r
      | inr more ↦ rw more (record { sound = stays_sound self LostPatience d tt tt r.sound; whole = tt; fit = unstamped_fit self there LostPatience d refl tt more r.sound r.fit })
    ]

    patience_sends : (d : History) → OneMore (begin d) (on_patience self (begin d)).left
    unfolding on_patience
    patience_sends d = elim (cases_Bool (view_of self d == view_limit)) [
      | inl last ↦ rw last (no_more (begin d) [] refl)
      | inr more ↦ rw more (omega arith)
    ]

    again_sends : (x : Progress) → OneMore x (wish_again self x)
    again_sends x = elim (cases_Bool (nat_lt (view_of self x.history) (wish_of self x.history self.host))) [
      | inl does ↦ rw does (omega (arith, one_longer))
      | inr not_so ↦ rw not_so (no_more x x.sent refl)
    ]

    again_history : (x : Progress) → (wish_again self x).history ≡ x.history
    again_history x = elim (cases_Bool (nat_lt (view_of self x.history) (wish_of self x.history self.host))) [
      | inl does ↦ rw does refl
      | inr not_so ↦ rw not_so refl
    ]

    nudge_sends : (d : History) → sent_count (on_nudge self (begin d)).left ≤ 2
    unfolding on_nudge
    nudge_sends d = let last = again_sends (send (to_all (resend self d)) (write Nudged (begin d))) in omega (arith, last)

    nudge_ready : (d : History) → IsReady (begin d) → IsReady (on_nudge self (begin d)).left
    unfolding on_nudge
    nudge_ready d r =
        let same = again_history (send (to_all (resend self d)) (write Nudged (begin d))) in
        record {
          sound = rw same (stays_sound self Nudged d tt tt r.sound);
          whole = rw same tt;
          fit = rw same (unstamped_fit self there Nudged d refl tt tt r.sound r.fit);
        }

    sends_at_most : (d : History) (e : Event) → IsReady (begin d) → AtMost (transition self d e)
    unfolding transition
    sends_at_most d (event.Given bytes) r = bytes_send d bytes (message_of self.shape bytes) refl r
    sends_at_most d event.Patience r = (let first = patience_sends d in let all = ends_after (is_taken self (on_patience self (begin d)).outcome) false d (on_patience self (begin d)) (patience_ready d r) in omega (arith, first, all))
    sends_at_most d event.Nudge r = (let first = nudge_sends d in let all = ends_after true true d (on_nudge self (begin d)) (nudge_ready d r) in omega (arith, first, all))

    -- So many fit a number of 32 bits.
    pub sends_few : (d : History) (e : Event) → IsSound self d → IsWhole d → AreFit self d → length (transition self d e).left.sent < 2 ^ 32
    unfolding enough
    sends_few d e s w f = let most = sends_at_most d e (record { sound = s; whole = w; fit = f }) in omega (arith, most)

-- So it is with the step of a host.
pub step_few : {V : Type 0} (me : Identity V) (d : History) (e : Event) (r : Replica V) (s : Step) → Represents me r d → IsWhole d → r.state.protocol.host < host_count r.state.protocol.shape → IsStep s (transition me d e) → length s.sent < 2 ^ 32
step_few me d e r s rep whole there is =
    let host : me.host < host_count me.shape = subst (λ (h : ℕ). h < host_count me.shape) (sym rep.who.host) (subst (λ (y : Shape). r.state.protocol.host < host_count y) (sym rep.who.shape) there) in
    let few = sends_few me host d e rep.tables.sound whole rep.fit in
    let same : length s.sent ≡ length (transition me d e).left.sent = ap length is.sent ∙ length-map (transition me d e).left.sent as_sent in
    omega (arith, few, same)
