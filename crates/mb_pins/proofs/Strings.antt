-- What a step of a host notes as hashed: strings of plans that it compares or stamps, and of its own state.
use Rattle.std.proofs.Common.{◌≡◌, ℕ, ◌⊎◌, Bool, true, false, List, [], ◌∷◌, ◌++◌, refl, inl, inr, Option, Some, None, Result, Ok, Err}
use Rattle.std.specs.Prelude.{◌==◌, ◌%◌, ◌&&◌, nat_lt, is_none}
use Rattle.std.specs.List.{AllByRecursion}
use Rattle.std.proofs.lemmas.Bool.{cases_Bool}
use Rattle.mb_base.specs.Shapes.{Bytes, interval}
use Rattle.mb_base.specs.declared.names.Ui.{Ui}
use Rattle.mb_parts.specs.declared.floor.Floor.{Floor}
use Rattle.mb_parts.specs.declared.request.Request.{Request}
use Rattle.mb_parts.specs.declared.batch.Batch.{Batch}
use Rattle.mb_parts.specs.declared.certificates.Evidence.{Evidence}
use Rattle.mb_msg.specs.declared.message.Body.{Body}
use Rattle.mb_msg.specs.declared.message.Body.TheVariants.{Whole, Bare as Short}
use Rattle.mb_msg.specs.declared.message.Message.{Message}
use Rattle.mb_msg.specs.declared.message.Message.TheVariants as message
use Rattle.mb_msg.specs.declared.normal.Prepare.{Prepare}
use Rattle.mb_msg.specs.declared.change.OpenBody.{OpenBody}
use Rattle.mb_msg.specs.declared.change.ChangeBody.{ChangeBody}
use Rattle.mb_msg.specs.declared.change.NewViewBody.{NewViewBody}
use Rattle.mb_msg.specs.declared.change.ViewChange.{ViewChange}
use Rattle.mb_msg.specs.declared.change.ReqViewChange.{ReqViewChange}
use Rattle.mb_msg.specs.declared.change.Plan.{Plan}
use Rattle.mb_msg.specs.declared.transfer.Resend.{Resend}
use Rattle.mb_msg.specs.declared.transfer.Log.{Log}
use Rattle.mb_msg.specs.declared.transfer.Fetch.{Fetch}
use Rattle.mb_msg.specs.declared.transfer.StateMsg.{StateMsg}
use Rattle.mb_msg.specs.declared.stamped.Shown.{Shown}
use Rattle.mb_msg.specs.declared.stamped.Shown.TheVariants as shown
use Rattle.mb_msg.specs.declared.stamped.Stamped.{Stamped as StampedMessage}
use Rattle.mb_msg.specs.declared.stamped.Stamped.TheVariants as stamped
use Rattle.mb_msg.specs.declared.event.Event.{Event}
use Rattle.mb_msg.specs.declared.event.Event.TheVariants as event
use Rattle.mb_msg.specs.declared.event.Outcome.{Outcome}
use Rattle.mb_msg.specs.declared.event.Outcome.TheVariants as outcome
use Rattle.mb_msg.specs.Bodies.{inside_whole}
use Rattle.mb_msg.specs.Plans.{plan_text}
use Rattle.mb_msg.specs.Reading.{message_of}
use Rattle.mb_msg.specs.Stamps.{ui_of}
use Rattle.mb_model.specs.States.{digest_string, part_digests}
use Rattle.mb_model.specs.UsableLogs.{is_comparable_body, floor_of}
use Rattle.mb_model.specs.Histories.{Accepted, History, Identity, view_of, closed_at, gate}
use Rattle.mb_model.specs.Held.{view_limit, wish_of, is_current, plan_from}
use Rattle.mb_model.specs.OwnLog.{has_room}
use Rattle.mb_model.specs.Execution.{missing}
use Rattle.mb_model.specs.Compared.{strings_where, inside_some, reaches_body, fault_at, reaches_entries, compared_in_open, compared_in_entry, compared_in_entries, compared_in_body, compared_in_change, compared_in_members, compared_in_new_view, compared_in_kind, compared_in}
use Rattle.mb_model.specs.Sending.{Progress, begin, write, note, stamp, signed}
use Rattle.mb_model.specs.Making.{present_parts, view_change, new_view, opening}
use Rattle.mb_model.specs.GateChecks.{valid, identifier_refusal}
use Rattle.mb_model.specs.KindChecks.{is_member, member_fault, members_fault, stamped_refusal}
use Rattle.mb_model.specs.PlainChecks.{request_refusal, wish_refusal, resend_refusal, log_refusal, fetch_refusal, state_refusal}
use Rattle.mb_model.specs.EnabledRules.{Rule}
use Rattle.mb_model.specs.EnabledRules as rule
use Rattle.mb_model.specs.CarriedOut.{serve_all, close_slot, state_strings, with_checkpoint, at_interval, execute, compared_in_own, carry_out}
use Rattle.mb_model.specs.Given.{Answer, closing, offer_prepare, named_prepare, casts_vote, accept, give_stamped, give_request, give_wish, give_resend, give_fetch, install_where_all, give_state, floor_shown, jump, go_on, give_entries, give_log, give}
use Rattle.mb_model.specs.HostStep.{wish_again, on_patience, on_nudge, on_bytes, transition}
use Rattle.mb_model.proofs.Members.{contained}
use Rattle.mb_model.proofs.Options.{option_cases}
use Rattle.mb_host_laws.proofs.Cases.{each_in}
use Rattle.mb_model.proofs.Lists.{all_append}
use Rattle.mb_host_laws.proofs.Walks.{serves_keep, KeepsRules, finished_keeps}
use Rattle.mb_pins.specs.WorldAdds.{IsPlanString, IsOwnString}

module _ {S : Type 0} (self : Identity S) where
  -- ---- what is compared is the string of a plan

  abbrev ArePlans : List Bytes → Type 0
  ArePlans l = AllByRecursion IsPlanString l

  plans_where : (t : Bool) (l : List Bytes) → ArePlans l → ArePlans (strings_where t l)
  plans_where true l a = a
  plans_where false l a = tt

  plans_whole : {B : Type 0} (f : B → List Bytes) (body : Body B) → ((b : B) → ArePlans (f b)) → ArePlans (inside_whole f body)
  plans_whole f (Whole b) all = all b
  plans_whole f (Short digest) all = tt

  plans_some : {B : Type 0} (f : B → List Bytes) (o : Option B) → ((b : B) → ArePlans (f b)) → ArePlans (inside_some f o)
  plans_some f (Some b) all = all b
  plans_some f None all = tt

  plans_both : (a b : List Bytes) → ArePlans a → ArePlans b → ArePlans (a ++ b)
  plans_both a b x y = all_append IsPlanString a b x y

  one_plan : (p : Plan) → ArePlans (plan_text p ∷ [])
  one_plan p = ((p, refl), tt)

  in_open : (e : Evidence) (b : OpenBody) → ArePlans (compared_in_open self e b)
  in_open e b =
      let p : Plan = record { base = b.stable; batches = b.batches } in
      plans_where (is_comparable_body self.shape self.secret (valid self) e.base e.end b) (plan_text p ∷ []) (one_plan p)

  in_entry : (e : Shown) → ArePlans (compared_in_entry self e)
  in_entry (shown.Open m) = plans_whole (compared_in_open self m.evidence) m.body (in_open m.evidence)
  in_entry e = tt

  in_entries : (host stable : ℕ) (o : Floor) (before l : List Shown) → ArePlans (compared_in_entries self host stable o before l)
  unfolding compared_in_entries
  in_entries host stable o before [] = tt
  in_entries host stable o before (e ∷ behind) =
      let fault : Option ℕ = fault_at self host stable o before e behind in
      let later : List Bytes = compared_in_entries self host stable o (e ∷ before) behind in
      plans_both (strings_where (reaches_body fault) (compared_in_entry self e)) (strings_where (is_none fault) later)
      (plans_where (reaches_body fault) (compared_in_entry self e) (in_entry e)) (plans_where (is_none fault) later (in_entries host stable o (e ∷ before) behind))

  in_body : (host : ℕ) (b : ChangeBody) → ArePlans (compared_in_body self host b)
  in_body host b =
      let entries : Floor → List Bytes = λ o. compared_in_entries self host b.stable.pos o [] b.entries in
      let o : Option Floor = floor_of self.shape (valid self) host b.floor in
      plans_where (reaches_entries self b) (inside_some entries o) (plans_some entries o (λ f. in_entries host b.stable.pos f [] b.entries))

  in_change : (m : ViewChange) → ArePlans (compared_in_change self m)
  in_change m = plans_whole (compared_in_body self m.ui.host) m.body (in_body m.ui.host)

  in_members : (view : ℕ) (l : List ViewChange) → ArePlans (compared_in_members self view l)
  unfolding compared_in_members
  in_members view [] = tt
  in_members view (m ∷ l) =
      let later : List Bytes = compared_in_members self view l in
      plans_both (strings_where (is_member self view m) (compared_in_change self m)) (strings_where (is_none (member_fault self view m)) later)
      (plans_where (is_member self view m) (compared_in_change self m) (in_change m)) (plans_where (is_none (member_fault self view m)) later (in_members view l))

  in_new_view : (view : ℕ) (b : NewViewBody) → ArePlans (compared_in_new_view self view b)
  in_new_view view b =
      let whole : Bool = is_none (members_fault self view 0 b.changes) in
      let plan : List Bytes = plan_text (plan_from self b.changes) ∷ [] in
      plans_both (compared_in_members self view b.changes) (strings_where whole plan) (in_members view b.changes) (plans_where whole plan (one_plan (plan_from self b.changes)))

  in_kind : (d : History) (m : StampedMessage) → ArePlans (compared_in_kind self d m)
  in_kind d (stamped.ViewChange m) = plans_where (is_current self d m.view) (compared_in_change self m) (in_change m)
  in_kind d (stamped.NewView m) = plans_where (is_current self d m.view) (inside_whole (compared_in_new_view self m.view) m.body) (plans_whole (compared_in_new_view self m.view) m.body (in_new_view m.view))
  in_kind d (stamped.Open m) = plans_where (is_current self d m.evidence.view) (inside_whole (compared_in_open self m.evidence) m.body) (plans_whole (compared_in_open self m.evidence) m.body (in_open m.evidence))
  in_kind d m = tt

  in_given : (d : History) (m : StampedMessage) → ArePlans (compared_in self d m)
  unfolding compared_in
  in_given d m = plans_where (is_none (identifier_refusal self d m)) (compared_in_kind self d m) (in_kind d m)

  in_own : (m : StampedMessage) → ArePlans (compared_in_own self m)
  in_own (stamped.ViewChange m) = in_change m
  in_own m = tt

  -- ---- what a step has noted so far

  abbrev pub IsNoted : Bytes → Type 0
  IsNoted x = IsPlanString x ⊎ IsOwnString self x

  abbrev pub Q : Progress → Type 0
  Q x = AllByRecursion IsNoted x.hashed

  from_plans : (l : List Bytes) → ArePlans l → AllByRecursion IsNoted l
  from_plans [] a = tt
  from_plans (x ∷ l) a = (inl a.0, from_plans l a.1)

  noted : (strings : List Bytes) (x : Progress) → ArePlans strings → Q x → Q (note strings x)
  noted strings x a q = all_append IsNoted x.hashed strings q (from_plans strings a)

  own_strings : (d : History) (pos : ℕ) → AllByRecursion IsNoted (state_strings self d pos)
  own_strings d pos = all_append IsNoted (present_parts self d) (digest_string (part_digests (present_parts self d)) pos ∷ [])
      (each_in IsNoted (present_parts self d) (λ x i. inr (d, inl (contained (present_parts self d) x i)))) (inr (d, inr (pos, refl)), tt)

  -- ---- a given message

  closing_noted : (o : Outcome) (u : Ui) (x : Progress) → Q x → Q (closing o u x)
  closing_noted (outcome.Illegal r) u x q = q
  closing_noted o u x q = q

  offer_noted : (m : Prepare) (x : Progress) → Q x → Q (offer_prepare self m x)
  unfolding offer_prepare
  offer_noted m x q = elim (option_cases (stamped_refusal self x.history (stamped.Prepare m))) [
    | inl none ↦ rw none q
    | inr (o, some) ↦ rw some (closing_noted o m.ui x q)
  ]

  accept_noted : (m : StampedMessage) (x : Progress) → Q x → Q (accept self m x)
  accept_noted (stamped.Commit m) x q = elim (cases_Bool (casts_vote self x.history m)) [
    | inl votes ↦ rw votes (offer_noted (named_prepare self m) (write (Accepted (message.Commit m)) x) q)
    | inr not_so ↦ rw not_so q
  ]
  accept_noted m x q = q

  stamped_noted : (m : StampedMessage) (x : Progress) → Q x → Q (give_stamped self m x).left
  unfolding give_stamped
  stamped_noted m x q =
      let y : Progress = note (compared_in self x.history m) x in
      let more : Q y = noted (compared_in self x.history m) x (in_given x.history m) q in
      elim (option_cases (stamped_refusal self x.history m)) [
        | inl none ↦ rw none (accept_noted m y more)
        | inr (o, some) ↦ rw some (closing_noted o (ui_of m) y more)
      ]

  request_noted : (r : Request) (x : Progress) → Q x → Q (give_request self r x).left
  unfolding give_request
  request_noted r x q = elim (option_cases (request_refusal self x.history r)) [
    | inl none ↦ rw none q
    | inr (o, some) ↦ go o some
  ] where
    go : (o : Outcome) → request_refusal self x.history r ≡ Some o → Q (give_request self r x).left
    go outcome.Again some = rw some q
    go o some = rw some q

  wish_noted : (m : ReqViewChange) (x : Progress) → Q x → Q (give_wish self m x).left
  unfolding give_wish
  wish_noted m x q = elim (option_cases (wish_refusal self x.history m)) [ inl none ↦ rw none q | inr (o, some) ↦ rw some q ]

  resend_noted : (m : Resend) (x : Progress) → Q x → Q (give_resend self m x).left
  unfolding give_resend
  resend_noted m x q = elim (option_cases (resend_refusal self x.history m)) [ inl none ↦ rw none q | inr (o, some) ↦ rw some q ]

  fetch_noted : (m : Fetch) (x : Progress) → Q x → Q (give_fetch self m x).left
  unfolding give_fetch
  fetch_noted m x q = elim (option_cases (fetch_refusal self x.history m)) [ inl none ↦ rw none q | inr (o, some) ↦ rw some q ]

  install_noted : (x : Progress) → Q x → Q (install_where_all self x)
  install_noted x q = elim (cases_Bool (is_none (missing self x.history))) [ inl all ↦ rw all q | inr some ↦ rw some q ]

  state_noted : (m : StateMsg) (x : Progress) → Q x → Q (give_state self m x).left
  unfolding give_state
  state_noted m x q = elim (option_cases (state_refusal self x.history m)) [
    | inl none ↦ rw none (install_noted (write (Accepted (message.State m)) x) q)
    | inr (o, some) ↦ go o some
  ] where
    go : (o : Outcome) → state_refusal self x.history m ≡ Some o → Q (give_state self m x).left
    go (outcome.BadState part at) some = rw some q
    go o some = rw some q

  go_noted : (o : Outcome) (x : Progress) (more : Progress → Answer) → ((y : Progress) → Q y → Q (more y).left) → Q x → Q (go_on self o x more).left
  go_noted outcome.Took x more f q = f x q
  go_noted (outcome.Stale next) x more f q = f x q
  go_noted outcome.Idle x more f q = f x q
  go_noted o x more f q = q

  entries_noted : (l : List StampedMessage) (x : Progress) → Q x → Q (give_entries self l x).left
  unfolding give_entries
  entries_noted [] x q = q
  entries_noted (m ∷ l) x q = go_noted (give_stamped self m x).outcome (give_stamped self m x).left (λ y. give_entries self l y) (λ y r. entries_noted l y r) (stamped_noted m x q)

  jump_noted : (h : ℕ) (f : Option Floor) (x : Progress) → Q x → Q (jump self h f x)
  jump_noted h None x q = q
  jump_noted h (Some f) x q = elim (cases_Bool (is_none (closed_at x.history h) && nat_lt (gate x.history h).counter f.counter)) [ inl does ↦ rw does q | inr stays ↦ rw stays q ]

  log_noted : (m : Log) (x : Progress) → Q x → Q (give_log self m x).left
  unfolding give_log
  log_noted m x q =
      let y : Progress = jump self m.host (floor_shown self m.host m.floor) x in
      elim (option_cases (log_refusal self m)) [
        | inl none ↦ rw none (entries_noted m.entries (write (Accepted (message.Log m)) y) (jump_noted m.host (floor_shown self m.host m.floor) x q))
        | inr (o, some) ↦ rw some q
      ]

  give_noted : (m : Message) (x : Progress) → Q x → Q (give self m x).left
  give_noted (message.Request m) x q = request_noted m x q
  give_noted (message.Prepare m) x q = stamped_noted (stamped.Prepare m) x q
  give_noted (message.Commit m) x q = stamped_noted (stamped.Commit m) x q
  give_noted (message.Reply m) x q = q
  give_noted (message.Checkpoint m) x q = stamped_noted (stamped.Checkpoint m) x q
  give_noted (message.ReqViewChange m) x q = wish_noted m x q
  give_noted (message.ViewChange m) x q = stamped_noted (stamped.ViewChange m) x q
  give_noted (message.NewView m) x q = stamped_noted (stamped.NewView m) x q
  give_noted (message.Enter m) x q = stamped_noted (stamped.Enter m) x q
  give_noted (message.Open m) x q = stamped_noted (stamped.Open m) x q
  give_noted (message.Join m) x q = stamped_noted (stamped.Join m) x q
  give_noted (message.Resend m) x q = resend_noted m x q
  give_noted (message.Log m) x q = log_noted m x q
  give_noted (message.Fetch m) x q = fetch_noted m x q
  give_noted (message.State m) x q = state_noted m x q
  give_noted (message.Stop m) x q = q

  -- ---- the rules

  served_noted : (pos : ℕ) (rs : List Request) (x : Progress) → Q x → Q (serve_all self pos rs x)
  served_noted pos rs x q = serves_keep self Q (λ p r y s. s) (λ c y s. s) pos rs x q

  checkpoint_noted : (pos : ℕ) (x : Progress) → Q x → Q (with_checkpoint self pos x)
  checkpoint_noted pos x q = elim (cases_Bool (has_room self x.history)) [ inl room ↦ rw room q | inr full ↦ rw full q ]

  interval_noted : (pos : ℕ) (x : Progress) → Q x → Q (at_interval self pos x)
  interval_noted pos x q = elim (cases_Bool (pos % interval self.shape == 0)) [
    | inl at ↦ rw at (checkpoint_noted pos (note (state_strings self x.history pos) x) (all_append IsNoted x.hashed (state_strings self x.history pos) q (own_strings x.history pos)))
    | inr between ↦ rw between q
  ]

  executed_noted : (pos : ℕ) (b : Batch) (x : Progress) → Q x → Q (execute self pos b x)
  unfolding execute
  executed_noted pos b x q = interval_noted pos (close_slot self pos (serve_all self pos b.requests x)) (served_noted pos b.requests x q)

  carried_noted : (r : Rule) (x : Progress) → Q x → Q (carry_out self r x)
  unfolding carry_out
  carried_noted (rule.ChangeView view) x q =
      noted (compared_in_own self (signed self x.history (view_change self x.history view))) (stamp self (view_change self x.history view) x) (in_own (signed self x.history (view_change self x.history view))) q
  carried_noted (rule.Announce changes) x q = noted (plan_text (plan_from self changes) ∷ []) (stamp self (new_view self x.history changes) x) (one_plan (plan_from self changes)) q
  carried_noted (rule.Enter n) x q = q
  carried_noted (rule.Open e plan) x q = noted (plan_text plan ∷ []) (stamp self (opening e plan) x) (one_plan plan) q
  carried_noted rule.Join x q = q
  carried_noted (rule.Commit pos k b) x q = q
  carried_noted (rule.Execute pos b) x q = executed_noted pos b x q
  carried_noted (rule.Prepare pos b) x q = q

  rules : KeepsRules self Q
  rules = record { sent = λ l x plain q. q; carried = λ r x next q. carried_noted r x q }

  -- ---- each event

  patience_noted : (x : Progress) → Q x → Q (on_patience self x).left
  unfolding on_patience
  patience_noted x q = elim (cases_Bool (view_of self x.history == view_limit)) [ inl last ↦ rw last q | inr below ↦ rw below q ]

  again_noted : (x : Progress) → Q x → Q (wish_again self x)
  again_noted x q = elim (cases_Bool (nat_lt (view_of self x.history) (wish_of self x.history self.host))) [ inl wishes ↦ rw wishes q | inr none ↦ rw none q ]

  nudge_noted : (x : Progress) → Q x → Q (on_nudge self x).left
  unfolding on_nudge
  nudge_noted x q = again_noted _ q

  bytes_noted : (d : History) (r : Result Message ℕ) → Q (on_bytes self r d).left
  bytes_noted d (Err at) = tt
  bytes_noted d (Ok m) = finished_keeps self Q rules _ _ d (give self m (begin d)) (give_noted m (begin d) tt)

  pub step_noted : (d : History) (e : Event) → Q (transition self d e).left
  unfolding transition
  step_noted d (event.Given bytes) = bytes_noted d (message_of self.shape bytes)
  step_noted d event.Patience = finished_keeps self Q rules _ _ d (on_patience self (begin d)) (patience_noted (begin d) tt)
  step_noted d event.Nudge = finished_keeps self Q rules true true d (on_nudge self (begin d)) (nudge_noted (begin d) tt)
