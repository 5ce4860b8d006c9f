-- A message is taken exactly where it passes its tests.
use Rattle.std.proofs.Common.{◌≡◌, ℕ, ◌+◌, Bool, true, false, ◌||◌, not, ◌∷◌, refl, sym, ap, ◌∙◌, arith, inl, inr, Option, Some, None, Ok, Err}
use Rattle.std.specs.Prelude.{is_some, is_none, option_map, ◌↔◌, Result}
use Rattle.std.specs.Bool.{then_some}
use Rattle.std.specs.Option.{option_or}
use Rattle.std.proofs.lemmas.Bool.{ltb-true, lt-leb, le-ltb, ne_eqb}
use Rattle.mb_base.specs.Shapes.{Bytes}
use Rattle.mb_base.specs.declared.names.Ui.{Ui}
use Rattle.mb_parts.specs.declared.request.Request.{Request}
use Rattle.mb_parts.specs.declared.batch.Batch.{Batch}
use Rattle.mb_msg.specs.declared.message.Body.{Body}
use Rattle.mb_msg.specs.declared.message.Body.TheVariants.{Whole, Bare as Short}
use Rattle.mb_msg.specs.declared.message.Message.{Message}
use Rattle.mb_msg.specs.declared.message.Message.TheVariants as message
use Rattle.mb_msg.specs.declared.normal.Stop.{Stop}
use Rattle.mb_msg.specs.declared.change.ReqViewChange.{ReqViewChange}
use Rattle.mb_msg.specs.declared.transfer.Resend.{Resend}
use Rattle.mb_msg.specs.declared.transfer.Fetch.{Fetch}
use Rattle.mb_msg.specs.declared.transfer.StateMsg.{StateMsg}
use Rattle.mb_msg.specs.declared.stamped.Stamped.{Stamped as StampedMessage}
use Rattle.mb_msg.specs.declared.stamped.Stamped.TheVariants as stamped
use Rattle.mb_msg.specs.Stamps.{ui_of}
use Rattle.mb_msg.specs.Reading.{message_of}
use Rattle.mb_msg.specs.declared.event.Event.TheVariants as event
use Rattle.mb_msg.specs.declared.event.Outcome.{Outcome}
use Rattle.mb_msg.specs.declared.event.Outcome.TheVariants as outcome
use Rattle.mb_model.specs.UsableLogs.{Fault}
use Rattle.mb_model.specs.Histories.{Accepted, History, Identity, gate}
use Rattle.mb_model.specs.Held.{wish_of}
use Rattle.mb_model.specs.Execution.{missing}
use Rattle.mb_model.specs.Service.{Served}
use Rattle.mb_model.specs.Sending.{Progress, begin}
use Rattle.mb_model.specs.GateChecks.{is_stale, is_ahead, is_permitted, gate_refusal, identifier_refusal}
use Rattle.mb_model.specs.KindChecks.{unusable, only_where, is_of_view, body_refusal, vote_refusal, kind_refusal, stamped_refusal}
use Rattle.mb_model.specs.PlainChecks.{last_seq, number_refusal, request_refusal, fetch_refusal, wrong_digest, fault_of, state_refusal, wish_refusal, resend_refusal, is_bad_stop, stop_answer}
use Rattle.mb_model.specs.Passed.{PassesGate, PassesBody, PassesVote, PassesKind, PassesStamped, PassesRequest, PassesWish, PassesResend, PassesFetch, PassesState, Passes}
use Rattle.mb_model.specs.Given.{Answer, give_stamped, give_request, give_wish, give_resend, give_fetch, give_state, give}
use Rattle.mb_model.specs.HostStep.{finished_where, rules_follow, asks_on, transition}
use Rattle.mb_model.proofs.Options.{option_cases, of_both}
use Rattle.mb_steps.proofs.StepPassed.{passes_stamped, passes_request, passes_wish, passes_resend, passes_fetch, passes_state}
use Rattle.mb_world_model.specs.World.{System, self_of}
use Rattle.mb_world_model.specs.WorldSteps.{world}
use Rattle.mb_promise.specs.NothingLeft.{IsNoLog, TakesWhatPasses}

-- ---- no refusal says that the message was taken

abbrev IsRefusal : Option Outcome → Type 0
IsRefusal x = x ≡ Some outcome.Took → ⊥

or_refuses : (x y : Option Outcome) → IsRefusal x → IsRefusal y → IsRefusal (option_or x y)
or_refuses None y a b = b
or_refuses (Some x) y a b = a

where_refuses : (t : Bool) (x : Option Outcome) → IsRefusal x → IsRefusal (only_where t x)
where_refuses true x a = a
where_refuses false x a = λ e. absurd cc

then_refuses : (t : Bool) (o : Outcome) → IsRefusal (Some o) → IsRefusal (then_some t o)
then_refuses true o a = a
then_refuses false o a = λ e. absurd cc

unusable_refuses : (x : Option Fault) → IsRefusal (unusable x)
unusable_refuses None e = absurd cc
unusable_refuses (Some f) e = absurd cc

convicted_refuses : (x : Option ℕ) → IsRefusal (option_map outcome.Convicted x)
convicted_refuses None e = absurd cc
convicted_refuses (Some n) e = absurd cc

digest_refuses : (x : Option ℕ) → IsRefusal (wrong_digest x)
digest_refuses None e = absurd cc
digest_refuses (Some n) e = absurd cc

-- ---- a chain of tests that all pass

or_both : (x y : Option Outcome) → x ≡ None → y ≡ None → option_or x y ≡ None
or_both None y a b = b
or_both (Some x) y a b = absurd cc

none_where : (t : Bool) (o : Outcome) → t ≡ false → then_some t o ≡ None
none_where false o e = refl
none_where true o e = absurd cc

none_if : (t : Bool) (x : Option Outcome) → (t ≡ true → x ≡ None) → only_where t x ≡ None
none_if true x f = f refl
none_if false x f = refl

passes_not : (t : Bool) → t ≡ true → not t ≡ false
passes_not true e = refl
passes_not false e = absurd cc

both_false : (a b : Bool) → a ≡ false → b ≡ false → (a || b) ≡ false
both_false false b x y = y
both_false true b x y = absurd cc

not_none : {A : Type 0} (o : Option A) → is_some o ≡ true → is_none o ≡ false
not_none (Some x) e = refl
not_none None e = absurd cc

-- the outcome where this is the refusal
abbrev outcome_of : Option Outcome → Outcome
outcome_of None = outcome.Took
outcome_of (Some o) = o

taken : (r : Option Outcome) → IsRefusal r → outcome_of r ≡ outcome.Took → r ≡ None
taken None a e = refl
taken (Some o) a e = absurd (a (ap (λ (x : Outcome). Some x) e))

module _ {S : Type 0} (self : Identity S) where
  -- ---- stamped messages

  gate_passed : (d : History) (m : StampedMessage) → PassesGate self d m → identifier_refusal self d m ≡ None
  unfolding identifier_refusal gate_refusal
  gate_passed d m p =
      let u : Ui = ui_of m in
      let next = p.next in
      let stale : is_stale self d u ≡ false = lt-leb u.counter (gate d u.host).counter (omega (arith, next)) in
      let ahead : is_ahead self d u ≡ false = le-ltb ((gate d u.host).counter + 1) u.counter (omega (arith, next)) in
      or_both _ _ (none_where _ _ (passes_not _ p.certified)) (or_both _ _ (none_where _ _ p.not_future) (or_both _ _ (ap (λ (x : Option ℕ). option_map outcome.Convicted x) p.not_convicted)
      (or_both _ _ (none_where _ _ stale) (or_both _ _ (none_where _ _ ahead) (none_where _ _ (passes_not (is_permitted self d m) p.permitted))))))

  body_passed : (d : History) (pos : ℕ) (b : Body Batch) → PassesBody self d pos b → body_refusal self d pos b ≡ None
  body_passed d pos (Whole b) p = none_where _ _ p
  body_passed d pos (Short digest) p = none_where _ _ p

  vote_passed : (d : History) (view pos : ℕ) (b : Body Batch) → PassesVote self d view pos b → vote_refusal self d view pos b ≡ None
  unfolding vote_refusal
  vote_passed d view pos b p =
      or_both _ _ (none_where _ _ p.not_later) (none_if (is_of_view self d view) _ (λ there. or_both _ _ (none_where _ _ (p.within there)) (body_passed d pos b (p.shown there))))

  usable : (x : Option Fault) → x ≡ None → unusable x ≡ None
  usable None e = refl
  usable (Some f) e = absurd cc

  kind_passed : (d : History) (m : StampedMessage) → PassesKind self d m → kind_refusal self d m ≡ None
  kind_passed d (stamped.Prepare m) p = vote_passed d m.view m.pos m.body p
  kind_passed d (stamped.Commit m) p = vote_passed d m.view m.pos m.body p
  kind_passed d (stamped.Checkpoint m) p = none_where _ _ p
  kind_passed d (stamped.ViewChange m) p = none_if _ _ (λ now. usable _ (p now))
  kind_passed d (stamped.NewView m) p = none_if _ _ (λ now. usable _ (p now))
  kind_passed d (stamped.Enter m) p = refl
  kind_passed d (stamped.Open m) p = none_if _ _ (λ now. usable _ (p now))
  kind_passed d (stamped.Join m) p = refl

  -- What passed is not refused.
  pub stamped_passed : (d : History) (m : StampedMessage) → PassesStamped self d m → stamped_refusal self d m ≡ None
  unfolding stamped_refusal
  stamped_passed d m p = or_both _ _ (gate_passed d m p.gate) (kind_passed d m p.kind)

  identifier_refuses : (d : History) (m : StampedMessage) → IsRefusal (identifier_refusal self d m)
  unfolding identifier_refusal gate_refusal
  identifier_refuses d m =
      or_refuses _ _ (then_refuses _ outcome.BadUi (λ e. absurd cc)) (or_refuses _ _ (then_refuses _ outcome.Idle (λ e. absurd cc)) (or_refuses _ _ (convicted_refuses _)
      (or_refuses _ _ (then_refuses _ (outcome.Stale _) (λ e. absurd cc)) (or_refuses _ _ (then_refuses _ (outcome.Ahead _) (λ e. absurd cc)) (then_refuses _ (outcome.Illegal _) (λ e. absurd cc))))))

  body_refuses : (d : History) (pos : ℕ) (b : Body Batch) → IsRefusal (body_refusal self d pos b)
  body_refuses d pos (Whole b) = then_refuses _ outcome.BadTag (λ e. absurd cc)
  body_refuses d pos (Short digest) = then_refuses _ (outcome.NeedBody _ _) (λ e. absurd cc)

  vote_refuses : (d : History) (view pos : ℕ) (b : Body Batch) → IsRefusal (vote_refusal self d view pos b)
  unfolding vote_refusal
  vote_refuses d view pos b = or_refuses _ _ (then_refuses _ (outcome.LaterView _) (λ e. absurd cc)) (where_refuses _ _ (or_refuses _ _ (then_refuses _ (outcome.BeyondWindow _) (λ e. absurd cc)) (body_refuses d pos b)))

  kind_refuses : (d : History) (m : StampedMessage) → IsRefusal (kind_refusal self d m)
  kind_refuses d (stamped.Prepare m) = vote_refuses d m.view m.pos m.body
  kind_refuses d (stamped.Commit m) = vote_refuses d m.view m.pos m.body
  kind_refuses d (stamped.Checkpoint m) = then_refuses _ (outcome.BeyondWindow _) (λ e. absurd cc)
  kind_refuses d (stamped.ViewChange m) = where_refuses _ _ (unusable_refuses _)
  kind_refuses d (stamped.NewView m) = where_refuses _ _ (unusable_refuses _)
  kind_refuses d (stamped.Enter m) = λ e. absurd cc
  kind_refuses d (stamped.Open m) = where_refuses _ _ (unusable_refuses _)
  kind_refuses d (stamped.Join m) = λ e. absurd cc

  stamped_refuses : (d : History) (m : StampedMessage) → IsRefusal (stamped_refusal self d m)
  unfolding stamped_refusal
  stamped_refuses d m = or_refuses _ _ (identifier_refuses d m) (kind_refuses d m)

  stamped_outcome : (m : StampedMessage) (x : Progress) → (give_stamped self m x).outcome ≡ outcome_of (stamped_refusal self x.history m)
  unfolding give_stamped
  stamped_outcome m x = elim (option_cases (stamped_refusal self x.history m)) [
    | inl none ↦ rw none refl
    | inr (o, some) ↦ rw some refl
  ]

  -- ---- the others

  pub request_passed : (d : History) (r : Request) → PassesRequest self d r → request_refusal self d r ≡ None
  unfolding request_refusal number_refusal
  request_passed d r p =
      let above = ltb-true (last_seq self d r.client) r.seq p.fresh in
      or_both _ _ (none_where _ _ p.tagged) (or_both _ _ (none_where _ _ (le-ltb r.seq (last_seq self d r.client) (omega (arith, above))))
      (or_both _ _ (none_where _ _ (ne_eqb r.seq (last_seq self d r.client) (λ e. omega (arith, above, e)))) (none_where _ _ p.above)))

  request_refuses : (d : History) (r : Request) → IsRefusal (request_refusal self d r)
  unfolding request_refusal number_refusal
  request_refuses d r = or_refuses _ _ (then_refuses _ outcome.BadTag (λ e. absurd cc)) (or_refuses _ _ (then_refuses _ (outcome.Old _) (λ e. absurd cc)) (or_refuses _ _ (then_refuses _ outcome.Again (λ e. absurd cc)) (then_refuses _ outcome.Idle (λ e. absurd cc))))

  request_outcome : (r : Request) (x : Progress) → (give_request self r x).outcome ≡ outcome_of (request_refusal self x.history r)
  unfolding give_request
  request_outcome r x = elim (option_cases (request_refusal self x.history r)) [
    | inl none ↦ rw none refl
    | inr (o, some) ↦ go o some
  ] where
    go : (o : Outcome) → request_refusal self x.history r ≡ Some o → (give_request self r x).outcome ≡ outcome_of (request_refusal self x.history r)
    go outcome.Again some = rw some refl
    go o some = rw some refl

  pub wish_passed : (d : History) (m : ReqViewChange) → PassesWish self d m → wish_refusal self d m ≡ None
  unfolding wish_refusal
  wish_passed d m p = or_both _ _ (none_where _ _ p.tagged) (none_where _ _ (lt-leb m.view (wish_of self d m.host) (ltb-true _ _ p.above)))

  wish_refuses : (d : History) (m : ReqViewChange) → IsRefusal (wish_refusal self d m)
  unfolding wish_refusal
  wish_refuses d m = or_refuses _ _ (then_refuses _ outcome.BadTag (λ e. absurd cc)) (then_refuses _ outcome.Idle (λ e. absurd cc))

  wish_outcome : (m : ReqViewChange) (x : Progress) → (give_wish self m x).outcome ≡ outcome_of (wish_refusal self x.history m)
  unfolding give_wish
  wish_outcome m x = elim (option_cases (wish_refusal self x.history m)) [
    | inl none ↦ rw none refl
    | inr (o, some) ↦ rw some refl
  ]

  pub resend_passed : (d : History) (m : Resend) → PassesResend self d m → resend_refusal self d m ≡ None
  unfolding resend_refusal
  resend_passed d m p = or_both _ _ (none_where _ _ p.not_own) (none_where _ _ (passes_not _ p.has_news))

  resend_refuses : (d : History) (m : Resend) → IsRefusal (resend_refusal self d m)
  unfolding resend_refusal
  resend_refuses d m = or_refuses _ _ (then_refuses _ outcome.Idle (λ e. absurd cc)) (then_refuses _ outcome.Idle (λ e. absurd cc))

  resend_outcome : (m : Resend) (x : Progress) → (give_resend self m x).outcome ≡ outcome_of (resend_refusal self x.history m)
  unfolding give_resend
  resend_outcome m x = elim (option_cases (resend_refusal self x.history m)) [
    | inl none ↦ rw none refl
    | inr (o, some) ↦ rw some refl
  ]

  pub fetch_passed : (d : History) (m : Fetch) → PassesFetch self d m → fetch_refusal self d m ≡ None
  fetch_passed d m p = none_where _ _ (both_false _ _ (passes_not _ p.asked) (not_none _ p.has_snapshot))

  fetch_refuses : (d : History) (m : Fetch) → IsRefusal (fetch_refusal self d m)
  fetch_refuses d m = then_refuses _ outcome.Idle (λ e. absurd cc)

  fetch_outcome : (m : Fetch) (x : Progress) → (give_fetch self m x).outcome ≡ outcome_of (fetch_refusal self x.history m)
  unfolding give_fetch
  fetch_outcome m x = elim (option_cases (fetch_refusal self x.history m)) [
    | inl none ↦ rw none refl
    | inr (o, some) ↦ rw some refl
  ]

  pub state_passed : (d : History) (m : StateMsg) → PassesState self d m → state_refusal self d m ≡ None
  unfolding state_refusal
  state_passed d m p =
      or_both _ _ (none_where _ _ (passes_not _ p.wanted)) (or_both _ _ (none_where _ _ (passes_not _ p.list)) (or_both _ _ (ap wrong_digest p.parts) (or_both _ _ (none_where _ _ p.not_held) p.state)))

  fault_refuses : (x : Result (Served S) (ℕ × ℕ)) → IsRefusal (fault_of self x)
  fault_refuses (Ok x) e = absurd cc
  fault_refuses (Err f) e = absurd cc

  state_refuses : (d : History) (m : StateMsg) → IsRefusal (state_refusal self d m)
  unfolding state_refusal
  state_refuses d m =
      or_refuses _ _ (then_refuses _ outcome.Idle (λ e. absurd cc)) (or_refuses _ _ (then_refuses _ (outcome.WrongDigest _) (λ e. absurd cc)) (or_refuses _ _ (digest_refuses _) (or_refuses _ _ (then_refuses _ outcome.Idle (λ e. absurd cc))
      (of_both IsRefusal (is_none (missing self (Accepted (message.State m) ∷ d))) _ None (fault_refuses _) (λ e. absurd cc)))))

  state_outcome : (m : StateMsg) (x : Progress) → (give_state self m x).outcome ≡ outcome_of (state_refusal self x.history m)
  unfolding give_state
  state_outcome m x = elim (option_cases (state_refusal self x.history m)) [
    | inl none ↦ rw none refl
    | inr (o, some) ↦ go o some
  ] where
    go : (o : Outcome) → state_refusal self x.history m ≡ Some o → (give_state self m x).outcome ≡ outcome_of (state_refusal self x.history m)
    go (outcome.BadState part at) some = rw some refl
    go o some = rw some refl

  stop_refuses : (m : Stop) → stop_answer self m ≡ outcome.Took → ⊥
  stop_refuses m = of_both (λ (o : Outcome). o ≡ outcome.Took → ⊥) (is_bad_stop self m) outcome.BadTag outcome.Stopping (λ e. absurd cc) (λ e. absurd cc)

  -- ---- any message

  -- An outcome is that of a refusal, which is there exactly where something fails.
  exactly : (o : Outcome) (r : Option Outcome) (P : Type 0) → o ≡ outcome_of r → IsRefusal r → (r ≡ None → P) → (P → r ≡ None) → (o ≡ outcome.Took) ↔ P
  exactly o r P is refuses passes passed = (λ e. passes (taken r refuses (sym is ∙ e)), λ p. is ∙ ap outcome_of (passed p))

  stamped_exactly : (d : History) (m : StampedMessage) → ((give_stamped self m (begin d)).outcome ≡ outcome.Took) ↔ PassesStamped self d m
  stamped_exactly d m = exactly _ _ _ (stamped_outcome m (begin d)) (stamped_refuses d m) (passes_stamped self d m) (stamped_passed d m)

  given_exactly : (d : History) (m : Message) → IsNoLog self d m → ((give self m (begin d)).outcome ≡ outcome.Took) ↔ Passes self d m
  given_exactly d (message.Request m) n = exactly _ _ _ (request_outcome m (begin d)) (request_refuses d m) (passes_request self d m) (request_passed d m)
  given_exactly d (message.Prepare m) n = stamped_exactly d (stamped.Prepare m)
  given_exactly d (message.Commit m) n = stamped_exactly d (stamped.Commit m)
  given_exactly d (message.Reply m) n = (λ e. absurd cc, λ p. absurd p)
  given_exactly d (message.Checkpoint m) n = stamped_exactly d (stamped.Checkpoint m)
  given_exactly d (message.ReqViewChange m) n = exactly _ _ _ (wish_outcome m (begin d)) (wish_refuses d m) (passes_wish self d m) (wish_passed d m)
  given_exactly d (message.ViewChange m) n = stamped_exactly d (stamped.ViewChange m)
  given_exactly d (message.NewView m) n = stamped_exactly d (stamped.NewView m)
  given_exactly d (message.Enter m) n = stamped_exactly d (stamped.Enter m)
  given_exactly d (message.Open m) n = stamped_exactly d (stamped.Open m)
  given_exactly d (message.Join m) n = stamped_exactly d (stamped.Join m)
  given_exactly d (message.Resend m) n = exactly _ _ _ (resend_outcome m (begin d)) (resend_refuses d m) (passes_resend self d m) (resend_passed d m)
  given_exactly d (message.Log m) n = absurd n
  given_exactly d (message.Fetch m) n = exactly _ _ _ (fetch_outcome m (begin d)) (fetch_refuses d m) (passes_fetch self d m) (fetch_passed d m)
  given_exactly d (message.State m) n = exactly _ _ _ (state_outcome m (begin d)) (state_refuses d m) (passes_state self d m) (state_passed d m)
  given_exactly d (message.Stop m) n = (λ e. absurd (stop_refuses m e), λ p. absurd p)

  finished_outcome : (runs asks : Bool) (d : History) (a : Answer) → (finished_where self runs asks d a).outcome ≡ a.outcome
  finished_outcome true asks d a = refl
  finished_outcome false asks d a = refl

  -- The outcome of bytes is that of the message in them.
  given_outcome : (d : History) (bytes : Bytes) (m : Message) → message_of self.shape bytes ≡ Ok m → (transition self d (event.Given bytes)).outcome ≡ (give self m (begin d)).outcome
  unfolding transition
  given_outcome d bytes m is =
      rw is (finished_outcome (rules_follow self (give self m (begin d)).outcome m) (asks_on self m) d (give self m (begin d)))

  -- A message is taken exactly where it passes.
  pub takes_what_passes : (d : History) → TakesWhatPasses self d
  takes_what_passes d bytes m is no_log =
      let same = given_outcome d bytes m is in
      let t = given_exactly d m no_log in
      (λ e. t.0 (sym same ∙ e), λ p. same ∙ t.1 p)

-- In each world each host takes exactly what passes.
pub hosts_take_what_passes : {S : Type 0} (system : System S) → (k h : ℕ) → TakesWhatPasses (self_of system h) ((world system k).histories h)
hosts_take_what_passes system k h = takes_what_passes (self_of system h) ((world system k).histories h)
