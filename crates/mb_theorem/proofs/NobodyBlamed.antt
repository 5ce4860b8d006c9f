-- No event that brings a correct host what correct hosts stamped is answered Illegal or Convicted.
--
-- Such an answer leaves the gate of the message's sender closed (`give_blames`), the rules open no gate (`rules_grow`), and in no world is a gate of a
-- correct host closed for a correct host.
use Rattle.std.proofs.Common.{◌≡◌, ℕ, zero, suc, Bool, true, false, not, List, [], ◌∷◌, refl, sym, ap, subst, ◌∙◌, inl, inr, ◌⊎◌, eqb, arith, Option, Some, None, Ok, Err}
use Rattle.std.specs.Prelude.{◌==◌, ◌&&◌, ◌||◌, is_some, is_none, option_map, Contains, Result}
use Rattle.std.specs.Bool.{then_some}
use Rattle.std.specs.Option.{option_or}
use Rattle.std.proofs.lemmas.Bool.{cases_Bool, eq-eqb}
use Rattle.std.proofs.lemmas.List.Elements.{Contains-append_right}
use Rattle.mb_base.specs.Shapes.{Bytes}
use Rattle.mb_base.specs.declared.names.Ui.{Ui}
use Rattle.mb_parts.specs.declared.request.Request.{Request}
use Rattle.mb_parts.specs.declared.batch.Batch.{Batch}
use Rattle.mb_parts.specs.Certificates.{is_stable}
use Rattle.mb_parts.specs.Rules.{rule_of, shut_before}
use Rattle.mb_msg.specs.declared.message.Body.{Body}
use Rattle.mb_msg.specs.declared.message.Body.TheVariants.{Whole, Bare as Short}
use Rattle.mb_msg.specs.declared.message.Message.{Message}
use Rattle.mb_msg.specs.declared.message.Message.TheVariants as message
use Rattle.mb_msg.specs.declared.normal.Stop.{Stop}
use Rattle.mb_msg.specs.declared.change.ReqViewChange.{ReqViewChange}
use Rattle.mb_msg.specs.declared.transfer.Resend.{Resend}
use Rattle.mb_msg.specs.declared.transfer.Log.{Log}
use Rattle.mb_msg.specs.declared.transfer.Fetch.{Fetch}
use Rattle.mb_msg.specs.declared.transfer.StateMsg.{StateMsg}
use Rattle.mb_msg.specs.declared.stamped.Stamped.{Stamped as StampedMessage}
use Rattle.mb_msg.specs.declared.stamped.Stamped.TheVariants as stamped
use Rattle.mb_msg.specs.Stamps.{bare_of, ui_of}
use Rattle.mb_msg.specs.Reading.{message_of}
use Rattle.mb_msg.specs.declared.event.Event.TheVariants as event
use Rattle.mb_msg.specs.declared.event.Outcome.{Outcome}
use Rattle.mb_msg.specs.declared.event.Outcome.TheVariants as outcome
use Rattle.mb_model.specs.UsableLogs.{Fault}
use Rattle.mb_model.specs.Service.{Served as ServedState}
use Rattle.mb_model.specs.Histories.{Entry, Accepted, Closed, Stamped, Served, Executed, History, Identity, closed_at}
use Rattle.mb_model.specs.Execution.{missing, state_from, parts_held}
use Rattle.mb_model.specs.Compared.{compared_in}
use Rattle.mb_model.specs.Sending.{Progress, begin, write, note, next_of}
use Rattle.mb_model.specs.GateChecks.{valid, is_bad_ui, is_own_future, conviction, is_stale, is_ahead, is_permitted, gate_refusal, identifier_refusal}
use Rattle.mb_model.specs.KindChecks.{unusable, only_where, body_refusal, vote_refusal, kind_refusal, stamped_refusal}
use Rattle.mb_model.specs.PlainChecks.{is_certified_floor, is_certified_evidence, number_refusal, request_refusal, wrong_digest, fault_of, bad_state, state_refusal, wish_refusal, resend_refusal, log_refusal, is_bad_stop, stop_answer}
use Rattle.mb_model.specs.EnabledRules.{Rule, next_rule}
use Rattle.mb_model.specs.EnabledRules as rule
use Rattle.mb_model.specs.CarriedOut.{carry_out, run_rules, enough}
use Rattle.mb_model.specs.Given.{Answer, answer_unless, closing, jump, floor_shown, go_on, give_entries, give_log, give_stamped, give_request, give_wish, give_resend, give_fetch, give_state, give}
use Rattle.mb_model.specs.Positions.{is_behind}
use Rattle.mb_model.specs.HostStep.{low_rose, with_fetch, finished_where, on_bytes, transition}
use Rattle.mb_model.proofs.Options.{option_cases, map_some}
use Rattle.mb_world_model.specs.WorldEvents.{IsCorrect}
use Rattle.mb_world_model.specs.World.{World, Seen, OfHost, System, self_of}
use Rattle.mb_promise.specs.Bounds.{IsBlameless}
use Rattle.mb_world_model.specs.EventsStep.{MakesStep}
use Rattle.mb_promise.specs.NoEventBlames.{stamps_in, is_blame, NoEventBlames}
use Rattle.mb_host_laws.proofs.KeptByEvents.{execution_keeps}
use Rattle.mb_theorem.proofs.EventsStep.{events_step}

-- ---- refusals that are no blame

abbrev IsMild : Option Outcome → Type 0
IsMild x = (o : Outcome) → x ≡ Some o → is_blame o ≡ true → ⊥

or_mild : (x y : Option Outcome) → IsMild x → IsMild y → IsMild (option_or x y)
or_mild None y a b = b
or_mild (Some x) y a b = a

where_mild : (t : Bool) (x : Option Outcome) → IsMild x → IsMild (only_where t x)
where_mild true x a = a
where_mild false x a = λ o e blame. absurd cc

same_some : (p o : Outcome) → Some p ≡ Some o → p ≡ o
same_some p o e = cc

some_mild : (p : Outcome) → is_blame p ≡ false → IsMild (Some p)
some_mild p mild o e blame = let c : false ≡ true = sym mild ∙ (ap is_blame (same_some p o e) ∙ blame) in absurd cc

then_mild : (t : Bool) (p : Outcome) → is_blame p ≡ false → IsMild (then_some t p)
then_mild true p mild = some_mild p mild
then_mild false p mild = λ o e blame. absurd cc

unusable_mild : (x : Option Fault) → IsMild (unusable x)
unusable_mild None = λ o e blame. absurd cc
unusable_mild (Some f) = some_mild (outcome.Unusable f.0 f.1) refl

digest_mild : (x : Option ℕ) → IsMild (wrong_digest x)
digest_mild None = λ o e blame. absurd cc
digest_mild (Some i) = some_mild (outcome.WrongDigest i) refl

mild_is : (o : Outcome) → (is_blame o ≡ true → ⊥) → is_blame o ≡ false
mild_is o none = elim (cases_Bool (is_blame o)) [
  | inl blame ↦ absurd (none blame)
  | inr mild ↦ mild
]

answered_mild : (o : Option Outcome) (a b : Progress) → IsMild o → is_blame (answer_unless o a b).outcome ≡ false
answered_mild None a b e = refl
answered_mild (Some o) a b e = mild_is o (e o refl)

module _ {S : Type 0} (self : Identity S) where
  -- The gate of this host is closed.
  abbrev IsShut : History → ℕ → Type 0
  IsShut d h = is_some (closed_at d h) ≡ true

  shut_more : (h : ℕ) (e : Entry) (d : History) → IsShut d h → IsShut (e ∷ d) h
  unfolding closed_at
  shut_more h (Closed g n) d s = elim (cases_Bool (eqb g h)) [
    | inl same ↦ rw same refl
    | inr other ↦ rw other s
  ]
  shut_more h e d s = s

  shut_here : (h n : ℕ) (d : History) → IsShut (Closed h n ∷ d) h
  unfolding closed_at
  shut_here h n d = rw (eq-eqb h h refl) refl

  -- ---- stamped messages

  body_mild : (d : History) (pos : ℕ) (b : Body Batch) → IsMild (body_refusal self d pos b)
  body_mild d pos (Whole b) = then_mild _ outcome.BadTag refl
  body_mild d pos (Short digest) = then_mild _ (outcome.NeedBody _ _) refl

  vote_mild : (d : History) (view pos : ℕ) (b : Body Batch) → IsMild (vote_refusal self d view pos b)
  unfolding vote_refusal
  vote_mild d view pos b = or_mild _ _ (then_mild _ (outcome.LaterView _) refl) (where_mild _ _ (or_mild _ _ (then_mild _ (outcome.BeyondWindow _) refl) (body_mild d pos b)))

  kind_mild : (d : History) (m : StampedMessage) → IsMild (kind_refusal self d m)
  kind_mild d (stamped.Prepare m) = vote_mild d m.view m.pos m.body
  kind_mild d (stamped.Commit m) = vote_mild d m.view m.pos m.body
  kind_mild d (stamped.Checkpoint m) = then_mild _ (outcome.BeyondWindow _) refl
  kind_mild d (stamped.ViewChange m) = where_mild _ _ (unusable_mild _)
  kind_mild d (stamped.NewView m) = where_mild _ _ (unusable_mild _)
  kind_mild d (stamped.Enter m) = λ o e blame. absurd cc
  kind_mild d (stamped.Open m) = where_mild _ _ (unusable_mild _)
  kind_mild d (stamped.Join m) = λ o e blame. absurd cc

  -- The gate was closed before, or this is what closes it.
  abbrev Condemns : History → ℕ → Outcome → Type 0
  Condemns d h o = IsShut d h ⊎ ((r : ℕ) × (o ≡ outcome.Illegal r))

  then_is : (t : Bool) (x o : Outcome) → then_some t x ≡ Some o → o ≡ x
  then_is true x o e = cc
  then_is false x o e = absurd cc

  shut_by : (c : Option ℕ) (n k : ℕ) → shut_before c n ≡ Some k → is_some c ≡ true
  shut_by None n k e = absurd cc
  shut_by (Some c) n k e = refl

  -- Blame by this refusal condemns.
  abbrev Condemning : History → ℕ → Option Outcome → Type 0
  Condemning d h x = (o : Outcome) → x ≡ Some o → is_blame o ≡ true → Condemns d h o

  or_condemns : (d : History) (h : ℕ) (x y : Option Outcome) → Condemning d h x → Condemning d h y → Condemning d h (option_or x y)
  or_condemns d h None y a b = b
  or_condemns d h (Some x) y a b = a

  mild_condemns : (d : History) (h : ℕ) (x : Option Outcome) → IsMild x → Condemning d h x
  mild_condemns d h x mild o e blame = absurd (mild o e blame)

  convicts : (d : History) (u : Ui) → Condemning d u.host (option_map outcome.Convicted (conviction self d u))
  convicts d u o e blame = let c = map_some outcome.Convicted (conviction self d u) o e in inl (shut_by (closed_at d u.host) u.counter c.0 c.1)

  illegal : (d : History) (h : ℕ) (t : Bool) (r : ℕ) → Condemning d h (then_some t (outcome.Illegal r))
  illegal d h t r o e blame = inr (r, then_is t (outcome.Illegal r) o e)

  gate_condemns : (d : History) (m : StampedMessage) → Condemning d (ui_of m).host (gate_refusal self d m)
  unfolding gate_refusal
  gate_condemns d m =
      let u : Ui = ui_of m in
      or_condemns d u.host (option_map outcome.Convicted (conviction self d u)) _ (convicts d u)
      (or_condemns d u.host (then_some (is_stale self d u) (outcome.Stale (next_of d u.host))) _ (mild_condemns d u.host _ (then_mild (is_stale self d u) (outcome.Stale (next_of d u.host)) refl))
      (or_condemns d u.host (then_some (is_ahead self d u) (outcome.Ahead (next_of d u.host))) (then_some (not (is_permitted self d m)) (outcome.Illegal (rule_of (bare_of m))))
      (mild_condemns d u.host _ (then_mild (is_ahead self d u) (outcome.Ahead (next_of d u.host)) refl)) (illegal d u.host (not (is_permitted self d m)) (rule_of (bare_of m)))))

  identifier_condemns : (d : History) (m : StampedMessage) → Condemning d (ui_of m).host (identifier_refusal self d m)
  unfolding identifier_refusal
  identifier_condemns d m =
      let h : ℕ = (ui_of m).host in
      or_condemns d h (then_some (is_bad_ui self m) outcome.BadUi) (option_or (then_some (is_own_future self d (ui_of m)) outcome.Idle) (gate_refusal self d m)) (mild_condemns d h _ (then_mild (is_bad_ui self m) outcome.BadUi refl))
      (or_condemns d h (then_some (is_own_future self d (ui_of m)) outcome.Idle) (gate_refusal self d m) (mild_condemns d h _ (then_mild (is_own_future self d (ui_of m)) outcome.Idle refl)) (gate_condemns d m))

  stamped_condemns : (d : History) (m : StampedMessage) → Condemning d (ui_of m).host (stamped_refusal self d m)
  unfolding stamped_refusal
  stamped_condemns d m = or_condemns d (ui_of m).host (identifier_refusal self d m) (kind_refusal self d m) (identifier_condemns d m) (mild_condemns d (ui_of m).host (kind_refusal self d m) (kind_mild d m))

  closing_shuts : (o : Outcome) (u : Ui) (x : Progress) → Condemns x.history u.host o → IsShut (closing o u x).history u.host
  closing_shuts (outcome.Illegal r) u x c = shut_here u.host u.counter x.history
  closing_shuts o u x (inl s) = s
  closing_shuts o u x (inr (r, e)) = absurd cc

  shuts : (m : StampedMessage) (x : Progress) → is_blame (give_stamped self m x).outcome ≡ true → IsShut (give_stamped self m x).left.history (ui_of m).host
  unfolding give_stamped
  shuts m x = elim (option_cases (stamped_refusal self x.history m)) [
    | inl none ↦ rw none (λ blame. absurd cc)
    | inr (o, some) ↦ rw some (λ blame. closing_shuts o (ui_of m) (note (compared_in self x.history m) x) (stamped_condemns x.history m o some blame))
  ]

  -- ---- what a message leaves

  -- Where the answer is blame, a gate is closed of the sender of one of these.
  abbrev pub BlamesOf : List StampedMessage → Answer → Type 0
  BlamesOf l a = is_blame a.outcome ≡ true → (x : StampedMessage) × Contains l x × IsShut a.left.history (ui_of x).host

  first_of : (m : StampedMessage) (l : List StampedMessage) → Contains (m ∷ l) m
  first_of m l = (0, omega arith, refl)

  one_blames : (m : StampedMessage) (x : Progress) → BlamesOf (m ∷ []) (give_stamped self m x)
  one_blames m x blame = (m, first_of m [], shuts m x blame)

  more_of : (m : StampedMessage) (l : List StampedMessage) (a : Answer) → BlamesOf l a → BlamesOf (m ∷ l) a
  more_of m l a f blame = let r = f blame in (r.0, Contains-append_right (m ∷ []) l r.0 r.1, r.2)

  go_blames : (m : StampedMessage) (ms : List StampedMessage) (o : Outcome) (x : Progress) (more : Progress → Answer) → ((y : Progress) → BlamesOf ms (more y))
      → (is_blame o ≡ true → IsShut x.history (ui_of m).host) → BlamesOf (m ∷ ms) (go_on self o x more)
  go_blames m ms outcome.Took x more f s = more_of m ms (more x) (f x)
  go_blames m ms (outcome.Stale next) x more f s = more_of m ms (more x) (f x)
  go_blames m ms outcome.Idle x more f s = more_of m ms (more x) (f x)
  go_blames m ms o x more f s = λ blame. (m, first_of m ms, s blame)

  entries_blame : (ms : List StampedMessage) (x : Progress) → BlamesOf ms (give_entries self ms x)
  unfolding give_entries
  entries_blame [] x = λ blame. absurd cc
  entries_blame (m ∷ ms) x = go_blames m ms (give_stamped self m x).outcome (give_stamped self m x).left (λ y. give_entries self ms y) (λ y. entries_blame ms y) (shuts m x)

  log_mild : (m : Log) → IsMild (log_refusal self m)
  unfolding log_refusal
  log_mild m =
      or_mild (then_some (not (is_certified_floor self m.host m.floor)) (outcome.Unusable 0 1)) _ (then_mild _ (outcome.Unusable 0 1) refl)
      (or_mild (then_some (not (is_stable self.shape (valid self) m.stable)) (outcome.Unusable 0 2)) _ (then_mild _ (outcome.Unusable 0 2) refl)
      (or_mild (then_some (not (is_certified_evidence self m.evidence)) (outcome.Unusable 0 12)) (then_some (m.host == self.host) outcome.Idle) (then_mild _ (outcome.Unusable 0 12) refl) (then_mild (m.host == self.host) outcome.Idle refl)))

  log_blames : (m : Log) (x : Progress) → BlamesOf m.entries (give_log self m x)
  unfolding give_log
  log_blames m x = elim (option_cases (log_refusal self m)) [
    | inl none ↦ rw none (entries_blame m.entries (write (Accepted (message.Log m)) (jump self m.host (floor_shown self m.host m.floor) x)))
    | inr (o, some) ↦ rw some (λ blame. absurd (log_mild m o some blame))
  ]

  -- ---- the kinds that are never answered with blame

  request_all : (d : History) (r : Request) → IsMild (request_refusal self d r)
  unfolding request_refusal number_refusal
  request_all d r = or_mild _ _ (then_mild _ outcome.BadTag refl) (or_mild _ _ (then_mild _ (outcome.Old _) refl) (or_mild _ _ (then_mild _ outcome.Again refl) (then_mild _ outcome.Idle refl)))

  request_mild : (r : Request) (x : Progress) → is_blame (give_request self r x).outcome ≡ false
  unfolding give_request
  request_mild r x = elim (option_cases (request_refusal self x.history r)) [
    | inl none ↦ rw none refl
    | inr (o, some) ↦ go o some
  ] where
    go : (o : Outcome) → request_refusal self x.history r ≡ Some o → is_blame (give_request self r x).outcome ≡ false
    go outcome.Again some = rw some refl
    go o some = rw some (mild_is o (request_all x.history r o some))

  wish_mild : (m : ReqViewChange) (x : Progress) → is_blame (give_wish self m x).outcome ≡ false
  unfolding give_wish wish_refusal
  wish_mild m x = answered_mild _ _ _ (or_mild _ _ (then_mild _ outcome.BadTag refl) (then_mild _ outcome.Idle refl))

  resend_mild : (m : Resend) (x : Progress) → is_blame (give_resend self m x).outcome ≡ false
  unfolding give_resend resend_refusal
  resend_mild m x = answered_mild _ _ _ (or_mild _ _ (then_mild _ outcome.Idle refl) (then_mild _ outcome.Idle refl))

  fetch_mild : (m : Fetch) (x : Progress) → is_blame (give_fetch self m x).outcome ≡ false
  unfolding give_fetch
  fetch_mild m x = answered_mild _ _ _ (then_mild _ outcome.Idle refl)

  fault_mild : (r : Result (ServedState S) (ℕ × ℕ)) → IsMild (fault_of self r)
  fault_mild (Ok x) = λ o e blame. absurd cc
  fault_mild (Err f) = some_mild (outcome.BadState f.0 f.1) refl

  bad_mild : (d : History) → IsMild (bad_state self d)
  bad_mild d = elim (cases_Bool (is_none (missing self d))) [
    | inl all ↦ rw all (fault_mild (state_from self (parts_held self d)))
    | inr some ↦ rw some (λ o e blame. absurd cc)
  ]

  state_all : (d : History) (m : StateMsg) → IsMild (state_refusal self d m)
  unfolding state_refusal
  state_all d m = or_mild _ _ (then_mild _ outcome.Idle refl) (or_mild _ _ (then_mild _ (outcome.WrongDigest _) refl) (or_mild _ _ (digest_mild _) (or_mild _ _ (then_mild _ outcome.Idle refl) (bad_mild _))))

  state_mild : (m : StateMsg) (x : Progress) → is_blame (give_state self m x).outcome ≡ false
  unfolding give_state
  state_mild m x = elim (option_cases (state_refusal self x.history m)) [
    | inl none ↦ rw none refl
    | inr (o, some) ↦ go o some
  ] where
    go : (o : Outcome) → state_refusal self x.history m ≡ Some o → is_blame (give_state self m x).outcome ≡ false
    go (outcome.BadState part at) some = rw some refl
    go o some = rw some (mild_is o (state_all x.history m o some))

  stop_mild : (m : Stop) → is_blame (stop_answer self m) ≡ false
  stop_mild m = elim (cases_Bool (is_bad_stop self m)) [
    | inl bad ↦ rw bad refl
    | inr good ↦ rw good refl
  ]

  never : (l : List StampedMessage) (a : Answer) → is_blame a.outcome ≡ false → BlamesOf l a
  never l a mild blame = let c : false ≡ true = sym mild ∙ blame in absurd cc

  give_blames : (m : Message) (x : Progress) → BlamesOf (stamps_in m) (give self m x)
  give_blames (message.Request m) x = never [] (give_request self m x) (request_mild m x)
  give_blames (message.Prepare m) x = one_blames (stamped.Prepare m) x
  give_blames (message.Commit m) x = one_blames (stamped.Commit m) x
  give_blames (message.Reply m) x = never [] (give self (message.Reply m) x) refl
  give_blames (message.Checkpoint m) x = one_blames (stamped.Checkpoint m) x
  give_blames (message.ReqViewChange m) x = never [] (give_wish self m x) (wish_mild m x)
  give_blames (message.ViewChange m) x = one_blames (stamped.ViewChange m) x
  give_blames (message.NewView m) x = one_blames (stamped.NewView m) x
  give_blames (message.Enter m) x = one_blames (stamped.Enter m) x
  give_blames (message.Open m) x = one_blames (stamped.Open m) x
  give_blames (message.Join m) x = one_blames (stamped.Join m) x
  give_blames (message.Resend m) x = never [] (give_resend self m x) (resend_mild m x)
  give_blames (message.Log m) x = log_blames m x
  give_blames (message.Fetch m) x = never [] (give_fetch self m x) (fetch_mild m x)
  give_blames (message.State m) x = never [] (give_state self m x) (state_mild m x)
  give_blames (message.Stop m) x = never [] (give self (message.Stop m) x) (stop_mild m)

  -- ---- the rules open no gate

  carried_grows : (h : ℕ) (r : Rule) (x : Progress) → IsShut x.history h → IsShut (carry_out self r x).history h
  unfolding carry_out
  carried_grows h (rule.Execute p b) x s =
      execution_keeps self (λ (d : History). IsShut d h) (λ m d n r y. shut_more h (Stamped m) d y) (λ q p d y. shut_more h (Served q p) d y) (λ p d y. shut_more h (Executed p) d y) p b x s
  carried_grows h r x s = shut_more h _ x.history s

  rules_grow : (h n : ℕ) (x : Progress) → IsShut x.history h → IsShut (run_rules self n x).history h
  unfolding run_rules
  rules_grow h zero x s = s
  rules_grow h (suc n) x s = elim (option_cases (next_rule self x.history)) [
    | inl none ↦ rw none s
    | inr (r, some) ↦ rw some (rules_grow h n (carry_out self r x) (carried_grows h r x s))
  ]

  fetch_grows : (h : ℕ) (asks : Bool) (d : History) (x : Progress) → IsShut x.history h → IsShut (with_fetch self asks d x).history h
  fetch_grows h asks d x s = elim (cases_Bool (is_behind self x.history && (asks || low_rose self d x.history))) [
    | inl does ↦ rw does s
    | inr not_so ↦ rw not_so s
  ]

  finished_blames : (l : List StampedMessage) (runs asks : Bool) (d : History) (a : Answer) → BlamesOf l a → BlamesOf l (finished_where self runs asks d a)
  finished_blames l true asks d a f blame = let r = f blame in (r.0, r.1, fetch_grows _ asks d (run_rules self enough a.left) (rules_grow _ enough a.left r.2))
  finished_blames l false asks d a f blame = f blame

  pub transition_blames : (d : History) (bytes : Bytes) (m : Message) → message_of self.shape bytes ≡ Ok m → BlamesOf (stamps_in m) (transition self d (event.Given bytes))
  unfolding transition
  transition_blames d bytes m reads =
      subst (λ (r : Result Message ℕ). BlamesOf (stamps_in m) (on_bytes self r d)) (sym reads)
      (finished_blames (stamps_in m) _ _ d (give self m (begin d)) (give_blames m (begin d)))

-- ---- in the world

module _ {S : Type 0} (system : System S) where
  -- The answer to what comes to a correct host, where no gate of a correct host is closed behind it.
  pub no_event_blames : (w : World) → IsBlameless system w → NoEventBlames system w
  no_event_blames w free before e h bytes m o leads comes correct reads senders seen = go (is_blame o) refl where
    step : MakesStep system h (event.Given bytes) before w
    step = subst (λ (v : World). MakesStep system h (event.Given bytes) before v) leads ((events_step system before).steps e h (event.Given bytes) comes correct)

    same : (a b : Outcome) (l : List Seen) → OfHost a ∷ l ≡ OfHost b ∷ l → a ≡ b
    same a b l e = cc

    answered : (transition (self_of system h) (before.histories h) (event.Given bytes)).outcome ≡ o
    answered = same _ o before.seen (sym step.answers ∙ seen)

    open_still : (x : StampedMessage) → IsCorrect system.schedule (ui_of x).host → IsShut (self_of system h) (w.histories h) (ui_of x).host → ⊥
    open_still x honest shut = let c = rw (free.free h (ui_of x).host correct honest) at shut in absurd cc

    go : (t : Bool) → is_blame o ≡ t → is_blame o ≡ false
    go false e = e
    go true e =
        let r = transition_blames (self_of system h) (before.histories h) bytes m reads (ap is_blame answered ∙ e) in
        absurd (open_still r.0 (senders r.0 r.1) (subst (λ (d : History). IsShut (self_of system h) d (ui_of r.0).host) (sym step.history) r.2))
