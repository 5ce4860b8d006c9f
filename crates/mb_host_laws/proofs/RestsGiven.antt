-- A given message leaves a history each entry of which rests on it, on what was noted and on what was sent.
--
-- The step is walked through once, as for the tests that messages pass: what is accepted is the given message, a stamped message that it brings or
-- the PREPARE that a COMMIT names (`stamped_rests`); the strings that its check compares were noted before; a gate that closes has seen the next
-- message of its sender, which may not stand there (`convicts`); a gate that jumps was shown a floor certificate (`log_rests`).
use Rattle.std.proofs.Common.{◌≡◌, ℕ, ◌+◌, ◌⊎◌, Bool, true, false, ◌&&◌, List, [], ◌∷◌, ◌++◌, refl, subst, inl, inr, arith, Option, Some, None}
use Rattle.std.specs.Prelude.{is_none, nat_lt, nat_le, not, option_map}
use Rattle.std.specs.Bool.{then_some}
use Rattle.std.specs.Option.{option_or}
use Rattle.std.specs.List.{AllByRecursion}
use Rattle.std.proofs.lemmas.Bool.{cases_Bool, and_parts, leb-false, ltb-false}
use Rattle.mb_base.specs.Limits.{part_count}
use Rattle.mb_base.specs.Shapes.{Bytes}
use Rattle.mb_base.specs.declared.names.Ui.{Ui}
use Rattle.mb_parts.specs.declared.floor.Floor.{Floor}
use Rattle.mb_parts.specs.declared.certificates.FloorCert.{FloorCert}
use Rattle.mb_parts.specs.declared.request.Request.{Request}
use Rattle.mb_parts.specs.declared.batch.Batch.{Batch}
use Rattle.mb_parts.specs.Certificates.{certified_floor}
use Rattle.mb_msg.specs.declared.message.Body.{Body}
use Rattle.mb_msg.specs.declared.message.Body.TheVariants.{Whole, Bare as Short}
use Rattle.mb_msg.specs.declared.message.Message.{Message}
use Rattle.mb_msg.specs.declared.message.Message.TheVariants as message
use Rattle.mb_msg.specs.declared.normal.Prepare.{Prepare as PrepareMessage}
use Rattle.mb_msg.specs.declared.normal.Commit.{Commit}
use Rattle.mb_msg.specs.declared.change.ReqViewChange.{ReqViewChange}
use Rattle.mb_msg.specs.declared.transfer.Resend.{Resend}
use Rattle.mb_msg.specs.declared.transfer.Log.{Log}
use Rattle.mb_msg.specs.declared.transfer.Fetch.{Fetch}
use Rattle.mb_msg.specs.declared.transfer.StateMsg.{StateMsg}
use Rattle.mb_msg.specs.declared.stamped.Stamped.{Stamped as StampedMessage}
use Rattle.mb_msg.specs.declared.stamped.Stamped.TheVariants as stamped
use Rattle.mb_msg.specs.Stamps.{ui_of, bare_of, as_message}
use Rattle.mb_msg.specs.declared.event.Outcome.{Outcome}
use Rattle.mb_msg.specs.declared.event.Outcome.TheVariants as outcome
use Rattle.mb_model.specs.UsableLogs.{Fault}
use Rattle.mb_model.specs.Histories.{Accepted, History, Identity, gate, closed_at}
use Rattle.mb_model.specs.Execution.{missing}
use Rattle.mb_model.specs.Sending.{Letter, Progress, write, note, send, next_of}
use Rattle.mb_model.specs.GateChecks.{valid, stamp_claim, is_bad_ui, is_own_future, conviction, is_stale, is_ahead, is_permitted, gate_refusal, identifier_refusal}
use Rattle.mb_model.specs.KindChecks.{unusable, only_where, body_refusal, vote_refusal, kind_refusal, stamped_refusal}
use Rattle.mb_model.specs.PlainChecks.{request_refusal, wish_refusal, resend_refusal, log_refusal, fetch_refusal, state_refusal, bad_state, is_wanted, is_list_right, wrong_part, wrong_digest, are_all_held}
use Rattle.mb_model.specs.Compared.{compared_in, strings_where}
use Rattle.mb_model.specs.Given.{closing, named_prepare, offer_prepare, casts_vote, accept, give_stamped, give_request, give_wish, give_resend, give_fetch, install_where_all, give_state, floor_shown, jump, give_entries, give_log, give}
use Rattle.mb_model.specs.Members.{In}
use Rattle.mb_model.proofs.Members.{in_left, in_right}
use Rattle.mb_model.proofs.Options.{option_cases, or_none}
use Rattle.mb_host_laws.proofs.Cases.{not_false, not_true}
use Rattle.mb_parts.specs.Rules.{rule_of}
use Rattle.mb_host_laws.specs.Rests.{Each, stamped_parts, IsPart, compared_by, IsConvicting, Rests}
use Rattle.mb_host_laws.proofs.Rests.{each_more, rests_more}

-- ---- what a refusal was

next_counter : (at counter : ℕ) → nat_le counter at ≡ false → nat_lt (at + 1) counter ≡ false → counter ≡ at + 1
next_counter at counter stale ahead = let above = leb-false counter at stale in let below = ltb-false (at + 1) counter ahead in omega arith

-- It is no refusal by the order.
abbrev IsOther : Option Outcome → Type 0
IsOther x = (r : ℕ) → x ≡ Some (outcome.Illegal r) → ⊥

or_other : (x y : Option Outcome) → IsOther x → IsOther y → IsOther (option_or x y)
or_other None y a b r e = b r e
or_other (Some x) y a b r e = a r e

where_other : (b : Bool) (x : Option Outcome) → IsOther x → IsOther (only_where b x)
where_other true x a r e = a r e
where_other false x a r e = absurd cc

unusable_other : (x : Option Fault) → IsOther (unusable x)
unusable_other None r e = absurd cc
unusable_other (Some f) r e = absurd cc

later_other : (b : Bool) (v : ℕ) → IsOther (then_some b (outcome.LaterView v))
later_other true v r e = absurd cc
later_other false v r e = absurd cc

beyond_other : (b : Bool) (v : ℕ) → IsOther (then_some b (outcome.BeyondWindow v))
beyond_other true v r e = absurd cc
beyond_other false v r e = absurd cc

need_other : (b : Bool) (v p : ℕ) → IsOther (then_some b (outcome.NeedBody v p))
need_other true v p r e = absurd cc
need_other false v p r e = absurd cc

tag_other : (b : Bool) → IsOther (then_some b outcome.BadTag)
tag_other true r e = absurd cc
tag_other false r e = absurd cc

-- Where the answer is that it may not stand there, the tests before that one passed, and it failed.
refused_last : (bad future stale ahead wrong : Bool) (convicted : Option ℕ) (kind : Option Outcome) (n rule r : ℕ) → IsOther kind
    → option_or (option_or (then_some bad outcome.BadUi) (option_or (then_some future outcome.Idle) (option_or (option_map outcome.Convicted convicted) (option_or (then_some stale (outcome.Stale n))
    (option_or (then_some ahead (outcome.Ahead n)) (then_some wrong (outcome.Illegal rule))))))) kind ≡ Some (outcome.Illegal r)
    → (bad ≡ false) × (stale ≡ false) × (ahead ≡ false) × (wrong ≡ true)
refused_last true future stale ahead wrong convicted kind n rule r other e = absurd cc
refused_last false true stale ahead wrong convicted kind n rule r other e = absurd cc
refused_last false false stale ahead wrong (Some x) kind n rule r other e = absurd cc
refused_last false false true ahead wrong None kind n rule r other e = absurd cc
refused_last false false false true wrong None kind n rule r other e = absurd cc
refused_last false false false false true None kind n rule r other e = (refl, refl, refl, refl)
refused_last false false false false false None kind n rule r other e = absurd (other r e)

module _ {S : Type 0} (self : Identity S) where
  body_other : (d : History) (pos : ℕ) (b : Body Batch) → IsOther (body_refusal self d pos b)
  body_other d pos (Short x) = need_other _ _ _
  body_other d pos (Whole q) = tag_other _

  vote_other : (d : History) (view pos : ℕ) (b : Body Batch) → IsOther (vote_refusal self d view pos b)
  unfolding vote_refusal
  vote_other d view pos b = or_other _ _ (later_other _ _) (where_other _ _ (or_other _ _ (beyond_other _ _) (body_other d pos b)))

  kind_other : (d : History) (m : StampedMessage) → IsOther (kind_refusal self d m)
  kind_other d (stamped.Prepare m) = vote_other d m.view m.pos m.body
  kind_other d (stamped.Commit m) = vote_other d m.view m.pos m.body
  kind_other d (stamped.Checkpoint m) = beyond_other _ _
  kind_other d (stamped.ViewChange m) = where_other _ _ (unusable_other _)
  kind_other d (stamped.NewView m) = where_other _ _ (unusable_other _)
  kind_other d (stamped.Enter m) = λ r e. absurd cc
  kind_other d (stamped.Open m) = where_other _ _ (unusable_other _)
  kind_other d (stamped.Join m) = λ r e. absurd cc

  -- What is refused by the order was certified, the next of its sender, and not permitted.
  pub convicts : (d : History) (m : StampedMessage) (r : ℕ) → stamped_refusal self d m ≡ Some (outcome.Illegal r) → IsConvicting self d (ui_of m).host (ui_of m).counter m
  unfolding stamped_refusal identifier_refusal gate_refusal
  convicts d m r e =
      let u : Ui = ui_of m in
      let t = refused_last (is_bad_ui self m) (is_own_future self d u) (is_stale self d u) (is_ahead self d u) (not (is_permitted self d m)) (conviction self d u) (kind_refusal self d m)
      (next_of d u.host) (rule_of (bare_of m)) r (kind_other d m) e in
      record {
        sender = refl;
        place = refl;
        certified = not_false (valid self (stamp_claim m)) t.0;
        next = next_counter (gate d u.host).counter u.counter t.1 t.2;
        refused = not_true (is_permitted self d m) t.3;
      }

-- ---- the walk; `given` has the messages that were given, `old` and `done` what was hashed and sent before the step

module _ {S : Type 0} (self : Identity S) (given : Message → Type 0) (old : Bytes → Type 0) (done : Message → Type 0) where
  abbrev pub HashedIn : Progress → Bytes → Type 0
  HashedIn x s = old s ⊎ In x.hashed s

  abbrev pub SentIn : Progress → Message → Type 0
  SentIn x m = done m ⊎ ((l : Letter) × In x.sent l × (l.says ≡ m))

  -- Each entry rests on what was given, noted and sent.
  abbrev pub Rested : Progress → Type 0
  Rested x = Each (Rests self given (HashedIn x) (SentIn x)) x.history

  -- More was noted and sent.
  pub goes_on : (x y : Progress) → ((s : Bytes) → In x.hashed s → In y.hashed s) → ((l : Letter) → In x.sent l → In y.sent l) → Rested x → Each (Rests self given (HashedIn y) (SentIn y)) x.history
  goes_on x y h s a = each_more _ _ (rests_more self given given (HashedIn x) (HashedIn y) (SentIn x) (SentIn y) (λ m g. g) hashed sent) x.history a where
    hashed : (z : Bytes) → HashedIn x z → HashedIn y z
    hashed z (inl before) = inl before
    hashed z (inr now) = inr (h z now)

    sent : (m : Message) → SentIn x m → SentIn y m
    sent m (inl before) = inl before
    sent m (inr (l, i, e)) = inr (l, s l i, e)

  pub notes_rest : (strings : List Bytes) (x : Progress) → Rested x → Rested (note strings x)
  notes_rest strings x a = goes_on x (note strings x) (λ s i. in_left x.hashed strings s i) (λ l i. i) a

  pub sends_rest : (l : Letter) (x : Progress) → Rested x → Rested (send l x)
  sends_rest l x a = goes_on x (send l x) (λ s i. i) (λ k i. in_left x.sent (l ∷ []) k i) a

  -- what was noted just now
  pub just_noted : (l before : List Bytes) → AllByRecursion (λ (s : Bytes). old s ⊎ In (before ++ l) s) l
  just_noted l before = each l (λ s i. inr (in_right before l s i)) where
    each : (k : List Bytes) → ((s : Bytes) → In k s → old s ⊎ In (before ++ l) s) → AllByRecursion (λ (s : Bytes). old s ⊎ In (before ++ l) s) k
    each [] f = tt
    each (s ∷ k) f = (f s (inl refl), each k (λ t i. f t (inr i)))

  -- ---- stamped messages

  -- A given message brings it.
  abbrev pub IsBrought : StampedMessage → Type 0
  IsBrought m = (from : Message) × given from × In (stamped_parts from) m

  part_of : (m : StampedMessage) → IsBrought m → (from : Message) × given from × IsPart self from (as_message m)
  part_of m b = (b.0, b.1, inr (inl (m, b.2, refl)))

  closing_rests : (o : Outcome) (m : StampedMessage) (x : Progress) → ((from : Message) × given from × IsPart self from (as_message m)) → ((r : ℕ) → o ≡ outcome.Illegal r → IsConvicting self x.history (ui_of m).host (ui_of m).counter m)
      → Rested x → Rested (closing o (ui_of m) x)
  closing_rests (outcome.Illegal r) m x p c a = ((p.0, m, p.1, p.2, c r refl), a)
  closing_rests o m x p c a = a

  -- of one that is accepted
  compared_rests : (m : StampedMessage) (d : History) (h : Bytes → Type 0) → AllByRecursion h (compared_in self d m) → AllByRecursion h (compared_by self d (as_message m))
  compared_rests (stamped.Prepare m) d h a = a
  compared_rests (stamped.Commit m) d h a = a
  compared_rests (stamped.Checkpoint m) d h a = a
  compared_rests (stamped.ViewChange m) d h a = a
  compared_rests (stamped.NewView m) d h a = a
  compared_rests (stamped.Enter m) d h a = a
  compared_rests (stamped.Open m) d h a = a
  compared_rests (stamped.Join m) d h a = a

  nothing_compared : (t : Bool) (h : Bytes → Type 0) → AllByRecursion h (strings_where t [])
  nothing_compared true h = tt
  nothing_compared false h = tt

  offer_rests : (c : Commit) (x : Progress) → IsBrought (stamped.Commit c) → Rested x → Rested (offer_prepare self (named_prepare self c) x)
  unfolding offer_prepare compared_in
  offer_rests c x b a =
      let m : PrepareMessage = named_prepare self c in
      let part : (from : Message) × given from × IsPart self from (message.Prepare m) = (b.0, b.1, inr (inr (c, b.2, refl))) in
      elim (option_cases (stamped_refusal self x.history (stamped.Prepare m))) [
        | inl none ↦ rw none ((part, nothing_compared _ (HashedIn x)), a)
        | inr (o, some) ↦ rw some (closing_rests o (stamped.Prepare m) x part (λ r is. convicts self x.history (stamped.Prepare m) r (subst (λ (y : Outcome). stamped_refusal self x.history (stamped.Prepare m) ≡ Some y) is some)) a)
      ]

  accepted_rests : (m : StampedMessage) (x : Progress) → IsBrought m → AllByRecursion (HashedIn x) (compared_in self x.history m) → Rested x → Rested (write (Accepted (as_message m)) x)
  accepted_rests m x b c a = ((part_of m b, compared_rests m x.history (HashedIn x) c), a)

  accept_rests : (m : StampedMessage) (x : Progress) → IsBrought m → AllByRecursion (HashedIn x) (compared_in self x.history m) → Rested x → Rested (accept self m x)
  accept_rests (stamped.Commit m) x b c a = elim (cases_Bool (casts_vote self x.history m)) [
    | inl casts ↦ rw casts (offer_rests m (write (Accepted (message.Commit m)) x) b (accepted_rests (stamped.Commit m) x b c a))
    | inr only ↦ rw only (accepted_rests (stamped.Commit m) x b c a)
  ]
  accept_rests m x b c a = accepted_rests m x b c a

  stamped_rests : (m : StampedMessage) (x : Progress) → IsBrought m → Rested x → Rested (give_stamped self m x).left
  unfolding give_stamped
  stamped_rests m x b a =
      let strings : List Bytes = compared_in self x.history m in
      let y : Progress = note strings x in
      let more : Rested y = notes_rest strings x a in
      elim (option_cases (stamped_refusal self x.history m)) [
        | inl none ↦ rw none (accept_rests m y b (just_noted strings x.hashed) more)
        | inr (o, some) ↦ rw some (closing_rests o m y (part_of m b) (λ r is. convicts self x.history m r (subst (λ (z : Outcome). stamped_refusal self x.history m ≡ Some z) is some)) more)
      ]

  -- ---- the other kinds

  itself : (m : Message) → given m → (from : Message) × given from × IsPart self from m
  itself m g = (m, g, inl refl)

  request_rests : (r : Request) (x : Progress) → given (message.Request r) → Rested x → Rested (give_request self r x).left
  unfolding give_request
  request_rests r x g a = elim (option_cases (request_refusal self x.history r)) [
    | inl none ↦ rw none ((itself (message.Request r) g, tt), a)
    | inr (o, some) ↦ go o some
  ] where
    go : (o : Outcome) → request_refusal self x.history r ≡ Some o → Rested (give_request self r x).left
    go outcome.Again some = rw some (sends_rest _ x a)
    go o some = rw some a

  wish_rests : (m : ReqViewChange) (x : Progress) → given (message.ReqViewChange m) → Rested x → Rested (give_wish self m x).left
  unfolding give_wish
  wish_rests m x g a = elim (option_cases (wish_refusal self x.history m)) [
    | inl none ↦ rw none ((itself (message.ReqViewChange m) g, tt), a)
    | inr (o, some) ↦ rw some a
  ]

  resend_rests : (m : Resend) (x : Progress) → given (message.Resend m) → Rested x → Rested (give_resend self m x).left
  unfolding give_resend
  resend_rests m x g a = elim (option_cases (resend_refusal self x.history m)) [
    | inl none ↦ rw none (sends_rest _ (write (Accepted (message.Resend m)) x) ((itself (message.Resend m) g, tt), a))
    | inr (o, some) ↦ rw some a
  ]

  fetch_rests : (m : Fetch) (x : Progress) → given (message.Fetch m) → Rested x → Rested (give_fetch self m x).left
  unfolding give_fetch
  fetch_rests m x g a = elim (option_cases (fetch_refusal self x.history m)) [
    | inl none ↦ rw none (sends_rest _ (write (Accepted (message.Fetch m)) x) ((itself (message.Fetch m) g, tt), a))
    | inr (o, some) ↦ rw some a
  ]

  none_is : (o : Option ℕ) → is_none o ≡ true → o ≡ None
  none_is None e = refl
  none_is (Some n) e = absurd cc

  install_rests : (m : StateMsg) (x : Progress) → given (message.State m) → bad_state self (Accepted (message.State m) ∷ x.history) ≡ None → Rested x → Rested (install_where_all self (write (Accepted (message.State m)) x))
  install_rests m x g sound a = elim (cases_Bool (is_none (missing self (Accepted (message.State m) ∷ x.history)))) [
    | inl all ↦ rw all ((refl, none_is _ all, sound), ((itself (message.State m) g, tt), a))
    | inr some ↦ rw some ((itself (message.State m) g, tt), a)
  ]

  -- the last test of a STATE
  last_test : (a b c d e : Option Outcome) → option_or a (option_or b (option_or c (option_or d e))) ≡ None → e ≡ None
  last_test a b c d e h = (or_none d e (or_none c (option_or d e) (or_none b (option_or c (option_or d e)) (or_none a (option_or b (option_or c (option_or d e))) h).1).1).1).1

  state_rests : (m : StateMsg) (x : Progress) → given (message.State m) → Rested x → Rested (give_state self m x).left
  unfolding give_state state_refusal
  state_rests m x g a = elim (option_cases (state_refusal self x.history m)) [
    | inl none ↦ rw none (install_rests m x g (last_test (then_some (not (is_wanted self x.history m.pos)) outcome.Idle) (then_some (not (is_list_right self x.history m)) (outcome.WrongDigest part_count)) (wrong_digest (wrong_part m.digests m.first m.parts))
        (then_some (are_all_held self x.history m) outcome.Idle) (bad_state self (Accepted (message.State m) ∷ x.history)) none) a)
    | inr (o, some) ↦ go o some
  ] where
    go : (o : Outcome) → state_refusal self x.history m ≡ Some o → Rested (give_state self m x).left
    go (outcome.BadState part at) some = rw some (tt, a)
    go o some = rw some a

  -- ---- LOG

  entries_rest : (ms : List StampedMessage) (x : Progress) → ((m : StampedMessage) → In ms m → IsBrought m) → Rested x → Rested (give_entries self ms x).left
  unfolding give_entries
  entries_rest [] x b a = a
  entries_rest (m ∷ ms) x b a = go (λ c. entries_rest ms (give_stamped self m x).left (λ n i. b n (inr i)) c) (give_stamped self m x).outcome refl where
    left : Rested (give_stamped self m x).left
    left = stamped_rests m x (b m (inl refl)) a

    go : (Rested (give_stamped self m x).left → Rested (give_entries self ms (give_stamped self m x).left).left)
        → (o : Outcome) → (give_stamped self m x).outcome ≡ o → Rested (give_entries self (m ∷ ms) x).left
    go more outcome.Took e = rw e (more left)
    go more (outcome.Stale next) e = rw e (more left)
    go more outcome.Idle e = rw e (more left)
    go more o e = rw e left

  jump_rests : (l : Log) (f : Option FloorCert) (x : Progress) → given (message.Log l) → l.floor ≡ f → Rested x → Rested (jump self l.host (floor_shown self l.host f) x)
  jump_rests l None x g is a = a
  jump_rests l (Some c) x g is a = go (certified_floor self.shape (valid self) l.host c) refl where
    go : (o : Option Floor) → certified_floor self.shape (valid self) l.host c ≡ o → Rested (jump self l.host o x)
    go None e = a
    go (Some f) e = elim (cases_Bool (is_none (closed_at x.history l.host) && nat_lt (gate x.history l.host).counter f.counter)) [
      | inl forward ↦ rw forward ((l, c, g, refl, is, e), a)
      | inr stays ↦ rw stays a
    ]

  log_rests : (m : Log) (x : Progress) → given (message.Log m) → Rested x → Rested (give_log self m x).left
  unfolding give_log
  log_rests m x g a = elim (option_cases (log_refusal self m)) [
    | inl none ↦ rw none (entries_rest m.entries _ (λ n i. (message.Log m, g, i)) ((itself (message.Log m) g, tt), jump_rests m m.floor x g refl a))
    | inr (o, some) ↦ rw some a
  ]

  pub give_rests : (m : Message) (x : Progress) → given m → Rested x → Rested (give self m x).left
  give_rests (message.Request m) x g a = request_rests m x g a
  give_rests (message.Prepare m) x g a = stamped_rests (stamped.Prepare m) x (message.Prepare m, g, inl refl) a
  give_rests (message.Commit m) x g a = stamped_rests (stamped.Commit m) x (message.Commit m, g, inl refl) a
  give_rests (message.Reply m) x g a = a
  give_rests (message.Checkpoint m) x g a = stamped_rests (stamped.Checkpoint m) x (message.Checkpoint m, g, inl refl) a
  give_rests (message.ReqViewChange m) x g a = wish_rests m x g a
  give_rests (message.ViewChange m) x g a = stamped_rests (stamped.ViewChange m) x (message.ViewChange m, g, inl refl) a
  give_rests (message.NewView m) x g a = stamped_rests (stamped.NewView m) x (message.NewView m, g, inl refl) a
  give_rests (message.Enter m) x g a = stamped_rests (stamped.Enter m) x (message.Enter m, g, inl refl) a
  give_rests (message.Open m) x g a = stamped_rests (stamped.Open m) x (message.Open m, g, inl refl) a
  give_rests (message.Join m) x g a = stamped_rests (stamped.Join m) x (message.Join m, g, inl refl) a
  give_rests (message.Resend m) x g a = resend_rests m x g a
  give_rests (message.Log m) x g a = log_rests m x g a
  give_rests (message.Fetch m) x g a = fetch_rests m x g a
  give_rests (message.State m) x g a = state_rests m x g a
  give_rests (message.Stop m) x g a = a
