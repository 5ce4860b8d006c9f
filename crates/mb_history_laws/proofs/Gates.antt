-- The gate of a host, as the list of what it took, behind an entry: it moves as the calls of gates say, and answers as the history does.
use Rattle.std.proofs.Common.{◌<◌, length, ◌≡◌, ℕ, ◌+◌, Bool, true, false, ◌&&◌, not, List, [], ◌∷◌, take, refl, sym, ap, ◌∙◌, inl, inr, arith, Option, Some, None}
use Rattle.std.specs.Prelude.{◌==◌, nat_lt, nat_le, if◌then◌else◌, is_none, find, option_map}
use Rattle.std.specs.Option.{option_or}
use Rattle.std.specs.Bool.{then_some}
use Rattle.std.proofs.lemmas.Bool.{eqb-true, cases_Bool, and_parts, eq-eqb, ne_eqb, ltb-true, lt-ltb, leb-true, le-leb, ltb-false}
use Rattle.std.proofs.lemmas.List.{length-map}
use Rattle.mb_parts.specs.declared.floor.Floor.{Floor}
use Rattle.mb_parts.specs.Bares.{Bare}
use Rattle.mb_parts.specs.Bares as bare
use Rattle.mb_parts.specs.Certificates.{inner_valid}
use Rattle.mb_parts.specs.Rules.{rule_of, shut_before}
use Rattle.mb_parts.specs.Ordered.{initial_floor, permits, is_ordered}
use Rattle.mb_msg.specs.declared.event.Outcome.{Outcome}
use Rattle.mb_msg.specs.declared.stamped.Stamped.{Stamped as StampedMessage}
use Rattle.mb_msg.specs.Stamps.{bare_of, ui_of}
use Rattle.mb_msg.specs.declared.event.Outcome.TheVariants as outcome
use Rattle.mb_msg.specs.declared.stamped.Stamped.TheVariants as stamped
use Rattle.mb_gate.specs.SenderLogs.{standing, SenderLog, log_from, may_stand, floors_with, floors_behind, floor_below}
use Rattle.mb_gate.specs.declared.offer.Offer.TheVariants as offer
use Rattle.mb_gate.specs.Answers.{next_of, convicted_or, answer, log_after, log_after_jump}
use Rattle.mb_gate.proofs.InnerAside.{same_test}
use Rattle.mb_model.specs.Histories.{Entry, Accepted, Stamped, Jumped, Closed, Served, Executed, Installed, DroppedParts, LostPatience, Nudged, History, Identity, by_host, stamped_in, origin, taken_of, closed_at, gate, gate_floors, floor_below as floor_found, floors_with as floors_found, stamped as all_stamped, said, here, counter_of}
use Rattle.mb_model.specs.Sending.{Progress, next_of as next_in, signed, next_ui}
use Rattle.mb_model.specs.GateChecks.{valid, conviction, is_stale, is_ahead, is_permitted, gate_refusal, is_bad_ui, is_own_future, identifier_refusal}
use Rattle.mb_model.specs.Given.{jump}
use Rattle.mb_steps.specs.OwnLists.{IsOwn}
use Rattle.mb_model.specs.Making.{view_change, new_view, enter, opening, join, commit, prepare, checkpoint}
use Rattle.mb_model.specs.KindChecks.{kind_refusal, stamped_refusal}
use Rattle.mb_model.specs.Passed.{PassesGate}
use Rattle.mb_steps.specs.Arises.{Makes, Arises}
use Rattle.mb_steps.proofs.StepOwnList.{stands_here}
use Rattle.mb_steps.proofs.StepOwnStamped.{steady}
use Rattle.mb_steps.proofs.StepPotential.{not_above}
use Rattle.mb_steps.proofs.StepRounds.{ui_under}
use Rattle.mb_history_laws.specs.Speaks.{is_by, moves_gate, closes_gate}
use Rattle.mb_history_laws.specs.Gates.{log_of, GatesMove, refusal_of}
use Rattle.mb_history_laws.proofs.Framing.{origin_stays, taken_stays, closed_stays, floors_stay}

module _ {S : Type 0} (self : Identity S) where
  -- ---- behind an entry

  pub log_stays : (e : Entry) (d : History) (h : ℕ) → moves_gate h e ≡ false → closes_gate h e ≡ false → log_of self (e ∷ d) h ≡ log_of self d h
  log_stays e d h m c = rw (origin_stays e d h m, taken_stays e d h m, closed_stays e d h c) refl

  -- a message of the host is taken
  pub log_follows : (e : Entry) (d : History) (m : StampedMessage) → stamped_in e ≡ Some m → log_of self (e ∷ d) (ui_of m).host ≡ log_after (log_of self d (ui_of m).host) (bare_of m) (ui_of m).counter offer.Next
  unfolding origin taken_of closed_at
  log_follows (Accepted x) d m is = rw (is, eq-eqb (ui_of m).host (ui_of m).host refl) refl
  log_follows (Stamped x) d m is = let same : x ≡ m = cc in rw (same, eq-eqb (ui_of m).host (ui_of m).host refl) refl
  log_follows e d m is = absurd cc

  pub log_closes : (d : History) (h counter : ℕ) → log_of self (Closed h counter ∷ d) h ≡ record (log_of self d h) { closed = Some counter }
  unfolding origin taken_of closed_at
  log_closes d h counter = rw (eq-eqb h h refl) refl

  -- A gate that isn't closed goes on from a floor.
  pub log_jumps : (d : History) (h : ℕ) (floor : Floor) → closed_at d h ≡ None → log_of self (Jumped h floor ∷ d) h ≡ log_from self.shape h floor
  unfolding origin taken_of closed_at
  log_jumps d h floor unclosed = rw (eq-eqb h h refl, unclosed) refl

  next_below : (a b : ℕ) → nat_lt a b ≡ nat_le (a + 1) b
  next_below a b = elim (cases_Bool (nat_lt a b)) [
    | inl lt ↦ lt ∙ sym (le-leb (a + 1) b (omega (arith, ltb-true a b lt)))
    | inr ge ↦ elim (cases_Bool (nat_le (a + 1) b)) [
      | inr gt ↦ ge ∙ sym gt
      | inl le ↦ absurd (let lt : nat_lt a b ≡ true = lt-ltb a b (omega (arith, leb-true (a + 1) b le)) in let e = rw lt at ge in absurd cc)
    ]
  ]

  -- a jump to the floor that a LOG shows
  pub jumps_as : (x : Progress) (h : ℕ) (floor : Floor) → log_of self (jump self h (Some floor) x).history h ≡ log_after_jump (log_of self x.history h) floor
  jumps_as x h floor = elim (cases_Bool (is_none (closed_at x.history h) && nat_lt (gate x.history h).counter floor.counter)) [
    | inl does ↦ rw (does, ← next_below (gate x.history h).counter floor.counter, does) (log_jumps x.history h floor (none_is (closed_at x.history h) (and_parts (is_none (closed_at x.history h)) (nat_lt (gate x.history h).counter floor.counter) does).0))
    | inr not_so ↦ rw (not_so, ← next_below (gate x.history h).counter floor.counter, not_so) refl
  ] where
    none_is : (o : Option ℕ) → is_none o ≡ true → o ≡ None
    none_is None e = refl
    none_is (Some n) e = absurd cc

  -- ---- floors

  bare_floors : (h : ℕ) (e : Entry) (d : History) (b : Bare) → by_host h (stamped_in e) ≡ Some b → gate_floors (e ∷ d) h ≡ floors_with (gate (e ∷ d) h) b (gate_floors d h)
  unfolding gate_floors
  bare_floors h (Accepted m) d b is = rw is (by_kind (gate (Accepted m ∷ d) h) (Accepted m) refl b (gate_floors d h)) where
    by_kind : (at : Floor) (e : Entry) → e ≡ Accepted m → (b : Bare) (floors : List Floor) → floors_found h at (Accepted m) (Some b) floors ≡ floors_with at b floors
    by_kind at e is (bare.Checkpoint pos state digest) floors = refl
    by_kind at e is b floors = refl
  bare_floors h (Stamped m) d b is = rw is (by_kind (gate (Stamped m ∷ d) h) b (gate_floors d h)) where
    by_kind : (at : Floor) (b : Bare) (floors : List Floor) → floors_found h at (Stamped m) (Some b) floors ≡ floors_with at b floors
    by_kind at (bare.Checkpoint pos state digest) floors = refl
    by_kind at b floors = refl
  bare_floors h e d b is = absurd cc

  by_some : (h : ℕ) (o : Option StampedMessage) → is_by h o ≡ true → (b : Bare) × (by_host h o ≡ Some b)
  by_some h None e = absurd cc
  by_some h (Some m) e = (bare_of m, rw e refl)

  bare_taken : (h : ℕ) (e : Entry) (d : History) (b : Bare) → by_host h (stamped_in e) ≡ Some b → (origin (e ∷ d) h ≡ origin d h) × (taken_of (e ∷ d) h ≡ b ∷ taken_of d h)
  unfolding origin taken_of
  bare_taken h (Accepted m) d b is = (refl, rw is refl)
  bare_taken h (Stamped m) d b is = (refl, rw is refl)
  bare_taken h e d b is = absurd cc

  floors_more : (e : Entry) (d : History) (h : ℕ) → moves_gate h e ≡ is_by h (stamped_in e) → gate_floors d h ≡ floors_behind (origin d h) (taken_of d h)
      → gate_floors (e ∷ d) h ≡ floors_behind (origin (e ∷ d) h) (taken_of (e ∷ d) h)
  floors_more e d h says before = elim (cases_Bool (is_by h (stamped_in e))) [
    | inr other ↦ let stays : moves_gate h e ≡ false = says ∙ other in rw (floors_stay e d h stays, origin_stays e d h stays, taken_stays e d h stays) before
    | inl mine ↦
        let b = by_some h (stamped_in e) mine in
        let t = bare_taken h e d b.0 b.1 in
        bare_floors h e d b.0 b.1 ∙ rw (t.0, t.1, before) refl
  ]

  -- The floors of a gate are those behind its list.
  pub floors_are : (d : History) → GatesMove self d → (h : ℕ) → gate_floors d h ≡ floors_behind (origin d h) (taken_of d h)
  unfolding gate_floors origin taken_of
  floors_are [] f h = refl
  floors_are (Jumped g x ∷ d) f h = elim (cases_Bool (g == h)) [
    | inl same ↦ let some : (x.counter == 0) ≡ false = ne_eqb x.counter 0 (λ e. omega (arith, f.0, e)) in rw (same, some) refl
    | inr other ↦ rw other (floors_are d f.1 h)
  ]
  floors_are (Accepted m ∷ d) f h = floors_more (Accepted m) d h refl (floors_are d f h)
  floors_are (Stamped m ∷ d) f h = floors_more (Stamped m) d h refl (floors_are d f h)
  floors_are (Closed g c ∷ d) f h = floors_are d f.1 h
  floors_are (Served pos placed ∷ d) f h = floors_are d f h
  floors_are (Executed slot ∷ d) f h = floors_are d f h
  floors_are (Installed pos parts ∷ d) f h = floors_are d f h
  floors_are (DroppedParts ∷ d) f h = floors_are d f h
  floors_are (LostPatience ∷ d) f h = floors_are d f h
  floors_are (Nudged ∷ d) f h = floors_are d f h

  pub floor_found_is : (d : History) → GatesMove self d → (h pos : ℕ) → floor_found d h pos ≡ floor_below (log_of self d h) pos
  floor_found_is d f h pos = ap (λ (l : List Floor). find (λ f. nat_lt f.point pos) (take 2 l)) (floors_are d f h)

  -- ---- answers

  pub next_is : (d : History) (h : ℕ) → next_in d h ≡ next_of (log_of self d h)
  next_is d h = refl

  -- A gate refuses as the history does.
  pub refuses_as : (d : History) (m : StampedMessage)
      → gate_refusal self d m ≡ refusal_of (answer (log_of self d (ui_of m).host) (bare_of m) (ui_of m).counter (inner_valid self.shape (valid self) (bare_of m)))
  unfolding gate_refusal
  refuses_as d m =
      let log : SenderLog = log_of self d (ui_of m).host in
      let may : is_permitted self d m ≡ may_stand log (inner_valid self.shape (valid self) (bare_of m)) (bare_of m) =
      same_test log.from self.shape log.sender (inner_valid self.shape (valid self)) (λ b. inner_valid self.shape (valid self) (bare_of m)) log.taken (bare_of m) refl in
      rw may (chain (conviction self d (ui_of m)) (is_stale self d (ui_of m)) (is_ahead self d (ui_of m)) (next_of log) (may_stand log (inner_valid self.shape (valid self) (bare_of m)) (bare_of m)) (rule_of (bare_of m))) where
        chain : (c : Option ℕ) (stale ahead : Bool) (next : ℕ) (stands : Bool) (rule : ℕ)
            → option_or (option_map outcome.Convicted c) (option_or (then_some stale (outcome.Stale next)) (option_or (then_some ahead (outcome.Ahead next)) (then_some (not stands) (outcome.Illegal rule))))
            ≡ refusal_of (convicted_or c (if stale then offer.Stale next else if ahead then offer.Ahead next else if stands then offer.Next else offer.Illegal rule))
        chain (Some x) stale ahead next stands rule = refl
        chain None true ahead next stands rule = refl
        chain None false true next stands rule = refl
        chain None false false next true rule = refl
        chain None false false next false rule = refl

  -- ---- the own gate

  pub own_unclosed : (d : History) → GatesMove self d → closed_at d self.host ≡ None
  unfolding closed_at
  own_unclosed [] f = refl
  own_unclosed (Closed g c ∷ d) f = rw f.0 (own_unclosed d f.1)
  own_unclosed (Jumped g x ∷ d) f = own_unclosed d f.1
  own_unclosed (Accepted m ∷ d) f = own_unclosed d f
  own_unclosed (Stamped m ∷ d) f = own_unclosed d f
  own_unclosed (Served pos placed ∷ d) f = own_unclosed d f
  own_unclosed (Executed slot ∷ d) f = own_unclosed d f
  own_unclosed (Installed pos parts ∷ d) f = own_unclosed d f
  own_unclosed (DroppedParts ∷ d) f = own_unclosed d f
  own_unclosed (LostPatience ∷ d) f = own_unclosed d f
  own_unclosed (Nudged ∷ d) f = own_unclosed d f

  -- It stands at the counter of the USIG.
  pub own_counter : (d : History) → IsOwn self d → (here self d).counter ≡ counter_of d
  own_counter d own = let e : (here self d).counter ≡ 0 + length (said d) = ap (λ f. f.counter) (stands_here self d own) in omega (arith, e, length-map (all_stamped d) bare_of)

  -- No own message breaks its rule: one that was stamped is stale.
  pub illegal_is_of_others : (d : History) → IsOwn self d → (m : StampedMessage) (rule : ℕ) → stamped_refusal self d m ≡ Some (outcome.Illegal rule) → ((ui_of m).host == self.host) ≡ false
  unfolding stamped_refusal identifier_refusal gate_refusal
  illegal_is_of_others d own m rule e = elim (cases_Bool ((ui_of m).host == self.host)) [
    | inr other ↦ other
    | inl mine ↦ elim (cases_Bool (nat_lt (counter_of d) (ui_of m).counter)) [
      | inl ahead ↦ let future : is_own_future self d (ui_of m) ≡ true = rw (mine, ahead) refl in absurd (idle (is_bad_ui self m) (gate_refusal self d m) (kind_refusal self d m) (rw future at e))
      | inr reached ↦
          let at : (gate d (ui_of m).host).counter ≡ counter_of d = ap (λ (h : ℕ). (gate d h).counter) (eqb-true (ui_of m).host self.host mine) ∙ own_counter d own in
          let stale : is_stale self d (ui_of m) ≡ true = le-leb (ui_of m).counter (gate d (ui_of m).host).counter (omega (arith, at, ltb-false (counter_of d) (ui_of m).counter reached)) in
          absurd (passed (is_bad_ui self m) (is_own_future self d (ui_of m)) (conviction self d (ui_of m)) (next_in d (ui_of m).host)
          (option_or (then_some (is_ahead self d (ui_of m)) (outcome.Ahead (next_in d (ui_of m).host))) (then_some (not (is_permitted self d m)) (outcome.Illegal (rule_of (bare_of m))))) (kind_refusal self d m) (rw stale at e))
    ]
  ] where
    idle : (bad : Bool) (rest more : Option Outcome) → option_or (option_or (then_some bad outcome.BadUi) (option_or (then_some true outcome.Idle) rest)) more ≡ Some (outcome.Illegal rule) → ⊥
    idle true rest more e = absurd cc
    idle false rest more e = absurd cc

    passed : (bad future : Bool) (c : Option ℕ) (next : ℕ) (rest more : Option Outcome)
        → option_or (option_or (then_some bad outcome.BadUi) (option_or (then_some future outcome.Idle) (option_or (option_map outcome.Convicted c) (option_or (then_some true (outcome.Stale next)) rest)))) more ≡ Some (outcome.Illegal rule) → ⊥
    passed true future c next rest more e = absurd cc
    passed false true c next rest more e = absurd cc
    passed false false (Some x) next rest more e = absurd cc
    passed false false None next rest more e = absurd cc

  -- ---- what a gate takes is next there

  next_of_parts : (log : SenderLog) (m : Bare) (counter : ℕ) (inner : Bool) → shut_before log.closed counter ≡ None → counter ≡ (standing log).counter + 1 → may_stand log inner m ≡ true → answer log m counter inner ≡ offer.Next
  next_of_parts log m counter inner unshut next stands =
      let fresh : nat_le counter (standing log).counter ≡ false = not_le counter (standing log).counter (omega (arith, next)) in
      let near : nat_lt ((standing log).counter + 1) counter ≡ false = not_above ((standing log).counter + 1) counter (omega (arith, next)) in
      rw (unshut, fresh, near, stands) refl where
        not_le : (a b : ℕ) → b < a → nat_le a b ≡ false
        not_le a b lt = elim (cases_Bool (nat_le a b)) [
          | inl le ↦ absurd (omega (arith, lt, leb-true a b le))
          | inr gt ↦ gt
        ]

  stands_as : (log : SenderLog) (m : Bare) → may_stand log (inner_valid self.shape (valid self) m) m ≡ permits log.from log.shape log.sender (inner_valid self.shape (valid self)) log.taken m
  stands_as log m = same_test log.from log.shape log.sender (λ b. inner_valid self.shape (valid self) m) (inner_valid self.shape (valid self)) log.taken m refl

  pub taken_next : (d : History) (m : StampedMessage) → PassesGate self d m
      → answer (log_of self d (ui_of m).host) (bare_of m) (ui_of m).counter (inner_valid self.shape (valid self) (bare_of m)) ≡ offer.Next
  taken_next d m p = next_of_parts (log_of self d (ui_of m).host) (bare_of m) (ui_of m).counter _ p.not_convicted p.next (stands_as (log_of self d (ui_of m).host) (bare_of m) ∙ p.permitted)

  signed_counter : (d : History) (x m : StampedMessage) → signed self d x ≡ m → (ui_of m).counter ≡ counter_of d + 1
  signed_counter d x m is = ap (λ y. (ui_of y).counter) (sym is) ∙ ap (λ u. u.counter) (ui_under (next_ui self d (bare_of x)) x)

  -- what this host stamps has the next counter
  pub own_stamp_counter : (d : History) (m : StampedMessage) → Makes self d m → (ui_of m).counter ≡ counter_of d + 1
  own_stamp_counter d (stamped.ViewChange m) (view, e, is) = signed_counter d (view_change self d view) (stamped.ViewChange m) is
  own_stamp_counter d (stamped.NewView m) (changes, e, is) = signed_counter d (new_view self d changes) (stamped.NewView m) is
  own_stamp_counter d (stamped.Enter m) (n, e, is) = signed_counter d (enter n) (stamped.Enter m) is
  own_stamp_counter d (stamped.Open m) (e, plan, o, is) = signed_counter d (opening e plan) (stamped.Open m) is
  own_stamp_counter d (stamped.Join m) (e, is) = signed_counter d (join self d) (stamped.Join m) is
  own_stamp_counter d (stamped.Commit m) (p, k, b, e, is) = signed_counter d (commit self d p k b) (stamped.Commit m) is
  own_stamp_counter d (stamped.Prepare m) (p, b, e, is) = signed_counter d (prepare self d p b) (stamped.Prepare m) is
  own_stamp_counter d (stamped.Checkpoint m) (p, j, whole, is) = signed_counter d (checkpoint self d p) (stamped.Checkpoint m) is

  own_permitted : (d : History) (m : StampedMessage) → Arises self (Stamped m ∷ d) → permits initial_floor self.shape self.host (inner_valid self.shape (valid self)) (said d) (bare_of m) ≡ true
  unfolding all_stamped is_ordered
  own_permitted d m a = (and_parts (permits initial_floor self.shape self.host (inner_valid self.shape (valid self)) (said d) (bare_of m)) (is_ordered initial_floor self.shape self.host (inner_valid self.shape (valid self)) (said d)) (steady self (Stamped m ∷ d) a).list.ordered).0

  -- What this host stamps is next at its own gate.
  pub own_next : (d : History) (m : StampedMessage) → GatesMove self d → Arises self (Stamped m ∷ d)
      → answer (log_of self d self.host) (bare_of m) (ui_of m).counter (inner_valid self.shape (valid self) (bare_of m)) ≡ offer.Next
  own_next d m f a =
      let own : IsOwn self d = (steady self d a.1).list.own in
      let next : (ui_of m).counter ≡ (here self d).counter + 1 = omega (arith, own_stamp_counter d m a.0, own_counter d own) in
      next_of_parts (log_of self d self.host) (bare_of m) (ui_of m).counter _ (ap (λ c. shut_before c (ui_of m).counter) (own_unclosed d f)) next
      (stands_as (log_of self d self.host) (bare_of m) ∙ rw (own.from, own.all) (own_permitted d m a))
