-- A closed gate and dropped parts change nothing that a rule reads, and a request that is served nothing that an execution reads.
use Rattle.std.proofs.Common.{◌≡◌, ℕ, ◌+◌, Bool, true, false, ◌&&◌, List, [], ◌∷◌, refl, ap, ◌∙◌, map, Option, Some, None}
use Rattle.std.specs.Prelude.{nat_le, if◌then◌else◌, option_map, option_and_then, filter, filter_map}
use Rattle.std.specs.List.{range_with_len}
use Rattle.std.specs.Option.{option_or}
use Rattle.std.proofs.Math.Path.{fun_ext}
use Rattle.mb_base.specs.Shapes.{host_count, client_count, quorum}
use Rattle.mb_parts.specs.declared.request.Request.{Request}
use Rattle.mb_msg.specs.declared.event.Placed.{Placed}
use Rattle.mb_model.specs.declared.known.KnownSlot.{KnownSlot}
use Rattle.mb_model.specs.Votes.{is_vote}
use Rattle.mb_model.specs.Histories.{Closed, Served, DroppedParts, History, Identity, origin, taken_of, stamped as all_stamped, view_of, is_open}
use Rattle.mb_model.specs.Held.{wish_of, changes_of, new_view_of, evidence_of, plan_held, enter_of, evidence_for, evidence_in, evidence_with, answers, new_view_in_view}
use Rattle.mb_model.specs.Stable.{stable_of, low_of, log_floor}
use Rattle.mb_model.specs.Positions.{slot_vote, exec_of, counts_at, slot_in, slot_at, vote_of, vote_at}
use Rattle.mb_model.specs.Execution.{pending}
use Rattle.mb_model.specs.EnabledRules.{Execute, rule_where, next_position, greatest_in, change_enabled, announce_enabled, enter_enabled, open_enabled, join_enabled, commit_enabled, execute_enabled, prepare_enabled, next_rule, is_committed, if_committed, greatest, greatest_in_slots, window, unordered_of, unordered}
use Rattle.mb_steps.proofs.StepPotential.{max_none, quorum_same, tally_same}

-- nothing is added
adds_none : {A : Type 0} (x : Option A) (w : Bool) → option_or x (if w then None else None) ≡ x
adds_none None true = refl
adds_none None false = refl
adds_none (Some x) w = refl

module _ {S : Type 0} (self : Identity S) where
  -- what the rules read of a history, but for the pending requests, which PREPARE alone reads
  pub record SameTables (d e : History) : Type 0 where
    pub from : origin e self.host ≡ origin d self.host
    pub taken : taken_of e self.host ≡ taken_of d self.host
    pub stamped : all_stamped e ≡ all_stamped d
    pub wishes : (h : ℕ) → wish_of self e h ≡ wish_of self d h
    pub changes : changes_of self e ≡ changes_of self d
    pub enters : (h : ℕ) → enter_of e h ≡ enter_of d h
    pub new_view : new_view_of self e ≡ new_view_of self d
    pub evidence : evidence_of self e ≡ evidence_of self d
    pub plan : plan_held self e ≡ plan_held self d
    pub stable : stable_of self e ≡ stable_of self d
    pub floor : log_floor self e ≡ log_floor self d
    pub exec : exec_of e ≡ exec_of d
    pub slots : (v p : ℕ) → slot_in self e v p ≡ slot_in self d v p
    pub votes : (h v p : ℕ) → vote_of self e h v p ≡ vote_of self d h v p

  abbrev pub SamePending : History → History → Type 0
  SamePending d e = (c : ℕ) → pending self e c ≡ pending self d c

  change_same : (d e : History) → SameTables d e → change_enabled self e ≡ change_enabled self d
  unfolding change_enabled
  change_same d e s = rw (s.from, s.taken, s.stamped, s.floor, quorum_same self d e s.wishes (host_count self.shape), s.new_view, s.evidence) refl

  announce_same : (d e : History) → SameTables d e → announce_enabled self e ≡ announce_enabled self d
  unfolding announce_enabled
  announce_same d e s = rw (s.from, s.taken, s.stamped, s.floor, s.changes) refl

  enter_same : (d e : History) → SameTables d e → enter_enabled self e ≡ enter_enabled self d
  unfolding enter_enabled
  enter_same d e s = rw (s.from, s.taken, s.stamped, s.floor, s.new_view) refl

  low_same : (d e : History) → SameTables d e → (stable_of self e).pos ≡ (stable_of self d).pos
  low_same d e s = ap (λ c. c.pos) s.stable

  join_same : (d e : History) → SameTables d e → join_enabled self e ≡ join_enabled self d
  unfolding join_enabled
  join_same d e s = rw (s.from, s.taken, s.stamped, s.floor, s.evidence, low_same d e s, s.exec) refl

  slot_same : (d e : History) → SameTables d e → (p : ℕ) → slot_at self e p ≡ slot_at self d p
  slot_same d e s p = rw (s.from, s.taken, low_same d e s, s.slots (view_of self d) p) refl

  commit_same : (d e : History) → SameTables d e → commit_enabled self e ≡ commit_enabled self d
  unfolding commit_enabled
  commit_same d e s = rw (s.from, s.taken, s.stamped, s.floor, low_same d e s, s.slots (view_of self d) (next_position self d)) refl

  vote_same : (d e : History) → SameTables d e → (h p : ℕ) → vote_at self e h p ≡ vote_at self d h p
  vote_same d e s h p = rw (s.from, s.taken, low_same d e s, s.votes h (view_of self d) p) refl

  matching_same : (d e : History) → SameTables d e → (p : ℕ) (k : KnownSlot) → is_committed self e p k ≡ is_committed self d p k
  matching_same d e s p k =
      ap (λ n. nat_le (quorum self.shape) n)
      (tally_same (λ h. is_vote (vote_at self e h p) (slot_vote k)) (λ h. is_vote (vote_at self d h p) (slot_vote k)) (host_count self.shape) (λ h. ap (λ x. is_vote x (slot_vote k)) (vote_same d e s h p)))

  committed_same : (d e : History) → SameTables d e → (p : ℕ) (x : Option KnownSlot) → if_committed self e p x ≡ if_committed self d p x
  committed_same d e s p None = refl
  committed_same d e s p (Some k) = ap (λ t. rule_where t (option_map (Execute p) k.batch)) (matching_same d e s p k)

  execute_same : (d e : History) → SameTables d e → execute_enabled self e ≡ execute_enabled self d
  unfolding execute_enabled
  execute_same d e s =
      let shape : rule_where (is_open self e && nat_le (low_of self e) (exec_of e)) (if_committed self d (exec_of d + 1) (slot_at self d (exec_of d + 1))) ≡ execute_enabled self d = rw (s.from, s.taken, low_same d e s, s.exec) refl in
      let inside : if_committed self e (exec_of e + 1) (slot_at self e (exec_of e + 1)) ≡ if_committed self d (exec_of d + 1) (slot_at self d (exec_of d + 1)) =
      ap (λ p. if_committed self e (p + 1) (slot_at self e (p + 1))) s.exec ∙ ap (λ x. if_committed self e (exec_of d + 1) x) (slot_same d e s (exec_of d + 1)) ∙ committed_same d e s (exec_of d + 1) (slot_at self d (exec_of d + 1)) in
      ap (λ x. rule_where (is_open self e && nat_le (low_of self e) (exec_of e)) x) inside ∙ shape

  greatest_same : (d e : History) → SameTables d e → (c : ℕ) (l : List ℕ) → greatest_in_slots self e c l ≡ greatest_in_slots self d c l
  unfolding greatest_in_slots
  greatest_same d e s c l = ap (λ (f : ℕ → ℕ). greatest (map f l)) (fun_ext (λ p. ap (λ x. greatest_in c (option_and_then (λ k. k.batch) x)) (slot_same d e s p)))

  unordered_same : (d e : History) → SameTables d e → SamePending d e → unordered self e ≡ unordered self d
  unfolding unordered
  unordered_same d e s w = ap (λ (f : ℕ → Option Request). filter_map f (range_with_len 0 (client_count self.shape))) (fun_ext (λ c. of_client c)) where
    of_client : (c : ℕ) → unordered_of self e c ≡ unordered_of self d c
    of_client c = rw (low_same d e s, greatest_same d e s c (window self d), w c) refl

  prepare_same : (d e : History) → SameTables d e → SamePending d e → prepare_enabled self e ≡ prepare_enabled self d
  unfolding prepare_enabled
  prepare_same d e s w = rw (s.from, s.taken, s.stamped, s.floor, low_same d e s, s.exec, unordered_same d e s w) refl

  enters_same : (d e : History) → SameTables d e → (l : List ℕ) → filter_map (enter_of e) l ≡ filter_map (enter_of d) l
  enters_same d e s [] = refl
  enters_same d e s (h ∷ hs) = rw (s.enters h, enters_same d e s hs) refl

  evidence_same : (d e : History) → SameTables d e → (v : ℕ) → evidence_for self e v ≡ evidence_for self d v
  evidence_same d e s v =
      ap (λ l. option_or (evidence_in v (evidence_of self e)) (option_and_then (λ n. evidence_with self n (filter (answers n) l)) (new_view_in_view v (new_view_of self e)))) (enters_same d e s (range_with_len 0 (host_count self.shape)))
      ∙ rw (s.evidence, s.new_view) refl

  open_same : (d e : History) → SameTables d e → open_enabled self e ≡ open_enabled self d
  unfolding open_enabled
  open_same d e s = rw (s.from, s.taken, s.stamped, s.floor, evidence_same d e s (view_of self d), s.plan) refl

  -- the rules are the same
  pub rules_same : (d e : History) → SameTables d e → SamePending d e → next_rule self e ≡ next_rule self d
  unfolding next_rule
  rules_same d e s w = rw (change_same d e s, announce_same d e s, enter_same d e s, open_same d e s, join_same d e s, commit_same d e s, execute_same d e s, prepare_same d e s w) refl

  pub closed_rules : (d : History) (h c : ℕ) → next_rule self (Closed h c ∷ d) ≡ next_rule self d
  unfolding origin taken_of all_stamped wish_of changes_of enter_of new_view_of evidence_of plan_held stable_of log_floor exec_of slot_in vote_of pending
  closed_rules d h c = rules_same d (Closed h c ∷ d) (record {
    from = refl;
    taken = refl;
    stamped = refl;
    wishes = λ g. max_none self (wish_of self d g);
    changes = refl;
    enters = λ g. refl;
    new_view = refl;
    evidence = refl;
    plan = refl;
    stable = refl;
    floor = refl;
    exec = refl;
    slots = λ v p. adds_none (slot_in self d v p) (counts_at self (Closed h c ∷ d) v p);
    votes = λ g v p. adds_none (vote_of self d g v p) (counts_at self (Closed h c ∷ d) v p);
  }) (λ g. refl)

  pub dropped_rules : (d : History) → next_rule self (DroppedParts ∷ d) ≡ next_rule self d
  unfolding origin taken_of all_stamped wish_of changes_of enter_of new_view_of evidence_of plan_held stable_of log_floor exec_of slot_in vote_of pending
  dropped_rules d = rules_same d (DroppedParts ∷ d) (record {
    from = refl;
    taken = refl;
    stamped = refl;
    wishes = λ g. max_none self (wish_of self d g);
    changes = refl;
    enters = λ g. refl;
    new_view = refl;
    evidence = refl;
    plan = refl;
    stable = refl;
    floor = refl;
    exec = refl;
    slots = λ v p. adds_none (slot_in self d v p) (counts_at self (DroppedParts ∷ d) v p);
    votes = λ g v p. adds_none (vote_of self d g v p) (counts_at self (DroppedParts ∷ d) v p);
  }) (λ g. refl)

  -- A request that is served leaves what is executed.
  pub served_enabled : (d : History) (pos : ℕ) (placed : Placed) → execute_enabled self (Served pos placed ∷ d) ≡ execute_enabled self d
  unfolding origin taken_of all_stamped wish_of changes_of enter_of new_view_of evidence_of plan_held stable_of log_floor exec_of slot_in vote_of
  served_enabled d pos placed = execute_same d (Served pos placed ∷ d) (record {
    from = refl;
    taken = refl;
    stamped = refl;
    wishes = λ g. max_none self (wish_of self d g);
    changes = refl;
    enters = λ g. refl;
    new_view = refl;
    evidence = refl;
    plan = refl;
    stable = refl;
    floor = refl;
    exec = refl;
    slots = λ v p. adds_none (slot_in self d v p) (counts_at self (Served pos placed ∷ d) v p);
    votes = λ g v p. adds_none (vote_of self d g v p) (counts_at self (Served pos placed ∷ d) v p);
  })
