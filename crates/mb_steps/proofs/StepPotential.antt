-- A number that each rule lowers, so that the rules come to an end. Here its definition, and the rules that order and execute batches.
use Rattle.std.proofs.Common.{◌≡◌, ℕ, zero, suc, ◌+◌, ◌-◌, ◌*◌, ◌≤◌, ◌<◌, Bool, true, false, ◌&&◌, not, cond, List, [], ◌∷◌, length, take, refl, sym, ap, subst, ◌∙◌, inl, inr, ◌⊎◌, arith, eqb, max, Option, Some, None}
use Rattle.std.specs.Prelude.{◌==◌, nat_lt, nat_le, option_map, if◌then◌else◌, ◌%◌, count_by}
use Rattle.std.specs.Option.{option_or}
use Rattle.std.proofs.lemmas.Bool.{and_parts, cases_Bool, eqb-true, eq-eqb, eqb-false, ltb-true, ltb-false, leb-true}
use Rattle.std.proofs.lemmas.List.Sums.{sum_by-cons}
use Rattle.mb_base.specs.Limits.{other_limit, ahead_limit}
use Rattle.mb_base.specs.Shapes.{IsShape, tally, host_count, interval, quorum, span}
use Rattle.mb_parts.specs.declared.request.Request.{Request}
use Rattle.mb_parts.specs.declared.batch.Batch.{Batch}
use Rattle.mb_parts.specs.declared.certificates.StableCert.{StableCert}
use Rattle.mb_parts.specs.declared.certificates.FloorCert.{FloorCert}
use Rattle.mb_parts.specs.Spelling.{batch_bytes}
use Rattle.mb_parts.specs.Ordered.{current_view, is_opened, is_entered as entered_in}
use Rattle.mb_msg.specs.declared.event.Placed.{Placed}
use Rattle.mb_msg.specs.declared.event.Slot.{Slot}
use Rattle.mb_msg.specs.declared.message.Body.{Body}
use Rattle.mb_msg.specs.declared.message.Body.TheVariants.{Whole}
use Rattle.mb_msg.specs.declared.message.Message.TheVariants as message
use Rattle.mb_msg.specs.declared.normal.Prepare.{Prepare}
use Rattle.mb_msg.specs.declared.normal.Commit.{Commit}
use Rattle.mb_msg.specs.declared.normal.Checkpoint.{Checkpoint}
use Rattle.mb_msg.specs.declared.stamped.Stamped.{Stamped as StampedMessage}
use Rattle.mb_msg.specs.declared.stamped.Stamped.TheVariants as stamped
use Rattle.mb_msg.specs.Bodies.{body_digest}
use Rattle.mb_model.specs.declared.known.Vote.{Vote}
use Rattle.mb_model.specs.declared.known.KnownSlot.{KnownSlot}
use Rattle.mb_model.specs.Votes.{is_vote}
use Rattle.mb_model.specs.Service.{is_fresh}
use Rattle.mb_model.specs.States.{state_digest}
use Rattle.mb_model.specs.UsableLogs.{normal_limit}
use Rattle.mb_model.specs.Histories.{Entry, Accepted, Stamped, Served, Executed, History, Identity, origin, taken_of, stamped as all_stamped, counter_of, here, view_of, is_open, is_changing, is_primary}
use Rattle.mb_model.specs.Held.{wish_of, quorum_wish, new_view_of, evidence_of, plan_held, plan_at, opened_by}
use Rattle.mb_model.specs.Stable.{stable_of, low_of, learnt_in, further, log_floor, floor_counter, cut_by, floor_from, is_kept, checkpoint_in}
use Rattle.mb_model.specs.OwnLog.{own_log, log_start, is_normal, has_room, is_unspent}
use Rattle.mb_model.specs.Positions.{exec_of, vote_of, vote_at, vote_by, vote_with, counts_opens, open_vote, open_vote_by, slot_vote, slot_of_open, slot_at, in_window, position_limit, counts_at, matching}
use Rattle.mb_model.specs.Batches.{first_batch}
use Rattle.mb_model.specs.Execution.{state_of}
use Rattle.mb_model.specs.Sending.{Progress, signed, no_ui}
use Rattle.mb_model.specs.Making.{present_parts, floors_under}
use Rattle.mb_model.specs.EnabledRules.{Commit as CommitAt, Execute as ExecuteAt, Prepare as PrepareAt, target, commit_enabled, execute_enabled, prepare_enabled, with_batch, next_position, may_order, unordered, if_committed, is_committed}
use Rattle.mb_model.specs.CarriedOut.{placed_in, serve, serve_all, slot_for, carry_out, execute, with_checkpoint}
use Rattle.mb_model.proofs.Options.{or_some, if_some, map_some}
use Rattle.mb_model.proofs.Quorums.{tally_some}

-- ---- the potential

-- Behind it a vote of another host may count that did not before.
abbrev pub counts_votes : Entry → Bool
counts_votes (Accepted (message.Prepare m)) = true
counts_votes (Accepted (message.Commit m)) = true
counts_votes e = counts_opens e

module _ {S : Type 0} (self : Identity S) where
  -- no vote of another host that counts is beyond this position
  unfoldable pub reach : History → ℕ
  reach [] = 0
  reach (e ∷ d) = if counts_votes e then low_of self (e ∷ d) + span self.shape else reach d

  -- A change of the view is called for, which counts twice, since a NEW_VIEW may follow; a NEW_VIEW may be made.
  abbrev pub calls : History → ℕ
  calls d = (if nat_lt (view_of self d) (target self d) then 2 else 0) + (if is_primary self d && is_changing self d then 1 else 0)

  -- positions that may be executed
  abbrev pub ahead : History → ℕ
  ahead d = if nat_lt (exec_of d) (low_of self d) then 0 else reach d - exec_of d

  abbrev pub normal_in : History → ℕ
  normal_in d = count_by is_normal (own_log self d)

  abbrev pub others_in : History → ℕ
  others_in d = count_by (λ m. not (is_normal m)) (own_log self d)

  -- places in the log
  abbrev pub places : History → ℕ
  places d = (normal_limit self.shape - normal_in d) + (other_limit - others_in d)

  unfoldable pub potential : History → ℕ
  potential d = 100000 * calls d + (1000 * ahead d + places d)

-- ---- lists

take_more : {A : Type 0} (n m : ℕ) (x : A) (l : List A) → m ≡ suc n → take m (x ∷ l) ≡ x ∷ take n l
take_more n m x l e = rw e refl

pub tally_same : (p q : ℕ → Bool) (n : ℕ) → ((h : ℕ) → p h ≡ q h) → tally p n ≡ tally q n
tally_same p q zero e = refl
tally_same p q (suc n) e = rw (e n, tally_same p q n e) refl

-- of two hosts one is another
another : (p : ℕ → Bool) (self n : ℕ) → 2 ≤ tally p n → (h : ℕ) × (h < n) × (p h ≡ true) × (h ≡ self → ⊥)
another p self zero e = absurd (omega (arith, e))
another p self (suc n) e = elim (cases_Bool (p n)) [
  | inr not_so ↦ let two : 2 ≤ tally p n = omega (arith, rw not_so at e) in let r = another p self n two in (r.0, omega (arith, r.1), r.2, r.3)
  | inl does ↦ elim (cases_Bool (eqb n self)) [
    | inr other ↦ (n, omega arith, does, eqb-false n self other)
    | inl same ↦
        let some : 1 ≤ tally p n = omega (arith, rw does at e) in
        let r = tally_some p n some in
        let mine : n ≡ self = eqb-true n self same in
        (r.0, omega (arith, r.1), r.2, λ x. omega (arith, x, mine, r.1))
  ]
]

pub not_above : (a b : ℕ) → b ≤ a → nat_lt a b ≡ false
not_above a b l = elim (cases_Bool (nat_lt a b)) [
  | inl below ↦ absurd (omega (arith, l, ltb-true a b below))
  | inr above ↦ above
]

pub further_both : (old new : StableCert) → (old.pos ≤ (further old (Some new)).pos) × (new.pos ≤ (further old (Some new)).pos)
further_both old new = elim (cases_Bool (nat_lt old.pos new.pos)) [
  | inl more ↦ rw more (omega (arith, ltb-true old.pos new.pos more), omega arith)
  | inr less ↦ rw less (omega arith, omega (arith, ltb-false old.pos new.pos less))
]

further_grows : (old : StableCert) (new : Option StableCert) → old.pos ≤ (further old new).pos
further_grows old None = omega arith
further_grows old (Some new) = (further_both old new).0

opens_count : (e : Entry) → counts_opens e ≡ true → counts_votes e ≡ true
opens_count (Accepted (message.Prepare m)) o = refl
opens_count (Accepted (message.Commit m)) o = refl
opens_count e o = o

with_voter : (voter h v p view pos : ℕ) (body : Body Batch) (counter : ℕ) (x : Vote) → vote_with voter h v p view pos body counter ≡ Some x → voter ≡ h
with_voter voter h v p view pos body counter x e =
    let t = if_some (view == v && (pos == p && voter == h)) (Some (record { counter = counter; request = body_digest batch_bytes body })) x e in
    let a = and_parts (view == v) (pos == p && voter == h) t.0 in
    let b = and_parts (pos == p) (voter == h) a.1 in
    eqb-true voter h b.1

-- another host's vote comes of an entry that counts votes
message_counts : (own : ℕ) (e : Entry) (h v p : ℕ) (x : Vote) → (h ≡ own → ⊥) → vote_by own e h v p ≡ Some x → counts_votes e ≡ true
message_counts own (Accepted (message.Prepare m)) h v p x other e = refl
message_counts own (Accepted (message.Commit m)) h v p x other e = refl
message_counts own (Stamped (stamped.Prepare m)) h v p x other e = absurd (other (sym (with_voter own h v p m.view m.pos m.body m.ui.counter x e)))
message_counts own (Stamped (stamped.Commit m)) h v p x other e = absurd (other (sym (with_voter own h v p m.view m.pos m.body m.counter x e)))
message_counts own (Stamped (stamped.Open m)) h v p x other e =
    let t = if_some (own == h) (option_map slot_vote (slot_of_open m v p)) x e in absurd (other (sym (eqb-true own h t.0)))
message_counts own e h v p x other vote = absurd cc

module _ {S : Type 0} (self : Identity S) where
  -- ---- how far votes reach: at most two intervals above the stable position

  pub grown_low : (d : History) (e : Entry) → low_of self d ≤ low_of self (e ∷ d)
  unfolding stable_of
  grown_low d e = further_grows (stable_of self d) (learnt_in self d (stable_of self d).pos e)

  pub reach_within : (d : History) → reach self d ≤ low_of self d + span self.shape
  unfolding reach
  reach_within [] = omega arith
  reach_within (e ∷ d) = elim (cases_Bool (counts_votes e)) [
    | inl does ↦ rw does (omega arith)
    | inr not_so ↦ rw not_so (omega (arith, reach_within d, grown_low d e))
  ]

  grown_reach : (d : History) (e : Entry) → reach self d ≤ reach self (e ∷ d)
  unfolding reach
  grown_reach d e = elim (cases_Bool (counts_votes e)) [
    | inl does ↦ rw does (omega (arith, reach_within d, grown_low d e))
    | inr not_so ↦ rw not_so (omega arith)
  ]

  reached_now : (d : History) (e : Entry) (p : ℕ) → counts_votes e ≡ true → in_window self (e ∷ d) p ≡ true → p ≤ reach self (e ∷ d)
  unfolding reach
  reached_now d e p counts inside =
      let a = and_parts (nat_lt (low_of self (e ∷ d)) p) (nat_le p (low_of self (e ∷ d) + span self.shape) && nat_le p position_limit) inside in
      let b = and_parts (nat_le p (low_of self (e ∷ d) + span self.shape)) (nat_le p position_limit) a.1 in
      rw counts (leb-true p (low_of self (e ∷ d) + span self.shape) b.0)

  -- another host's vote lies within reach
  pub vote_within : (d : History) (h v p : ℕ) (x : Vote) → (h ≡ self.host → ⊥) → vote_of self d h v p ≡ Some x → p ≤ reach self d
  unfolding vote_of
  vote_within [] h v p x other e = absurd cc
  vote_within (e ∷ d) h v p x other vote =
      let new : Option Vote = option_or (vote_by self.host e h v p) (open_vote_by self (e ∷ d) e h v p) in
      elim (or_some (vote_of self d h v p) (if counts_at self (e ∷ d) v p then new else None) x vote) [
        | inl before ↦ omega (arith, vote_within d h v p x other before, grown_reach d e)
        | inr now ↦
            let t = if_some (counts_at self (e ∷ d) v p) new x now in
            let inside = (and_parts (view_of self (e ∷ d) == v) (in_window self (e ∷ d) p) t.0).1 in
            elim (or_some (vote_by self.host e h v p) (open_vote_by self (e ∷ d) e h v p) x t.1) [
              | inl said ↦ reached_now d e p (message_counts self.host e h v p x other said) inside
              | inr opened ↦
                  let o = if_some (counts_opens e) (open_vote (opened_by (e ∷ d) h) (plan_at self (e ∷ d) v) v p) x opened in
                  reached_now d e p (opens_count e o.0) inside
            ]
      ]

  -- ---- the own log behind a stamp

  cut_bounded : (n : ℕ) (old new : Option FloorCert) → floor_counter self old ≤ n → floor_counter self (cut_by self n old new) ≤ n
  cut_bounded n old None e = e
  cut_bounded n old (Some c) e = elim (cases_Bool (nat_lt (floor_counter self old) (floor_counter self (Some c)) && nat_le (floor_counter self (Some c)) n)) [
    | inl does ↦ rw does (leb-true (floor_counter self (Some c)) n (and_parts (nat_lt (floor_counter self old) (floor_counter self (Some c))) (nat_le (floor_counter self (Some c)) n) does).1)
    | inr not_so ↦ rw not_so e
  ]

  counter_grows : (e : Entry) (d : History) → counter_of d ≤ counter_of (e ∷ d)
  unfolding all_stamped
  counter_grows (Stamped m) d = omega arith
  counter_grows e d = omega arith

  -- the log begins within what was stamped
  pub start_bounded : (d : History) → log_start self d ≤ counter_of d
  unfolding log_floor
  start_bounded [] = omega arith
  start_bounded (e ∷ d) = elim (cases_Bool (is_kept (low_of self d) (checkpoint_in e))) [
    | inl does ↦ rw does (cut_bounded (counter_of (e ∷ d)) (log_floor self d) (floor_from self.shape (e ∷ d) self.host (low_of self (e ∷ d))) (omega (arith, start_bounded d, counter_grows e d)))
    | inr not_so ↦ rw not_so (omega (arith, start_bounded d, counter_grows e d))
  ]

  pub log_with : (d : History) (m : StampedMessage) → log_floor self (Stamped m ∷ d) ≡ log_floor self d → own_log self (Stamped m ∷ d) ≡ m ∷ own_log self d
  unfolding all_stamped
  log_with d m same = rw same (take_more (length (all_stamped d) - log_start self d) (suc (length (all_stamped d)) - log_start self d) m (all_stamped d) (omega (arith, start_bounded d)))

  -- one more PREPARE, COMMIT or CHECKPOINT takes a place
  places_lower : (d : History) (m : StampedMessage) → log_floor self (Stamped m ∷ d) ≡ log_floor self d → is_normal m ≡ true → has_room self d ≡ true → places self (Stamped m ∷ d) < places self d
  places_lower d m same kind room =
      let log : own_log self (Stamped m ∷ d) ≡ m ∷ own_log self d = log_with d m same in
      let more : normal_in self (Stamped m ∷ d) ≡ 1 + normal_in self d = ap (λ l. count_by is_normal l) log ∙ sum_by-cons (λ x. cond (is_normal x) 1 0) m (own_log self d) ∙ ap (λ b. cond b 1 0 + normal_in self d) kind in
      let same : others_in self (Stamped m ∷ d) ≡ 0 + others_in self d = ap (λ l. count_by (λ x. not (is_normal x)) l) log ∙ sum_by-cons (λ x. cond (not (is_normal x)) 1 0) m (own_log self d) ∙ ap (λ b. cond (not b) 1 0 + others_in self d) kind in
      let free : normal_in self d < normal_limit self.shape = ltb-true (normal_in self d) (normal_limit self.shape) (and_parts (nat_lt (normal_in self d) (normal_limit self.shape)) (is_unspent self d) room).0 in
      omega (arith, more, same, free)

  -- ---- what a PREPARE, a COMMIT, a CHECKPOINT and an execution leave as they were

  pub record SameCourse (d e : History) : Type 0 where
    pub view : view_of self e ≡ view_of self d
    pub changing : is_changing self e ≡ is_changing self d
    pub wishes : (h : ℕ) → wish_of self e h ≡ wish_of self d h
    pub new_view : new_view_of self e ≡ new_view_of self d
    pub evidence : evidence_of self e ≡ evidence_of self d
    pub reach : reach self e ≡ reach self d

  pub quorum_same : (d e : History) → ((h : ℕ) → wish_of self e h ≡ wish_of self d h) → (n : ℕ) → quorum_wish self e n ≡ quorum_wish self d n
  unfolding quorum_wish
  quorum_same d e w zero = refl
  quorum_same d e w (suc n) = rw (quorum_same d e w n, w n, tally_same (λ h. nat_le (wish_of self d n) (wish_of self e h)) (λ h. nat_le (wish_of self d n) (wish_of self d h)) (host_count self.shape) (λ h. ap (λ x. nat_le (wish_of self d n) x) (w h))) refl

  calls_same : (d e : History) → SameCourse d e → calls self e ≡ calls self d
  calls_same d e s = rw (s.changing, s.view, quorum_same d e s.wishes (host_count self.shape), s.new_view, s.evidence) refl

  pub max_none : (n : ℕ) → max n 0 ≡ n
  max_none n = omega arith

  pub course_prepare : (d : History) (m : Prepare) → SameCourse d (Stamped (signed self d (stamped.Prepare m)) ∷ d)
  unfolding origin taken_of current_view is_opened entered_in wish_of new_view_of evidence_of reach
  course_prepare d m = record {
    view = rw (eq-eqb self.host self.host refl) refl;
    changing = rw (eq-eqb self.host self.host refl) refl;
    wishes = λ h. max_none (wish_of self d h);
    new_view = refl;
    evidence = refl;
    reach = refl;
  }

  pub course_commit : (d : History) (m : Commit) → SameCourse d (Stamped (signed self d (stamped.Commit m)) ∷ d)
  unfolding origin taken_of current_view is_opened entered_in wish_of new_view_of evidence_of reach
  course_commit d m = record {
    view = rw (eq-eqb self.host self.host refl) refl;
    changing = rw (eq-eqb self.host self.host refl) refl;
    wishes = λ h. max_none (wish_of self d h);
    new_view = refl;
    evidence = refl;
    reach = refl;
  }

  pub course_checkpoint : (d : History) (m : Checkpoint) → SameCourse d (Stamped (signed self d (stamped.Checkpoint m)) ∷ d)
  unfolding origin taken_of current_view is_opened entered_in wish_of new_view_of evidence_of reach
  course_checkpoint d m = record {
    view = rw (eq-eqb self.host self.host refl) refl;
    changing = rw (eq-eqb self.host self.host refl) refl;
    wishes = λ h. max_none (wish_of self d h);
    new_view = refl;
    evidence = refl;
    reach = refl;
  }

  pub course_served : (d : History) (pos : ℕ) (placed : Placed) → SameCourse d (Served pos placed ∷ d)
  unfolding origin taken_of wish_of new_view_of evidence_of reach
  course_served d pos placed = record {
    view = refl;
    changing = refl;
    wishes = λ h. max_none (wish_of self d h);
    new_view = refl;
    evidence = refl;
    reach = refl;
  }

  pub course_executed : (d : History) (slot : Slot) → SameCourse d (Executed slot ∷ d)
  unfolding origin taken_of wish_of new_view_of evidence_of reach
  course_executed d slot = record {
    view = refl;
    changing = refl;
    wishes = λ h. max_none (wish_of self d h);
    new_view = refl;
    evidence = refl;
    reach = refl;
  }

  pub course_then : (a b c : History) → SameCourse a b → SameCourse b c → SameCourse a c
  course_then a b c x y = record {
    view = y.view ∙ x.view;
    changing = y.changing ∙ x.changing;
    wishes = λ h. y.wishes h ∙ x.wishes h;
    new_view = y.new_view ∙ x.new_view;
    evidence = y.evidence ∙ x.evidence;
    reach = y.reach ∙ x.reach;
  }

  -- ---- COMMIT and PREPARE: a place less

  lower_by_place : (d e : History) → SameCourse d e → exec_of e ≡ exec_of d → low_of self e ≡ low_of self d → places self e < places self d → potential self e < potential self d
  unfolding potential
  lower_by_place d e s x l p =
      let c : calls self e ≡ calls self d = calls_same d e s in
      let a : ahead self e ≡ ahead self d = rw (x, l, s.reach) refl in
      omega (arith, c, a, p)

  pub commit_lowers : (d : History) (m : Commit) → has_room self d ≡ true → potential self (Stamped (signed self d (stamped.Commit m)) ∷ d) < potential self d
  unfolding exec_of stable_of log_floor plan_held
  commit_lowers d m room = lower_by_place d _ (course_commit d m) refl refl (places_lower d (signed self d (stamped.Commit m)) refl refl room)

  pub prepare_lowers : (d : History) (m : Prepare) → has_room self d ≡ true → potential self (Stamped (signed self d (stamped.Prepare m)) ∷ d) < potential self d
  unfolding exec_of stable_of log_floor plan_held
  prepare_lowers d m room = lower_by_place d _ (course_prepare d m) refl refl (places_lower d (signed self d (stamped.Prepare m)) refl refl room)

  -- ---- an execution: a position less ahead

  pub few_places : IsShape self.shape → (d : History) → places self d ≤ 960
  few_places k d = omega (arith, k.intervals.1)

  -- one more executed position, where reach goes beyond it: whatever low and the log become
  not_below : (a b : ℕ) → b ≤ a → nat_lt a b ≡ false
  not_below a b l = elim (cases_Bool (nat_lt a b)) [
    | inl below ↦ absurd (omega (arith, l, ltb-true a b below))
    | inr above ↦ above
  ]

  zero_or : (t : Bool) (n : ℕ) → (if t then 0 else n) ≤ n
  zero_or true n = omega arith
  zero_or false n = omega arith

  pub ahead_after : (d e : History) → SameCourse d e → exec_of e ≡ exec_of d + 1 → ahead self e ≤ reach self d - (exec_of d + 1)
  ahead_after d e s x = rw (x, s.reach) (zero_or (nat_lt (exec_of d + 1) (low_of self e)) (reach self d - (exec_of d + 1)))

  lower_by_position : IsShape self.shape → (d e : History) → SameCourse d e → low_of self d ≤ exec_of d → exec_of d + 1 ≤ reach self d
      → exec_of e ≡ exec_of d + 1 → potential self e < potential self d
  unfolding potential
  lower_by_position k d e s low far x =
      let c : calls self e ≡ calls self d = calls_same d e s in
      let before : ahead self d ≡ reach self d - exec_of d = rw (not_below (exec_of d) (low_of self d) low) refl in
      let after : ahead self e ≤ reach self d - (exec_of d + 1) = ahead_after d e s x in
      omega (arith, c, before, after, far, few_places k e)

  checkpoint_leaves : (p : ℕ) (y : Progress) → ((with_checkpoint self p y).history ≡ y.history)
      ⊎ ((m : Checkpoint) × ((with_checkpoint self p y).history ≡ Stamped (signed self y.history (stamped.Checkpoint m)) ∷ y.history))
  checkpoint_leaves p y = elim (cases_Bool (has_room self y.history)) [
    | inl room ↦ rw room (inr (record { pos = p; state = state_digest (present_parts self y.history) p; body = Whole (record { floors = floors_under self y.history p }); ui = no_ui }, refl))
    | inr full ↦ rw full (inl refl)
  ]

  -- ---- what an execution leaves

  pub served_history : (p : ℕ) (r : Request) (x : Progress) → (serve self p r x).history ≡ Served p (placed_in self x.history r) ∷ x.history
  served_history p r x = elim (cases_Bool (is_fresh (state_of self x.history) r)) [
    | inl fresh ↦ rw fresh refl
    | inr again ↦ rw again refl
  ]

  -- Requests that are served leave what holds behind each of them.
  pub served_keeps : (P : History → History → Type 0) → ((d : History) → P d d) → ((a b c : History) → P a b → P b c → P a c) → ((d : History) (pos : ℕ) (placed : Placed) → P d (Served pos placed ∷ d))
      → (p : ℕ) (rs : List Request) (x : Progress) → P x.history (serve_all self p rs x).history
  unfolding serve_all
  served_keeps P same joined one p [] x = same x.history
  served_keeps P same joined one p (r ∷ rs) x =
      let now : P x.history (serve self p r x).history = subst (λ (d : History). P x.history d) (sym (served_history p r x)) (one x.history p (placed_in self x.history r)) in
      joined x.history (serve self p r x).history (serve_all self p (r ∷ rs) x).history now (served_keeps P same joined one p rs (serve self p r x))

  course_same : (d : History) → SameCourse d d
  course_same d = record { view = refl; changing = refl; wishes = λ h. refl; new_view = refl; evidence = refl; reach = refl }

  pub served_course : (p : ℕ) (rs : List Request) (x : Progress) → SameCourse x.history (serve_all self p rs x).history
  served_course p rs x = served_keeps SameCourse course_same course_then course_served p rs x

  pub execution_leaves : (p : ℕ) (b : Batch) (x : Progress) → (slot : Slot) × (slot.pos ≡ p)
      × (((execute self p b x).history ≡ Executed slot ∷ (serve_all self p b.requests x).history)
      ⊎ ((m : Checkpoint) × ((execute self p b x).history ≡ Stamped (signed self (Executed slot ∷ (serve_all self p b.requests x).history) (stamped.Checkpoint m)) ∷ Executed slot ∷ (serve_all self p b.requests x).history)))
  unfolding execute
  execution_leaves p b x = elim (cases_Bool (p % interval self.shape == 0)) [
    | inr between ↦ rw between (slot_for self (serve_all self p b.requests x).history p, refl, inl refl)
    | inl interval ↦ rw interval (slot_for self (serve_all self p b.requests x).history p, refl, checkpoint_leaves p _)
  ]

  exec_after : (d : History) (slot : Slot) (m : Checkpoint) → exec_of (Stamped (signed self (Executed slot ∷ d) (stamped.Checkpoint m)) ∷ Executed slot ∷ d) ≡ slot.pos
  unfolding exec_of
  exec_after d slot m = refl

  exec_then : (d : History) (slot : Slot) → exec_of (Executed slot ∷ d) ≡ slot.pos
  unfolding exec_of
  exec_then d slot = refl

  -- a vote of f+1 hosts for the next position: it lies within reach
  quorum_reaches : IsShape self.shape → (d : History) (p : ℕ) (x : Vote) → nat_le (quorum self.shape) (matching self d p x) ≡ true → p ≤ reach self d
  quorum_reaches k d p x e =
      let two : 2 ≤ matching self d p x = omega (arith, k.faults.0, leb-true (quorum self.shape) (matching self d p x) e) in
      let h = another (λ g. is_vote (vote_at self d g p) x) self.host (host_count self.shape) two in
      go h.0 h.3 (vote_at self d h.0 p) refl h.2
    where
      go : (h : ℕ) → (h ≡ self.host → ⊥) → (y : Option Vote) → vote_at self d h p ≡ y → is_vote y x ≡ true → p ≤ reach self d
      go h other None there same = absurd cc
      go h other (Some y) there same = vote_within d h (view_of self d) p y other (if_some (in_window self d p) (vote_of self d h (view_of self d) p) y there).1

  -- ---- the rules as they are carried out

  pub commit_rule : (x : Progress) (p : ℕ) (k : KnownSlot) (b : Batch) → commit_enabled self x.history ≡ Some (CommitAt p k b)
      → potential self (carry_out self (CommitAt p k b) x).history < potential self x.history
  unfolding commit_enabled carry_out
  commit_rule x p k b e =
      let t = if_some (is_open self x.history && (not (is_primary self x.history) && has_room self x.history)) (with_batch (CommitAt (next_position self x.history)) (slot_at self x.history (next_position self x.history))) (CommitAt p k b) e in
      let a = and_parts (is_open self x.history) (not (is_primary self x.history) && has_room self x.history) t.0 in
      let c = and_parts (not (is_primary self x.history)) (has_room self x.history) a.1 in
      commit_lowers x.history (record { view = view_of self x.history; pos = p; counter = k.counter; cert = k.cert; body = Whole b; ui = no_ui }) c.1

  -- what lets a primary order
  pub record MayOrder (d : History) : Type 0 where
    pub opened : is_open self d ≡ true
    pub leads : is_primary self d ≡ true
    pub inside : in_window self d (next_position self d) ≡ true
    pub near : (here self d).last < exec_of d + ahead_limit
    pub room : has_room self d ≡ true

  pub order_parts : (d : History) → may_order self d ≡ true → MayOrder d
  order_parts d e =
      let near : Bool = nat_lt (here self d).last (exec_of d + ahead_limit) in
      let a = and_parts (is_open self d) (is_primary self d && (in_window self d (next_position self d) && (near && has_room self d))) e in
      let b = and_parts (is_primary self d) (in_window self d (next_position self d) && (near && has_room self d)) a.1 in
      let c = and_parts (in_window self d (next_position self d)) (near && has_room self d) b.1 in
      let f = and_parts near (has_room self d) c.1 in
      record { opened = a.0; leads = b.0; inside = c.0; near = ltb-true (here self d).last (exec_of d + ahead_limit) f.0; room = f.1 }

  pub prepare_rule : (x : Progress) (p : ℕ) (b : Batch) → prepare_enabled self x.history ≡ Some (PrepareAt p b)
      → potential self (carry_out self (PrepareAt p b) x).history < potential self x.history
  unfolding prepare_enabled carry_out
  prepare_rule x p b e =
      let d : History = x.history in
      let t = if_some (may_order self d) (option_map (PrepareAt (next_position self d)) (first_batch (unordered self d))) (PrepareAt p b) e in
      prepare_lowers d (record { view = view_of self d; pos = p; body = Whole b; ui = no_ui }) (order_parts d t.0).room

  committed_slot : (d : History) (q p : ℕ) (b : Batch) (x : Option KnownSlot) → if_committed self d q x ≡ Some (ExecuteAt p b)
      → (k : KnownSlot) × (q ≡ p) × (is_committed self d q k ≡ true)
  committed_slot d q p b None e = absurd cc
  committed_slot d q p b (Some k) e =
      let t = if_some (is_committed self d q k) (option_map (ExecuteAt q) k.batch) (ExecuteAt p b) e in
      let m = map_some (ExecuteAt q) k.batch (ExecuteAt p b) t.1 in
      (k, cc (m.2), t.0)

  pub execute_rule : IsShape self.shape → (x : Progress) (p : ℕ) (b : Batch) → execute_enabled self x.history ≡ Some (ExecuteAt p b)
      → potential self (carry_out self (ExecuteAt p b) x).history < potential self x.history
  unfolding execute_enabled carry_out
  execute_rule k x p b e =
      let d : History = x.history in
      let t = if_some (is_open self d && nat_le (low_of self d) (exec_of d)) (if_committed self d (exec_of d + 1) (slot_at self d (exec_of d + 1))) (ExecuteAt p b) e in
      let a = and_parts (is_open self d) (nat_le (low_of self d) (exec_of d)) t.0 in
      let low : low_of self d ≤ exec_of d = leb-true (low_of self d) (exec_of d) a.1 in
      let s = committed_slot d (exec_of d + 1) p b (slot_at self d (exec_of d + 1)) t.1 in
      let far : exec_of d + 1 ≤ reach self d = quorum_reaches k d (exec_of d + 1) (slot_vote s.0) s.2 in
      let l = execution_leaves p b x in
      let f : History = (serve_all self p b.requests x).history in
      let place : l.0.pos ≡ exec_of d + 1 = l.1 ∙ sym s.1 in
      let executed : SameCourse d (Executed l.0 ∷ f) = course_then d f _ (served_course p b.requests x) (course_executed f l.0) in
      elim l.2 [
        | inl plain ↦ subst (λ (h : History). potential self h < potential self d) (sym plain)
            (lower_by_position k d _ executed low far (exec_then f l.0 ∙ place))
        | inr (m, with_one) ↦ subst (λ (h : History). potential self h < potential self d) (sym with_one)
            (lower_by_position k d _ (course_then d _ _ executed (course_checkpoint (Executed l.0 ∷ f) m)) low far (exec_after f l.0 m ∙ place))
      ]
