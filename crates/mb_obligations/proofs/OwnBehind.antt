-- Each own vote, and each slot of a view that this host leads, is of an opened view, at or below the last position of the own list. So where a host stamps the
-- next position, or opens a view, it has no vote there yet.
use Rattle.std.proofs.Common.{◌≡◌, ℕ, ◌+◌, ◌-◌, ◌≤◌, true, not, List, [], ◌∷◌, length, refl, sym, subst, ◌∙◌, inl, inr, arith, Option, Some, None}
use Rattle.std.specs.Prelude.{◌==◌, nat_lt, slice_get}
use Rattle.std.specs.Option.{option_or}
use Rattle.std.proofs.lemmas.Bool.{and_parts, eq-eqb, eqb-true, eqb-false, ltb-true}
use Rattle.std.proofs.lemmas.Option.{slice_get_within}
use Rattle.mb_base.specs.Shapes.{primary}
use Rattle.mb_parts.specs.declared.batch.Batch.{Batch}
use Rattle.mb_parts.specs.declared.certificates.Evidence.{Evidence}
use Rattle.mb_parts.specs.Bares.{Bare}
use Rattle.mb_parts.specs.Ordered.{initial_floor, is_opened, last_position, permits}
use Rattle.mb_parts.proofs.OrderedParts.{head}
use Rattle.mb_msg.specs.declared.message.Body.TheVariants.{Whole}
use Rattle.mb_msg.specs.declared.message.Message.TheVariants as message
use Rattle.mb_msg.specs.declared.normal.Prepare.{Prepare}
use Rattle.mb_msg.specs.declared.normal.Commit.{Commit}
use Rattle.mb_msg.specs.declared.change.Open.{Open}
use Rattle.mb_msg.specs.declared.change.OpenBody.{OpenBody}
use Rattle.mb_msg.specs.declared.change.Plan.{Plan}
use Rattle.mb_msg.specs.declared.stamped.Stamped.{Stamped as StampedMessage}
use Rattle.mb_msg.specs.declared.stamped.Stamped.TheVariants as stamped
use Rattle.mb_msg.specs.Stamps.{bare_of, ui_of}
use Rattle.mb_model.specs.declared.known.Vote.{Vote}
use Rattle.mb_model.specs.declared.known.KnownSlot.{KnownSlot}
use Rattle.mb_model.specs.Histories.{Entry, Accepted, Stamped, History, Identity, origin, taken_of, said, stamped as all_stamped}
use Rattle.mb_model.specs.Held.{opened_by, plan_at}
use Rattle.mb_model.specs.Positions.{batch_from, slot_by, vote_by, counts_opens, open_vote, open_vote_by, counts_at, slot_in, vote_of}
use Rattle.mb_model.specs.Passed.{PassesGate}
use Rattle.mb_model.proofs.Options.{or_some, if_some}
use Rattle.mb_steps.specs.OwnLists.{inner}
use Rattle.mb_steps.specs.Arises.{Arises}
use Rattle.mb_steps.proofs.StepHeldEvidence.{prepare_by_primary}
use Rattle.mb_steps.proofs.StepOwnList.{own_passed}
use Rattle.mb_steps.proofs.StepOwnStamped.{steady}
use Rattle.mb_promise.specs.WhatCame.{SaysSlot, SaysVote}
use Rattle.mb_host_laws.proofs.Cases.{not_true, not_both}
use Rattle.mb_host_laws.proofs.OwnSlots.{IsOpened, IsBehind, behind_stays}
use Rattle.mb_views.proofs.OwnSeen.{seen_open}
use Rattle.mb_provenance.proofs.WhatCame.{says_slot, says_vote}

none_where : {A : Type 0} (o : Option A) → ((x : A) → o ≡ Some x → ⊥) → o ≡ None
none_where None never = refl
none_where (Some x) never = absurd (never x refl)

module _ {S : Type 0} (self : Identity S) where
  -- ---- what was stamped was permitted

  abbrev IsPermitted : History → StampedMessage → Type 0
  IsPermitted d m = permits initial_floor self.shape self.host (inner self) (said d) (bare_of m) ≡ true

  permitted : (d : History) (m : StampedMessage) → Arises self (Stamped m ∷ d) → IsPermitted d m
  unfolding all_stamped
  permitted d m a = head initial_floor self.shape self.host (inner self) (bare_of m) (said d) (steady self (Stamped m ∷ d) a).list.ordered

  -- Nothing of this host is accepted.
  none_own : (d : History) (m : StampedMessage) → Arises self d → PassesGate self d m → (ui_of m).host ≡ self.host → ⊥
  none_own d m a g same = eqb-false (ui_of m).host self.host (own_passed self d m (steady self d a).list.own g) same

  -- ---- a PREPARE, a COMMIT or an OPEN, right behind which it is so

  record Next (d : History) (v p : ℕ) : Type 0 where
    opened : IsOpened self (said d) v
    next : p ≡ last_position initial_floor (said d) v + 1

  prepare_next : (d : History) (m : Prepare) → Arises self (Stamped (stamped.Prepare m) ∷ d) → Next d m.view m.pos
  unfolding permits
  prepare_next d m a =
      let x = and_parts _ _ (permitted d (stamped.Prepare m) a) in
      let y = and_parts (self.host == primary self.shape m.view) _ x.1 in
      let z = and_parts (is_opened initial_floor (said d) m.view) (m.pos == last_position initial_floor (said d) m.view + 1) y.1 in
      record { opened = z.0; next = eqb-true m.pos (last_position initial_floor (said d) m.view + 1) z.1 }

  commit_next : (d : History) (m : Commit) → Arises self (Stamped (stamped.Commit m) ∷ d) → Next d m.view m.pos
  unfolding permits
  commit_next d m a =
      let x = and_parts _ _ (permitted d (stamped.Commit m) a) in
      let y = and_parts (not (self.host == primary self.shape m.view)) _ x.1 in
      let z = and_parts (is_opened initial_floor (said d) m.view) _ y.1 in
      let w = and_parts (m.pos == last_position initial_floor (said d) m.view + 1) (inner self (bare_of (stamped.Commit m))) z.1 in
      record { opened = z.0; next = eqb-true m.pos (last_position initial_floor (said d) m.view + 1) w.0 }

  open_closed : (d : History) (m : Open) → Arises self (Stamped (stamped.Open m) ∷ d) → not (is_opened initial_floor (said d) m.evidence.view) ≡ true
  unfolding permits
  open_closed d m a =
      let x = and_parts _ _ (permitted d (stamped.Open m) a) in
      (and_parts (not (is_opened initial_floor (said d) m.evidence.view)) _ x.1).0

  prepare_behind : (d : History) (m : Prepare) → Arises self (Stamped (stamped.Prepare m) ∷ d) → IsBehind self (said (Stamped (stamped.Prepare m) ∷ d)) m.view m.pos
  unfolding all_stamped is_opened last_position
  prepare_behind d m a = ((prepare_next d m a).opened, rw (eq-eqb m.view m.view refl) (omega arith))

  commit_behind : (d : History) (m : Commit) → Arises self (Stamped (stamped.Commit m) ∷ d) → IsBehind self (said (Stamped (stamped.Commit m) ∷ d)) m.view m.pos
  unfolding all_stamped is_opened last_position
  commit_behind d m a = ((commit_next d m a).opened, rw (eq-eqb m.view m.view refl) (omega arith))

  whole_same : (x y : OpenBody) → Whole x ≡ Whole y → x ≡ y
  whole_same x y e = cc

  carried_below : (d : History) (m : Open) (p : ℕ) (b : OpenBody) (c : Batch) → Arises self (Stamped (stamped.Open m) ∷ d) → m.body ≡ Whole b → batch_from m.evidence.base p b.batches ≡ Some c → p ≤ m.evidence.end
  carried_below d m p b c a whole at =
      let s = seen_open self d m a.0 in
      let same : b ≡ record { stable = s.plan.base; batches = s.plan.batches } = whole_same b (record { stable = s.plan.base; batches = s.plan.batches }) (sym whole ∙ s.body) in
      let many : length b.batches ≡ length s.plan.batches = rw same refl in
      let t = if_some (nat_lt m.evidence.base p) (slice_get b.batches (p - m.evidence.base - 1)) c at in
      omega (arith, ltb-true m.evidence.base p t.0, slice_get_within b.batches (p - m.evidence.base - 1) c t.1, s.end, s.base, many)

  open_behind : (d : History) (m : Open) (p : ℕ) (b : OpenBody) (c : Batch) → Arises self (Stamped (stamped.Open m) ∷ d) → m.body ≡ Whole b → batch_from m.evidence.base p b.batches ≡ Some c
      → IsBehind self (said (Stamped (stamped.Open m) ∷ d)) m.evidence.view p
  unfolding all_stamped is_opened last_position
  open_behind d m p b c a whole at = rw (eq-eqb m.evidence.view m.evidence.view refl) (refl, carried_below d m p b c a whole at)

  moved : (l : List Bare) (v w p q : ℕ) → v ≡ w → p ≡ q → IsBehind self l v p → IsBehind self l w q
  moved l v w p q view pos b = subst (λ (x : ℕ). IsBehind self l x q) view (subst (λ (y : ℕ). IsBehind self l v y) pos b)

  -- ---- votes

  vote_said : (x : Entry) (d : History) (v p : ℕ) (y : Vote) → Arises self (x ∷ d) → SaysVote self.host x self.host v p y → IsBehind self (said (x ∷ d)) v p
  vote_said (Accepted (message.Prepare m)) d v p y a s = absurd (none_own d (stamped.Prepare m) a.1 a.0.gate s.0)
  vote_said (Accepted (message.Commit m)) d v p y a s = absurd (none_own d (stamped.Commit m) a.1 a.0.gate s.0)
  vote_said (Stamped (stamped.Prepare m)) d v p y a s = moved (said (Stamped (stamped.Prepare m) ∷ d)) m.view v m.pos p s.1.0 s.1.1 (prepare_behind d m a)
  vote_said (Stamped (stamped.Commit m)) d v p y a s = moved (said (Stamped (stamped.Commit m) ∷ d)) m.view v m.pos p s.1.0 s.1.1 (commit_behind d m a)
  vote_said (Stamped (stamped.Open m)) d v p y a s =
      let c = s.2 in
      moved (said (Stamped (stamped.Open m) ∷ d)) m.evidence.view v p p c.view refl (open_behind d m p c.body s.1 a c.whole c.at)
  vote_said x d v p y a s = absurd s

  -- No OPEN of this host was accepted.
  none_opened : (d : History) → Arises self d → opened_by d self.host ≡ None
  unfolding opened_by
  none_opened [] a = refl
  none_opened (Accepted (message.Open m) ∷ d) a = rw (own_passed self d (stamped.Open m) (steady self d a.1).list.own a.0.gate) (none_opened d a.1)
  none_opened (x ∷ d) a = none_opened d a.1

  none_of_none : (o : Option Evidence) (q : Option Plan) (v p : ℕ) (y : Vote) → o ≡ None → open_vote o q v p ≡ Some y → ⊥
  none_of_none None q v p y none e = absurd cc
  none_of_none (Some f) q v p y none e = absurd cc

  vote_new : (x : Entry) (d : History) (v p : ℕ) (y : Vote) → Arises self (x ∷ d) → option_or (vote_by self.host x self.host v p) (open_vote_by self (x ∷ d) x self.host v p) ≡ Some y
      → IsBehind self (said (x ∷ d)) v p
  vote_new x d v p y a e = elim (or_some (vote_by self.host x self.host v p) (open_vote_by self (x ∷ d) x self.host v p) y e) [
    | inl own ↦ vote_said x d v p y a (says_vote self.host x self.host v p y own)
    | inr opened ↦
        let t = if_some (counts_opens x) (open_vote (opened_by (x ∷ d) self.host) (plan_at self (x ∷ d) v) v p) y opened in
        absurd (none_of_none (opened_by (x ∷ d) self.host) (plan_at self (x ∷ d) v) v p y (none_opened (x ∷ d) a) t.1)
  ]

  votes_behind : (d : History) → Arises self d → (v p : ℕ) (y : Vote) → vote_of self d self.host v p ≡ Some y → IsBehind self (said d) v p
  unfolding vote_of
  votes_behind [] a v p y e = absurd cc
  votes_behind (x ∷ d) a v p y e = elim (or_some (vote_of self d self.host v p) _ y e) [
    | inl before ↦ behind_stays self d x a v p (votes_behind d a.1 v p y before)
    | inr now ↦ vote_new x d v p y a (if_some (counts_at self (x ∷ d) v p) _ y now).1
  ]

  -- ---- slots of a view that this host leads

  slot_said : (x : Entry) (d : History) (v p : ℕ) (k : KnownSlot) → self.host ≡ primary self.shape v → Arises self (x ∷ d) → SaysSlot x v p k → IsBehind self (said (x ∷ d)) v p
  slot_said (Accepted (message.Prepare m)) d v p k leads a s =
      let by : m.ui.host ≡ primary self.shape m.view = prepare_by_primary (origin d m.ui.host) self.shape m.ui.host _ (taken_of d m.ui.host) m.view m.pos _ a.0.gate.permitted in
      let of_view : primary self.shape m.view ≡ primary self.shape v = rw s.0 refl in
      absurd (none_own d (stamped.Prepare m) a.1 a.0.gate (by ∙ (of_view ∙ sym leads)))
  slot_said (Stamped (stamped.Prepare m)) d v p k leads a s = moved (said (Stamped (stamped.Prepare m) ∷ d)) m.view v m.pos p s.0 s.1 (prepare_behind d m a)
  slot_said (Stamped (stamped.Open m)) d v p k leads a s =
      let c = s.1 in
      moved (said (Stamped (stamped.Open m) ∷ d)) m.evidence.view v p p c.view refl (open_behind d m p c.body s.0 a c.whole c.at)
  slot_said x d v p k leads a s = absurd s

  slots_behind : (d : History) → Arises self d → (v p : ℕ) (k : KnownSlot) → self.host ≡ primary self.shape v → slot_in self d v p ≡ Some k → IsBehind self (said d) v p
  unfolding slot_in
  slots_behind [] a v p k leads e = absurd cc
  slots_behind (x ∷ d) a v p k leads e = elim (or_some (slot_in self d v p) _ k e) [
    | inl before ↦ behind_stays self d x a v p (slots_behind d a.1 v p k leads before)
    | inr now ↦ slot_said x d v p k leads a (says_slot x v p k (if_some (counts_at self (x ∷ d) v p) (slot_by x v p) k now).1)
  ]

  -- ---- so none stands there before

  beyond : (d : History) (v p : ℕ) → Next d v p → IsBehind self (said d) v p → ⊥
  beyond d v p n b = absurd (omega (arith, n.next, b.1))

  pub no_vote_of_prepare : (d : History) (m : Prepare) → Arises self (Stamped (stamped.Prepare m) ∷ d) → vote_of self d self.host m.view m.pos ≡ None
  no_vote_of_prepare d m a = none_where (vote_of self d self.host m.view m.pos) (λ y e. beyond d m.view m.pos (prepare_next d m a) (votes_behind d a.1 m.view m.pos y e))

  pub no_slot_of_prepare : (d : History) (m : Prepare) → Arises self (Stamped (stamped.Prepare m) ∷ d) → slot_in self d m.view m.pos ≡ None
  no_slot_of_prepare d m a =
      let leads : self.host ≡ primary self.shape m.view = prepare_by_primary initial_floor self.shape self.host (inner self) (said d) m.view m.pos _ (permitted d (stamped.Prepare m) a) in
      none_where (slot_in self d m.view m.pos) (λ k e. beyond d m.view m.pos (prepare_next d m a) (slots_behind d a.1 m.view m.pos k leads e))

  pub no_vote_of_commit : (d : History) (m : Commit) → Arises self (Stamped (stamped.Commit m) ∷ d) → vote_of self d self.host m.view m.pos ≡ None
  no_vote_of_commit d m a = none_where (vote_of self d self.host m.view m.pos) (λ y e. beyond d m.view m.pos (commit_next d m a) (votes_behind d a.1 m.view m.pos y e))

  pub no_vote_of_open : (d : History) (m : Open) → Arises self (Stamped (stamped.Open m) ∷ d) → (p : ℕ) → vote_of self d self.host m.evidence.view p ≡ None
  no_vote_of_open d m a p = none_where (vote_of self d self.host m.evidence.view p) (λ y e. not_both (is_opened initial_floor (said d) m.evidence.view) (votes_behind d a.1 m.evidence.view p y e).0 (not_true _ (open_closed d m a)))
