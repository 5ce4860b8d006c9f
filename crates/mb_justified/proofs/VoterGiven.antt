-- A vote of another host that a correct host counts is the vote of a message that it accepted of that host.
--
-- A PREPARE or a COMMIT was counted as it was accepted. The vote of an OPEN was counted once the plan with the digest that it names was held: the digest
-- stands for this plan (`held_plan_known`), so it is the OPEN's vote in the record.
use Rattle.std.proofs.Common.{◌≡◌, ℕ, zero, suc, ◌⊎◌, true, false, ◌&&◌, List, [], ◌∷◌, refl, sym, ap, subst, inl, inr, Option, Some, None}
use Rattle.std.specs.Prelude.{◌==◌, ◌-◌, option_map, if◌then◌else◌, nat_lt, slice_get, map}
use Rattle.std.specs.Option.{option_or}
use Rattle.std.proofs.lemmas.Bool.{cases_Bool, and_parts, eqb-true}
use Rattle.mb_usig.specs.Tags.{same_bytes}
use Rattle.mb_usig.proofs.Laws.{same_bytes-true}
use Rattle.mb_base.specs.Shapes.{Bytes}
use Rattle.mb_parts.specs.declared.certificates.Evidence.{Evidence}
use Rattle.mb_parts.specs.Bares.{batch_digest}
use Rattle.mb_parts.specs.Spelling.{batch_bytes}
use Rattle.mb_msg.specs.declared.message.Body.{Body}
use Rattle.mb_msg.specs.declared.message.Message.TheVariants as message
use Rattle.mb_msg.specs.declared.change.Open.{Open as OpenMessage}
use Rattle.mb_msg.specs.declared.change.Plan.{Plan}
use Rattle.mb_msg.specs.declared.stamped.Stamped.{Stamped as StampedMessage}
use Rattle.mb_msg.specs.declared.stamped.Stamped.TheVariants as stamped
use Rattle.mb_msg.specs.Bodies.{body_digest}
use Rattle.mb_msg.specs.Stamps.{ui_of, bare_of, as_message}
use Rattle.mb_msg.specs.Plans.{plan_digest}
use Rattle.mb_agreement.specs.Agreement.{text_of}
use Rattle.mb_model.specs.declared.known.Vote.{Vote}
use Rattle.mb_model.specs.Committed.{planned, vote_by as votes_by}
use Rattle.mb_model.specs.Histories.{Entry, Accepted, Stamped, History, Identity}
use Rattle.mb_model.specs.Held.{opened_by, plan_held, plan_of_view, plan_at}
use Rattle.mb_model.specs.Positions.{batch_from, slot_vote, slot_of_open, vote_with, vote_by, counts_opens, open_vote, counts_at, open_vote_by, vote_of}
use Rattle.mb_model.proofs.Options.{or_some, map_some, if_some}
use Rattle.mb_world_model.specs.WorldEvents.{IsCorrect}
use Rattle.mb_world_model.specs.World.{World, System, self_of}
use Rattle.mb_world_model.specs.WorldRecord.{plans}
use Rattle.mb_host_laws.proofs.Cases.{some_is}
use Rattle.mb_host_laws.specs.Rests.{Each}
use Rattle.mb_world_laws.proofs.Facts.{Facts}
use Rattle.mb_views.proofs.Follows.{JumpsLed}
use Rattle.mb_host_laws.proofs.Moments.{IsPast, past_tail}
use Rattle.mb_views.proofs.HeldPlans.{held_plan_known}
use Rattle.mb_parts.specs.declared.batch.Batch.{Batch}

-- ---- the last OPEN of a host

pub record WasOpened (d : History) (g : ℕ) (e : Evidence) : Type 0 where
  pub opening : OpenMessage
  pub before : History
  pub past : IsPast (Accepted (message.Open opening) ∷ before) d
  pub sender : opening.ui.host ≡ g
  pub shows : opening.evidence ≡ e

pub was_opened : (d : History) (g : ℕ) (e : Evidence) → opened_by d g ≡ Some e → WasOpened d g e
unfolding opened_by
was_opened [] g e o = absurd cc
was_opened (Accepted (message.Open m) ∷ d) g e o = elim (cases_Bool (m.ui.host == g)) [
  | inl mine ↦ record { opening = m; before = d; past = record { later = []; is = refl }; sender = eqb-true m.ui.host g mine; shows = some_is m.evidence e (rw mine at o) }
  | inr other ↦ let r = was_opened d g e (rw other at o) in record { opening = r.opening; before = r.before; past = record { later = Accepted (message.Open m) ∷ r.past.later; is = ap (λ (y : History). Accepted (message.Open m) ∷ y) r.past.is }; sender = r.sender; shows = r.shows }
]
was_opened (z ∷ d) g e o = let r = was_opened d g e o in record { opening = r.opening; before = r.before; past = record { later = z ∷ r.past.later; is = ap (λ (y : History). z ∷ y) r.past.is }; sender = r.sender; shows = r.shows }

mapped_at : (l : List Batch) (i : ℕ) (r : Batch) → slice_get l i ≡ Some r → slice_get (map batch_digest l) i ≡ Some (batch_digest r)
mapped_at [] i r e = absurd cc
mapped_at (x ∷ l) zero r e = cc
mapped_at (x ∷ l) (suc i) r e = mapped_at l i r e

module _ {S : Type 0} (system : System S) (w : World) (f : Facts system w) (jumps : (h : ℕ) → IsCorrect system.schedule h → Each (JumpsLed system w f) (w.histories h)) (h : ℕ) (correct : IsCorrect system.schedule h) where
  abbrev self : Identity S
  self = self_of system h

  -- A message that the host accepted of another votes so.
  pub record IsVoter (d : History) (g v p : ℕ) (x : Vote) : Type 0 where
    pub message : StampedMessage
    pub before : History
    pub past : IsPast (Accepted (as_message message) ∷ before) d
    pub sender : (ui_of message).host ≡ g
    pub votes : votes_by (plans system.schedule w) (ui_of message).counter (bare_of message) v p ≡ Some x

  longer : (e : Entry) (d : History) (g v p : ℕ) (x : Vote) → IsVoter d g v p x → IsVoter (e ∷ d) g v p x
  longer e d g v p x r = record { message = r.message; before = r.before; past = record { later = e ∷ r.past.later; is = ap (λ (y : History). e ∷ y) r.past.is }; sender = r.sender; votes = r.votes }

  -- what a PREPARE or COMMIT says of a position of a view
  said_vote : (voter g v p view pos : ℕ) (body : Body Batch) (counter : ℕ) (x : Vote) → vote_with voter g v p view pos body counter ≡ Some x
      → (voter ≡ g) × ((if view == v && pos == p then Some (record { counter = counter; request = body_digest batch_bytes body }) else None) ≡ Some x)
  said_vote voter g v p view pos body counter x e =
      let t = if_some (view == v && (pos == p && voter == g)) (Some (record { counter = counter; request = body_digest batch_bytes body })) x e in
      let a = and_parts (view == v) (pos == p && voter == g) t.0 in
      let b = and_parts (pos == p) (voter == g) a.1 in
      (eqb-true voter g b.1, rw (a.0, b.0) t.1)

  other_own : (g v p view pos : ℕ) (body : Body Batch) (counter : ℕ) (x : Vote) → (g ≡ h → ⊥) → vote_with h g v p view pos body counter ≡ Some x → ⊥
  other_own g v p view pos body counter x other e = other (sym (said_vote h g v p view pos body counter x e).0)

  counted_by : (e : Entry) (d : History) (g v p : ℕ) (x : Vote) → (g ≡ h → ⊥) → vote_by h e g v p ≡ Some x → IsVoter (e ∷ d) g v p x
  unfolding votes_by
  counted_by (Accepted (message.Prepare m)) d g v p x other e = let s = said_vote m.ui.host g v p m.view m.pos m.body m.ui.counter x e in record { message = stamped.Prepare m; before = d; past = record { later = []; is = refl }; sender = s.0; votes = s.1 }
  counted_by (Accepted (message.Commit m)) d g v p x other e = let s = said_vote m.ui.host g v p m.view m.pos m.body m.counter x e in record { message = stamped.Commit m; before = d; past = record { later = []; is = refl }; sender = s.0; votes = s.1 }
  counted_by (Stamped (stamped.Prepare m)) d g v p x other e = absurd (other_own g v p m.view m.pos m.body m.ui.counter x other e)
  counted_by (Stamped (stamped.Commit m)) d g v p x other e = absurd (other_own g v p m.view m.pos m.body m.counter x other e)
  counted_by (Stamped (stamped.Open m)) d g v p x other e = absurd (other (sym (eqb-true h g (if_some (h == g) (option_map slot_vote (slot_of_open m v p)) x e).0)))
  counted_by e d g v p x other is = absurd cc

  -- ---- OPENs

  batch_planned : (plan : Plan) (p : ℕ) (r : Batch) → batch_from plan.base.pos p plan.batches ≡ Some r
      → planned (Some (record { base = plan.base.pos; digests = map batch_digest plan.batches })) p ≡ Some (batch_digest r)
  batch_planned plan p r e =
      let t = if_some (nat_lt plan.base.pos p) (slice_get plan.batches (p - plan.base.pos - 1)) r e in
      rw t.0 (mapped_at plan.batches (p - plan.base.pos - 1) r t.1)

  open_counted : (d : History) (g v p : ℕ) (x : Vote) → IsPast d (w.histories h) → (o : Option Evidence) → opened_by d g ≡ o → (a : Option (ℕ × Plan)) → plan_held self d ≡ a → open_vote o (plan_of_view v a) v p ≡ Some x → IsVoter d g v p x
  unfolding votes_by
  open_counted d g v p x past None is a held e = absurd cc
  open_counted d g v p x past (Some o) is None held e = absurd cc
  open_counted d g v p x past (Some o) is (Some q) held e = go (cases_Bool (q.0 == v)) where
    go : ((q.0 == v) ≡ true) ⊎ ((q.0 == v) ≡ false) → IsVoter d g v p x
    go (inr other) = absurd (none (rw other at e)) where
      none : None ≡ Some x → ⊥
      none e = cc
    go (inl mine) =
        let t = if_some (o.view == v && same_bytes (plan_digest q.1) o.plan) (option_map (λ r. record { counter = o.counter; request = batch_digest r }) (batch_from q.1.base.pos p q.1.batches)) x (rw mine at e) in
        let c = and_parts (o.view == v) (same_bytes (plan_digest q.1) o.plan) t.0 in
        let r = map_some (λ r. record { counter = o.counter; request = batch_digest r }) (batch_from q.1.base.pos p q.1.batches) x t.1 in
        let m : WasOpened d g o = was_opened d g o is in
        let known = subst (λ (x : Bytes). plans system.schedule w x ≡ Some (text_of q.1)) (same_bytes-true (plan_digest q.1) o.plan c.1) (held_plan_known system w f jumps h d correct past q held).known in
        let there : planned (plans system.schedule w o.plan) p ≡ Some (batch_digest r.0) = rw known (batch_planned q.1 p r.0 r.1) in
        let votes : (if o.view == v then option_map (λ z. record { counter = o.counter; request = z }) (planned (plans system.schedule w o.plan) p) else None) ≡ Some x = rw (c.0, there) (ap (λ (z : Vote). Some z) r.2) in
        record {
          message = stamped.Open m.opening;
          before = m.before;
          past = m.past;
          sender = m.sender;
          votes = subst (λ (y : Evidence). (if y.view == v then option_map (λ z. record { counter = y.counter; request = z }) (planned (plans system.schedule w y.plan) p) else None) ≡ Some x) (sym m.shows) votes;
        }

  -- ---- all votes

  pub other_vote : (d : History) (g v p : ℕ) (x : Vote) → IsPast d (w.histories h) → (g ≡ h → ⊥) → vote_of self d g v p ≡ Some x → IsVoter d g v p x
  unfolding vote_of
  other_vote [] g v p x past other e = absurd cc
  other_vote (z ∷ d) g v p x past other e =
      let new : Option Vote = option_or (vote_by h z g v p) (open_vote_by self (z ∷ d) z g v p) in
      elim (or_some (vote_of self d g v p) (if counts_at self (z ∷ d) v p then new else None) x e) [
        | inl before ↦ longer z d g v p x (other_vote d g v p x (past_tail z d (w.histories h) past) other before)
        | inr now ↦
            let t = if_some (counts_at self (z ∷ d) v p) new x now in
            elim (or_some (vote_by h z g v p) (open_vote_by self (z ∷ d) z g v p) x t.1) [
              | inl said ↦ counted_by z d g v p x other said
              | inr opened ↦
                  let u = if_some (counts_opens z) (open_vote (opened_by (z ∷ d) g) (plan_at self (z ∷ d) v) v p) x opened in
                  open_counted (z ∷ d) g v p x past (opened_by (z ∷ d) g) refl (plan_held self (z ∷ d)) refl u.1
            ]
      ]
