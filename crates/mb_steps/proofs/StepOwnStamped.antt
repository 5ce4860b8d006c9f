-- What each rule stamps goes onto the own list in order, and keeps what goes with that order. So in a history that arises the own list is ordered.
use Rattle.std.proofs.Common.{◌≡◌, ℕ, ◌+◌, ◌≤◌, ◌<◌, true, false, ◌&&◌, ◌||◌, not, List, [], ◌∷◌, length, refl, sym, ap, subst, ◌∙◌, inl, inr, arith, Option, Some, None}
use Rattle.std.specs.Prelude.{◌==◌, ◌%◌, ◌-◌, nat_lt, nat_le, option_map, slice_get, if◌then◌else◌}
use Rattle.std.proofs.lemmas.Bool.{and_parts, both_ways, or_cases, cases_Bool, eqb-true, eq-eqb, ltb-true, leb-true, not-true, and_from}
use Rattle.std.proofs.lemmas.Option.{slice_get_within}
use Rattle.mb_base.specs.Shapes.{interval, primary}
use Rattle.mb_parts.specs.declared.batch.Batch.{Batch}
use Rattle.mb_parts.specs.declared.certificates.Evidence.{Evidence}
use Rattle.mb_parts.specs.declared.certificates.StableCert.{StableCert}
use Rattle.mb_parts.specs.Bares.{batch_digest}
use Rattle.mb_parts.specs.Bares as bare
use Rattle.mb_parts.specs.Spelling.{batch_bytes}
use Rattle.mb_parts.specs.Claims.{prepare_claim}
use Rattle.mb_parts.specs.Certificates.{inner_valid, is_evidence, is_stable}
use Rattle.mb_parts.specs.Ordered.{end_of}
use Rattle.mb_msg.specs.declared.message.Body.{Body}
use Rattle.mb_msg.specs.declared.message.Body.TheVariants.{Whole, Bare as Short}
use Rattle.mb_msg.specs.declared.message.Message.TheVariants as message
use Rattle.mb_msg.specs.declared.normal.Prepare.{Prepare as PrepareMessage}
use Rattle.mb_msg.specs.declared.change.Open.{Open as OpenMessage}
use Rattle.mb_msg.specs.declared.change.ViewChange.{ViewChange}
use Rattle.mb_msg.specs.declared.change.NewView.{NewView}
use Rattle.mb_msg.specs.declared.change.Plan.{Plan}
use Rattle.mb_msg.specs.declared.stamped.Stamped.{Stamped as StampedMessage}
use Rattle.mb_msg.specs.declared.stamped.Stamped.TheVariants as stamped
use Rattle.mb_msg.specs.Stamps.{bare_of}
use Rattle.mb_msg.specs.Bodies.{body_digest, whole_body}
use Rattle.mb_msg.specs.Plans.{plan_end}
use Rattle.mb_model.specs.declared.known.KnownSlot.{KnownSlot}
use Rattle.mb_model.specs.Histories.{Entry, Accepted, Stamped, Executed, History, Identity, here, view_of, is_open, is_entered, is_changing, is_primary}
use Rattle.mb_model.specs.Held.{evidence_of, evidence_view, evidence_in}
use Rattle.mb_model.specs.Stable.{stable_of, low_of}
use Rattle.mb_model.specs.OwnLog.{has_room, has_other_room}
use Rattle.mb_model.specs.Positions.{exec_of, batch_from, slot_of_prepare, slot_of_plan, slot_of_open, slot_by, slot_in, slot_at, in_window}
use Rattle.mb_model.specs.Sending.{signed, next_ui}
use Rattle.mb_model.specs.Making.{prepare, commit, view_change, new_view, enter, opening, join, join_evidence, checkpoint}
use Rattle.mb_model.specs.GateChecks.{valid}
use Rattle.mb_model.specs.EnabledRules.{ChangeView, Announce, Enter, Open, Join, Commit, Prepare, target, change_enabled, announce_enabled, enter_enabled, open_enabled, join_enabled, commit_enabled, prepare_enabled, next_position, with_batch, may_open, is_evidence_of, has_evidence, lags_behind, is_past_plan}
use Rattle.mb_steps.specs.OwnLists.{inner}
use Rattle.mb_model.proofs.Options.{if_some, map_some}
use Rattle.mb_steps.specs.Arises.{Arises, Makes, JustExecuted}
use Rattle.mb_steps.proofs.StepOwnList.{change_permitted, announce_permitted, enter_permitted, open_permitted, join_permitted, commit_permitted, checkpoint_permitted, order_place, prepare_permitted}
use Rattle.mb_steps.proofs.StepOwnFloor.{prepare_leads, commit_leads, checkpoint_leads, new_view_leads, enter_leads, change_leads, open_leads, join_leads}
use Rattle.mb_steps.proofs.StepOwnSteady.{shown_below, shown_within, IsSlot, IsSteady, IsKept, empty_steady, other_steady, stamped_steady, found_slot, prepare_slot}
use Rattle.mb_steps.proofs.StepHeldEvidence.{some_is, own_claim, open_seen, shows_checked, evidence_checks}
use Rattle.mb_steps.proofs.StepHeldStable.{stable_checks}

module _ {S : Type 0} (self : Identity S) where
  -- ---- the batch of a slot has the digest that the slot names

  body_named : (body : Body Batch) (b : Batch) → whole_body body ≡ Some b → batch_digest b ≡ body_digest batch_bytes body
  body_named (Whole c) b e = ap (λ (x : Batch). batch_digest x) (sym (some_is c b e))
  body_named (Short digest) b e = absurd cc

  abbrev IsNamed : KnownSlot → Type 0
  IsNamed k = (b : Batch) → k.batch ≡ Some b → batch_digest b ≡ k.digest

  prepare_named : (m : PrepareMessage) (v p : ℕ) (k : KnownSlot) → slot_of_prepare m v p ≡ Some k → IsNamed k
  prepare_named m v p k e =
      let made : KnownSlot = record { counter = m.ui.counter; cert = m.ui.cert; digest = body_digest batch_bytes m.body; batch = whole_body m.body } in
      let t = if_some (m.view == v && m.pos == p) (Some made) k e in
      subst (λ (y : KnownSlot). IsNamed y) (some_is made k t.1) (body_named m.body)

  open_named : (m : OpenMessage) (v p : ℕ) (k : KnownSlot) → slot_of_open m v p ≡ Some k → IsNamed k
  open_named m v p k e =
      let t = if_some (m.evidence.view == v) _ k e in
      let q = map_some (slot_of_plan m.evidence) _ k t.1 in
      subst (λ (y : KnownSlot). IsNamed y) q.2 (λ b is. ap (λ (x : Batch). batch_digest x) (sym (some_is q.0 b is)))

  entry_named : (x : Entry) (v p : ℕ) (k : KnownSlot) → slot_by x v p ≡ Some k → IsNamed k
  entry_named (Accepted (message.Prepare m)) v p k e = prepare_named m v p k e
  entry_named (Stamped (stamped.Prepare m)) v p k e = prepare_named m v p k e
  entry_named (Stamped (stamped.Open m)) v p k e = open_named m v p k e
  entry_named x v p k e = absurd cc

  slot_named : (d : History) (v p : ℕ) (k : KnownSlot) → slot_in self d v p ≡ Some k → IsNamed k
  unfolding slot_in
  slot_named [] v p k e = absurd cc
  slot_named (x ∷ d) v p k e = elim (found_slot self d x v p k e) [
    | inl before ↦ slot_named d v p k before
    | inr new ↦ entry_named x v p k new
  ]

  -- ---- VIEW_CHANGE, NEW_VIEW, ENTER

  rises : (d : History) (view : ℕ) → change_enabled self d ≡ Some (ChangeView view) → view_of self d < view
  unfolding change_enabled
  rises d view e =
      let t = if_some (nat_lt (view_of self d) (target self d) && has_other_room self d) (Some (ChangeView (target self d))) (ChangeView view) e in
      let above : view_of self d < target self d = ltb-true (view_of self d) (target self d) (and_parts (nat_lt (view_of self d) (target self d)) (has_other_room self d) t.0).0 in
      let same : target self d ≡ view = cc (t.1) in
      subst (λ (v : ℕ). view_of self d < v) same above

  change_kept : (d : History) (view : ℕ) → change_enabled self d ≡ Some (ChangeView view) → IsSteady self d → IsKept self d (view_change self d view) view false 0 (here self d).point
  change_kept d view e k =
      let above : view_of self d < view = rises d view e in
      record {
        permitted = change_permitted self d view k.list e;
        leads = change_leads (here self d) view _ above;
        evidence = λ o. absurd cc;
        end = λ o. absurd cc;
        onward = omega (arith, above);
        within = λ same o. absurd (omega (arith, above, same));
        slots = λ v p s f. absurd cc;
        checkpoint = k.point;
      }

  announce_kept : (d : History) (changes : List ViewChange) → announce_enabled self d ≡ Some (Announce changes) → IsSteady self d
      → IsKept self d (new_view self d changes) (view_of self d) (is_open self d) (here self d).last (here self d).point
  unfolding evidence_of
  announce_kept d changes e k = record {
    permitted = announce_permitted self d changes k.list e;
    leads = new_view_leads (here self d) _ _ _ _ _;
    evidence = k.opened;
    end = k.ended;
    onward = omega arith;
    within = λ same o. (o, omega arith);
    slots = λ v p s f. absurd cc;
    checkpoint = k.point;
  }

  enter_kept : (d : History) (n : NewView) → enter_enabled self d ≡ Some (Enter n) → IsSteady self d → IsKept self d (enter n) (view_of self d) (is_open self d) (here self d).last (here self d).point
  unfolding evidence_of
  enter_kept d n e k = record {
    permitted = enter_permitted self d n k.list e;
    leads = enter_leads (here self d) _ _ _;
    evidence = k.opened;
    end = k.ended;
    onward = omega arith;
    within = λ same o. (o, omega arith);
    slots = λ v p s f. absurd cc;
    checkpoint = k.point;
  }

  -- ---- OPEN

  -- the position of a batch that a plan carries on is at or below its end
  within_plan : (base p : ℕ) (l : List Batch) (b : Batch) → batch_from base p l ≡ Some b → p ≤ base + length l
  within_plan base p l b e =
      let t = if_some (nat_lt base p) (slice_get l (p - base - 1)) b e in
      omega (arith, ltb-true base p t.0, slice_get_within l (p - base - 1) b t.1)

  open_kept : (d : History) → Arises self d → (e : Evidence) (plan : Plan) → open_enabled self d ≡ Some (Open e plan) → IsSteady self d
      → IsKept self d (opening e plan) (view_of self d) true e.end (here self d).point
  unfolding evidence_of
  open_kept d a e plan o k =
      let seen = open_seen self d e plan o in
      let c = shows_checked self d a (evidence_checks self d a) (view_of self d) e seen.0 in
      record {
        permitted = open_permitted self d e plan k.list o c.0 c.1;
        leads = open_leads (here self d) e _ c.0;
        evidence = λ u. omega (arith, c.0);
        end = λ u. shown_below (view_of self d) e;
        onward = omega arith;
        within = λ same u. absurd (shut seen.2 u);
        slots = λ v p s f. inr (placed v p s f seen.1 c.0);
        checkpoint = k.point;
      } where
        shut : may_open self d ≡ true → is_open self d ≡ true → ⊥
        shut may u =
            let a = and_parts (nat_lt 0 (view_of self d)) (not (is_open self d) && (not (is_primary self d) || is_entered self d)) may in
            let b = and_parts (not (is_open self d)) (not (is_primary self d) || is_entered self d) a.1 in
            both_ways (is_open self d) (not-true _ b.0) u

        placed : (v p : ℕ) (s : KnownSlot) → slot_by (Stamped (signed self d (opening e plan))) v p ≡ Some s → is_evidence_of e plan ≡ true → e.view ≡ view_of self d → (v ≡ view_of self d) × (true ≡ true) × (p ≤ e.end)
        placed v p s f names here_view =
            let t = if_some (e.view == v) (option_map (slot_of_plan e) (batch_from e.base p plan.batches)) s f in
            let r = map_some (slot_of_plan e) (batch_from e.base p plan.batches) s t.1 in
            let a = and_parts (e.base == plan.base.pos) _ names in
            let b = and_parts (e.end == plan_end plan) _ a.1 in
            let low : p ≤ e.base + length plan.batches = within_plan e.base p plan.batches r.0 r.1 in
            (sym (eqb-true e.view v t.0) ∙ here_view, refl, omega (arith, low, eqb-true e.base plan.base.pos a.0, eqb-true e.end (plan_end plan) b.0))

  -- ---- JOIN

  joins_valid : (v : ℕ) (x : Option Evidence) (c : StableCert) → ((e : Evidence) → x ≡ Some e → is_evidence self.shape (valid self) e ≡ true) → is_stable self.shape (valid self) c ≡ true
      → (v == 0 || evidence_view x == v) ≡ true → inner self (bare.Join v (if v == 0 then None else evidence_in v x) c) ≡ true
  unfolding inner_valid
  joins_valid v x c checks stable has = elim (cases_Bool (v == 0)) [
    | inl zero ↦ rw zero (and_from (v == 0) _ zero stable)
    | inr later ↦ rw later (go x checks later (rw later at has))
  ] where
    go : (y : Option Evidence) → ((e : Evidence) → y ≡ Some e → is_evidence self.shape (valid self) e ≡ true) → (v == 0) ≡ false → (evidence_view y == v) ≡ true → inner self (bare.Join v (evidence_in v y) c) ≡ true
    go None checks later has = absurd (both_ways (v == 0) later (eq-eqb v 0 (sym (eqb-true 0 v has))))
    go (Some e) checks later has = rw has (and_from (e.view == v) _ has (and_from _ _ (checks e refl) stable))

  join_low : (d : History) → join_enabled self d ≡ Some Join → IsSteady self d → (end_of (join_evidence self d) ≤ low_of self d) × (is_open self d ≡ true → (here self d).last ≤ low_of self d) × (has_evidence self d ≡ true)
  unfolding join_enabled
  join_low d e k =
      let t = if_some ((lags_behind self d || is_past_plan self d) && (has_evidence self d && (nat_le (low_of self d) (exec_of d) && has_other_room self d))) (Some Join) Join e in
      let a = and_parts (lags_behind self d || is_past_plan self d) (has_evidence self d && (nat_le (low_of self d) (exec_of d) && has_other_room self d)) t.0 in
      let has = (and_parts (has_evidence self d) (nat_le (low_of self d) (exec_of d) && has_other_room self d) a.1).0 in
      elim (or_cases (lags_behind self d) (is_past_plan self d) a.0) [
        | inl lags ↦
            let b = and_parts (is_open self d) (nat_lt (here self d).last (low_of self d)) lags in
            let below : (here self d).last < low_of self d = ltb-true (here self d).last (low_of self d) b.1 in
            (omega (arith, k.ended b.0, below), λ o. omega (arith, below), has)
        | inr past ↦
            let b = and_parts (nat_lt 0 (view_of self d)) (not (is_open self d) && (not (is_primary self d && is_changing self d) && (nat_lt 0 (low_of self d) && nat_le (end_of (evidence_of self d)) (low_of self d)))) past in
            let c = and_parts (not (is_open self d)) (not (is_primary self d && is_changing self d) && (nat_lt 0 (low_of self d) && nat_le (end_of (evidence_of self d)) (low_of self d))) b.1 in
            let f = and_parts (not (is_primary self d && is_changing self d)) (nat_lt 0 (low_of self d) && nat_le (end_of (evidence_of self d)) (low_of self d)) c.1 in
            let g = and_parts (nat_lt 0 (low_of self d)) (nat_le (end_of (evidence_of self d)) (low_of self d)) f.1 in
            let low : end_of (evidence_of self d) ≤ low_of self d = leb-true (end_of (evidence_of self d)) (low_of self d) g.1 in
            (omega (arith, shown_within (view_of self d) (evidence_of self d), low), λ o. absurd (both_ways (is_open self d) (not-true _ c.0) o), has)
      ]

  join_kept : (d : History) → Arises self d → join_enabled self d ≡ Some Join → IsSteady self d → IsKept self d (join self d) (view_of self d) true (low_of self d) (here self d).point
  unfolding evidence_of
  join_kept d a e k =
      let low = join_low d e k in
      record {
        permitted = join_permitted self d k.list e (λ o. low.0) (λ o. low.0) (joins_valid (view_of self d) (evidence_of self d) (stable_of self d) (evidence_checks self d a) (stable_checks self d a) low.2);
        leads = join_leads (here self d) (join_evidence self d) (stable_of self d);
        evidence = λ o. held (view_of self d) (evidence_of self d) low.2;
        end = λ o. low.0;
        onward = omega arith;
        within = λ same o. (refl, low.1 o);
        slots = λ v p s f. absurd cc;
        checkpoint = k.point;
      } where
        held : (v : ℕ) (x : Option Evidence) → (v == 0 || evidence_view x == v) ≡ true → v ≤ evidence_view x
        held v x h = elim (or_cases (v == 0) (evidence_view x == v) h) [
          | inl zero ↦ omega (arith, eqb-true v 0 zero)
          | inr same ↦ omega (arith, eqb-true (evidence_view x) v same)
        ]

  -- ---- COMMIT, PREPARE, CHECKPOINT

  commit_shape : (q : ℕ) (x : Option KnownSlot) (p : ℕ) (s : KnownSlot) (b : Batch) → with_batch (Commit q) x ≡ Some (Commit p s b) → (q ≡ p) × (x ≡ Some s) × (s.batch ≡ Some b)
  commit_shape q None p s b e = absurd cc
  commit_shape q (Some j) p s b e =
      let m = map_some (Commit q j) j.batch (Commit p s b) e in
      let slot : j ≡ s = cc (m.2) in
      let batch : m.0 ≡ b = cc (m.2) in
      (cc (m.2), ap (λ (y : KnownSlot). Some y) slot, ap (λ (y : KnownSlot). y.batch) (sym slot) ∙ m.1 ∙ ap (λ (y : Batch). Some y) batch)

  commit_seen : (d : History) (p : ℕ) (s : KnownSlot) (b : Batch) → commit_enabled self d ≡ Some (Commit p s b) → (p ≡ next_position self d) × (is_open self d ≡ true) × (slot_in self d (view_of self d) p ≡ Some s) × (s.batch ≡ Some b)
  unfolding commit_enabled
  commit_seen d p s b e =
      let t = if_some (is_open self d && (not (is_primary self d) && has_room self d)) (with_batch (Commit (next_position self d)) (slot_at self d (next_position self d))) (Commit p s b) e in
      let a = and_parts (is_open self d) (not (is_primary self d) && has_room self d) t.0 in
      let m = commit_shape (next_position self d) (slot_at self d (next_position self d)) p s b t.1 in
      let there = (if_some (in_window self d (next_position self d)) (slot_in self d (view_of self d) (next_position self d)) s m.1).1 in
      (sym m.0, a.0, subst (λ (q : ℕ). slot_in self d (view_of self d) q ≡ Some s) m.0 there, m.2)

  commit_kept : (d : History) (p : ℕ) (s : KnownSlot) (b : Batch) → commit_enabled self d ≡ Some (Commit p s b) → IsSteady self d → IsKept self d (commit self d p s b) (view_of self d) (is_open self d) p (here self d).point
  unfolding evidence_of inner_valid
  commit_kept d p s b e k =
      let seen = commit_seen d p s b e in
      let place : p ≡ (here self d).last + 1 = seen.0 in
      record {
        permitted = commit_permitted self d p s b k.list e (certified place (k.slots (view_of self d) p s seen.2)) (slot_named d (view_of self d) p s seen.2 b seen.3);
        leads = commit_leads (here self d) p _ _ _;
        evidence = k.opened;
        end = λ o. omega (arith, k.ended o, place);
        onward = omega arith;
        within = λ same o. (o, omega (arith, place));
        slots = λ v q t f. absurd cc;
        checkpoint = k.point;
      } where
        -- It is ahead of what this host ordered, so it has the certificate of its PREPARE.
        certified : p ≡ (here self d).last + 1 → IsSlot self (here self d) (view_of self d) p s → valid self (prepare_claim self.shape (view_of self d) p s.counter s.cert s.digest) ≡ true
        certified place (inl checks) = checks
        certified place (inr (inl lower)) = absurd (omega (arith, lower))
        certified place (inr (inr (same, o, low))) = absurd (omega (arith, place, low))

  prepare_kept : (d : History) (p : ℕ) (b : Batch) → prepare_enabled self d ≡ Some (Prepare p b) → IsSteady self d → IsKept self d (prepare self d p b) (view_of self d) (is_open self d) p (here self d).point
  unfolding evidence_of
  prepare_kept d p b e k =
      let seen = order_place self d p b e in
      let place : p ≡ (here self d).last + 1 = sym seen.0 in
      let made : PrepareMessage = record { view = view_of self d; pos = p; body = Whole b; ui = next_ui self d (bare_of (prepare self d p b)) } in
      record {
        permitted = prepare_permitted self d p b k.list e;
        leads = prepare_leads (here self d) p _;
        evidence = k.opened;
        end = λ o. omega (arith, k.ended o, place);
        onward = omega arith;
        within = λ same o. (o, omega (arith, place));
        slots = λ v q s f. inl (prepare_slot self made (eqb-true self.host (primary self.shape (view_of self d)) seen.1) (own_claim self d (prepare self d p b)) v q s f);
        checkpoint = k.point;
      }

  just_exec : (d : History) (p : ℕ) → JustExecuted self d p → exec_of d ≡ p
  unfolding exec_of
  just_exec (Executed slot ∷ d) p j = j
  just_exec d p j = absurd j

  checkpoint_kept : (d : History) (p : ℕ) → JustExecuted self d p → (p % interval self.shape == 0) ≡ true → IsSteady self d → IsKept self d (checkpoint self d p) (view_of self d) (is_open self d) (here self d).last p
  unfolding evidence_of
  checkpoint_kept d p j whole k = record {
    permitted = checkpoint_permitted self d p k.list whole (k.due p j);
    leads = checkpoint_leads (here self d) p _ _;
    evidence = k.opened;
    end = k.ended;
    onward = omega arith;
    within = λ same o. (o, omega arith);
    slots = λ v q s f. absurd cc;
    checkpoint = omega (arith, just_exec d p j);
  }

  -- ---- any entry

  stamped_added : (d : History) (m : StampedMessage) → Arises self d → Makes self d m → IsSteady self d → IsSteady self (Stamped m ∷ d)
  stamped_added d (stamped.ViewChange m) a (view, e, is) k = subst (λ (y : StampedMessage). IsSteady self (Stamped y ∷ d)) is (stamped_steady self d (view_change self d view) _ _ _ _ (change_kept d view e k) k)
  stamped_added d (stamped.NewView m) a (changes, e, is) k = subst (λ (y : StampedMessage). IsSteady self (Stamped y ∷ d)) is (stamped_steady self d (new_view self d changes) _ _ _ _ (announce_kept d changes e k) k)
  stamped_added d (stamped.Enter m) a (n, e, is) k = subst (λ (y : StampedMessage). IsSteady self (Stamped y ∷ d)) is (stamped_steady self d (enter n) _ _ _ _ (enter_kept d n e k) k)
  stamped_added d (stamped.Open m) a (e, plan, o, is) k = subst (λ (y : StampedMessage). IsSteady self (Stamped y ∷ d)) is (stamped_steady self d (opening e plan) _ _ _ _ (open_kept d a e plan o k) k)
  stamped_added d (stamped.Join m) a (e, is) k = subst (λ (y : StampedMessage). IsSteady self (Stamped y ∷ d)) is (stamped_steady self d (join self d) _ _ _ _ (join_kept d a e k) k)
  stamped_added d (stamped.Commit m) a (p, s, b, e, is) k = subst (λ (y : StampedMessage). IsSteady self (Stamped y ∷ d)) is (stamped_steady self d (commit self d p s b) _ _ _ _ (commit_kept d p s b e k) k)
  stamped_added d (stamped.Prepare m) a (p, b, e, is) k = subst (λ (y : StampedMessage). IsSteady self (Stamped y ∷ d)) is (stamped_steady self d (prepare self d p b) _ _ _ _ (prepare_kept d p b e k) k)
  stamped_added d (stamped.Checkpoint m) a (p, j, whole, is) k = subst (λ (y : StampedMessage). IsSteady self (Stamped y ∷ d)) is (stamped_steady self d (checkpoint self d p) _ _ _ _ (checkpoint_kept d p j whole k) k)

  pub steady : (d : History) → Arises self d → IsSteady self d
  steady [] a = empty_steady self
  steady (Stamped m ∷ d) a = stamped_added d m a.1 a.0 (steady d a.1)
  steady (x ∷ d) a = other_steady self d x tt a.0 (steady d a.1)
