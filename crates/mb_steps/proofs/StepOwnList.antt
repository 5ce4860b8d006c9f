-- The own list of a host is ordered: each rule stamps only what the own gate permits, where what is held checks. And no message of the own
-- number is accepted.
use Rattle.std.proofs.Common.{◌≡◌, ℕ, ◌+◌, ◌≤◌, ◌<◌, Bool, true, false, ◌&&◌, ◌||◌, not, List, [], ◌∷◌, length, refl, sym, ap, subst, ◌∙◌, inl, inr, arith, eqb, Option, Some, None}
use Rattle.std.specs.Prelude.{◌==◌, nat_lt, nat_le, option_map, ◌%◌}
use Rattle.std.proofs.lemmas.Bool.{and_parts, and_from, or_cases, cases_Bool, eqb-true, eq-eqb, ltb-true, lt-ltb, le-leb, not-true}
use Rattle.std.proofs.lemmas.List.{length-map}
use Rattle.mb_base.specs.Shapes.{Bytes, interval, primary}
use Rattle.mb_base.specs.declared.shape.Shape.{Shape}
use Rattle.mb_parts.specs.declared.floor.Floor.{Floor}
use Rattle.mb_parts.specs.declared.batch.Batch.{Batch}
use Rattle.mb_parts.specs.declared.certificates.Evidence.{Evidence}
use Rattle.mb_parts.specs.declared.certificates.StableCert.{StableCert}
use Rattle.mb_parts.specs.Bares.{Bare, batch_digest}
use Rattle.mb_parts.specs.Bares as bare
use Rattle.mb_parts.specs.Certificates.{inner_valid, is_evidence}
use Rattle.mb_parts.specs.Ordered.{initial_floor, permits, is_ordered, floor_after, current_view, is_opened, is_entered as entered_in, last_position, last_checkpoint, phase_is_open, phase_is_entered, end_of}
use Rattle.mb_parts.proofs.OrderedLaws.{goes_on}
use Rattle.mb_msg.specs.declared.change.ViewChange.{ViewChange}
use Rattle.mb_msg.specs.declared.change.NewView.{NewView}
use Rattle.mb_msg.specs.declared.change.Plan.{Plan}
use Rattle.mb_msg.specs.declared.stamped.Stamped.{Stamped as StampedMessage}
use Rattle.mb_msg.specs.Stamps.{bare_of, ui_of}
use Rattle.mb_model.specs.declared.known.KnownSlot.{KnownSlot}
use Rattle.mb_model.specs.Histories.{Stamped, History, Identity, origin, taken_of, gate, said, stamped as all_stamped, counter_of, here, view_of, is_open, is_entered, is_changing, is_primary}
use Rattle.mb_model.specs.Held.{evidence_for, new_view_in_view, new_view_of, chosen, evidence_of, plan_at}
use Rattle.mb_model.specs.Stable.{stable_of, low_of}
use Rattle.mb_model.specs.OwnLog.{has_room, has_other_room}
use Rattle.mb_model.specs.Positions.{exec_of, slot_at}
use Rattle.mb_model.specs.Batches.{first_batch}
use Rattle.mb_model.specs.Sending.{signed, next_ui}
use Rattle.mb_model.specs.Making.{prepare, commit, view_change, new_view, enter, opening, join, join_evidence, checkpoint}
use Rattle.mb_model.specs.GateChecks.{valid}
use Rattle.mb_model.specs.Passed.{PassesGate}
use Rattle.mb_steps.specs.OwnLists.{inner, IsOwn, IsOwnList}
use Rattle.mb_model.specs.EnabledRules.{ChangeView, Announce, Enter, Open, Join, Commit, Prepare, target, change_enabled, announce_enabled, enter_enabled, open_enabled, join_enabled, commit_enabled, prepare_enabled, next_position, with_batch, may_order, unordered, open_with, may_open, has_evidence, lags_behind, is_past_plan}
use Rattle.mb_model.proofs.Options.{if_some, map_some}
use Rattle.mb_steps.proofs.StepPotential.{order_parts}
use Rattle.mb_steps.proofs.StepRounds.{ui_under, bare_under}

-- ---- what a gate permits, by what it stands at

entered_joins : (a b c : Bool) → (b || c) ≡ true → (a || b || c || false) ≡ true
entered_joins true b c e = refl
entered_joins false true c e = refl
entered_joins false false true e = refl
entered_joins false false false e = absurd cc

open_joins : (a b c : Bool) → (a || b || c || true) ≡ true
open_joins true b c = refl
open_joins false true c = refl
open_joins false false true = refl
open_joins false false false = refl

module _ (f : Floor) (s : Shape) (host : ℕ) (inner : Bare → Bool) where
  permits_change : (v : ℕ) (x : Bytes) → nat_lt f.view v ≡ true → permits f s host inner [] (bare.ViewChange v x) ≡ true
  unfolding permits
  permits_change v x more = rw more refl

  permits_new_view : (b e : ℕ) (x y : Bytes) → eqb host (primary s f.view) ≡ true → phase_is_open f.phase ≡ false → phase_is_entered f.phase ≡ false
      → permits f s host inner [] (bare.NewView f.view b e x y) ≡ true
  unfolding permits current_view is_opened entered_in
  permits_new_view b e x y leads o n = rw (eq-eqb f.view f.view refl, leads, o, n) refl

  permits_enter : (c : ℕ) (x : Bytes) → eqb host (primary s f.view) ≡ false → phase_is_open f.phase ≡ false → phase_is_entered f.phase ≡ false
      → permits f s host inner [] (bare.Enter f.view c x) ≡ true
  unfolding permits current_view is_opened entered_in
  permits_enter c x leads o n = rw (eq-eqb f.view f.view refl, leads, o, n) refl

  permits_prepare : (x : Bytes) → eqb host (primary s f.view) ≡ true → phase_is_open f.phase ≡ true
      → permits f s host inner [] (bare.Prepare f.view (f.last + 1) x) ≡ true
  unfolding permits current_view is_opened last_position
  permits_prepare x leads o = rw (eq-eqb f.view f.view refl, leads, o, eq-eqb (f.last + 1) (f.last + 1) refl) refl

  permits_commit : (n : ℕ) (c x : Bytes) → eqb host (primary s f.view) ≡ false → phase_is_open f.phase ≡ true
      → inner (bare.Commit f.view (f.last + 1) n c x) ≡ true
      → permits f s host inner [] (bare.Commit f.view (f.last + 1) n c x) ≡ true
  unfolding permits current_view is_opened last_position
  permits_commit n c x leads o i = rw (eq-eqb f.view f.view refl, leads, o, eq-eqb (f.last + 1) (f.last + 1) refl, i) refl

  permits_checkpoint : (p : ℕ) (t x : Bytes) → eqb (p % interval s) 0 ≡ true → f.point < p → permits f s host inner [] (bare.Checkpoint p t x) ≡ true
  unfolding permits last_checkpoint
  permits_checkpoint p t x m more = rw (m, lt-ltb f.point p more) refl

  permits_open : (e : Evidence) (x : Bytes) → e.view ≡ f.view → phase_is_open f.phase ≡ false
      → (not (eqb host (primary s e.view)) || phase_is_entered f.phase) ≡ true → inner (bare.Open e x) ≡ true
      → permits f s host inner [] (bare.Open e x) ≡ true
  unfolding permits current_view is_opened entered_in
  permits_open e x v o n i = rw (eq-eqb e.view f.view v, eq-eqb f.view e.view (sym v), o, n, i) refl

  -- not open: the primary has entered
  permits_join : (e : Option Evidence) (c : StableCert) → phase_is_open f.phase ≡ false
      → (not (eqb host (primary s f.view)) || phase_is_entered f.phase) ≡ true → end_of e ≤ c.pos → inner (bare.Join f.view e c) ≡ true
      → permits f s host inner [] (bare.Join f.view e c) ≡ true
  unfolding permits current_view is_opened entered_in last_position
  permits_join e c o n low i = rw (eq-eqb f.view f.view refl, o, le-leb (end_of e) c.pos low, i) (and_from _ true (entered_joins (f.view == 0) (not (eqb host (primary s f.view))) (phase_is_entered f.phase) n) refl)

  -- open already: the position goes on
  permits_rejoin : (e : Option Evidence) (c : StableCert) → phase_is_open f.phase ≡ true
      → f.last ≤ c.pos → end_of e ≤ c.pos → inner (bare.Join f.view e c) ≡ true
      → permits f s host inner [] (bare.Join f.view e c) ≡ true
  unfolding permits current_view is_opened entered_in last_position
  permits_rejoin e c o last low i = rw (eq-eqb f.view f.view refl, o, le-leb (end_of e) c.pos low, le-leb f.last c.pos last, i) (and_from _ true (open_joins (f.view == 0) (not (eqb host (primary s f.view))) (phase_is_entered f.phase)) refl)

-- a primary that isn't changing has entered
has_entered : (p o n : Bool) → o ≡ false → (p && (not o && not n)) ≡ false → (not p || n) ≡ true
has_entered false o n x e = refl
has_entered true o true x e = refl
has_entered true true false x e = absurd cc
has_entered true false false x e = absurd cc

-- ---- the own list

module _ {S : Type 0} (self : Identity S) where
  -- the own gate permits it
  abbrev pub IsPermitted : History → Bare → Type 0
  IsPermitted d b = permits initial_floor self.shape self.host (inner self) (said d) b ≡ true

  pub stands_here : (d : History) → IsOwn self d → here self d ≡ floor_after initial_floor (said d)
  stands_here d own = rw (own.from, own.all) refl

  by_gate : (d : History) (b : Bare) → IsOwnList self d → permits (here self d) self.shape self.host (inner self) [] b ≡ true → IsPermitted d b
  by_gate d b own p = goes_on initial_floor self.shape self.host (inner self) (said d) b own.ordered ∙ subst (λ (f : Floor). permits f self.shape self.host (inner self) [] b ≡ true) (stands_here d own.own) p

  pub stamped_stands : (d : History) (m : StampedMessage) → IsOwn self d → IsOwn self (Stamped (signed self d m) ∷ d)
  unfolding origin taken_of all_stamped
  stamped_stands d m own = record {
    from = own.from;
    all = rw (ui_under (next_ui self d (bare_of m)) m, eq-eqb self.host self.host refl, own.all) refl;
  }

  -- a permitted message goes onto the list
  pub stamped_own : (d : History) (m : StampedMessage) → IsOwnList self d → IsPermitted d (bare_of m) → IsOwnList self (Stamped (signed self d m) ∷ d)
  unfolding all_stamped is_ordered
  stamped_own d m own p = record {
    own = stamped_stands d m own.own;
    ordered = rw (bare_under (next_ui self d (bare_of m)) m, p, own.ordered) refl;
  }

  -- ---- VIEW_CHANGE, NEW_VIEW, ENTER

  pub change_permitted : (d : History) (view : ℕ) → IsOwnList self d → change_enabled self d ≡ Some (ChangeView view) → IsPermitted d (bare_of (view_change self d view))
  unfolding change_enabled
  change_permitted d view own e =
      let t = if_some (nat_lt (view_of self d) (target self d) && has_other_room self d) (Some (ChangeView (target self d))) (ChangeView view) e in
      let above = (and_parts (nat_lt (view_of self d) (target self d)) (has_other_room self d) t.0).0 in
      let same : target self d ≡ view = cc in
      by_gate d _ own (permits_change (here self d) self.shape self.host (inner self) view _ (rw same at above))

  not_changing : (d : History) → is_changing self d ≡ true → (is_open self d ≡ false) × (is_entered self d ≡ false)
  not_changing d e = let t = and_parts (not (is_open self d)) (not (is_entered self d)) e in (not-true _ t.0, not-true _ t.1)

  pub announce_permitted : (d : History) (changes : List ViewChange) → IsOwnList self d → announce_enabled self d ≡ Some (Announce changes) → IsPermitted d (bare_of (new_view self d changes))
  unfolding announce_enabled
  announce_permitted d changes own e =
      let t = if_some (is_primary self d && (is_changing self d && has_other_room self d)) (option_map Announce (chosen self d (view_of self d))) (Announce changes) e in
      let a = and_parts (is_primary self d) (is_changing self d && has_other_room self d) t.0 in
      let c = not_changing d (and_parts (is_changing self d) (has_other_room self d) a.1).0 in
      by_gate d _ own (permits_new_view (here self d) self.shape self.host (inner self) _ _ _ _ a.0 c.0 c.1)

  new_view_there : (view : ℕ) (x : Option NewView) (n : NewView) → new_view_in_view view x ≡ Some n → n.view ≡ view
  new_view_there view None n e = absurd cc
  new_view_there view (Some m) n e =
      let t = if_some (m.view == view) (Some m) n e in
      let same : m ≡ n = cc (t.1) in
      ap (λ (y : NewView). y.view) (sym same) ∙ eqb-true m.view view t.0

  pub enter_permitted : (d : History) (n : NewView) → IsOwnList self d → enter_enabled self d ≡ Some (Enter n) → IsPermitted d (bare_of (enter n))
  unfolding enter_enabled
  enter_permitted d n own e =
      let t = if_some (not (is_primary self d) && (is_changing self d && has_other_room self d)) (option_map Enter (new_view_in_view (view_of self d) (new_view_of self d))) (Enter n) e in
      let a = and_parts (not (is_primary self d)) (is_changing self d && has_other_room self d) t.0 in
      let c = not_changing d (and_parts (is_changing self d) (has_other_room self d) a.1).0 in
      let m = map_some Enter (new_view_in_view (view_of self d) (new_view_of self d)) (Enter n) t.1 in
      let same : m.0 ≡ n = cc (m.2) in
      let there : n.view ≡ view_of self d = ap (λ (y : NewView). y.view) (sym same) ∙ new_view_there (view_of self d) (new_view_of self d) m.0 m.1 in
      by_gate d _ own (subst (λ (v : ℕ). permits (here self d) self.shape self.host (inner self) [] (bare.Enter v n.ui.counter n.plan) ≡ true) (sym there)
      (permits_enter (here self d) self.shape self.host (inner self) n.ui.counter n.plan (not-true _ a.0) c.0 c.1))

  -- ---- OPEN and JOIN: where what is held checks

  pub open_permitted : (d : History) (e : Evidence) (plan : Plan) → IsOwnList self d → open_enabled self d ≡ Some (Open e plan)
      → e.view ≡ view_of self d → is_evidence self.shape (valid self) e ≡ true → IsPermitted d (bare_of (opening e plan))
  unfolding open_enabled inner_valid
  open_permitted d e plan own o there checks =
      let t = if_some (may_open self d && has_other_room self d) (open_with (evidence_for self d (view_of self d)) (plan_at self d (view_of self d))) (Open e plan) o in
      let z = and_parts (may_open self d) (has_other_room self d) t.0 in
      let a = and_parts (nat_lt 0 (view_of self d)) (not (is_open self d) && (not (is_primary self d) || is_entered self d)) z.0 in
      let b = and_parts (not (is_open self d)) (not (is_primary self d) || is_entered self d) a.1 in
      by_gate d _ own (permits_open (here self d) self.shape self.host (inner self) e _ there (not-true _ b.0)
      (subst (λ (v : ℕ). (not (eqb self.host (primary self.shape v)) || is_entered self d) ≡ true) (sym there) b.1) checks)

  pub join_permitted : (d : History) → IsOwnList self d → join_enabled self d ≡ Some Join
      → (is_open self d ≡ true → end_of (join_evidence self d) ≤ low_of self d)
      → (is_open self d ≡ false → end_of (join_evidence self d) ≤ low_of self d)
      → inner self (bare.Join (view_of self d) (join_evidence self d) (stable_of self d)) ≡ true → IsPermitted d (bare_of (join self d))
  unfolding join_enabled
  join_permitted d own e end_open end_closed checks =
      let t = if_some ((lags_behind self d || is_past_plan self d) && (has_evidence self d && (nat_le (low_of self d) (exec_of d) && has_other_room self d))) (Some Join) Join e in
      let a = and_parts (lags_behind self d || is_past_plan self d) (has_evidence self d && (nat_le (low_of self d) (exec_of d) && has_other_room self d)) t.0 in
      by_gate d _ own (elim (or_cases (lags_behind self d) (is_past_plan self d) a.0) [
        | inl lags ↦
            let b = and_parts (is_open self d) (nat_lt (here self d).last (low_of self d)) lags in
            permits_rejoin (here self d) self.shape self.host (inner self) (join_evidence self d) (stable_of self d) b.0 (omega (arith, ltb-true (here self d).last (low_of self d) b.1)) (end_open b.0) checks
        | inr past ↦
            let b = and_parts (nat_lt 0 (view_of self d)) (not (is_open self d) && (not (is_primary self d && is_changing self d) && (nat_lt 0 (low_of self d) && nat_le (end_of (evidence_of self d)) (low_of self d)))) past in
            let c = and_parts (not (is_open self d)) (not (is_primary self d && is_changing self d) && (nat_lt 0 (low_of self d) && nat_le (end_of (evidence_of self d)) (low_of self d))) b.1 in
            let f = and_parts (not (is_primary self d && is_changing self d)) (nat_lt 0 (low_of self d) && nat_le (end_of (evidence_of self d)) (low_of self d)) c.1 in
            let o : is_open self d ≡ false = not-true _ c.0 in
            permits_join (here self d) self.shape self.host (inner self) (join_evidence self d) (stable_of self d) o
            (has_entered (is_primary self d) (is_open self d) (is_entered self d) o (not-true _ f.0)) (end_closed o) checks
      ])

  -- ---- COMMIT, CHECKPOINT, PREPARE

  -- the certificate of a slot is one of the primary's PREPARE
  abbrev pub IsOrdered : History → ℕ → KnownSlot → Type 0
  IsOrdered d p k = inner self (bare.Commit (view_of self d) p k.counter k.cert k.digest) ≡ true

  commit_place : (q : ℕ) (x : Option KnownSlot) (p : ℕ) (k : KnownSlot) (b : Batch) → with_batch (Commit q) x ≡ Some (Commit p k b) → q ≡ p
  commit_place q None p k b e = absurd cc
  commit_place q (Some j) p k b e = let m = map_some (Commit q j) j.batch (Commit p k b) e in cc (m.2)

  pub commit_permitted : (d : History) (p : ℕ) (k : KnownSlot) (b : Batch) → IsOwnList self d → commit_enabled self d ≡ Some (Commit p k b)
      → IsOrdered d p k → batch_digest b ≡ k.digest → IsPermitted d (bare_of (commit self d p k b))
  unfolding commit_enabled
  commit_permitted d p k b own e checks same =
      let t = if_some (is_open self d && (not (is_primary self d) && has_room self d)) (with_batch (Commit (next_position self d)) (slot_at self d (next_position self d))) (Commit p k b) e in
      let a = and_parts (is_open self d) (not (is_primary self d) && has_room self d) t.0 in
      let c = and_parts (not (is_primary self d)) (has_room self d) a.1 in
      let place : next_position self d ≡ p = commit_place (next_position self d) (slot_at self d (next_position self d)) p k b t.1 in
      by_gate d _ own (subst (λ (q : ℕ). permits (here self d) self.shape self.host (inner self) [] (bare.Commit (view_of self d) q k.counter k.cert (batch_digest b)) ≡ true) place
      (permits_commit (here self d) self.shape self.host (inner self) k.counter k.cert (batch_digest b) (not-true _ c.0) a.0 (rw (same, place) checks)))

  -- the CHECKPOINT behind an execution
  pub checkpoint_permitted : (d : History) (p : ℕ) → IsOwnList self d → eqb (p % interval self.shape) 0 ≡ true → (here self d).point < p → IsPermitted d (bare_of (checkpoint self d p))
  checkpoint_permitted d p own m more = by_gate d _ own (permits_checkpoint (here self d) self.shape self.host (inner self) p _ _ m more)

  -- where a PREPARE is enabled: the place is free, and the host leads
  pub order_place : (d : History) (p : ℕ) (b : Batch) → prepare_enabled self d ≡ Some (Prepare p b) → (next_position self d ≡ p) × (is_primary self d ≡ true) × (is_open self d ≡ true)
  unfolding prepare_enabled
  order_place d p b e =
      let t = if_some (may_order self d) (option_map (Prepare (next_position self d)) (first_batch (unordered self d))) (Prepare p b) e in
      let o = order_parts self d t.0 in
      let m = map_some (Prepare (next_position self d)) (first_batch (unordered self d)) (Prepare p b) t.1 in
      (cc (m.2), o.leads, o.opened)

  pub prepare_permitted : (d : History) (p : ℕ) (b : Batch) → IsOwnList self d → prepare_enabled self d ≡ Some (Prepare p b) → IsPermitted d (bare_of (prepare self d p b))
  prepare_permitted d p b own e =
      let o = order_place d p b e in
      by_gate d _ own (subst (λ (q : ℕ). permits (here self d) self.shape self.host (inner self) [] (bare.Prepare (view_of self d) q (batch_digest b)) ≡ true) o.0
      (permits_prepare (here self d) self.shape self.host (inner self) (batch_digest b) o.1 o.2))

  -- ---- no message of the own number is accepted

  own_counter : (d : History) → IsOwn self d → (here self d).counter ≡ counter_of d
  own_counter d own = let e : (here self d).counter ≡ 0 + length (said d) = ap (λ (f : Floor). f.counter) (stands_here d own) in omega (arith, e, length-map (all_stamped d) bare_of)

  pub own_passed : (d : History) (m : StampedMessage) → IsOwn self d → PassesGate self d m → eqb (ui_of m).host self.host ≡ false
  own_passed d m own p = elim (cases_Bool (eqb (ui_of m).host self.host)) [
    | inr other ↦ other
    | inl mine ↦
        let at : (gate d (ui_of m).host).counter ≡ counter_of d = ap (λ (h : ℕ). (gate d h).counter) (eqb-true (ui_of m).host self.host mine) ∙ own_counter d own in
        let more : nat_lt (counter_of d) (ui_of m).counter ≡ true = lt-ltb (counter_of d) (ui_of m).counter (omega (arith, at, p.next)) in
        let r : ((ui_of m).host == self.host && nat_lt (counter_of d) (ui_of m).counter) ≡ false = p.not_future in
        let h = rw (mine, more) at r in absurd cc
  ]
