-- A host opens or joins its view as soon as it may.
use Rattle.std.proofs.Common.{◌≡◌, ◌≤◌, Bool, true, false, ◌&&◌, ◌||◌, not, refl, ap, ◌∙◌, inl, inr, ◌⊎◌, Option, Some, None, length}
use Rattle.std.specs.Prelude.{◌==◌, nat_le, map, take, option_and_then}
use Rattle.std.specs.Option.{option_or}
use Rattle.std.proofs.lemmas.Bool.{cases_Bool, and_from, eqb-true, eq-eqb, lt-ltb, le-leb, or_right}
use Rattle.mb_base.specs.Shapes.{max_faults}
use Rattle.mb_parts.specs.declared.certificates.Evidence.{Evidence}
use Rattle.mb_parts.specs.Ordered.{end_of}
use Rattle.mb_msg.specs.declared.change.NewView.{NewView}
use Rattle.mb_msg.specs.declared.change.Plan.{Plan}
use Rattle.mb_msg.specs.Bodies.{body_digest}
use Rattle.mb_msg.specs.Spelling.{new_view_body_bytes}
use Rattle.mb_model.specs.Plans.{are_of_plan}
use Rattle.mb_model.specs.Histories.{History, Identity, here, view_of, is_entered, is_changing, is_primary}
use Rattle.mb_model.specs.Held.{new_view_of, new_view_in_view, evidence_of, evidence_view, evidence_in, evidence_with, evidence_for, enters_for, as_member, plan_held, plan_of_view, plan_at}
use Rattle.mb_model.specs.Stable.{low_of}
use Rattle.mb_model.specs.OwnLog.{has_other_room}
use Rattle.mb_model.specs.Positions.{exec_of}
use Rattle.mb_model.specs.EnabledRules.{Open, Join, may_open, open_with, open_enabled, lags_behind, is_past_plan, has_evidence, join_enabled}
use Rattle.mb_promise.specs.NothingLeft.{IsEvident, MayOpen, HasPlan, OpensByEvidence, OpensByEnters, MayJoin, JoinsBehind, JoinsPast}
use Rattle.mb_each_host.proofs.Words.{other_room_is}
use Rattle.mb_each_host.proofs.DueOrders.{not_left}

-- A test that asks something of a primary passes a backup.
primary_where : (a b : Bool) → (a ≡ true → b ≡ true) → (not a || b) ≡ true
primary_where true b so = so refl
primary_where false b so = refl

not_both : (a b : Bool) → (a ≡ true → b ≡ false) → not (a && b) ≡ true
not_both true b so = ap not (so refl)
not_both false b so = refl

module _ {S : Type 0} (self : Identity S) (d : History) where
  -- ---- openings

  opens : MayOpen self d → (may_open self d && has_other_room self d) ≡ true
  opens x = rw (lt-ltb 0 (view_of self d) x.above, x.closed, primary_where (is_primary self d) (is_entered self d) x.entered, other_room_is self d x.room) refl

  plan_there : (plan : Plan) → plan_held self d ≡ Some (view_of self d, plan) → plan_at self d (view_of self d) ≡ Some plan
  plan_there plan held = ap (plan_of_view (view_of self d)) held ∙ rw (eq-eqb (view_of self d) (view_of self d) refl) refl

  open_rule : (e : Evidence) (plan : Plan) (x : Option Evidence) (y : Option Plan) → x ≡ Some e → y ≡ Some plan → are_of_plan e.base e.end e.plan plan ≡ true → open_with x y ≡ Some (Open e plan)
  open_rule e plan x y a b of = rw (a, b, of) refl

  opened_with : open_enabled self d ≡ None → (e : Evidence) → MayOpen self d → evidence_for self d (view_of self d) ≡ Some e → HasPlan self d e.base e.end e.plan → ⊥
  unfolding open_enabled
  opened_with none e may shown (plan, held, of) =
      not_left _ _ (Open e plan) (opens may) (open_rule e plan (evidence_for self d (view_of self d)) (plan_at self d (view_of self d)) shown (plan_there plan held) of) none

  pub opens_by_evidence : open_enabled self d ≡ None → OpensByEvidence self d
  opens_by_evidence none e may held is plan = opened_with none e may (in_view (evidence_in (view_of self d) (evidence_of self d)) (ap (evidence_in (view_of self d)) held ∙ rw (eq-eqb e.view (view_of self d) is) refl)) plan where
    in_view : (x : Option Evidence) → x ≡ Some e → option_or x (option_and_then (λ n. evidence_with self n (enters_for self d n)) (new_view_in_view (view_of self d) (new_view_of self d))) ≡ Some e
    in_view x is = rw is refl

  no_evidence : (IsEvident self d (view_of self d) → ⊥) → (o : Option Evidence) → evidence_of self d ≡ o → evidence_in (view_of self d) o ≡ None
  no_evidence none None is = refl
  no_evidence none (Some e) is = elim (cases_Bool (e.view == view_of self d)) [
    | inl same ↦ absurd (none (e, is, eqb-true e.view (view_of self d) same))
    | inr other ↦ rw other refl
  ]

  abbrev made_evidence : NewView → Evidence
  made_evidence n = record {
    view = n.view;
    base = n.base;
    end = n.end;
    plan = n.plan;
    body = body_digest new_view_body_bytes n.body;
    counter = n.ui.counter;
    cert = n.ui.cert;
    members = map as_member (take (max_faults self.shape) (enters_for self d n));
  }

  pub opens_by_enters : open_enabled self d ≡ None → OpensByEnters self d
  opens_by_enters none n may without held is many plan =
      let there : new_view_in_view (view_of self d) (new_view_of self d) ≡ Some n = ap (new_view_in_view (view_of self d)) held ∙ rw (eq-eqb n.view (view_of self d) is) refl in
      opened_with none (made_evidence n) may (shown (no_evidence without (evidence_of self d) refl) there (answered many)) plan where
        answered : max_faults self.shape ≤ length (enters_for self d n) → evidence_with self n (enters_for self d n) ≡ Some (made_evidence n)
        answered many = rw (le-leb _ _ many) refl

        shown : evidence_in (view_of self d) (evidence_of self d) ≡ None → new_view_in_view (view_of self d) (new_view_of self d) ≡ Some n → evidence_with self n (enters_for self d n) ≡ Some (made_evidence n)
            → evidence_for self d (view_of self d) ≡ Some (made_evidence n)
        shown a b c = rw (a, b) c

  -- ---- joins

  has_it : (view_of self d ≡ 0) ⊎ IsEvident self d (view_of self d) → has_evidence self d ≡ true
  has_it (inl start) = rw (eq-eqb (view_of self d) 0 start) refl
  has_it (inr (e, held, is)) = or_right (view_of self d == 0) _ (eq-eqb (evidence_view (evidence_of self d)) (view_of self d) (ap evidence_view held ∙ is))

  joined : join_enabled self d ≡ None → MayJoin self d → (lags_behind self d || is_past_plan self d) ≡ true → ⊥
  unfolding join_enabled
  joined none may late =
      let test : ((lags_behind self d || is_past_plan self d) && (has_evidence self d && (nat_le (low_of self d) (exec_of d) && has_other_room self d))) ≡ true =
      rw (late, has_it may.evident, le-leb (low_of self d) (exec_of d) may.executed, other_room_is self d may.room) refl in
      not_left _ _ Join test refl none

  pub joins_behind : join_enabled self d ≡ None → JoinsBehind self d
  joins_behind none may opened behind =
      let lags : lags_behind self d ≡ true = rw (opened, lt-ltb (here self d).last (low_of self d) behind) refl in
      joined none may (rw lags refl)

  pub joins_past : join_enabled self d ≡ None → JoinsPast self d
  joins_past none may above closed entered stable past =
      let over : is_past_plan self d ≡ true =
      and_from _ _ (lt-ltb 0 (view_of self d) above) (and_from _ _ (ap not closed) (and_from _ _ (not_both (is_primary self d) (is_changing self d) entered)
      (and_from _ _ (lt-ltb 0 (low_of self d) stable) (le-leb (end_of (evidence_of self d)) (low_of self d) past)))) in
      joined none may (or_right (lags_behind self d) (is_past_plan self d) over)
