-- A JOIN is stamped where its rule is enabled: so there is cause.
use Rattle.std.proofs.Common.{◌≡◌, ℕ, zero, suc, ◌<◌, Bool, true, false, ◌&&◌, ◌||◌, ◌∷◌, refl, subst, inl, inr, ◌⊎◌, arith, Option, Some, None}
use Rattle.std.specs.Prelude.{◌==◌, not, nat_lt, nat_le}
use Rattle.std.proofs.lemmas.Bool.{cases_Bool, and_parts, ltb-true, leb-true, eqb-true, eqb-false}
use Rattle.mb_parts.specs.declared.certificates.Evidence.{Evidence}
use Rattle.mb_parts.specs.Ordered.{end_of}
use Rattle.mb_msg.specs.declared.change.Join.{Join as JoinMessage}
use Rattle.mb_msg.specs.declared.stamped.Stamped.TheVariants as stamped
use Rattle.mb_msg.specs.Stamps.{bare_of}
use Rattle.mb_model.specs.Histories.{Stamped, History, Identity, here, view_of, is_open, is_changing, is_primary}
use Rattle.mb_model.specs.Held.{evidence_of, evidence_view}
use Rattle.mb_model.specs.Stable.{stable_of, low_of}
use Rattle.mb_model.specs.OwnLog.{has_other_room}
use Rattle.mb_model.specs.Positions.{exec_of}
use Rattle.mb_model.specs.Sending.{next_ui}
use Rattle.mb_model.specs.Making.{join, join_evidence}
use Rattle.mb_model.specs.EnabledRules.{Join, lags_behind, is_past_plan, has_evidence, join_enabled}
use Rattle.mb_model.proofs.Options.{if_some}
use Rattle.mb_steps.specs.Arises.{Arises, Makes}
use Rattle.mb_world_model.specs.World.{System, self_of}
use Rattle.mb_world_model.specs.WorldSteps.{world}
use Rattle.mb_promise.specs.NothingLeft.{IsEvident}
use Rattle.mb_world_laws.proofs.KeptByWorlds.{world_arises}
use Rattle.mb_host_laws.proofs.Cases.{not_true}
use Rattle.mb_host_laws.proofs.Moments.{arises_by}
use Rattle.mb_promise.specs.JoinsWithCause.{FellBehind, IsPastItsPlan, MayStampJoin, JoinsWithCause}

either : (a b : Bool) → (a || b) ≡ true → (a ≡ true) ⊎ (b ≡ true)
either true b e = inl refl
either false b e = inr e

not_both : (a b : Bool) → not (a && b) ≡ true → a ≡ true → b ≡ false
not_both true true e is = absurd cc
not_both true false e is = refl
not_both false b e is = absurd cc

module _ {S : Type 0} (self : Identity S) (d : History) where
  shown : (o : Option Evidence) (v : ℕ) → evidence_of self d ≡ o → evidence_view o ≡ v → 0 < v → IsEvident self d v
  shown None v is view above = absurd (omega (arith, view, above))
  shown (Some e) v is view above = (e, is, view)

  evident : has_evidence self d ≡ true → (view_of self d ≡ 0) ⊎ IsEvident self d (view_of self d)
  evident e = elim (cases_Bool (view_of self d == 0)) [
    | inl first ↦ inl (eqb-true (view_of self d) 0 first)
    | inr later ↦ elim (either (view_of self d == 0) (evidence_view (evidence_of self d) == view_of self d) e) [
      | inl first ↦ inl (eqb-true (view_of self d) 0 first)
      | inr same ↦ let above = eqb-false (view_of self d) 0 later in inr (shown (evidence_of self d) (view_of self d) refl (eqb-true _ _ same) (positive (view_of self d) above))
    ]
  ] where
    positive : (n : ℕ) → (n ≡ 0 → ⊥) → 0 < n
    positive zero never = absurd (never refl)
    positive (suc n) never = omega arith

  fell_behind : lags_behind self d ≡ true → FellBehind self d
  fell_behind e = let t = and_parts (is_open self d) (nat_lt (here self d).last (low_of self d)) e in record { opened = t.0; last = ltb-true (here self d).last (low_of self d) t.1 }

  past_plan : is_past_plan self d ≡ true → IsPastItsPlan self d
  past_plan e =
      let a = and_parts (nat_lt 0 (view_of self d)) _ e in
      let b = and_parts (not (is_open self d)) _ a.1 in
      let c = and_parts (not (is_primary self d && is_changing self d)) _ b.1 in
      let f = and_parts (nat_lt 0 (low_of self d)) (nat_le (end_of (evidence_of self d)) (low_of self d)) c.1 in
      record {
        above = ltb-true 0 (view_of self d) a.0;
        closed = not_true (is_open self d) b.0;
        announced = not_both (is_primary self d) (is_changing self d) c.0;
        some = ltb-true 0 (low_of self d) f.0;
        past = leb-true (end_of (evidence_of self d)) (low_of self d) f.1;
      }

  cause : (lags_behind self d || is_past_plan self d) ≡ true → FellBehind self d ⊎ IsPastItsPlan self d
  cause e = elim (either (lags_behind self d) (is_past_plan self d) e) [
    | inl lags ↦ inl (fell_behind lags)
    | inr past ↦ inr (past_plan past)
  ]

  may_stamp : (m : JoinMessage) → m.view ≡ view_of self d → m.stable ≡ stable_of self d → join_enabled self d ≡ Some Join → MayStampJoin self d m
  unfolding join_enabled
  may_stamp m view stable e =
      let t = if_some ((lags_behind self d || is_past_plan self d) && (has_evidence self d && (nat_le (low_of self d) (exec_of d) && has_other_room self d))) (Some Join) Join e in
      let a = and_parts (lags_behind self d || is_past_plan self d) _ t.0 in
      let b = and_parts (has_evidence self d) _ a.1 in
      let c = and_parts (nat_le (low_of self d) (exec_of d)) (has_other_room self d) b.1 in
      record { view = view; stable = stable; executed = leb-true (low_of self d) (exec_of d) c.0; evident = evident b.0; cause = cause a.0 }

  made_join : (m : JoinMessage) → Makes self d (stamped.Join m) → MayStampJoin self d m
  made_join m (e, is) =
      let made : JoinMessage = record { view = view_of self d; evidence = join_evidence self d; stable = stable_of self d; ui = next_ui self d (bare_of (join self d)) } in
      subst (λ (y : JoinMessage). MayStampJoin self d y) (same made m is) (may_stamp made refl refl e) where
        same : (x y : JoinMessage) → stamped.Join x ≡ stamped.Join y → x ≡ y
        same x y e = cc

module _ {S : Type 0} (self : Identity S) where
  joins_with_cause : (d : History) → Arises self d → JoinsWithCause self d
  joins_with_cause d arises later before m is =
      made_join self before m (arises_by self later (Stamped (stamped.Join m) ∷ before) (subst (λ (x : History). Arises self x) is arises)).0

pub hosts_join_with_cause : {S : Type 0} (system : System S) (k h : ℕ) → JoinsWithCause (self_of system h) ((world system k).histories h)
hosts_join_with_cause system k h = joins_with_cause (self_of system h) ((world system k).histories h) (world_arises system k h)
