-- What a host changes to is the greatest view that f+1 hosts wish for, that of the held NEW_VIEW, or that of the held evidence: so there is cause to leave.
use Rattle.std.proofs.Common.{◌≡◌, ℕ, zero, suc, ◌<◌, Bool, true, false, ◌&&◌, ◌∷◌, refl, sym, subst, ◌∙◌, inl, inr, ◌⊎◌, arith, Option, Some, None}
use Rattle.std.specs.Prelude.{if◌then◌else◌, nat_lt, nat_le, max}
use Rattle.std.proofs.lemmas.Bool.{cases_Bool, and_parts, ltb-true, leb-true, leb-false}
use Rattle.mb_base.specs.Shapes.{host_count, quorum}
use Rattle.mb_parts.specs.declared.certificates.Evidence.{Evidence}
use Rattle.mb_msg.specs.declared.message.Body.TheVariants.{Whole}
use Rattle.mb_msg.specs.declared.change.NewView.{NewView}
use Rattle.mb_msg.specs.declared.change.ViewChange.{ViewChange}
use Rattle.mb_msg.specs.declared.stamped.Stamped.TheVariants as stamped
use Rattle.mb_msg.specs.Stamps.{bare_of}
use Rattle.mb_model.specs.Histories.{Stamped, History, Identity, view_of}
use Rattle.mb_model.specs.Held.{wish_of, is_wished, quorum_wish, new_view_of, evidence_of, evidence_view}
use Rattle.mb_model.specs.OwnLog.{has_other_room, proof_of}
use Rattle.mb_model.specs.Sending.{next_ui}
use Rattle.mb_model.specs.Making.{view_change}
use Rattle.mb_model.specs.EnabledRules.{ChangeView, new_view_number, target, change_enabled}
use Rattle.mb_model.proofs.Options.{if_some}
use Rattle.mb_steps.specs.Arises.{Arises, Makes}
use Rattle.mb_world_model.specs.World.{System, self_of}
use Rattle.mb_world_model.specs.WorldSteps.{world}
use Rattle.mb_promise.specs.NothingLeft.{IsWished, IsAnnounced, IsEvident}
use Rattle.mb_promise.specs.LeavesWithCause.{HasCause, LeavesWithCause}
use Rattle.mb_world_laws.proofs.KeptByWorlds.{world_arises}
use Rattle.mb_host_laws.proofs.Moments.{arises_by}

module _ {S : Type 0} (self : Identity S) where
  -- The greater of two numbers is one of them.
  one_of : (a b : ℕ) → (max a b ≡ a) ⊎ (max a b ≡ b)
  one_of a b = elim (cases_Bool (nat_le a b)) [
    | inl le ↦ let h = leb-true a b le in inr (omega (arith, h))
    | inr gt ↦ let h = leb-false a b gt in inl (omega (arith, h))
  ]

  wished_where : (d : History) (n : ℕ) (t : Bool) → is_wished self d (wish_of self d n) ≡ t → 0 < (if t then wish_of self d n else 0) → IsWished self d (if t then wish_of self d n else 0)
  wished_where d n true e above = leb-true (quorum self.shape) _ e
  wished_where d n false e above = absurd (omega (arith, above))

  -- What f+1 hosts wish for, where it is not 0.
  quorum_wished : (d : History) (n : ℕ) → 0 < quorum_wish self d n → IsWished self d (quorum_wish self d n)
  unfolding quorum_wish
  quorum_wished d zero above = absurd (omega (arith, above))
  quorum_wished d (suc n) above = elim (one_of (quorum_wish self d n) (if is_wished self d (wish_of self d n) then wish_of self d n else 0)) [
    | inl is ↦ subst (λ (v : ℕ). IsWished self d v) (sym is) (quorum_wished d n (subst (λ (v : ℕ). 0 < v) is above))
    | inr is ↦ subst (λ (v : ℕ). IsWished self d v) (sym is) (wished_where d n (is_wished self d (wish_of self d n)) refl (subst (λ (v : ℕ). 0 < v) is above))
  ]

  announced : (d : History) (o : Option NewView) → new_view_of self d ≡ o → 0 < new_view_number o → IsAnnounced self d (new_view_number o)
  announced d None e above = absurd (omega (arith, above))
  announced d (Some n) e above = (n, e, refl)

  evident : (d : History) (o : Option Evidence) → evidence_of self d ≡ o → 0 < evidence_view o → IsEvident self d (evidence_view o)
  evident d None e above = absurd (omega (arith, above))
  evident d (Some x) e above = (x, e, refl)

  target_cause : (d : History) → 0 < target self d → IsWished self d (target self d) ⊎ (IsAnnounced self d (target self d) ⊎ IsEvident self d (target self d))
  target_cause d above = elim (one_of (quorum_wish self d (host_count self.shape)) (max (new_view_number (new_view_of self d)) (evidence_view (evidence_of self d)))) [
    | inl is ↦ inl (subst (λ (v : ℕ). IsWished self d v) (sym is) (quorum_wished d (host_count self.shape) (subst (λ (v : ℕ). 0 < v) is above)))
    | inr held ↦ elim (one_of (new_view_number (new_view_of self d)) (evidence_view (evidence_of self d))) [
      | inl is ↦ inr (inl (subst (λ (v : ℕ). IsAnnounced self d v) (sym (held ∙ is)) (announced d (new_view_of self d) refl (subst (λ (v : ℕ). 0 < v) (held ∙ is) above))))
      | inr is ↦ inr (inr (subst (λ (v : ℕ). IsEvident self d v) (sym (held ∙ is)) (evident d (evidence_of self d) refl (subst (λ (v : ℕ). 0 < v) (held ∙ is) above))))
    ]
  ]

  enabled_cause : (d : History) (view : ℕ) → change_enabled self d ≡ Some (ChangeView view) → HasCause self d view
  unfolding change_enabled
  enabled_cause d view e =
      let t = if_some (nat_lt (view_of self d) (target self d) && has_other_room self d) (Some (ChangeView (target self d))) (ChangeView view) e in
      let above = ltb-true (view_of self d) (target self d) (and_parts (nat_lt (view_of self d) (target self d)) (has_other_room self d) t.0).0 in
      subst (λ (v : ℕ). HasCause self d v) (same (target self d) view t.1) (record { above = above; cause = target_cause d (omega (arith, above)) }) where
        same : (a b : ℕ) → Some (ChangeView a) ≡ Some (ChangeView b) → a ≡ b
        same a b e = cc

  made_cause : (d : History) (m : ViewChange) → Makes self d (stamped.ViewChange m) → HasCause self d m.view
  made_cause d m (view, e, is) =
      let made : ViewChange = record { view = view; body = Whole (proof_of self d); ui = next_ui self d (bare_of (view_change self d view)) } in
      subst (λ (y : ViewChange). HasCause self d y.view) (same made m is) (enabled_cause d view e) where
        same : (x y : ViewChange) → stamped.ViewChange x ≡ stamped.ViewChange y → x ≡ y
        same x y e = cc

  pub leaves_with_cause : (d : History) → Arises self d → LeavesWithCause self d
  leaves_with_cause d arises later before m is =
      made_cause before m (arises_by self later (Stamped (stamped.ViewChange m) ∷ before) (subst (λ (x : History). Arises self x) is arises)).0

pub hosts_leave_with_cause : {S : Type 0} (system : System S) (k h : ℕ) → LeavesWithCause (self_of system h) ((world system k).histories h)
hosts_leave_with_cause system k h = leaves_with_cause (self_of system h) ((world system k).histories h) (world_arises system k h)
