-- Views stay within their limit: that of the host, each wish, and each view that the host holds something of.
use Rattle.std.proofs.Common.{◌≡◌, ℕ, zero, suc, ◌+◌, ◌^◌, ◌<◌, Bool, true, false, [], ◌∷◌, refl, sym, ap, subst, inl, inr, eqb, arith, Option, Some, None}
use Rattle.std.specs.Prelude.{if◌then◌else◌}
use Rattle.std.proofs.lemmas.Bool.{eqb-false, cases_lt}
use Rattle.mb_base.specs.Shapes.{Bytes, host_count}
use Rattle.mb_parts.specs.declared.certificates.Evidence.{Evidence}
use Rattle.mb_parts.specs.Claims.{Claim}
use Rattle.mb_parts.specs.Ordered.{initial_floor, current_view}
use Rattle.mb_msg.specs.declared.message.Message.TheVariants as message
use Rattle.mb_msg.specs.declared.change.NewView.{NewView}
use Rattle.mb_msg.specs.declared.stamped.Stamped.TheVariants as stamped
use Rattle.mb_msg.specs.Fits.{FitsWish, FitsViewChange}
use Rattle.mb_model.specs.EnabledRules.{new_view_number, target}
use Rattle.mb_model.specs.Held.{view_limit, wish_in, wish_of, is_wished, quorum_wish, new_view_of, evidence_view, evidence_of}
use Rattle.mb_model.specs.Histories.{Entry, Accepted, Stamped, LostPatience, History, Identity, view_of, said, stamped as all_stamped}
use Rattle.mb_steps.specs.Arises.{Arises}
use Rattle.mb_steps.proofs.StepOwnList.{stands_here}
use Rattle.mb_steps.proofs.StepOwnStamped.{steady}
use Rattle.mb_host_laws.specs.Rests.{Each}
use Rattle.mb_host_laws.proofs.OwnKnown.{Known}
use Rattle.mb_host_laws.proofs.HeldViews.{new_view_good, evidence_good}

module _ {S : Type 0} (self : Identity S) (Good : Claim → Type 0) (Text : Bytes → Type 0) where
  abbrev AllKnown : History → Type 0
  AllKnown d = Each (Known self Good Text) d

  -- the host stands where its list leads
  pub view_is : (d : History) → Arises self d → view_of self d ≡ current_view initial_floor (said d)
  view_is d a = ap (λ f. f.view) (stands_here self d (steady self d a).list.own)

  abbrev Low : ℕ → Type 0
  Low v = v < 2 ^ 63

  said_low : (d : History) → AllKnown d → Low (current_view initial_floor (said d))
  unfolding current_view all_stamped
  said_low [] k = omega arith
  said_low (Stamped (stamped.ViewChange m) ∷ d) k = k.0.bare.0.1
  said_low (Stamped (stamped.Prepare m) ∷ d) k = said_low d k.1
  said_low (Stamped (stamped.Commit m) ∷ d) k = said_low d k.1
  said_low (Stamped (stamped.Checkpoint m) ∷ d) k = said_low d k.1
  said_low (Stamped (stamped.NewView m) ∷ d) k = said_low d k.1
  said_low (Stamped (stamped.Enter m) ∷ d) k = said_low d k.1
  said_low (Stamped (stamped.Open m) ∷ d) k = said_low d k.1
  said_low (Stamped (stamped.Join m) ∷ d) k = said_low d k.1
  said_low (e ∷ d) k = said_low d k.1

  -- The host's view is a view.
  pub view_low : (d : History) → Arises self d → AllKnown d → Low (view_of self d)
  view_low d a k = subst Low (sym (view_is d a)) (said_low d k)

  where_low : (b : Bool) (v : ℕ) → Low v → Low (if b then v else 0)
  where_low true v low = low
  where_low false v low = omega arith

  entry_wish : (e : Entry) (d : History) → Known self Good Text e d → Arises self d → AllKnown d → (h : ℕ) → Low (wish_in self d e h)
  entry_wish (Accepted (message.ReqViewChange m)) d k a all h = let f : FitsWish self.shape m = k.fits in where_low (eqb m.host h) m.view f.view.1
  entry_wish (Accepted (message.ViewChange m)) d k a all h = let f : FitsViewChange self.shape m = k.fits in where_low (eqb m.ui.host h) m.view f.view.1
  entry_wish (Stamped (stamped.ViewChange m)) d k a all h = where_low (eqb m.ui.host h) m.view k.bare.0.1
  entry_wish LostPatience d k a all h =
      let low : Low (view_of self d) = view_low d a all in
      let other : view_of self d ≡ view_limit → ⊥ = eqb-false (view_of self d) view_limit k in
      where_low (eqb self.host h) (view_of self d + 1) (below (view_of self d) low other) where
        below : (v : ℕ) → v < 2 ^ 63 → (v ≡ view_limit → ⊥) → v + 1 < 2 ^ 63
        below v lt ne = elim (cases_lt v view_limit) [ inl less ↦ omega (arith, less) | inr ge ↦ absurd (ne (omega (arith, lt, ge))) ]
  entry_wish e d k a all h = omega arith

  pub wish_low : (d : History) → Arises self d → AllKnown d → (h : ℕ) → Low (wish_of self d h)
  unfolding wish_of
  wish_low [] a k h = omega arith
  wish_low (e ∷ d) a k h = omega (arith, wish_low d a.1 k.1 h, entry_wish e d k.0 a.1 k.1 h)

  quorum_low : (d : History) → Arises self d → AllKnown d → (n : ℕ) → Low (quorum_wish self d n)
  unfolding quorum_wish
  quorum_low d a k zero = omega arith
  quorum_low d a k (suc n) = omega (arith, quorum_low d a k n, where_low (is_wished self d (wish_of self d n)) (wish_of self d n) (wish_low d a k n))

  held_low : (d : History) → AllKnown d → Low (new_view_number (new_view_of self d))
  held_low d k = go (new_view_of self d) refl where
    go : (o : Option NewView) → new_view_of self d ≡ o → Low (new_view_number o)
    go None e = omega arith
    go (Some n) e = (new_view_good self Good Text d k n e).view.1

  shown_low : (d : History) → AllKnown d → Low (evidence_view (evidence_of self d))
  shown_low d k = go (evidence_of self d) refl where
    go : (o : Option Evidence) → evidence_of self d ≡ o → Low (evidence_view o)
    go None e = omega arith
    go (Some x) e = (evidence_good self Good Text d k x e).fits.view.1

  -- So is the view to which the host goes.
  pub target_low : (d : History) → Arises self d → AllKnown d → Low (target self d)
  target_low d a k = omega (arith, quorum_low d a k (host_count self.shape), held_low d k, shown_low d k)
