-- The plan that a host holds came at some moment, and its base, which was learnt with it, is at or below the stable position.
use Rattle.std.proofs.Common.{◌≡◌, ℕ, ◌≤◌, [], ◌∷◌, ◌++◌, refl, sym, ap, subst, inl, inr, arith, Option, Some}
use Rattle.mb_parts.specs.declared.certificates.StableCert.{StableCert}
use Rattle.mb_msg.specs.declared.message.Message.TheVariants as message
use Rattle.mb_msg.specs.declared.change.Plan.{Plan}
use Rattle.mb_msg.specs.declared.stamped.Stamped.TheVariants as stamped
use Rattle.mb_model.specs.Histories.{Entry, Accepted, Stamped, History, Identity}
use Rattle.mb_model.specs.Held.{plan_in, plan_held}
use Rattle.mb_model.specs.Stable.{stable_of, low_of, learnt_in, further}
use Rattle.mb_model.proofs.Options.{or_some}
use Rattle.mb_steps.proofs.StepPotential.{further_both, grown_low}
use Rattle.mb_host_laws.proofs.Moments.{IsPast}

-- The stable position only grows.
pub low_grows : {S : Type 0} (self : Identity S) (later d : History) → low_of self d ≤ low_of self (later ++ d)
low_grows self [] d = omega arith
low_grows self (e ∷ later) d = omega (arith, low_grows self later d, grown_low self (later ++ d) e)

pub low_since : {S : Type 0} (self : Identity S) (d whole : History) → IsPast d whole → low_of self d ≤ low_of self whole
low_since self d whole p = subst (λ (x : History). low_of self d ≤ low_of self x) p.is (low_grows self p.later d)

module _ {S : Type 0} (self : Identity S) where
  -- ---- the moment at which the plan came

  pub record HeldFrom (d : History) (p : ℕ × Plan) : Type 0 where
    pub before : History
    pub entry : Entry
    pub past : IsPast (entry ∷ before) d
    pub brings : plan_in self before (plan_held self before) entry ≡ Some p

  pub held_from : (d : History) (p : ℕ × Plan) → plan_held self d ≡ Some p → HeldFrom d p
  unfolding plan_held
  held_from [] p e = absurd cc
  held_from (x ∷ d) p e = elim (or_some (plan_in self d (plan_held self d) x) (plan_held self d) p e) [
    | inl now ↦ record { before = d; entry = x; past = record { later = []; is = refl }; brings = now }
    | inr before ↦ let r = held_from d p before in record { before = r.before; entry = r.entry; past = record { later = x ∷ r.past.later; is = ap (λ (y : History). x ∷ y) r.past.is }; brings = r.brings }
  ]

  -- its base is learnt with it
  base_learnt : (d : History) (x : Entry) (low : ℕ) (p : ℕ × Plan) → plan_in self d (plan_held self d) x ≡ Some p → learnt_in self d low x ≡ Some p.1.base
  base_learnt d (Accepted (message.NewView m)) low p e = rw e refl
  base_learnt d (Accepted (message.Open m)) low p e = rw e refl
  base_learnt d (Stamped (stamped.NewView m)) low p e = rw e refl
  base_learnt d x low p e = absurd cc

  brought_low : (d : History) (x : Entry) (p : ℕ × Plan) → plan_in self d (plan_held self d) x ≡ Some p → p.1.base.pos ≤ low_of self (x ∷ d)
  unfolding stable_of
  brought_low d x p e = subst (λ (o : Option StableCert). p.1.base.pos ≤ (further (stable_of self d) o).pos) (sym (base_learnt d x (stable_of self d).pos p e)) (further_both (stable_of self d) p.1.base).1

  pub base_below : (d : History) (p : ℕ × Plan) → plan_held self d ≡ Some p → p.1.base.pos ≤ low_of self d
  base_below d p e =
      let h = held_from d p e in
      let a = brought_low h.before h.entry p h.brings in
      omega (arith, a, low_since self (h.entry ∷ h.before) d h.past)
