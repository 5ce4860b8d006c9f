-- The floor certificate with which a log was cut last certifies a floor for the host whose log it is, and the log begins at this floor.
use Rattle.std.proofs.Common.{◌≡◌, ◌+◌, ◌&&◌, ℕ, [], ◌∷◌, ap, ◌∙◌, inl, inr, ◌⊎◌, Option, Some, None}
use Rattle.std.specs.Prelude.{nat_lt, nat_le}
use Rattle.std.specs.Option.{option_or}
use Rattle.std.proofs.lemmas.Bool.{cases_Bool}
use Rattle.mb_base.specs.Shapes.{span, interval}
use Rattle.mb_parts.specs.declared.floor.Floor.{Floor}
use Rattle.mb_parts.specs.declared.certificates.FloorCert.{FloorCert}
use Rattle.mb_parts.specs.Certificates.{first_floor, agree_on_floor, certified_floor}
use Rattle.mb_model.specs.Histories.{History, Identity, counter_of}
use Rattle.mb_model.specs.GateChecks.{valid}
use Rattle.mb_model.specs.Stable.{low_of, log_floor, floor_counter, counter_in, floor_at, floor_from, cut_by, is_kept, checkpoint_in}
use Rattle.mb_model.proofs.Options.{or_some, if_some}
use Rattle.mb_steps.specs.Arises.{Arises}
use Rattle.mb_promise.specs.Bounds.{IsFloor}
use Rattle.mb_host_laws.proofs.FloorCerts.{floor_certifies}

module _ {S : Type 0} (self : Identity S) where
  abbrev Certifies : FloorCert → Type 0
  Certifies c = (o : Floor) × (certified_floor self.shape (valid self) self.host c ≡ Some o)

  at_certifies : (d : History) → Arises self d → (pos : ℕ) (c : FloorCert) → floor_at self.shape d self.host pos ≡ Some c → Certifies c
  at_certifies d a pos c e = let f = floor_certifies self self.host d a pos c e in (f.0, f.1)

  from_certifies : (d : History) → Arises self d → (low : ℕ) (c : FloorCert) → floor_from self.shape d self.host low ≡ Some c → Certifies c
  from_certifies d a low c e = elim (or_some (floor_at self.shape d self.host (low + span self.shape)) (option_or (floor_at self.shape d self.host (low + interval self.shape)) (floor_at self.shape d self.host low)) c e) [
    | inl far ↦ at_certifies d a (low + span self.shape) c far
    | inr other ↦ elim (or_some (floor_at self.shape d self.host (low + interval self.shape)) (floor_at self.shape d self.host low) c other) [
      | inl near ↦ at_certifies d a (low + interval self.shape) c near
      | inr here ↦ at_certifies d a low c here
    ]
  ]

  cut_from : (n : ℕ) (old new : Option FloorCert) (c : FloorCert) → cut_by self n old new ≡ Some c → (old ≡ Some c) ⊎ (new ≡ Some c)
  cut_from n old None c e = inl e
  cut_from n old (Some x) c e = elim (cases_Bool (nat_lt (floor_counter self old) (floor_counter self (Some x)) && nat_le (floor_counter self (Some x)) n)) [
    | inl does ↦ inr (rw does at e)
    | inr not_so ↦ inl (rw not_so at e)
  ]

  floor_certified : (d : History) → Arises self d → (c : FloorCert) → log_floor self d ≡ Some c → Certifies c
  unfolding log_floor
  floor_certified [] a c e = absurd cc
  floor_certified (x ∷ d) a c e = elim (cases_Bool (is_kept (low_of self d) (checkpoint_in x))) [
    | inl kept ↦ elim (cut_from (counter_of (x ∷ d)) (log_floor self d) (floor_from self.shape (x ∷ d) self.host (low_of self (x ∷ d))) c (rw kept at e)) [
      | inl before ↦ floor_certified d a.1 c before
      | inr now ↦ from_certifies (x ∷ d) a (low_of self (x ∷ d)) c now
    ]
    | inr other ↦ floor_certified d a.1 c (rw other at e)
  ]

  first_of : (c : FloorCert) (o : Floor) → certified_floor self.shape (valid self) self.host c ≡ Some o → first_floor self.host c.members ≡ Some o
  unfolding certified_floor
  first_of c o e = (if_some (agree_on_floor self.shape (valid self) self.host c) (first_floor self.host c.members) o e).1

  pub floor_is_certified : (d : History) → Arises self d → (c : FloorCert) → log_floor self d ≡ Some c → IsFloor self d c
  floor_is_certified d a c e =
      let f = floor_certified d a c e in
      record { floor = f.0; certified = f.1; begins = ap (floor_counter self) e ∙ ap (counter_in self) (first_of c f.0 f.1) }
