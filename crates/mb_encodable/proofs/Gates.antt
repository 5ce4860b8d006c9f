-- Where the gates of a host stand: a floor of the grammar, or the start of it, behind messages that fit.
use Rattle.std.proofs.Common.{◌≡◌, ℕ, ◌+◌, ◌^◌, ◌<◌, List, [], ◌∷◌, length, ap, subst, inl, inr, arith, Option, Some, None}
use Rattle.std.specs.Prelude.{◌==◌}
use Rattle.std.specs.List.{AllByRecursion}
use Rattle.std.proofs.lemmas.Bool.{cases_Bool, eqb-true}
use Rattle.mb_base.specs.declared.shape.Shape.{Shape}
use Rattle.mb_parts.specs.declared.floor.Floor.{Floor}
use Rattle.mb_parts.specs.Bares.{Bare}
use Rattle.mb_parts.specs.Fits.{FitsBare, FitsUi}
use Rattle.mb_msg.specs.declared.message.Message.{Message}
use Rattle.mb_msg.specs.declared.message.Message.TheVariants as message
use Rattle.mb_msg.specs.declared.stamped.Stamped.{Stamped as StampedMessage}
use Rattle.mb_msg.specs.declared.stamped.Stamped.TheVariants as stamped
use Rattle.mb_msg.specs.Fits.{FitsFields, FitsStamped}
use Rattle.mb_msg.specs.Stamps.{ui_of, as_stamped}
use Rattle.mb_msg.proofs.Injective.{bare_fits}
use Rattle.mb_model.specs.Histories.{Entry, Accepted, Stamped, Jumped, History, Identity, onto, by_host, stamped_in, origin, taken_of, gate}
use Rattle.mb_model.specs.Passed.{Passes}
use Rattle.mb_steps.specs.Arises.{Arises}
use Rattle.mb_steps.proofs.StepOwnStamped.{steady}
use Rattle.mb_host_laws.proofs.Cases.{some_is}
use Rattle.mb_host_laws.specs.Placed.{IsPlaced}
use Rattle.mb_host_laws.proofs.FloorsReached.{placed, leads_low}
use Rattle.mb_host_laws.specs.Rests.{Each}
use Rattle.mb_history_laws.proofs.Gates.{own_counter, own_stamp_counter}
use Rattle.mb_history_laws.proofs.Standing.{own_sender}
use Rattle.mb_encodable.specs.Fitting.{HasValues, FitsGate}

-- ---- messages of an entry

module _ (s : Shape) where
  as_stamped_fits : (m : Message) → FitsFields s m → (x : StampedMessage) → as_stamped m ≡ Some x → FitsStamped s x
  as_stamped_fits (message.Prepare m) f x e = subst (FitsStamped s) (some_is (stamped.Prepare m) x e) f
  as_stamped_fits (message.Commit m) f x e = subst (FitsStamped s) (some_is (stamped.Commit m) x e) f
  as_stamped_fits (message.Checkpoint m) f x e = subst (FitsStamped s) (some_is (stamped.Checkpoint m) x e) f
  as_stamped_fits (message.ViewChange m) f x e = subst (FitsStamped s) (some_is (stamped.ViewChange m) x e) f
  as_stamped_fits (message.NewView m) f x e = subst (FitsStamped s) (some_is (stamped.NewView m) x e) f
  as_stamped_fits (message.Enter m) f x e = subst (FitsStamped s) (some_is (stamped.Enter m) x e) f
  as_stamped_fits (message.Open m) f x e = subst (FitsStamped s) (some_is (stamped.Open m) x e) f
  as_stamped_fits (message.Join m) f x e = subst (FitsStamped s) (some_is (stamped.Join m) x e) f
  as_stamped_fits m f x e = absurd cc

  pub ui_fits : (x : StampedMessage) → FitsStamped s x → FitsUi s (ui_of x)
  ui_fits (stamped.Prepare m) f = f.ui
  ui_fits (stamped.Commit m) f = f.ui
  ui_fits (stamped.Checkpoint m) f = f.ui
  ui_fits (stamped.ViewChange m) f = f.ui
  ui_fits (stamped.NewView m) f = f.ui
  ui_fits (stamped.Enter m) f = f.ui
  ui_fits (stamped.Open m) f = f.ui
  ui_fits (stamped.Join m) f = f.ui

module _ {S : Type 0} (self : Identity S) where
  -- It is the next one of its sender.
  abbrev IsNext : History → StampedMessage → Type 0
  IsNext d x = (ui_of x).counter ≡ (gate d (ui_of x).host).counter + 1

  passed_next : (d : History) (m : Message) → Passes self d m → (x : StampedMessage) → as_stamped m ≡ Some x → IsNext d x
  passed_next d (message.Prepare m) p x e = subst (IsNext d) (some_is (stamped.Prepare m) x e) p.gate.next
  passed_next d (message.Commit m) p x e = subst (IsNext d) (some_is (stamped.Commit m) x e) p.gate.next
  passed_next d (message.Checkpoint m) p x e = subst (IsNext d) (some_is (stamped.Checkpoint m) x e) p.gate.next
  passed_next d (message.ViewChange m) p x e = subst (IsNext d) (some_is (stamped.ViewChange m) x e) p.gate.next
  passed_next d (message.NewView m) p x e = subst (IsNext d) (some_is (stamped.NewView m) x e) p.gate.next
  passed_next d (message.Enter m) p x e = subst (IsNext d) (some_is (stamped.Enter m) x e) p.gate.next
  passed_next d (message.Open m) p x e = subst (IsNext d) (some_is (stamped.Open m) x e) p.gate.next
  passed_next d (message.Join m) p x e = subst (IsNext d) (some_is (stamped.Join m) x e) p.gate.next
  passed_next d m p x e = absurd cc

  said_next : (d : History) (e : Entry) → Arises self (e ∷ d) → (x : StampedMessage) → stamped_in e ≡ Some x → IsNext d x
  said_next d (Accepted m) a x e = passed_next d m a.0 x e
  said_next d (Stamped m) a x e =
      let counter = own_stamp_counter self d m a.0 in
      let stands = own_counter self d (steady self d a.1).list.own in
      let same : (gate d (ui_of m).host).counter ≡ (gate d self.host).counter = ap (λ (h : ℕ). (gate d h).counter) (own_sender self d m a.0) in
      let next : (ui_of m).counter ≡ (gate d (ui_of m).host).counter + 1 = omega (arith, counter, stands, same) in
      subst (IsNext d) (some_is m x e) next
  said_next d e a x is = absurd cc

  said_fits : (d : History) (e : Entry) → HasValues self e d → (x : StampedMessage) → stamped_in e ≡ Some x → FitsStamped self.shape x
  said_fits d (Accepted m) f x e = as_stamped_fits self.shape m f x e
  said_fits d (Stamped m) f x e = subst (FitsStamped self.shape) (some_is m x e) f
  said_fits d e f x is = absurd cc

  -- ---- gates

  -- what a list leads to from a floor
  record Leads (o : Floor) (l : List Bare) : Type 0 where
    fits : AllByRecursion (FitsBare self.shape) l
    from : IsPlaced o
    counter : o.counter + length l < 2 ^ 64

  one_more : (d : History) (h : ℕ) (x : Option StampedMessage) → ((m : StampedMessage) → x ≡ Some m → FitsStamped self.shape m × IsNext d m) → Leads (origin d h) (taken_of d h) → Leads (origin d h) (onto (by_host h x) (taken_of d h))
  one_more d h None g l = l
  one_more d h (Some m) g l = elim (cases_Bool ((ui_of m).host == h)) [
    | inl same ↦
        let f = g m refl_some in
        let there : (gate d (ui_of m).host).counter ≡ (gate d h).counter = ap (λ (i : ℕ). (gate d i).counter) (eqb-true (ui_of m).host h same) in
        rw same (record { fits = (bare_fits self.shape m f.0, l.fits); from = l.from; counter = omega (arith, f.1, there, (ui_fits self.shape m f.0).counter.1) })
    | inr other ↦ rw other l
  ] where
    refl_some : Some m ≡ Some m
    refl_some = cc

  stands : (d : History) → Arises self d → Each (HasValues self) d → (h : ℕ) → Leads (origin d h) (taken_of d h)
  unfolding origin taken_of
  stands [] a f h = record { fits = tt; from = record { view = omega arith; last = omega arith; top = omega arith; point = omega arith }; counter = omega arith }
  stands (Jumped g x ∷ d) a f h = elim (cases_Bool (g == h)) [
    | inl same ↦ rw same (record { fits = tt; from = placed x f.0; counter = omega (arith, f.0.counter.1) })
    | inr other ↦ rw other (stands d a.1 f.1 h)
  ]
  stands (Accepted m ∷ d) a f h = one_more d h (as_stamped m) (λ x e. (said_fits d (Accepted m) f.0 x e, said_next d (Accepted m) a x e)) (stands d a.1 f.1 h)
  stands (Stamped m ∷ d) a f h = one_more d h (Some m) (λ x e. (said_fits d (Stamped m) f.0 x e, said_next d (Stamped m) a x e)) (stands d a.1 f.1 h)
  stands (x ∷ d) a f h = stands d a.1 f.1 h

  pub gate_fits : (d : History) → Arises self d → Each (HasValues self) d → (h : ℕ) → FitsGate (gate d h)
  gate_fits d a f h =
      let l = stands d a f h in
      let o : Floor = origin d h in
      record { counter = l.counter; at = leads_low self.shape o l.from (taken_of d h) l.fits }
