-- The floors that a host's gates remember fit: they start at one that fits, and what is behind it fits; its counter is that of an accepted message,
-- of a stamp, or of a floor to which the gate jumped.
use Rattle.std.proofs.Common.{◌≡◌, ℕ, zero, suc, ◌+◌, Bool, List, [], ◌∷◌, length, refl, ap, subst, ◌∙◌, inl, inr, arith, Option, Some, None}
use Rattle.std.specs.Prelude.{◌==◌, map, take, find, nat_lt, nat_le}
use Rattle.std.specs.Option.{IfSome}
use Rattle.std.specs.List.{AllByRecursion, range_with_len}
use Rattle.std.proofs.lemmas.Bool.{cases_Bool, eqb-true}
use Rattle.std.proofs.lemmas.List.{length-map}
use Rattle.std.proofs.lemmas.List.FromFn.{length-range_with_len}
use Rattle.mb_base.specs.Shapes.{Bytes, host_count}
use Rattle.mb_parts.specs.declared.floor.Floor.{Floor}
use Rattle.mb_parts.specs.Bares.{Bare}
use Rattle.mb_parts.specs.Bares as bare
use Rattle.mb_parts.specs.Claims.{Claim}
use Rattle.mb_parts.specs.Fits.{IsCounter, FitsBare, FitsUi, FitsFloor, FitsFloors}
use Rattle.mb_parts.specs.Ordered.{floor_after}
use Rattle.mb_msg.specs.declared.message.Message.{Message}
use Rattle.mb_msg.specs.declared.message.Message.TheVariants as message
use Rattle.mb_msg.specs.declared.stamped.Stamped.{Stamped as StampedMessage}
use Rattle.mb_msg.specs.declared.stamped.Stamped.TheVariants as stamped
use Rattle.mb_msg.specs.Fits.{FitsStamped, FitsPrepare, FitsCommit, FitsCheckpoint, FitsViewChange, FitsNewView, FitsEnter, FitsOpen, FitsJoin}
use Rattle.mb_msg.specs.Stamps.{bare_of, ui_of, as_stamped}
use Rattle.mb_msg.proofs.Injective.{bare_fits}
use Rattle.mb_model.specs.Histories.{Accepted, Stamped, Jumped, Closed, Served, Executed, Installed, DroppedParts, LostPatience, Nudged, History, Identity, onto, by_host, origin, taken_of, gate, floors_with, gate_floors, floor_below, counter_of, said, stamped as all_stamped, here}
use Rattle.mb_model.specs.Making.{if_covered, floors_under, view_change, new_view, enter, opening, join, commit, prepare, checkpoint}
use Rattle.mb_model.specs.Passed.{PassesGate}
use Rattle.mb_model.specs.Sending.{signed, next_ui}
use Rattle.mb_steps.specs.Arises.{Arises, Makes}
use Rattle.mb_steps.proofs.StepOwnList.{stands_here}
use Rattle.mb_steps.proofs.StepOwnStamped.{steady}
use Rattle.mb_steps.proofs.StepRounds.{ui_under}
use Rattle.mb_host_laws.specs.Placed.{IsPlaced}
use Rattle.mb_host_laws.proofs.FloorsReached.{placed, leads_low}
use Rattle.mb_host_laws.proofs.Cases.{none_some}
use Rattle.mb_host_laws.specs.Rests.{Each}
use Rattle.mb_host_laws.proofs.OwnKnown.{KnownStamp, KnownMessage, Known}

module _ {S : Type 0} (self : Identity S) where
  abbrev AllFit : List Bare → Type 0
  AllFit l = AllByRecursion (FitsBare self.shape) l

  module _ (Good : Claim → Type 0) (Text : Bytes → Type 0) where
    abbrev AllKnown : History → Type 0
    AllKnown d = Each (Known self Good Text) d

    -- ---- what goes onto the lists

    -- a message of a host that its gate took
    record Enters (d : History) (m : StampedMessage) : Type 0 where
      bare : FitsBare self.shape (bare_of m)
      next : IsCounter ((gate d (ui_of m).host).counter + 1)

    passed : (d : History) (m : StampedMessage) → PassesGate self d m → FitsStamped self.shape m → FitsUi self.shape (ui_of m) → Enters d m
    passed d m p f u = record { bare = bare_fits self.shape m f; next = subst IsCounter p.next u.counter }

    accepted_enters : (d : History) (m : Message) → Arises self (Accepted m ∷ d) → KnownMessage self Good Text m → (x : StampedMessage) → as_stamped m ≡ Some x → Enters d x
    accepted_enters d (message.Prepare m) a k x e = let f : FitsPrepare self.shape m = k.fits in subst (Enters d) (cc e) (passed d (stamped.Prepare m) a.0.gate f f.ui)
    accepted_enters d (message.Commit m) a k x e = let f : FitsCommit self.shape m = k.fits in subst (Enters d) (cc e) (passed d (stamped.Commit m) a.0.gate f f.ui)
    accepted_enters d (message.Checkpoint m) a k x e = let f : FitsCheckpoint self.shape m = k.fits in subst (Enters d) (cc e) (passed d (stamped.Checkpoint m) a.0.gate f f.ui)
    accepted_enters d (message.ViewChange m) a k x e = let f : FitsViewChange self.shape m = k.fits in subst (Enters d) (cc e) (passed d (stamped.ViewChange m) a.0.gate f f.ui)
    accepted_enters d (message.NewView m) a k x e = let f : FitsNewView self.shape m = k.fits in subst (Enters d) (cc e) (passed d (stamped.NewView m) a.0.gate f f.ui)
    accepted_enters d (message.Enter m) a k x e = let f : FitsEnter self.shape m = k.fits in subst (Enters d) (cc e) (passed d (stamped.Enter m) a.0.gate f f.ui)
    accepted_enters d (message.Open m) a k x e = let f : FitsOpen self.shape m = k.fits in subst (Enters d) (cc e) (passed d (stamped.Open m) a.0.gate f f.ui)
    accepted_enters d (message.Join m) a k x e = let f : FitsJoin self.shape m = k.fits in subst (Enters d) (cc e) (passed d (stamped.Join m) a.0.gate f f.ui)
    accepted_enters d m a k x e = absurd cc

    pub record OwnUi (d : History) (m : StampedMessage) : Type 0 where
      pub host : (ui_of m).host ≡ self.host
      pub counter : (ui_of m).counter ≡ counter_of d + 1

    signed_ui : (d : History) (x m : StampedMessage) → signed self d x ≡ m → OwnUi d m
    signed_ui d x m e = subst (OwnUi d) e (record { host = ap (λ u. u.host) (ui_under (next_ui self d (bare_of x)) x); counter = ap (λ u. u.counter) (ui_under (next_ui self d (bare_of x)) x) })

    pub own_ui : (d : History) (m : StampedMessage) → Makes self d m → OwnUi d m
    own_ui d (stamped.ViewChange m) (view, e, is) = signed_ui d (view_change self d view) (stamped.ViewChange m) is
    own_ui d (stamped.NewView m) (changes, e, is) = signed_ui d (new_view self d changes) (stamped.NewView m) is
    own_ui d (stamped.Enter m) (n, e, is) = signed_ui d (enter n) (stamped.Enter m) is
    own_ui d (stamped.Open m) (e, plan, o, is) = signed_ui d (opening e plan) (stamped.Open m) is
    own_ui d (stamped.Join m) (e, is) = signed_ui d (join self d) (stamped.Join m) is
    own_ui d (stamped.Commit m) (p, s, r, e, is) = signed_ui d (commit self d p s r) (stamped.Commit m) is
    own_ui d (stamped.Prepare m) (p, r, e, is) = signed_ui d (prepare self d p r) (stamped.Prepare m) is
    own_ui d (stamped.Checkpoint m) (p, j, whole, is) = signed_ui d (checkpoint self d p) (stamped.Checkpoint m) is

    stamped_enters : (d : History) (m : StampedMessage) → Arises self (Stamped m ∷ d) → KnownStamp self Good Text m → Enters d m
    stamped_enters d m a k =
        let u = own_ui d m a.0 in
        let stands : (gate d self.host).counter ≡ 0 + length (said d) = ap (λ f. f.counter) (stands_here self d (steady self d a.1).list.own) in
        let many : length (said d) ≡ counter_of d = length-map (all_stamped d) bare_of in
        let same : (gate d (ui_of m).host).counter ≡ (gate d self.host).counter = ap (λ (h : ℕ). (gate d h).counter) u.host in
        let next : (ui_of m).counter ≡ (gate d (ui_of m).host).counter + 1 = omega (arith, same, stands, many, u.counter) in
        record { bare = k.bare; next = subst IsCounter next k.ui.counter }

    of_host : (h : ℕ) (d : History) (x : Option StampedMessage) → ((m : StampedMessage) → x ≡ Some m → Enters d m) → (b : Bare) → by_host h x ≡ Some b → FitsBare self.shape b × IsCounter ((gate d h).counter + 1)
    of_host h d None g b e = absurd cc
    of_host h d (Some m) g b e = elim (cases_Bool ((ui_of m).host == h)) [
      | inl same ↦ let n = g m refl in (subst (FitsBare self.shape) (cc (rw same at e)) n.bare, subst (λ (i : ℕ). IsCounter ((gate d i).counter + 1)) (eqb-true (ui_of m).host h same) n.next)
      | inr other ↦ absurd (none_some b (rw other at e))
    ]

    -- ---- the floors

    onto_fit : (x : Option Bare) (l : List Bare) → ((b : Bare) → x ≡ Some b → FitsBare self.shape b) → AllFit l → AllFit (onto x l)
    onto_fit None l g a = a
    onto_fit (Some b) l g a = (g b refl, a)

    taken_fit : (d : History) → Arises self d → AllKnown d → (h : ℕ) → AllFit (taken_of d h)
    unfolding taken_of
    taken_fit [] a k h = tt
    taken_fit (Jumped g f ∷ d) a k h = elim (cases_Bool (g == h)) [
      | inl same ↦ rw same tt
      | inr other ↦ rw other (taken_fit d a.1 k.1 h)
    ]
    taken_fit (Accepted m ∷ d) a k h = onto_fit (by_host h (as_stamped m)) (taken_of d h) (λ b e. (of_host h d (as_stamped m) (λ x i. accepted_enters d m a k.0 x i) b e).0) (taken_fit d a.1 k.1 h)
    taken_fit (Stamped m ∷ d) a k h = onto_fit (by_host h (Some m)) (taken_of d h) (λ b e. (of_host h d (Some m) (λ x i. subst (Enters d) (cc i) (stamped_enters d m a k.0)) b e).0) (taken_fit d a.1 k.1 h)
    taken_fit (x ∷ d) a k h = taken_fit d a.1 k.1 h

    origin_placed : (d : History) → AllKnown d → (h : ℕ) → IsPlaced (origin d h)
    unfolding origin
    origin_placed [] k h = record { view = omega arith; last = omega arith; top = omega arith; point = omega arith }
    origin_placed (Jumped g f ∷ d) k h = elim (cases_Bool (g == h)) [
      | inl same ↦ rw same (placed f k.0)
      | inr other ↦ rw other (origin_placed d k.1 h)
    ]
    origin_placed (x ∷ d) k h = origin_placed d k.1 h

    -- where a gate stands behind one more
    behind_one : (d : History) → Arises self d → AllKnown d → (h : ℕ) (b : Bare) → FitsBare self.shape b × IsCounter ((gate d h).counter + 1) → FitsFloor (floor_after (origin d h) (b ∷ taken_of d h))
    behind_one d a k h b f =
        let p = leads_low self.shape (origin d h) (origin_placed d k h) (b ∷ taken_of d h) (f.0, taken_fit d a k h) in
        record { counter = (omega arith, omega (arith, f.1.1)); view = p.view; last = p.last; top = p.top; point = p.point }

    accepted_floor : (m : Message) (d : History) (h : ℕ) (x : Option Bare) (l : List Floor) → ((b : Bare) → x ≡ Some b → FitsFloor (floor_after (origin d h) (b ∷ taken_of d h))) → AllByRecursion FitsFloor l
        → AllByRecursion FitsFloor (floors_with h (floor_after (origin d h) (onto x (taken_of d h))) (Accepted m) x l)
    accepted_floor m d h None l g a = a
    accepted_floor m d h (Some (bare.Checkpoint q t y)) l g a = (g (bare.Checkpoint q t y) refl, a)
    accepted_floor m d h (Some (bare.ViewChange v y)) l g a = a
    accepted_floor m d h (Some (bare.NewView v q e x y)) l g a = a
    accepted_floor m d h (Some (bare.Enter v c x)) l g a = a
    accepted_floor m d h (Some (bare.Open e y)) l g a = a
    accepted_floor m d h (Some (bare.Join v e c)) l g a = a
    accepted_floor m d h (Some (bare.Commit v q n c y)) l g a = a
    accepted_floor m d h (Some (bare.Prepare v q y)) l g a = a

    stamped_floor : (m : StampedMessage) (d : History) (h : ℕ) (x : Option Bare) (l : List Floor) → ((b : Bare) → x ≡ Some b → FitsFloor (floor_after (origin d h) (b ∷ taken_of d h))) → AllByRecursion FitsFloor l
        → AllByRecursion FitsFloor (floors_with h (floor_after (origin d h) (onto x (taken_of d h))) (Stamped m) x l)
    stamped_floor m d h None l g a = a
    stamped_floor m d h (Some (bare.Checkpoint q t y)) l g a = (g (bare.Checkpoint q t y) refl, a)
    stamped_floor m d h (Some (bare.ViewChange v y)) l g a = a
    stamped_floor m d h (Some (bare.NewView v q e x y)) l g a = a
    stamped_floor m d h (Some (bare.Enter v c x)) l g a = a
    stamped_floor m d h (Some (bare.Open e y)) l g a = a
    stamped_floor m d h (Some (bare.Join v e c)) l g a = a
    stamped_floor m d h (Some (bare.Commit v q n c y)) l g a = a
    stamped_floor m d h (Some (bare.Prepare v q y)) l g a = a

    gates_fit : (d : History) → Arises self d → AllKnown d → (h : ℕ) → AllByRecursion FitsFloor (gate_floors d h)
    unfolding gate_floors origin taken_of
    gates_fit [] a k h = tt
    gates_fit (Jumped g f ∷ d) a k h = elim (cases_Bool (g == h)) [
      | inl same ↦ rw same (k.0, tt)
      | inr other ↦ rw other (gates_fit d a.1 k.1 h)
    ]
    gates_fit (Accepted m ∷ d) a k h = accepted_floor m d h (by_host h (as_stamped m)) (gate_floors d h) (λ b e. behind_one d a.1 k.1 h b (of_host h d (as_stamped m) (λ x i. accepted_enters d m a k.0 x i) b e)) (gates_fit d a.1 k.1 h)
    gates_fit (Stamped m ∷ d) a k h = stamped_floor m d h (by_host h (Some m)) (gate_floors d h) (λ b e. behind_one d a.1 k.1 h b (of_host h d (Some m) (λ x i. subst (Enters d) (cc i) (stamped_enters d m a k.0)) b e)) (gates_fit d a.1 k.1 h)
    gates_fit (Closed g c ∷ d) a k h = gates_fit d a.1 k.1 h
    gates_fit (Served pos p ∷ d) a k h = gates_fit d a.1 k.1 h
    gates_fit (Executed slot ∷ d) a k h = gates_fit d a.1 k.1 h
    gates_fit (Installed pos parts ∷ d) a k h = gates_fit d a.1 k.1 h
    gates_fit (DroppedParts ∷ d) a k h = gates_fit d a.1 k.1 h
    gates_fit (LostPatience ∷ d) a k h = gates_fit d a.1 k.1 h
    gates_fit (Nudged ∷ d) a k h = gates_fit d a.1 k.1 h

    find_fits : (f : Floor → Bool) (n : ℕ) (l : List Floor) → AllByRecursion FitsFloor l → IfSome (find f (take n l)) FitsFloor
    find_fits f zero l a = tt
    find_fits f (suc n) [] a = tt
    find_fits f (suc n) (x ∷ l) a = elim (cases_Bool (f x)) [
      | inl here ↦ rw here a.0
      | inr other ↦ rw other (find_fits f n l a.1)
    ]

    covered_fits : (pos : ℕ) (x : Option Floor) → IfSome x FitsFloor → IfSome (if_covered pos x) FitsFloor
    covered_fits pos None f = tt
    covered_fits pos (Some x) f = elim (cases_Bool (nat_le x.top pos)) [
      | inl covered ↦ rw covered f
      | inr not_so ↦ rw not_so tt
    ]

    -- The floors that a CHECKPOINT shows fit.
    pub floors_fit : (d : History) → Arises self d → AllKnown d → (pos : ℕ) → FitsFloors self.shape (floors_under self d pos)
    floors_fit d a k pos = (length-map (range_with_len 0 (host_count self.shape)) (λ h. if_covered pos (floor_below d h pos)) ∙ length-range_with_len 0 (host_count self.shape), go (range_with_len 0 (host_count self.shape))) where
      go : (l : List ℕ) → AllByRecursion (λ (o : Option Floor). IfSome o FitsFloor) (map (λ h. if_covered pos (floor_below d h pos)) l)
      go [] = tt
      go (h ∷ l) = (covered_fits pos (floor_below d h pos) (find_fits (λ f. nat_lt f.point pos) 2 (gate_floors d h) (gates_fit d a k h)), go l)
