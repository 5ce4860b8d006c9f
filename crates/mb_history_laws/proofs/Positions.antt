-- Slots and votes behind an entry. Each was counted at a moment of its view, at a position of the window then. Views and the stable position never
-- fall, so none is there in a later view or above the window, and behind an entry a host knows what is left and what the entry says.
use Rattle.std.proofs.Common.{◌≡◌, ℕ, ◌+◌, ◌≤◌, ◌<◌, Bool, true, false, ◌&&◌, [], ◌∷◌, refl, sym, ap, inl, inr, arith, Option, Some, None}
use Rattle.std.specs.Prelude.{◌==◌, nat_lt, nat_le, if◌then◌else◌}
use Rattle.std.specs.Option.{option_or}
use Rattle.std.proofs.lemmas.Bool.{cases_Bool, and_parts, eq-eqb, eqb-true, eqb-false, ltb-true, leb-true, leb-false, lt-ltb, le-leb}
use Rattle.mb_base.specs.Shapes.{span}
use Rattle.mb_base.specs.declared.shape.Shape.{Shape}
use Rattle.mb_model.specs.declared.known.Vote.{Vote}
use Rattle.mb_model.specs.declared.known.KnownSlot.{KnownSlot}
use Rattle.mb_model.specs.Histories.{Entry, History, Identity, view_of}
use Rattle.mb_model.specs.Stable.{low_of}
use Rattle.mb_model.specs.Positions.{position_limit, in_window, counts_at, slot_by, slot_in, slot_at, vote_by, open_vote_by, vote_of, vote_at}
use Rattle.mb_model.proofs.Options.{or_some, if_some}
use Rattle.mb_steps.specs.Arises.{Arises}
use Rattle.mb_steps.proofs.StepPotential.{grown_low}
use Rattle.mb_history_laws.specs.Behind.{left_at, if_in_window, slot_left, vote_left, vote_new}
use Rattle.mb_history_laws.proofs.Standing.{views_rise}

-- ---- over plain numbers

abbrev inside : Shape → ℕ → ℕ → Bool
inside s low p = nat_lt low p && (nat_le p (low + span s) && nat_le p position_limit)

-- Nothing is there in a later view or above the window.
abbrev Within : {A : Type 0} → Shape → ℕ → ℕ → ℕ → (ℕ → Option A) → Type 0
Within s v low p found = (u : ℕ) (x : _) → found u ≡ Some x → (u ≤ v) × (p ≤ low + span s)

none_there : {A : Type 0} (o : Option A) → ((x : A) → o ≡ Some x → ⊥) → o ≡ None
none_there None n = refl
none_there (Some x) n = absurd (n x refl)

module _ {A : Type 0} (s : Shape) (v w low top p : ℕ) (found : ℕ → Option A) (new : Option A) (views : v ≤ w) (rises : low ≤ top) (within : Within s v low p found) where
  inside_parts : (l : ℕ) → inside s l p ≡ true → (l < p) × (p ≤ l + span s) × (nat_le p position_limit ≡ true)
  inside_parts l e =
      let a = and_parts (nat_lt l p) (nat_le p (l + span s) && nat_le p position_limit) e in
      let b = and_parts (nat_le p (l + span s)) (nat_le p position_limit) a.1 in
      (ltb-true l p a.0, leb-true p (l + span s) b.0, b.1)

  -- in the window before, or nothing was found there
  found_before : inside s top p ≡ true → (if inside s low p then found v else None) ≡ found v
  found_before t = elim (cases_Bool (inside s low p)) [
    | inl both ↦ rw both refl
    | inr out ↦ rw out (sym (none_there (found v) (λ x e.
        let q = inside_parts top t in
        let n = within v x e in
        let low_at : nat_lt low p ≡ true = lt-ltb low p (omega (arith, rises, q.0)) in
        let top_at : nat_le p (low + span s) ≡ true = le-leb p (low + span s) n.1 in
        let e = rw (low_at, top_at, q.2) at out in absurd cc)))
  ]

  -- nothing is left of what lies outside the window now
  outside_now : inside s top p ≡ false → left_at v w top p (if inside s low p then found v else None) ≡ None
  outside_now t = elim (cases_Bool (v == w)) [
    | inr other ↦ rw other refl
    | inl same ↦ rw same (elim (cases_Bool (nat_le p top)) [
      | inl under ↦ rw under refl
      | inr above ↦ rw above (elim (cases_Bool (inside s low p)) [
        | inr out ↦ rw out refl
        | inl both ↦
            let q = inside_parts low both in
            let low_at : nat_lt top p ≡ true = lt-ltb top p (leb-false p top above) in
            let top_at : nat_le p (top + span s) ≡ true = le-leb p (top + span s) (omega (arith, rises, q.1)) in
            let e = rw (low_at, top_at, q.2) at t in absurd cc
      ])
    ])
  ]

  behind : (if inside s top p then option_or (found w) (if (w == w && inside s top p) then new else None) else None)
      ≡ option_or (left_at v w top p (if inside s low p then found v else None)) (if inside s top p then new else None)
  behind = elim (cases_Bool (inside s top p)) [
    | inr out ↦ rw out (sym (ap (λ o. option_or o None) (outside_now out)))
    | inl here ↦
        let q = inside_parts top here in
        let above : nat_le p top ≡ false = not_le p top q.0 in
        rw (here, eq-eqb w w refl, found_before here, above) (elim (cases_Bool (v == w)) [
          | inl same ↦ rw same (ap (λ u. option_or (found u) new) (sym (eqb-true v w same)))
          | inr other ↦ rw other (ap (λ o. option_or o new) (none_there (found w) (λ x e. let n = within w x e in eqb-false v w other (omega (arith, views, n.0)))))
        ])
  ] where
    not_le : (a b : ℕ) → b < a → nat_le a b ≡ false
    not_le a b lt = elim (cases_Bool (nat_le a b)) [
      | inl le ↦ absurd (omega (arith, lt, leb-true a b le))
      | inr gt ↦ gt
    ]

-- ---- slots and votes

module _ {S : Type 0} (self : Identity S) where
  counted_within : (d : History) (v p : ℕ) → counts_at self d v p ≡ true → (v ≤ view_of self d) × (p ≤ low_of self d + span self.shape)
  counted_within d v p e =
      let a = and_parts (view_of self d == v) (in_window self d p) e in
      let b = and_parts (nat_lt (low_of self d) p) (nat_le p (low_of self d + span self.shape) && nat_le p position_limit) a.1 in
      let c = and_parts (nat_le p (low_of self d + span self.shape)) (nat_le p position_limit) b.1 in
      (omega (arith, eqb-true (view_of self d) v a.0), leb-true p (low_of self d + span self.shape) c.0)

  -- None is there in a later view, or above the window.
  pub slots_within : (d : History) → Arises self d → (v p : ℕ) (k : KnownSlot) → slot_in self d v p ≡ Some k → (v ≤ view_of self d) × (p ≤ low_of self d + span self.shape)
  unfolding slot_in
  slots_within [] a v p k e = absurd cc
  slots_within (x ∷ d) a v p k e = elim (or_some (slot_in self d v p) (if counts_at self (x ∷ d) v p then slot_by x v p else None) k e) [
    | inl before ↦ let w = slots_within d a.1 v p k before in (omega (arith, w.0, views_rise self x d a), omega (arith, w.1, grown_low self d x))
    | inr now ↦ counted_within (x ∷ d) v p (if_some (counts_at self (x ∷ d) v p) (slot_by x v p) k now).0
  ]

  pub votes_within : (d : History) → Arises self d → (h v p : ℕ) (y : Vote) → vote_of self d h v p ≡ Some y → (v ≤ view_of self d) × (p ≤ low_of self d + span self.shape)
  unfolding vote_of
  votes_within [] a h v p y e = absurd cc
  votes_within (x ∷ d) a h v p y e =
      let new : Option Vote = option_or (vote_by self.host x h v p) (open_vote_by self (x ∷ d) x h v p) in
      elim (or_some (vote_of self d h v p) (if counts_at self (x ∷ d) v p then new else None) y e) [
        | inl before ↦ let w = votes_within d a.1 h v p y before in (omega (arith, w.0, views_rise self x d a), omega (arith, w.1, grown_low self d x))
        | inr now ↦ counted_within (x ∷ d) v p (if_some (counts_at self (x ∷ d) v p) new y now).0
      ]

  -- ---- behind an entry

  -- the slot of a position: what is left, or else what the entry says
  pub slot_behind : (e : Entry) (d : History) → Arises self (e ∷ d) → (p : ℕ)
      → slot_at self (e ∷ d) p ≡ option_or (slot_left self e d p) (if_in_window self (e ∷ d) p (slot_by e (view_of self (e ∷ d)) p))
  unfolding slot_in
  slot_behind e d a p = behind self.shape (view_of self d) (view_of self (e ∷ d)) (low_of self d) (low_of self (e ∷ d)) p (λ u. slot_in self d u p) (slot_by e (view_of self (e ∷ d)) p)
      (views_rise self e d a) (grown_low self d e) (λ u x f. slots_within d a.1 u p x f)

  -- the vote of a host, the same way
  pub vote_behind : (e : Entry) (d : History) → Arises self (e ∷ d) → (h p : ℕ)
      → vote_at self (e ∷ d) h p ≡ option_or (vote_left self e d h p) (if_in_window self (e ∷ d) p (vote_new self e d h p))
  unfolding vote_of
  vote_behind e d a h p = behind self.shape (view_of self d) (view_of self (e ∷ d)) (low_of self d) (low_of self (e ∷ d)) p (λ u. vote_of self d h u p) (vote_new self e d h p)
      (views_rise self e d a) (grown_low self d e) (λ u x f. votes_within d a.1 h u p x f)
