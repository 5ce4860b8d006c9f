-- A host leaves a view, and its primary announces it and its backups enter it, as soon as they may.
use Rattle.std.proofs.Common.{◌≡◌, ℕ, zero, suc, ◌<◌, ◌≤◌, Bool, true, false, ◌&&◌, not, List, refl, sym, ap, ◌∙◌, inl, inr, ◌⊎◌, arith, eqb, Some, None, length}
use Rattle.std.specs.Prelude.{◌==◌, nat_lt, nat_le, take, filter, option_map}
use Rattle.std.proofs.lemmas.Bool.{cases_Bool, eqb-true, eqb-false, eq-eqb, lt-ltb, le-leb, leb-true, leb-false}
use Rattle.mb_base.specs.Shapes.{quorum, host_count, tally}
use Rattle.mb_msg.specs.declared.change.ViewChange.{ViewChange}
use Rattle.mb_model.specs.Histories.{History, Identity, view_of, is_changing, is_primary}
use Rattle.mb_model.specs.Held.{wish_of, is_wished, quorum_wish, changes_of, chosen, by_rising_host, new_view_of, new_view_in_view, evidence_of, evidence_view}
use Rattle.mb_model.specs.OwnLog.{has_other_room}
use Rattle.mb_model.specs.EnabledRules.{ChangeView, Announce, Enter, new_view_number, target, change_enabled, announce_enabled, enter_enabled}
use Rattle.mb_promise.specs.NothingLeft.{IsWished, IsAnnounced, IsEvident, LeavesView, AnnouncesView, EntersView}
use Rattle.mb_each_host.proofs.Words.{other_room_is}
use Rattle.mb_each_host.proofs.DueOrders.{not_left}

-- ---- counts of hosts

-- Where one property brings the other, no fewer have the other.
tally_grows : (p q : ℕ → Bool) (n : ℕ) → ((g : ℕ) → g < n → p g ≡ true → q g ≡ true) → tally p n ≤ tally q n
tally_grows p q zero so = omega arith
tally_grows p q (suc n) so =
    let rest = tally_grows p q n (λ g lt e. so g (omega (arith, lt)) e) in
    elim (cases_Bool (p n)) [
      | inl here ↦ rw (here, so n (omega arith) here) (omega (arith, rest))
      | inr other ↦ rw other (omega (arith, rest))
    ]

tally_none : (n : ℕ) → tally (λ h. false) n ≡ 0
tally_none zero = refl
tally_none (suc n) = omega (arith, tally_none n)

module _ (f : ℕ → ℕ) (v : ℕ) where
  -- of the numbers below n that reach v, one that none of them is below
  record Least (n : ℕ) : Type 0 where
    pub h : ℕ
    pub below : h < n
    pub reaches : v ≤ f h
    pub least : (g : ℕ) → g < n → v ≤ f g → f h ≤ f g

  least_more : (n : ℕ) → v ≤ f n → (x : Least n) → Least (suc n)
  least_more n here x = elim (cases_Bool (nat_le (f x.h) (f n))) [
    | inl not_below ↦ record { h = x.h; below = let b = x.below in omega (arith, b); reaches = x.reaches; least = λ g lt e. kept (leb-true (f x.h) (f n) not_below) g lt e }
    | inr lower ↦ record { h = n; below = omega arith; reaches = here; least = λ g lt e. new (leb-false (f x.h) (f n) lower) g lt e }
  ] where
    kept : f x.h ≤ f n → (g : ℕ) → g < suc n → v ≤ f g → f x.h ≤ f g
    kept le g lt e = elim (cases_Bool (eqb g n)) [
      | inl same ↦ omega (arith, le, ap f (eqb-true g n same))
      | inr other ↦ let differs = eqb-false g n other in x.least g (omega (arith, lt, differs)) e
    ]

    new : f n < f x.h → (g : ℕ) → g < suc n → v ≤ f g → f n ≤ f g
    new lt' g lt e = elim (cases_Bool (eqb g n)) [
      | inl same ↦ omega (arith, ap f (eqb-true g n same))
      | inr other ↦ let differs = eqb-false g n other in let le = x.least g (omega (arith, lt, differs)) e in omega (arith, le, lt')
    ]

  least_first : (n : ℕ) → v ≤ f n → ((g : ℕ) → g < n → v ≤ f g → ⊥) → Least (suc n)
  least_first n here none = record { h = n; below = omega arith; reaches = here; least = least } where
    least : (g : ℕ) → g < suc n → v ≤ f g → f n ≤ f g
    least g lt e = elim (cases_Bool (eqb g n)) [
      | inl same ↦ omega (arith, ap f (eqb-true g n same))
      | inr other ↦ let differs = eqb-false g n other in absurd (none g (omega (arith, lt, differs)) e)
    ]

  least_stays : (n : ℕ) → f n < v → Least n → Least (suc n)
  least_stays n low x = record { h = x.h; below = let b = x.below in omega (arith, b); reaches = x.reaches; least = least } where
    least : (g : ℕ) → g < suc n → v ≤ f g → f x.h ≤ f g
    least g lt e = elim (cases_Bool (eqb g n)) [
      | inl same ↦ absurd (omega (arith, low, e, ap f (eqb-true g n same)))
      | inr other ↦ let differs = eqb-false g n other in x.least g (omega (arith, lt, differs)) e
    ]

  none_more : (n : ℕ) → f n < v → ((g : ℕ) → g < n → v ≤ f g → ⊥) → (g : ℕ) → g < suc n → v ≤ f g → ⊥
  none_more n low none g lt e = elim (cases_Bool (eqb g n)) [
    | inl same ↦ omega (arith, low, e, ap f (eqb-true g n same))
    | inr other ↦ let differs = eqb-false g n other in none g (omega (arith, lt, differs)) e
  ]

  find_least : (n : ℕ) → ((g : ℕ) → g < n → v ≤ f g → ⊥) ⊎ Least n
  find_least zero = inl (λ g lt e. omega (arith, lt))
  find_least (suc n) = elim (cases_Bool (nat_le v (f n))) [
    | inl here ↦ elim (find_least n) [
      | inl none ↦ inr (least_first n (leb-true v (f n) here) none)
      | inr x ↦ inr (least_more n (leb-true v (f n) here) x)
    ]
    | inr low ↦ elim (find_least n) [
      | inl none ↦ inl (none_more n (leb-false v (f n) low) none)
      | inr x ↦ inr (least_stays n (leb-false v (f n) low) x)
    ]
  ]

module _ {S : Type 0} (self : Identity S) (d : History) where
  -- ---- what f+1 hosts wish for is reached by the greatest wish of f+1 hosts

  reaches_wish : (n h : ℕ) → h < n → is_wished self d (wish_of self d h) ≡ true → wish_of self d h ≤ quorum_wish self d n
  unfolding quorum_wish
  reaches_wish zero h lt e = absurd (omega (arith, lt))
  reaches_wish (suc n) h lt e = elim (cases_Bool (eqb h n)) [
    | inl same ↦
        let is : h ≡ n = eqb-true h n same in
        let there : is_wished self d (wish_of self d n) ≡ true = ap (λ (g : ℕ). is_wished self d (wish_of self d g)) (sym is) ∙ e in
        rw there (omega (arith, ap (wish_of self d) is))
    | inr other ↦ let differs = eqb-false h n other in let le = reaches_wish n h (omega (arith, lt, differs)) e in omega (arith, le)
  ]

  wished_reached : (v : ℕ) → IsWished self d v → v ≤ quorum_wish self d (host_count self.shape)
  wished_reached v many = elim (find_least (wish_of self d) v (host_count self.shape)) [
    | inl none ↦
        let few = tally_grows (λ h. nat_le v (wish_of self d h)) (λ h. false) (host_count self.shape) (λ g lt e. absurd (none g lt (leb-true _ _ e))) in
        absurd (omega (arith, many, few, tally_none (host_count self.shape)))
    | inr x ↦
        let w : ℕ = wish_of self d x.h in
        let more = tally_grows (λ h. nat_le v (wish_of self d h)) (λ h. nat_le w (wish_of self d h)) (host_count self.shape) (λ g lt e. le-leb _ _ (x.least g lt (leb-true _ _ e))) in
        let reach = reaches_wish (host_count self.shape) x.h x.below (le-leb _ _ (omega (arith, many, more))) in
        let over = x.reaches in
        omega (arith, reach, over)
  ]

  asked_for : (v : ℕ) → IsWished self d v ⊎ (IsAnnounced self d v ⊎ IsEvident self d v) → v ≤ target self d
  asked_for v (inl wished) = let le = wished_reached v wished in omega (arith, le)
  asked_for v (inr (inl (n, held, is))) = let at : new_view_number (new_view_of self d) ≡ v = ap new_view_number held ∙ is in omega (arith, at)
  asked_for v (inr (inr (e, held, is))) = let at : evidence_view (evidence_of self d) ≡ v = ap evidence_view held ∙ is in omega (arith, at)

  pub leaves_view : change_enabled self d ≡ None → LeavesView self d
  unfolding change_enabled
  leaves_view none v above room asked =
      let reached = asked_for v asked in
      let test : (nat_lt (view_of self d) (target self d) && has_other_room self d) ≡ true = rw (lt-ltb (view_of self d) (target self d) (omega (arith, above, reached)), other_room_is self d room) refl in
      not_left _ _ (ChangeView (target self d)) test refl none

  -- ---- the announcement, and its answer

  pub announces_view : announce_enabled self d ≡ None → AnnouncesView self d
  unfolding announce_enabled
  announces_view none leads changing room many =
      let test : (is_primary self d && (is_changing self d && has_other_room self d)) ≡ true = rw (leads, changing, other_room_is self d room) refl in
      let first : List ViewChange = by_rising_host self (take (quorum self.shape) (filter (λ c. c.view == view_of self d) (changes_of self d))) in
      not_left _ _ (Announce first) test (ap (option_map Announce) (chosen_all many)) none where
        chosen_all : quorum self.shape ≤ length (filter (λ c. c.view == view_of self d) (changes_of self d))
            → chosen self d (view_of self d) ≡ Some (by_rising_host self (take (quorum self.shape) (filter (λ c. c.view == view_of self d) (changes_of self d))))
        chosen_all many = rw (le-leb _ _ many) refl

  pub enters_view : enter_enabled self d ≡ None → EntersView self d
  unfolding enter_enabled
  enters_view none backs changing room (n, held, is) =
      let test : (not (is_primary self d) && (is_changing self d && has_other_room self d)) ≡ true = rw (backs, changing, other_room_is self d room) refl in
      let there : new_view_in_view (view_of self d) (new_view_of self d) ≡ Some n = ap (new_view_in_view (view_of self d)) held ∙ rw (eq-eqb n.view (view_of self d) is) refl in
      not_left _ _ (Enter n) test (ap (option_map Enter) there) none
