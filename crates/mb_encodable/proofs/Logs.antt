-- What a host shows of its own log has the values of the grammar: stamps in the forms in which they are kept, as many as a VIEW_CHANGE or a LOG may have.
use Rattle.std.proofs.Common.{◌≡◌, ℕ, zero, suc, ◌+◌, ◌-◌, ◌≤◌, Bool, true, false, not, cond, List, [], ◌∷◌, length, take, reverse, refl, sym, ap, ◌∙◌, inl, inr, arith, Option, Some, None}
use Rattle.std.specs.Prelude.{nat_le, count_by}
use Rattle.std.specs.Option.{IfSome}
use Rattle.std.specs.List.{AllByRecursion}
use Rattle.std.proofs.lemmas.Bool.{cases_Bool}
use Rattle.std.proofs.lemmas.List.{length-map, length-reverse}
use Rattle.std.proofs.lemmas.List.Sums.{sum_by-cons}
use Rattle.mb_base.specs.Limits.{entry_bytes_limit, entry_limit}
use Rattle.mb_base.specs.declared.shape.Shape.{Shape}
use Rattle.mb_parts.specs.declared.certificates.FloorCert.{FloorCert}
use Rattle.mb_parts.specs.Fits.{FitsFloorCert}
use Rattle.mb_msg.specs.declared.stamped.Stamped.{Stamped as StampedMessage}
use Rattle.mb_msg.specs.Fits.{shown_limit, FitsShown, FitsChangeBody, FitsStamped}
use Rattle.mb_msg.specs.Spelling.{stamped_bytes}
use Rattle.mb_model.specs.Histories.{Stamped, History, Identity, counter_of, stamped as all_stamped}
use Rattle.mb_model.specs.OwnLog.{is_normal, kept_forms, as_shown, packed, first_packed, log_start, own_log, log_kept, proof_of, count_from, since}
use Rattle.mb_model.specs.Stable.{log_floor}
use Rattle.mb_host_laws.proofs.KeptForms.{mapped_keep, first_keep, opening_fits, change_fits, shown_fits}
use Rattle.mb_host_laws.proofs.Cases.{all_map, all_reverse, all_taken}
use Rattle.mb_host_laws.proofs.HeldFloors.{floor_good}
use Rattle.mb_host_laws.proofs.HeldStable.{stable_good}
use Rattle.mb_host_laws.specs.Rests.{Each}
use Rattle.mb_history_laws.proofs.OwnLog.{own_log_length, log_kept_length}
use Rattle.mb_encodable.specs.Fitting.{HasRoom, HasValues}
use Rattle.mb_encodable.proofs.Room.{same_weight}
use Rattle.mb_encodable.proofs.ReadKnown.{AnyClaim, AnyText, AllKnown}

-- Each is of one sort or the other.
both_sorts : {A : Type 0} (p : A → Bool) (l : List A) → count_by p l + count_by (λ x. not (p x)) l ≡ length l
both_sorts p [] = refl
both_sorts p (x ∷ l) = elim (cases_Bool (p x)) [
  | inl is ↦ omega (arith, same_weight (p x) true is, same_weight (not (p x)) false (ap not is), sum_by-cons (λ y. cond (p y) 1 0) x l, sum_by-cons (λ y. cond (not (p y)) 1 0) x l, both_sorts p l)
  | inr other ↦ omega (arith, same_weight (p x) false other, same_weight (not (p x)) true (ap not other), sum_by-cons (λ y. cond (p y) 1 0) x l, sum_by-cons (λ y. cond (not (p y)) 1 0) x l, both_sorts p l)
]

-- ---- as many as go into a LOG

module _ (s : Shape) where
  packed_few : (most used : ℕ) (l : List StampedMessage) → length (packed most used l) ≤ most
  unfolding packed
  packed_few zero used l = omega arith
  packed_few (suc most) used [] = omega arith
  packed_few (suc most) used (m ∷ l) = elim (cases_Bool (nat_le (used + length (stamped_bytes m)) entry_bytes_limit)) [
    | inl place ↦ rw place (let few = packed_few most (used + length (stamped_bytes m)) l in omega (arith, few))
    | inr none ↦ rw none (omega arith)
  ]

  first_fit : (l : List StampedMessage) → AllByRecursion (FitsStamped s) l → (length (first_packed l) ≤ entry_limit) × AllByRecursion (FitsStamped s) (first_packed l)
  first_fit [] a = (omega arith, tt)
  first_fit (m ∷ l) a = (let few = packed_few (entry_limit - 1) (length (stamped_bytes m)) l in omega (arith, few), first_keep (FitsStamped s) (m ∷ l) a)

-- ---- the own log

module _ {S : Type 0} (self : Identity S) where
  forms_fit : (d : History) → Each (HasValues self) d → AllByRecursion (FitsStamped self.shape) (kept_forms (all_stamped d))
  unfolding all_stamped kept_forms
  forms_fit [] a = tt
  forms_fit (Stamped m ∷ d) a = (a.0, mapped_keep (FitsStamped self.shape) (opening_fits self.shape) (change_fits self.shape) m (kept_forms (all_stamped d)) (forms_fit d a.1))
  forms_fit (x ∷ d) a = forms_fit d a.1

  pub log_kept_fits : (d : History) → Each (HasValues self) d → AllByRecursion (FitsStamped self.shape) (log_kept self d)
  log_kept_fits d a = all_taken (FitsStamped self.shape) (counter_of d - log_start self d) (kept_forms (all_stamped d)) (forms_fit d a)

  -- what a LOG shows of it
  pub since_fits : (d : History) → Each (HasValues self) d → (from : ℕ) → (length (since self d from) ≤ entry_limit) × AllByRecursion (FitsStamped self.shape) (since self d from)
  since_fits d a from =
      let l : List StampedMessage = take (count_from self d from) (log_kept self d) in
      first_fit self.shape (reverse l) (all_reverse (FitsStamped self.shape) l (all_taken (FitsStamped self.shape) (count_from self d from) (log_kept self d) (log_kept_fits d a)))

  shown_few : (d : History) → HasRoom self d → length (proof_of self d).entries ≤ shown_limit self.shape
  shown_few d r =
      let shown : length (proof_of self d).entries ≡ length (log_kept self d) = length-map (reverse (log_kept self d)) as_shown ∙ length-reverse (log_kept self d) in
      let kept : length (log_kept self d) ≡ length (own_log self d) = log_kept_length self d ∙ sym (own_log_length self d) in
      omega (arith, shown, kept, both_sorts is_normal (own_log self d), r.normal, r.others)

  floor_fits : (d : History) → AllKnown self d → IfSome (log_floor self d) (FitsFloorCert self.shape)
  floor_fits d k = go (log_floor self d) refl where
    go : (o : Option FloorCert) → log_floor self d ≡ o → IfSome o (FitsFloorCert self.shape)
    go None e = tt
    go (Some c) e = (floor_good self AnyClaim AnyText d k c e).fits

  -- what a VIEW_CHANGE shows of it
  pub proof_fits : (d : History) → AllKnown self d → Each (HasValues self) d → HasRoom self d → FitsChangeBody self.shape (proof_of self d)
  proof_fits d k a r = record {
    floor = floor_fits d k;
    stable = (stable_good self AnyClaim AnyText d k).fits;
    count = shown_few d r;
    entries = all_map (FitsStamped self.shape) (FitsShown self.shape) as_shown (shown_fits self.shape) (reverse (log_kept self d)) (all_reverse (FitsStamped self.shape) (log_kept self d) (log_kept_fits d a));
  }
