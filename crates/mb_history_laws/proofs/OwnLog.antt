-- The own log behind a stamp and behind a cut.
use Rattle.std.proofs.Common.{◌≡◌, ℕ, suc, ◌+◌, ◌-◌, ◌≤◌, false, ◌&&◌, List, [], ◌∷◌, length, map, max, take, refl, sym, ap, ◌∙◌, inl, inr, arith, take-take, Option, Some, None}
use Rattle.std.specs.Prelude.{nat_lt, nat_le}
use Rattle.std.proofs.lemmas.Bool.{cases_Bool, and_parts, ltb-true}
use Rattle.std.proofs.lemmas.List.{take-map, length-map, length-take-le}
use Rattle.mb_parts.specs.declared.certificates.FloorCert.{FloorCert}
use Rattle.mb_msg.specs.declared.stamped.Stamped.{Stamped as StampedMessage}
use Rattle.mb_model.specs.Histories.{Entry, Stamped, History, Identity, stamped as all_stamped, counter_of}
use Rattle.mb_model.specs.Stable.{low_of, checkpoint_in, is_kept, floor_counter, floor_from, cut_by, log_floor}
use Rattle.mb_model.specs.OwnLog.{behind, kept_forms, own_log, log_kept, log_start, log_longest}
use Rattle.mb_steps.proofs.StepPotential.{start_bounded}
use Rattle.mb_history_laws.specs.Speaks.{is_stamp}
use Rattle.mb_history_laws.proofs.Framing.{stamped_stay}

pub stamped_more : (m : StampedMessage) (d : History) → all_stamped (Stamped m ∷ d) ≡ m ∷ all_stamped d
unfolding all_stamped
stamped_more m d = refl

pub counter_more : (m : StampedMessage) (d : History) → counter_of (Stamped m ∷ d) ≡ counter_of d + 1
counter_more m d = omega (arith, ap length (stamped_more m d))

-- A stamp puts those before it into the form that they have behind it.
pub kept_more : (m : StampedMessage) (l : List StampedMessage) → kept_forms (m ∷ l) ≡ m ∷ map (behind m) (kept_forms l)
unfolding kept_forms
kept_more m l = refl

pub kept_length : (l : List StampedMessage) → length (kept_forms l) ≡ length l
unfolding kept_forms
kept_length [] = refl
kept_length (m ∷ l) = omega (arith, length-map (kept_forms l) (behind m), kept_length l)

module _ {S : Type 0} (self : Identity S) where
  -- as many messages as there are from the floor to the counter
  pub own_log_length : (d : History) → length (own_log self d) ≡ counter_of d - log_start self d
  own_log_length d = length-take-le (counter_of d - log_start self d) (all_stamped d) (omega arith)

  pub log_kept_length : (d : History) → length (log_kept self d) ≡ counter_of d - log_start self d
  log_kept_length d = length-take-le (counter_of d - log_start self d) (kept_forms (all_stamped d)) (omega (arith, kept_length (all_stamped d)))

  pub longest_more : (m : StampedMessage) (d : History) → log_longest self (Stamped m ∷ d) ≡ max (log_longest self d) (length (own_log self d) + 1)
  unfolding log_longest
  longest_more m d = refl

  pub log_kept_more : (m : StampedMessage) (d : History) → log_floor self (Stamped m ∷ d) ≡ log_floor self d → log_kept self (Stamped m ∷ d) ≡ m ∷ map (behind m) (log_kept self d)
  log_kept_more m d same =
      let count : counter_of (Stamped m ∷ d) - log_start self d ≡ suc (counter_of d - log_start self d) = omega (arith, counter_more m d, start_bounded self d) in
      ap (λ f. take (counter_of (Stamped m ∷ d) - floor_counter self f) (kept_forms (all_stamped (Stamped m ∷ d)))) same
      ∙ ap (λ n. take n (kept_forms (all_stamped (Stamped m ∷ d)))) count
      ∙ ap (λ l. take (suc (counter_of d - log_start self d)) l) (ap kept_forms (stamped_more m d) ∙ kept_more m (all_stamped d))
      ∙ ap (λ l. m ∷ l) (take-map (behind m) (counter_of d - log_start self d) (kept_forms (all_stamped d)))

  -- behind a stamp that also cuts it
  pub log_kept_behind : (m : StampedMessage) (d : History) → log_start self d ≤ log_start self (Stamped m ∷ d)
      → log_kept self (Stamped m ∷ d) ≡ take (counter_of d + 1 - log_start self (Stamped m ∷ d)) (m ∷ map (behind m) (log_kept self d))
  log_kept_behind m d up =
      let now : ℕ = log_start self (Stamped m ∷ d) in
      let before : ℕ = counter_of d - log_start self d in
      let all : List StampedMessage = kept_forms (all_stamped d) in
      ap (λ l. take (length l - now) (kept_forms l)) (stamped_more m d)
      ∙ ap (λ n. take (n - now) (kept_forms (m ∷ all_stamped d))) (let e : suc (counter_of d) ≡ counter_of d + 1 = omega arith in e)
      ∙ ap (λ l. take (counter_of d + 1 - now) l) (kept_more m (all_stamped d))
      ∙ sym (take-take (counter_of d + 1 - now) (suc before) (m ∷ map (behind m) all) (omega (arith, up, start_bounded self d)))
      ∙ ap (λ l. take (counter_of d + 1 - now) (m ∷ l)) (take-map (behind m) before all)

  -- A cut drops the oldest.
  pub log_kept_cut : (e : Entry) (d : History) → is_stamp e ≡ false → log_start self d ≤ log_start self (e ∷ d) → log_kept self (e ∷ d) ≡ take (counter_of d - log_start self (e ∷ d)) (log_kept self d)
  log_kept_cut e d s up =
      ap (λ l. take (length l - log_start self (e ∷ d)) (kept_forms l)) (stamped_stay e d s)
      ∙ sym (take-take (counter_of d - log_start self (e ∷ d)) (counter_of d - log_start self d) (kept_forms (all_stamped d)) (omega (arith, up)))

  -- The floor goes forward alone.
  cut_rises : (n : ℕ) (old new : Option FloorCert) → floor_counter self old ≤ floor_counter self (cut_by self n old new)
  cut_rises n old None = omega arith
  cut_rises n old (Some c) = elim (cases_Bool (nat_lt (floor_counter self old) (floor_counter self (Some c)) && nat_le (floor_counter self (Some c)) n)) [
    | inl does ↦ rw does (let lt = ltb-true (floor_counter self old) (floor_counter self (Some c)) (and_parts (nat_lt (floor_counter self old) (floor_counter self (Some c))) (nat_le (floor_counter self (Some c)) n) does).0 in omega (arith, lt))
    | inr not_so ↦ rw not_so (omega arith)
  ]

  pub start_rises : (e : Entry) (d : History) → log_start self d ≤ log_start self (e ∷ d)
  unfolding log_floor
  start_rises e d = elim (cases_Bool (is_kept (low_of self d) (checkpoint_in e))) [
    | inl does ↦ rw does (cut_rises (counter_of (e ∷ d)) (log_floor self d) (floor_from self.shape (e ∷ d) self.host (low_of self (e ∷ d))))
    | inr not_so ↦ rw not_so (omega arith)
  ]
