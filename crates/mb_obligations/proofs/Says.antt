-- The messages by which a host answers, asks and wishes are made of what it holds, and a host is never asked by itself.
use Rattle.std.proofs.Common.{◌≡◌, ℕ, zero, suc, ◌+◌, ◌*◌, ◌<◌, ◌≤◌, [], ◌∷◌, refl, sym, ap, ◌∙◌, inl, inr, arith, Option, Some}
use Rattle.std.specs.Prelude.{◌==◌, ◌%◌, map, unwrap_or, slice_get, option_map}
use Rattle.std.specs.List.{range_with_len}
use Rattle.std.proofs.lemmas.Bool.{cases_Bool, cases_lt, eqb-true, eqb-false, lt-ltb}
use Rattle.std.proofs.lemmas.Nat.{mod_below, mod-mul-add}
use Rattle.std.proofs.lemmas.List.{length-map}
use Rattle.std.proofs.lemmas.List.FromFn.{length-range_with_len}
use Rattle.std.proofs.lemmas.Option.{slice_get-map}
use Rattle.mb_base.specs.Shapes.{host_count}
use Rattle.mb_model.specs.Histories.{Entry, Accepted, Stamped, Jumped, Closed, Served, Executed, Installed, DroppedParts, LostPatience, Nudged, History, Identity}
use Rattle.mb_model.specs.Stable.{low_of}
use Rattle.mb_model.specs.Positions.{exec_of, is_behind}
use Rattle.mb_model.specs.Execution.{asked_host, next_host, missing}
use Rattle.mb_model.specs.Sending.{next_of}
use Rattle.mb_model.proofs.ShapesFit.{shape_fits}
use Rattle.mb_promise.specs.Says.{AsksFrom, AsksForState, IsOther, IsNextHost, SaysWhatItHolds}

-- ---- the numbers from one on

range_at : (a n i : ℕ) → i < n → slice_get (range_with_len a n) i ≡ Some (a + i)
range_at a zero i lt = absurd (omega (arith, lt))
range_at a (suc n) zero lt = ap (λ (x : ℕ). Some x) (omega arith)
range_at a (suc n) (suc i) lt = range_at (a + 1) n i (omega (arith, lt)) ∙ ap (λ (x : ℕ). Some x) (omega arith)

-- Each host stands at its number.
pub host_at : (n h : ℕ) → h < n → slice_get (range_with_len 0 n) h ≡ Some h
host_at n h lt = range_at 0 n h lt ∙ ap (λ (x : ℕ). Some x) (omega arith)

-- ---- numbers in a circle

small : (n x : ℕ) → x < n → x % n ≡ x
small n x lt = let same : x ≡ 0 * n + x = omega arith in ap (λ (y : ℕ). y % n) same ∙ mod-mul-add 0 n x lt

round : (n x y : ℕ) → x < n → y ≡ n + x → y % n ≡ x
round n x y lt is = let same : y ≡ 1 * n + x = omega (arith, is) in ap (λ (z : ℕ). z % n) same ∙ mod-mul-add 1 n x lt

-- The next one is another.
next_differs : (n h : ℕ) → 2 ≤ n → h < n → (h + 1) % n ≡ h → ⊥
next_differs n h many lt e = elim (cases_lt (h + 1) n) [
  | inl below ↦ let at = small n (h + 1) below in absurd (omega (arith, at, e))
  | inr above ↦ let is : h + 1 ≡ n + 0 = omega (arith, lt, above) in let at = round n 0 (h + 1) (omega (arith, many)) is in absurd (omega (arith, at, e, is, many))
]

-- So is the next but one from the next one.
after_next_differs : (n h : ℕ) → 2 ≤ n → h < n → (h + 2) % n ≡ (h + 1) % n → ⊥
after_next_differs n h many lt e = elim (cases_lt (h + 1) n) [
  | inl below ↦
      let at = small n (h + 1) below in
      let step : h + 2 ≡ h + 1 + 1 = omega arith in
      next_differs n (h + 1) many below (ap (λ (x : ℕ). x % n) (sym step) ∙ e ∙ at)
  | inr above ↦
      let first = round n 0 (h + 1) (omega (arith, many)) (omega (arith, lt, above)) in
      let second = round n 1 (h + 2) (omega (arith, many)) (omega (arith, lt, above)) in
      absurd (omega (arith, first, second, e))
]

module _ {S : Type 0} (self : Identity S) where
  -- ---- a RESEND and a FETCH

  asks_from : (d : History) → AsksFrom self d (record { host = self.host; low = low_of self d; nexts = map (next_of d) (range_with_len 0 (host_count self.shape)) })
  asks_from d = record {
    host = refl;
    low = refl;
    many = length-map (range_with_len 0 (host_count self.shape)) (next_of d) ∙ length-range_with_len 0 (host_count self.shape);
    nexts = λ h lt. slice_get-map (next_of d) (range_with_len 0 (host_count self.shape)) h ∙ ap (option_map (next_of d)) (host_at (host_count self.shape) h lt);
  }

  asks_for_state : (d : History) → AsksForState self d (record { host = self.host; of = asked_host self d; pos = low_of self d; first = unwrap_or (missing self d) 0 })
  asks_for_state d = record { host = refl; asked = refl; position = refl; first = λ i e. ap (λ (o : Option ℕ). unwrap_or o 0) e }

  -- ---- the host that is asked

  mod_low : (x : ℕ) → x % host_count self.shape < host_count self.shape
  mod_low x = mod_below x (host_count self.shape) (omega arith)

  two : 2 ≤ host_count self.shape
  two = let s = (shape_fits self.shape).faults.0 in omega (arith, s)

  module _ (there : self.host < host_count self.shape) where
    behind_it : IsOther self ((self.host + 1) % host_count self.shape)
    behind_it = record { there = mod_low (self.host + 1); other = next_differs (host_count self.shape) self.host two there }

    next_other : (h : ℕ) → IsOther self h → IsOther self (next_host self h)
    next_other h o = elim (cases_Bool ((h + 1) % host_count self.shape == self.host)) [
      | inl own ↦
          let is : (h + 1) % host_count self.shape ≡ self.host = eqb-true ((h + 1) % host_count self.shape) self.host own in
          rw own (record { there = mod_low (h + 2); other = λ e. after_next_differs (host_count self.shape) h two o.there (e ∙ sym is) })
      | inr other ↦ rw other (record { there = mod_low (h + 1); other = eqb-false ((h + 1) % host_count self.shape) self.host other })
    ]

    asks_others : (d : History) → IsOther self (asked_host self d)
    unfolding asked_host
    asks_others [] = behind_it
    asks_others (Nudged ∷ d) = elim (cases_Bool (is_behind self d)) [
      | inl behind ↦ rw behind (next_other (asked_host self d) (asks_others d))
      | inr not_so ↦ rw not_so (asks_others d)
    ]
    asks_others (Accepted m ∷ d) = asks_others d
    asks_others (Stamped m ∷ d) = asks_others d
    asks_others (Jumped h f ∷ d) = asks_others d
    asks_others (Closed h n ∷ d) = asks_others d
    asks_others (Served pos p ∷ d) = asks_others d
    asks_others (Executed slot ∷ d) = asks_others d
    asks_others (Installed pos parts ∷ d) = asks_others d
    asks_others (DroppedParts ∷ d) = asks_others d
    asks_others (LostPatience ∷ d) = asks_others d

  next_is : (h : ℕ) → IsNextHost self h (next_host self h)
  next_is h = elim (cases_Bool ((h + 1) % host_count self.shape == self.host)) [
    | inl own ↦ rw own (inr (eqb-true ((h + 1) % host_count self.shape) self.host own, refl))
    | inr other ↦ rw other (inl refl)
  ]

  asks_in_turn : (d : History) → exec_of d < low_of self d → IsNextHost self (asked_host self d) (asked_host self (Nudged ∷ d))
  unfolding asked_host
  asks_in_turn d lower = rw (lt-ltb (exec_of d) (low_of self d) lower) (next_is (asked_host self d))

  asked_stays : (e : Entry) (d : History) → (e ≡ Nudged → ⊥) → asked_host self (e ∷ d) ≡ asked_host self d
  unfolding asked_host
  asked_stays Nudged d not_so = absurd (not_so refl)
  asked_stays (Accepted m) d not_so = refl
  asked_stays (Stamped m) d not_so = refl
  asked_stays (Jumped h f) d not_so = refl
  asked_stays (Closed h n) d not_so = refl
  asked_stays (Served pos p) d not_so = refl
  asked_stays (Executed slot) d not_so = refl
  asked_stays (Installed pos parts) d not_so = refl
  asked_stays DroppedParts d not_so = refl
  asked_stays LostPatience d not_so = refl

  -- ---- all of it

  pub says_what_it_holds : SaysWhatItHolds self
  says_what_it_holds = record {
    wishes = λ view. (_, refl, record { host = refl; is = refl; tag = refl });
    replies = λ d c. (_, refl, record { host = refl; client = refl; number = refl; position = refl; result = refl; tag = refl });
    asks = λ d. (_, refl, asks_from d);
    fetches = λ d. (_, refl, asks_for_state d);
    others = λ d there. asks_others there d;
    turns = asks_in_turn;
    stays = asked_stays;
  }
