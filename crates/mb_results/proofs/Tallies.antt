-- Of replies of different hosts as many pass a test as there are hosts whose first reply passes it.
use Rattle.std.proofs.Common.{◌≡◌, ℕ, zero, suc, ◌+◌, ◌<◌, Bool, true, false, ◌||◌, cond, List, [], ◌∷◌, refl, sym, ap, ◌∙◌, inl, inr, arith, eqb, Option, Some, None}
use Rattle.std.specs.Prelude.{◌==◌, count_by, if◌then◌else◌}
use Rattle.std.specs.List.{AllByRecursion, list_any}
use Rattle.std.specs.Option.{option_or}
use Rattle.std.proofs.lemmas.Bool.{cases_Bool, or_cases, or_parts, eqb-true}
use Rattle.std.proofs.lemmas.List.Sums.{sum_by-cons}
use Rattle.mb_base.specs.Shapes.{tally}
use Rattle.mb_msg.specs.declared.normal.Reply.{Reply}
use Rattle.mb_model.proofs.Options.{option_cases, or_nothing}
use Rattle.mb_model.proofs.PlanLaws.{one_more}
use Rattle.mb_steps.proofs.StepPotential.{tally_same}
use Rattle.mb_results.specs.Accepts.{first_of}

abbrev one_if : Bool → ℕ
one_if b = cond b 1 0

-- They are of different hosts.
abbrev pub AreDistinct : List Reply → Type 0
AreDistinct [] = Unit {0}
AreDistinct (x ∷ l) = (first_of l x.host ≡ None) × AreDistinct l

pub tally_none : (p : ℕ → Bool) (n : ℕ) → ((h : ℕ) → p h ≡ false) → tally p n ≡ 0
tally_none p zero none = refl
tally_none p (suc n) none = rw (none n, tally_none p n none) refl

-- ---- the first reply of a host

pub none_said : (l : List Reply) (h : ℕ) → list_any (λ (x : Reply). x.host == h) l ≡ false → first_of l h ≡ None
unfolding first_of
none_said [] h e = refl
none_said (x ∷ l) h e = let p = or_parts (x.host == h) (list_any (λ (y : Reply). y.host == h) l) e in rw (none_said l h p.1, p.0) refl

pub some_said : (l : List Reply) (h : ℕ) → list_any (λ (x : Reply). x.host == h) l ≡ true → (y : Reply) × (first_of l h ≡ Some y)
unfolding first_of
some_said [] h e = absurd cc
some_said (x ∷ l) h e = elim (option_cases (first_of l h)) [
  | inr (y, there) ↦ (y, rw there refl)
  | inl none ↦ elim (or_cases (x.host == h) (list_any (λ (y : Reply). y.host == h) l) e) [
    | inl here ↦ (x, rw (none, here) refl)
    | inr before ↦ let y = some_said l h before in (y.0, rw y.1 refl)
  ]
]

-- one reply more
pub said_more : (l : List Reply) (r : Reply) (h : ℕ) (y : Reply) → first_of l h ≡ Some y → first_of (r ∷ l) h ≡ Some y
unfolding first_of
said_more l r h y there = rw there refl

pub said_new : (l : List Reply) (r : Reply) (h : ℕ) → first_of l h ≡ None → first_of (r ∷ l) h ≡ (if r.host == h then Some r else None)
unfolding first_of
said_new l r h none = rw none refl

pub said_other : (l : List Reply) (r : Reply) (h : ℕ) → (r.host == h) ≡ false → first_of (r ∷ l) h ≡ first_of l h
unfolding first_of
said_other l r h other = rw other (or_nothing (first_of l h))

pub said_same : (k l : List Reply) (r : Reply) (h : ℕ) → first_of k h ≡ first_of l h → first_of (r ∷ k) h ≡ first_of (r ∷ l) h
unfolding first_of
said_same k l r h same = ap (λ (o : Option Reply). option_or o (if r.host == h then Some r else None)) same

-- ---- as many

module _ (q : Option Reply → Bool) (none : q None ≡ false) where
  -- One reply more, of a host that had none, is one more where it passes.
  module _ (p : ℕ → Option Reply) (x : Reply) (new : p x.host ≡ None) where
    abbrev put : ℕ → Option Reply
    put h = option_or (p h) (if x.host == h then Some x else None)

    absent : (h : ℕ) → eqb x.host h ≡ true → p h ≡ None
    absent h same = ap p (sym (eqb-true x.host h same)) ∙ new

    here_too : q (Some x) ≡ true → (h : ℕ) → q (put h) ≡ ((x.host == h) || q (p h))
    here_too passes h = elim (cases_Bool (eqb x.host h)) [
      | inl same ↦ rw (same, absent h same) passes
      | inr other ↦ rw other (ap q (or_nothing (p h)))
    ]

    not_here : q (Some x) ≡ false → (h : ℕ) → q (put h) ≡ q (p h)
    not_here fails h = elim (cases_Bool (eqb x.host h)) [
      | inl same ↦ rw (same, absent h same) (fails ∙ sym none)
      | inr other ↦ rw other (ap q (or_nothing (p h)))
    ]

    one_put : (n : ℕ) → x.host < n → tally (λ h. q (put h)) n ≡ one_if (q (Some x)) + tally (λ h. q (p h)) n
    one_put n lt = elim (cases_Bool (q (Some x))) [
      | inl passes ↦
          let many = tally_same (λ h. q (put h)) (λ h. (x.host == h) || q (p h)) n (here_too passes) in
          let more = one_more (λ h. q (p h)) x.host n (ap q new ∙ none) lt in
          let one : one_if (q (Some x)) ≡ 1 = ap one_if passes in
          omega (arith, many, more, one)
      | inr fails ↦
          let many = tally_same (λ h. q (put h)) (λ h. q (p h)) n (not_here fails) in
          let zeroth : one_if (q (Some x)) ≡ 0 = ap one_if fails in
          omega (arith, many, zeroth)
    ]

  pub count_is_tally : (l : List Reply) (n : ℕ) → AreDistinct l → AllByRecursion (λ (x : Reply). x.host < n) l → count_by (λ (x : Reply). q (Some x)) l ≡ tally (λ h. q (first_of l h)) n
  unfolding first_of
  count_is_tally [] n d a = sym (tally_none (λ h. q None) n (λ h. none))
  count_is_tally (x ∷ l) n d a =
      let list = sum_by-cons (λ (y : Reply). one_if (q (Some y))) x l in
      let rest = count_is_tally l n d.1 a.1 in
      let more = one_put (first_of l) x d.0 n a.0 in
      omega (arith, list, rest, more)
