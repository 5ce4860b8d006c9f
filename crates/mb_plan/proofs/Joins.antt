-- Joining from the left is joining from the right: greater views, lower votes, and certificates of greater positions.
use Rattle.std.proofs.Common.{◌≡◌, ℕ, ◌≤◌, ◌<◌, true, false, List, [], ◌∷◌, max, Option, Some, None, refl, sym, ap, ◌∙◌, inl, inr, arith}
use Rattle.std.specs.Prelude.{nat_le, unwrap_or, if◌then◌else◌}
use Rattle.std.proofs.lemmas.Bool.{cases_lt, cases_Bool, lt-ltb, le-ltb, le-leb, lt-leb, ne_eqb, eq-eqb, leb-true, leb-false}
use Rattle.mb_parts.specs.declared.certificates.StableCert.{StableCert}
use Rattle.mb_model.specs.Plans.{ShownVote, greater, lower_vote, greatest_position, cert_at, no_base}
use Rattle.mb_plan.specs.Planned.{first_greatest, further}

pub greater_joins : (a b c : Option ℕ) → greater (greater a b) c ≡ greater a (greater b c)
greater_joins None b c = refl
greater_joins (Some a) None c = refl
greater_joins (Some a) (Some b) None = refl
greater_joins (Some a) (Some b) (Some c) = ap Some (three a b c) where
  three : (a b c : ℕ) → max (max a b) c ≡ max a (max b c)
  three a b c = omega arith

pub greater_none : (a : Option ℕ) → greater a None ≡ a
greater_none None = refl
greater_none (Some a) = refl

pub lower_none : (a : Option ShownVote) → lower_vote a None ≡ a
lower_none None = refl
lower_none (Some a) = refl

-- of two votes
abbrev lower : ShownVote → ShownVote → ShownVote
lower a b = if nat_le a.0 b.0 then a else b

lower_first : (a b : ShownVote) → nat_le a.0 b.0 ≡ true → lower a b ≡ a
lower_first a b first = rw first refl

lower_second : (a b : ShownVote) → nat_le a.0 b.0 ≡ false → lower a b ≡ b
lower_second a b second = rw second refl

lower_three : (a b c : ShownVote) → lower (lower a b) c ≡ lower a (lower b c)
lower_three a b c = elim (cases_Bool (nat_le a.0 b.0)) [
  | inl ab ↦ elim (cases_Bool (nat_le b.0 c.0)) [
    | inl bc ↦
        let ac : nat_le a.0 c.0 ≡ true = le-leb a.0 c.0 (omega (arith, leb-true _ _ ab, leb-true _ _ bc)) in
        ap (λ x. lower x c) (lower_first a b ab) ∙ lower_first a c ac ∙ sym (ap (lower a) (lower_first b c bc) ∙ lower_first a b ab)
    | inr bc ↦ ap (λ x. lower x c) (lower_first a b ab) ∙ sym (ap (lower a) (lower_second b c bc))
  ]
  | inr ab ↦ elim (cases_Bool (nat_le b.0 c.0)) [
    | inl bc ↦ ap (λ x. lower x c) (lower_second a b ab) ∙ lower_first b c bc ∙ sym (ap (lower a) (lower_first b c bc) ∙ lower_second a b ab)
    | inr bc ↦
        let ac : nat_le a.0 c.0 ≡ false = lt-leb a.0 c.0 (omega (arith, leb-false _ _ ab, leb-false _ _ bc)) in
        ap (λ x. lower x c) (lower_second a b ab) ∙ lower_second b c bc ∙ sym (ap (lower a) (lower_second b c bc) ∙ lower_second a c ac)
  ]
]

pub lower_joins : (a b c : Option ShownVote) → lower_vote (lower_vote a b) c ≡ lower_vote a (lower_vote b c)
lower_joins None b c = refl
lower_joins (Some a) None c = refl
lower_joins (Some a) (Some b) None = refl
lower_joins (Some a) (Some b) (Some c) = ap Some (lower_three a b c)

-- ---- certificates

further_second : (c d : StableCert) → c.pos < d.pos → further c d ≡ d
further_second c d lt = rw (lt-ltb c.pos d.pos lt) refl

further_first : (c d : StableCert) → d.pos ≤ c.pos → further c d ≡ c
further_first c d le = rw (le-ltb c.pos d.pos le) refl

skip : (c : StableCert) (cs : List StableCert) (m : ℕ) → c.pos < m → cert_at m (c ∷ cs) ≡ cert_at m cs
skip c cs m lt = rw (ne_eqb c.pos m (λ e. omega (arith, lt, e))) refl

here : (c : StableCert) (cs : List StableCert) (m : ℕ) → c.pos ≡ m → cert_at m (c ∷ cs) ≡ Some c
here c cs m is = rw (eq-eqb c.pos m is) refl

-- a smaller one behind
behind : (c d : StableCert) (cs : List StableCert) (m : ℕ) → d.pos ≤ c.pos → c.pos ≤ m → cert_at m (c ∷ d ∷ cs) ≡ cert_at m (c ∷ cs)
behind c d cs m ge le = elim (cases_lt c.pos m) [
  | inl lt ↦ skip c (d ∷ cs) m lt ∙ skip d cs m (omega (arith, ge, lt)) ∙ sym (skip c cs m lt)
  | inr top ↦ let is : c.pos ≡ m = omega (arith, top, le) in here c (d ∷ cs) m is ∙ sym (here c cs m is)
]

-- The first of the greatest of a list is that of the list with its first two joined.
pub joins_two : (c d : StableCert) (cs : List StableCert) → first_greatest (c ∷ d ∷ cs) ≡ first_greatest (further c d ∷ cs)
joins_two c d cs = elim (cases_lt c.pos d.pos) [
  | inl lt ↦
      let m : max c.pos (max d.pos (greatest_position cs)) ≡ max d.pos (greatest_position cs) = omega (arith, lt) in
      ap (λ n. unwrap_or (cert_at n (c ∷ d ∷ cs)) no_base) m
      ∙ ap (λ x. unwrap_or x no_base) (skip c (d ∷ cs) (max d.pos (greatest_position cs)) (omega (arith, lt)))
      ∙ sym (ap (λ x. first_greatest (x ∷ cs)) (further_second c d lt))
  | inr ge ↦
      let m : max c.pos (max d.pos (greatest_position cs)) ≡ max c.pos (greatest_position cs) = omega (arith, ge) in
      ap (λ n. unwrap_or (cert_at n (c ∷ d ∷ cs)) no_base) m
      ∙ ap (λ x. unwrap_or x no_base) (behind c d cs (max c.pos (greatest_position cs)) ge (omega arith))
      ∙ sym (ap (λ x. first_greatest (x ∷ cs)) (further_first c d ge))
]

pub twice : (c : StableCert) (cs : List StableCert) → first_greatest (c ∷ c ∷ cs) ≡ first_greatest (c ∷ cs)
twice c cs = joins_two c c cs ∙ ap (λ x. first_greatest (x ∷ cs)) (further_first c c (omega arith))

pub alone : (c : StableCert) → first_greatest (c ∷ []) ≡ c
alone c =
    let m : max c.pos 0 ≡ c.pos = omega arith in
    ap (λ n. unwrap_or (cert_at n (c ∷ [])) no_base) m ∙ ap (λ x. unwrap_or x no_base) (here c [] c.pos refl)
