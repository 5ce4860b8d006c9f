-- What is drawn: who asks, is nudged, loses patience, is given which message, and what is stamped; and that cursors stay above 0.
use Rattle.std.proofs.Common.{◌≡◌, ℕ, zero, suc, ◌+◌, ◌%◌, ◌/◌, ◌<◌, ◌≤◌, ◌⊎◌, true, List, [], ◌∷◌, refl, ap, ◌∙◌, inl, inr, eqb, arith}
use Rattle.std.specs.Prelude.{nat_le, ◌==◌, slice_index_or, slice_set}
use Rattle.std.proofs.lemmas.Bool.{cases_Bool, eq-eqb, leb-true}
use Rattle.std.proofs.Math.Nat.{mod-lt}
use Rattle.mb_base.specs.Spelling.{number}
use Rattle.mb_parts.specs.Fits.{FitsText}
use Rattle.std.specs.Int.{w8, w16}
use Rattle.mb_schedule.specs.declared.schedule.WorldEvent.{WorldEvent}
use Rattle.mb_schedule.specs.declared.schedule.WorldEvent.TheVariants.{Give, Patience, Nudge, StampPrepare}
use Rattle.mb_make.specs.Draws.{Generator, Draw, drawn, seeded, stepped, choice, detail, put, ask, cursor, passed, skips, gives_next, chosen, draw}

-- An operation is short.
pub put_short : (key value : ℕ) → FitsText (put (number w8 key) (number w16 value))
unfolding number
put_short key value = omega arith

-- ---- cursors

pub record HasCursors (g : Generator) : Type 0 where
  pub first : ℕ
  pub second : ℕ
  pub is : g.cursors ≡ first ∷ second ∷ []
  pub first_some : 1 ≤ first
  pub second_some : 1 ≤ second

pub seeded_cursors : (seed : ℕ) → HasCursors (seeded seed)
seeded_cursors seed = record { first = 1; second = 1; is = refl; first_some = omega arith; second_some = omega arith }

one_of_two : (i : ℕ) → i < 2 → (i ≡ 0) ⊎ (i ≡ 1)
one_of_two zero lt = inl refl
one_of_two (suc zero) lt = inr refl
one_of_two (suc (suc i)) lt = absurd (omega (arith, lt))

cursor_some : (g : Generator) (i : ℕ) → HasCursors g → i < 2 → 1 ≤ cursor g i
cursor_some g i c lt = elim (one_of_two i lt) [
  | inl e ↦ let at : cursor g i ≡ c.first = ap (λ (l : List ℕ). slice_index_or l i 0) c.is ∙ ap (λ (j : ℕ). slice_index_or (c.first ∷ c.second ∷ []) j 0) e in let some = c.first_some in omega (arith, at, some)
  | inr e ↦ let at : cursor g i ≡ c.second = ap (λ (l : List ℕ). slice_index_or l i 0) c.is ∙ ap (λ (j : ℕ). slice_index_or (c.first ∷ c.second ∷ []) j 0) e in let some = c.second_some in omega (arith, at, some)
]

passed_cursors : (g : Generator) (i : ℕ) → HasCursors g → i < 2 → HasCursors (passed g i)
passed_cursors g i c lt =
    let moved : slice_set g.cursors i (cursor g i + 1) ≡ slice_set (c.first ∷ c.second ∷ []) i (slice_index_or (c.first ∷ c.second ∷ []) i 0 + 1) = ap (λ (l : List ℕ). slice_set l i (slice_index_or l i 0 + 1)) c.is in
    let some = c.first_some in
    let other = c.second_some in
    elim (one_of_two i lt) [
      | inl e ↦ record { first = c.first + 1; second = c.second; is = moved ∙ ap (λ (j : ℕ). slice_set (c.first ∷ c.second ∷ []) j (slice_index_or (c.first ∷ c.second ∷ []) j 0 + 1)) e; first_some = omega (arith, some); second_some = other }
      | inr e ↦ record { first = c.first; second = c.second + 1; is = moved ∙ ap (λ (j : ℕ). slice_set (c.first ∷ c.second ∷ []) j (slice_index_or (c.first ∷ c.second ∷ []) j 0 + 1)) e; first_some = some; second_some = omega (arith, other) }
    ]

-- ---- what a draw is

-- the message is there, where there is one at all
abbrev IsThere : ℕ → ℕ → Type 0
IsThere pool m = 1 ≤ pool → (1 ≤ m) × (m ≤ pool)

-- an ask, patience, a nudge, a message for a host, or a PREPARE of the first message
abbrev pub IsDrawn : ℕ → Generator → WorldEvent → Type 0
IsDrawn pool g e = (e ≡ ask g) ⊎ (((h : ℕ) × (h < 3) × (e ≡ Patience h)) ⊎ (((h : ℕ) × (h < 3) × (e ≡ Nudge h))
    ⊎ (((m : ℕ) × (h : ℕ) × IsThere pool m × (h < 3) × (e ≡ Give m h)) ⊎ ((p : ℕ) × (p < 8) × (e ≡ StampPrepare 2 0 (1 + p) (1 ∷ []))))))

pub record DrawsWell (pool : ℕ) (g : Generator) (d : Draw) : Type 0 where
  pub event : IsDrawn pool g d.event
  pub draws : d.left.draws ≡ g.draws
  pub cursors : HasCursors d.left

module _ (pool : ℕ) (g : Generator) (c : HasCursors g) where
  asks : DrawsWell pool g (drawn (ask g) g)
  asks = record { event = inl refl; draws = refl; cursors = c }

  skips_well : (i : ℕ) → i < 2 → DrawsWell pool g (skips pool g i)
  skips_well i lt = elim (cases_Bool (nat_le (cursor g i) pool)) [
    | inl there ↦ rw there (record { event = inl refl; draws = refl; cursors = passed_cursors g i c lt })
    | inr none ↦ rw none asks
  ]

  gives_well : (i : ℕ) → i < 2 → DrawsWell pool g (gives_next pool g i)
  gives_well i lt = elim (cases_Bool (nat_le (cursor g i) pool)) [
    | inl there ↦ rw there (record {
      event = inr (inr (inr (inl (cursor g i, i, (λ some. (cursor_some g i c lt, leb-true (cursor g i) pool there)), omega (arith, lt), refl))));
      draws = refl;
      cursors = passed_cursors g i c lt;
    })
    | inr none ↦ rw none asks
  ]

  old_there : (x : ℕ) → IsThere pool (1 + x % pool)
  old_there x some = let low = mod-lt x {m = pool} (omega (arith, some)) in (omega arith, omega (arith, low))

  chosen_well : (k x : ℕ) → DrawsWell pool g (chosen pool g k x)
  chosen_well k x = elim (cases_Bool (k == 0)) [
    | inl is ↦ rw is (record { event = inr (inl (x % 3, omega arith, refl)); draws = refl; cursors = c })
    | inr no0 ↦ rw no0 (elim (cases_Bool (nat_le k 2)) [
      | inl is ↦ rw is (record { event = inr (inr (inl (x % 3, omega arith, refl))); draws = refl; cursors = c })
      | inr no2 ↦ rw no2 (elim (cases_Bool (k == 3)) [
        | inl is ↦ rw is (record { event = inr (inr (inr (inl (1 + x % pool, x / 64 % 2, old_there x, omega arith, refl)))); draws = refl; cursors = c })
        | inr no3 ↦ rw no3 (elim (cases_Bool (k == 4)) [
          | inl is ↦ rw is (skips_well (x % 2) (omega arith))
          | inr no4 ↦ rw no4 (elim (cases_Bool (k == 5)) [
            | inl is ↦ rw is (record { event = inr (inr (inr (inr (x % 8, omega arith, refl)))); draws = refl; cursors = c })
            | inr no5 ↦ rw no5 (elim (cases_Bool (nat_le k 13)) [
              | inl is ↦ rw is asks
              | inr no13 ↦ rw no13 (gives_well (x % 2) (omega arith))
            ])
          ])
        ])
      ])
    ])
  ]

stepped_cursors : (g : Generator) → HasCursors g → HasCursors (stepped g)
stepped_cursors g c = record { first = c.first; second = c.second; is = c.is; first_some = c.first_some; second_some = c.second_some }

-- So it is with each draw.
pub draw_well : (pool : ℕ) (g : Generator) → HasCursors g → DrawsWell pool (stepped g) (draw pool g)
unfolding draw
draw_well pool g c = elim (cases_Bool ((stepped g).draws == 1)) [
  | inl first ↦ rw first (asks pool (stepped g) (stepped_cursors g c))
  | inr later ↦ rw later (chosen_well pool (stepped g) (stepped_cursors g c) (choice (stepped g)) (detail (stepped g)))
]

-- The first draw is an ask.
pub first_asks : (pool : ℕ) (g : Generator) → g.draws ≡ 0 → (draw pool g).event ≡ ask (stepped g)
unfolding draw
first_asks pool g none = let one : eqb (g.draws + 1) 1 ≡ true = eq-eqb (g.draws + 1) 1 (omega (arith, none)) in rw one refl
