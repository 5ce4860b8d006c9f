-- Where votes stand in the whole ordered list of a host.
--
-- A vote is in an opened view, at most at that view's last position (`vote_placed`): a PREPARE or COMMIT is itself the last one when it comes,
-- and an OPEN is at the end of its plan. Views and their last positions only rise. So behind a VIEW_CHANGE no vote of a lower view is added
-- (`votes_before`), and no vote is above the greatest position (`last_below_top`).
use Rattle.std.proofs.Common.{◌≡◌, ℕ, ◌+◌, ◌-◌, ◌≤◌, ◌<◌, Bool, true, false, ◌&&◌, ◌||◌, not, List, [], ◌∷◌, ◌++◌, length, refl, sym, ap, subst, ◌∙◌, inl, inr, ◌⊎◌, arith, eqb, Option, Some, None}
use Rattle.std.specs.Prelude.{◌==◌, nat_lt, nat_le, if◌then◌else◌, slice_get, map}
use Rattle.std.specs.List.{list_any}
use Rattle.std.proofs.lemmas.Bool.{and_parts, or_parts, cases_Bool, eqb-true, eq-eqb, ne_eqb, ltb-true, leb-true, not-true, or_from, eqb-false}
use Rattle.std.proofs.lemmas.List.{length-map}
use Rattle.std.proofs.lemmas.Option.{slice_get_within}
use Rattle.mb_base.specs.declared.shape.Shape.{Shape}
use Rattle.mb_base.specs.Shapes.{Bytes, primary}
use Rattle.mb_parts.specs.declared.certificates.Evidence.{Evidence}
use Rattle.mb_parts.specs.Bares.{Bare, batch_digest}
use Rattle.mb_parts.specs.Bares as bare
use Rattle.mb_parts.specs.Ordered.{initial_floor, permits, is_ordered, current_view, is_opened, last_position, top_position, is_opening, end_of}
use Rattle.mb_parts.specs.Claims.{Claim}
use Rattle.mb_parts.specs.Certificates.{inner_valid, is_evidence}
use Rattle.mb_parts.proofs.OrderedLaws.{rising}
use Rattle.mb_parts.proofs.OrderedParts.{head, tail}
use Rattle.mb_model.specs.declared.known.Vote.{Vote}
use Rattle.mb_model.specs.Plans.{plan_of}
use Rattle.mb_model.specs.Committed.{Plans, PlanText, planned, vote_by, vote_in}
use Rattle.mb_agreement.specs.Agreement.{IsConsistentRecord}
use Rattle.mb_model.proofs.Options.{or_some, if_some, map_some}

-- a choice that is something is the part that was chosen
pub if_is : {A : Type 0} (b : Bool) (x z : A) → (if b then Some x else None) ≡ Some z → (b ≡ true) × (x ≡ z)
if_is true x z e = (refl, cc)
if_is false x z e = absurd cc

not_or : (a b : Bool) → (not a || b) ≡ true → a ≡ true → b ≡ true
not_or true b e t = e
not_or false b e t = absurd cc

if_same : (b : Bool) (n : ℕ) → (if b then n else n) ≡ n
if_same true n = refl
if_same false n = refl

if_view : (w v p n : ℕ) → ((w ≡ v) × ((if w == v then p else n) ≡ p)) ⊎ ((w ≡ v → ⊥) × ((if w == v then p else n) ≡ n))
if_view w v p n = elim (cases_Bool (eqb w v)) [
  | inl same ↦ inl (eqb-true w v same, rw same refl)
  | inr other ↦ inr (eqb-false w v other, rw other refl)
]

pub not_both : (b : Bool) → b ≡ true → b ≡ false → ⊥
not_both b x y = cc

-- ---- plans

planned_bound : (t : PlanText) (p : ℕ) (d : Bytes) → planned (Some t) p ≡ Some d → (t.base < p) × (p ≤ t.base + length t.digests)
planned_bound t p d e =
    let a = if_some (nat_lt t.base p) (slice_get t.digests (p - t.base - 1)) d e in
    let lt : t.base < p = ltb-true _ _ a.0 in
    let within = slice_get_within t.digests (p - t.base - 1) d a.1 in
    (lt, omega arith)

module _ (s : Shape) (secret : Bytes) (plans : Plans) (issued : Claim → Bool) (prefix : ℕ → List Bare) (facts : IsConsistentRecord s secret plans issued prefix) where
  -- the plan of an issued evidence
  pub record HasPlan (e : Evidence) : Type 0 where
    pub text : PlanText
    pub is : plans e.plan ≡ Some text
    pub base : text.base ≡ e.base
    pub end : text.base + length text.digests ≡ e.end

  pub has_plan : (e : Evidence) → is_evidence s issued e ≡ true → HasPlan e
  has_plan e ok =
      let b = facts.evidences e ok in
      record {
        text = record { base = (plan_of s b.0).base.pos; digests = map batch_digest (plan_of s b.0).batches };
        is = b.1.plan;
        base = sym b.1.base;
        end = ap (λ n. (plan_of s b.0).base.pos + n) (length-map (plan_of s b.0).batches batch_digest) ∙ sym b.1.end;
      }

  pub planned_within : (e : Evidence) (p : ℕ) (d : Bytes) → is_evidence s issued e ≡ true → planned (plans e.plan) p ≡ Some d → (e.base < p) × (p ≤ e.end)
  planned_within e p d ok h =
      let t = has_plan e ok in
      let b = planned_bound t.text p d (rw t.is at h) in
      (omega (arith, b.0, t.base), omega (arith, b.1, t.end))

  -- ---- the list of a host

  module _ (h : ℕ) where
    abbrev pub IsOrdered : List Bare → Type 0
    IsOrdered l = is_ordered initial_floor s h (inner_valid s issued) l ≡ true

    rest : (m : Bare) (l : List Bare) → IsOrdered (m ∷ l) → IsOrdered l
    rest m l o = tail initial_floor s h (inner_valid s issued) m l o

    allowed : (m : Bare) (l : List Bare) → IsOrdered (m ∷ l) → permits initial_floor s h (inner_valid s issued) l m ≡ true
    allowed m l o = head initial_floor s h (inner_valid s issued) m l o

    pub record IsPrepare (l : List Bare) (v p : ℕ) : Type 0 where
      pub view : v ≡ current_view initial_floor l
      pub opened : is_opened initial_floor l v ≡ true
      pub place : p ≡ last_position initial_floor l v + 1

    pub prepare_is : (v p : ℕ) (d : Bytes) (l : List Bare) → IsOrdered (bare.Prepare v p d ∷ l) → IsPrepare l v p × (h ≡ primary s v)
    unfolding permits
    prepare_is v p d l o =
        let a = and_parts (v == current_view initial_floor l) _ (allowed (bare.Prepare v p d) l o) in
        let b = and_parts (h == primary s v) _ a.1 in
        let c = and_parts (is_opened initial_floor l v) _ b.1 in
        (record { view = eqb-true _ _ a.0; opened = c.0; place = eqb-true _ _ c.1 }, eqb-true _ _ b.0)

    pub commit_is : (v p n : ℕ) (c d : Bytes) (l : List Bare) → IsOrdered (bare.Commit v p n c d ∷ l) → IsPrepare l v p × (inner_valid s issued (bare.Commit v p n c d) ≡ true)
    unfolding permits
    commit_is v p n x d l o =
        let a = and_parts (v == current_view initial_floor l) _ (allowed (bare.Commit v p n x d) l o) in
        let b = and_parts (not (h == primary s v)) _ a.1 in
        let c = and_parts (is_opened initial_floor l v) _ b.1 in
        let e = and_parts (p == last_position initial_floor l v + 1) _ c.1 in
        (record { view = eqb-true _ _ a.0; opened = c.0; place = eqb-true _ _ e.0 }, e.1)

    pub record IsOpen (l : List Bare) (e : Evidence) : Type 0 where
      pub view : e.view ≡ current_view initial_floor l
      pub unopened : is_opened initial_floor l e.view ≡ false
      pub evidence : is_evidence s issued e ≡ true

    pub open_is : (e : Evidence) (d : Bytes) (l : List Bare) → IsOrdered (bare.Open e d ∷ l) → IsOpen l e
    unfolding permits inner_valid
    open_is e d l o =
        let a = and_parts (e.view == current_view initial_floor l) _ (allowed (bare.Open e d) l o) in
        let b = and_parts (not (is_opened initial_floor l e.view)) _ a.1 in
        let c = and_parts (not (h == primary s e.view) || _) _ b.1 in
        record { view = eqb-true _ _ a.0; unopened = not-true _ b.0; evidence = c.1 }

    pub join_is : (v : ℕ) (e : Option Evidence) (c : _) (l : List Bare) → IsOrdered (bare.Join v e c ∷ l)
        → (v ≡ current_view initial_floor l) × (end_of e ≤ c.pos) × (is_opened initial_floor l v ≡ true → last_position initial_floor l v ≤ c.pos) × (inner_valid s issued (bare.Join v e c) ≡ true)
    unfolding permits
    join_is v e c l o =
        let a = and_parts (v == current_view initial_floor l) _ (allowed (bare.Join v e c) l o) in
        let b = and_parts (v == 0 || _ || _ || _) _ a.1 in
        let d = and_parts (nat_le (end_of e) c.pos) _ b.1 in
        let f = and_parts (not (is_opened initial_floor l v) || _) _ d.1 in
        (eqb-true _ _ a.0, leb-true _ _ d.0, λ opened. leb-true _ _ (not_or _ _ f.0 opened), f.1)

    -- where a view was not opened it has no position
    unopened_last : (l : List Bare) (v : ℕ) → IsOrdered l → is_opened initial_floor l v ≡ false → last_position initial_floor l v ≡ 0
    unfolding is_opened last_position
    unopened_last [] v o none = if_same (eqb 0 v) 0
    unopened_last (bare.Open e d ∷ l) v o none =
        let whole = or_parts (list_any (is_opening v) (bare.Open e d ∷ l)) (eqb 0 v && true) none in
        let u = or_parts (eqb e.view v) (list_any (is_opening v) l) whole.0 in
        rw u.0 (unopened_last l v (rest (bare.Open e d) l o) (or_from (list_any (is_opening v) l) (eqb 0 v && true) u.1 whole.1))
    unopened_last (bare.Join w e c ∷ l) v o none =
        let whole = or_parts (list_any (is_opening v) (bare.Join w e c ∷ l)) (eqb 0 v && true) none in
        let u = or_parts (eqb w v) (list_any (is_opening v) l) whole.0 in
        rw u.0 (unopened_last l v (rest (bare.Join w e c) l o) (or_from (list_any (is_opening v) l) (eqb 0 v && true) u.1 whole.1))
    unopened_last (bare.Prepare w p d ∷ l) v o none =
        let other : eqb w v ≡ false = ne_eqb w v (λ e. not_both _ (subst (λ x. is_opened initial_floor l x ≡ true) e (prepare_is w p d l o).0.opened) none) in
        rw other (unopened_last l v (rest (bare.Prepare w p d) l o) none)
    unopened_last (bare.Commit w p n c d ∷ l) v o none =
        let other : eqb w v ≡ false = ne_eqb w v (λ e. not_both _ (subst (λ x. is_opened initial_floor l x ≡ true) e (commit_is w p n c d l o).0.opened) none) in
        rw other (unopened_last l v (rest (bare.Commit w p n c d) l o) none)
    unopened_last (m ∷ l) v o none = unopened_last l v (rest m l o) none

    pub change_is : (v : ℕ) (d : Bytes) (l : List Bare) → IsOrdered (bare.ViewChange v d ∷ l) → current_view initial_floor l < v
    unfolding permits
    change_is v d l o = ltb-true _ _ (sym (rising initial_floor s h (inner_valid s issued) l v (rest (bare.ViewChange v d) l o)) ∙ allowed (bare.ViewChange v d) l o)

    -- views rise
    pub view_grows : (m : Bare) (l : List Bare) → IsOrdered (m ∷ l) → current_view initial_floor l ≤ current_view initial_floor (m ∷ l)
    unfolding current_view
    view_grows (bare.ViewChange v d) l o = let lt = change_is v d l o in omega arith
    view_grows m l o = omega arith

    -- the last position of a view rises
    pub last_grows : (m : Bare) (l : List Bare) (v : ℕ) → IsOrdered (m ∷ l) → last_position initial_floor l v ≤ last_position initial_floor (m ∷ l) v
    unfolding last_position
    last_grows (bare.Prepare w p d) l v o =
        let i = (prepare_is w p d l o).0 in
        elim (if_view w v p (last_position initial_floor l v)) [
          | inl (same, is) ↦ let place : p ≡ last_position initial_floor l v + 1 = rw same at i.place in rw is (omega arith)
          | inr (other, is) ↦ rw is (omega arith)
        ]
    last_grows (bare.Commit w p n c d) l v o =
        let i = (commit_is w p n c d l o).0 in
        elim (if_view w v p (last_position initial_floor l v)) [
          | inl (same, is) ↦ let place : p ≡ last_position initial_floor l v + 1 = rw same at i.place in rw is (omega arith)
          | inr (other, is) ↦ rw is (omega arith)
        ]
    last_grows (bare.Open e d) l v o =
        let i = open_is e d l o in
        elim (if_view e.view v e.end (last_position initial_floor l v)) [
          | inl (same, is) ↦
              let none : last_position initial_floor l v ≡ 0 = unopened_last l v (rest (bare.Open e d) l o) (rw same at i.unopened) in
              rw (is, none) (omega arith)
          | inr (other, is) ↦ rw is (omega arith)
        ]
    last_grows (bare.Join w e c) l v o =
        let i = join_is w e c l o in
        elim (if_view w v c.pos (last_position initial_floor l v)) [
          | inl (same, is) ↦ rw is (join_last w v c.pos l same (rest (bare.Join w e c) l o) i.2)
          | inr (other, is) ↦ rw is (omega arith)
        ] where
          join_last : (w v pos : ℕ) (l : List Bare) → w ≡ v → IsOrdered l → (is_opened initial_floor l w ≡ true → last_position initial_floor l w ≤ pos) → last_position initial_floor l v ≤ pos
          join_last w v pos l same o up = elim (cases_Bool (is_opened initial_floor l w)) [
            | inl opened ↦ rw same at (up opened)
            | inr unopened ↦ let none : last_position initial_floor l v ≡ 0 = unopened_last l v o (rw same at unopened) in rw none (omega arith)
          ]
    last_grows m l v o = omega arith

    -- ---- votes

    -- a vote stands in an opened view, at most at its last position
    pub record IsPlaced (l : List Bare) (v p : ℕ) : Type 0 where
      pub low : p ≤ last_position initial_floor l v
      pub opened : is_opened initial_floor l v ≡ true
      pub view : v ≤ current_view initial_floor l

    placed_vote : (l : List Bare) (m : Bare) (w q v p : ℕ) → w ≡ v → q ≡ p → IsPrepare l w q
        → last_position initial_floor (m ∷ l) w ≡ q → is_opened initial_floor (m ∷ l) w ≡ is_opened initial_floor l w → current_view initial_floor (m ∷ l) ≡ current_view initial_floor l → IsPlaced (m ∷ l) v p
    placed_vote l m w q v p same_view same_place i last opened view =
        subst (λ (x : ℕ). IsPlaced (m ∷ l) x p) same_view (subst (λ (x : ℕ). IsPlaced (m ∷ l) w x) same_place
        (record { low = rw last (omega arith); opened = opened ∙ i.opened; view = rw view (omega (arith, i.view)) }))

    vote_head : (n : ℕ) (m : Bare) (l : List Bare) (v p : ℕ) (x : Vote) → vote_by plans n m v p ≡ Some x → IsOrdered (m ∷ l) → IsPlaced (m ∷ l) v p
    unfolding vote_by last_position is_opened current_view
    vote_head n (bare.Prepare w q d) l v p x e o =
        let a = and_parts (w == v) (q == p) (if_is _ _ _ e).0 in
        placed_vote l (bare.Prepare w q d) w q v p (eqb-true _ _ a.0) (eqb-true _ _ a.1) (prepare_is w q d l o).0 (rw (eq-eqb w w refl) refl) refl refl
    vote_head n (bare.Commit w q c f d) l v p x e o =
        let a = and_parts (w == v) (q == p) (if_is _ _ _ e).0 in
        placed_vote l (bare.Commit w q c f d) w q v p (eqb-true _ _ a.0) (eqb-true _ _ a.1) (commit_is w q c f d l o).0 (rw (eq-eqb w w refl) refl) refl refl
    vote_head n (bare.Open f d) l v p x e o =
        let i = open_is f d l o in
        let a = if_some (f.view == v) _ x e in
        let b = map_some _ _ x a.1 in
        let within = planned_within f p b.0 i.evidence b.1 in
        record { low = rw a.0 within.1; opened = rw a.0 refl; view = omega (arith, i.view, eqb-true f.view v a.0) }
    vote_head n (bare.Join w f c) l v p x e o = absurd cc
    vote_head n (bare.ViewChange w d) l v p x e o = absurd cc
    vote_head n (bare.NewView w b f q d) l v p x e o = absurd cc
    vote_head n (bare.Enter w c q) l v p x e o = absurd cc
    vote_head n (bare.Checkpoint q t d) l v p x e o = absurd cc

    pub opened_grows : (m : Bare) (l : List Bare) (v : ℕ) → is_opened initial_floor l v ≡ true → is_opened initial_floor (m ∷ l) v ≡ true
    unfolding is_opened
    opened_grows m l v e = grow (is_opening v m) (list_any (is_opening v) l) (eqb 0 v && true) e where
      grow : (a b c : Bool) → (b || c) ≡ true → ((a || b) || c) ≡ true
      grow true b c e = refl
      grow false b c e = e

    pub vote_placed : (l : List Bare) (v p : ℕ) (x : Vote) → vote_in plans l v p ≡ Some x → IsOrdered l → IsPlaced l v p
    unfolding vote_in
    vote_placed [] v p x e o = absurd cc
    vote_placed (m ∷ l) v p x e o = elim (or_some (vote_by plans (length l + 1) m v p) (vote_in plans l v p) x e) [
      | inl here ↦ vote_head (length l + 1) m l v p x here o
      | inr before ↦
          let i = vote_placed l v p x before (rest m l o) in
          let last = last_grows m l v o in
          let view = view_grows m l o in
          record { low = omega (arith, i.low); opened = opened_grows m l v i.opened; view = omega (arith, i.view) }
    ]

    -- the greatest position is at least that of each view
    pub last_below_top : (l : List Bare) (v : ℕ) → last_position initial_floor l v ≤ top_position initial_floor l
    unfolding last_position top_position
    last_below_top [] v = rw (if_same (eqb 0 v) 0) (omega arith)
    last_below_top (bare.Prepare w p d ∷ l) v = elim (if_view w v p (last_position initial_floor l v)) [ inl (same, is) ↦ rw is (omega arith) | inr (other, is) ↦ rw is (omega (arith, last_below_top l v)) ]
    last_below_top (bare.Commit w p n c d ∷ l) v = elim (if_view w v p (last_position initial_floor l v)) [ inl (same, is) ↦ rw is (omega arith) | inr (other, is) ↦ rw is (omega (arith, last_below_top l v)) ]
    last_below_top (bare.Open e d ∷ l) v = elim (if_view e.view v e.end (last_position initial_floor l v)) [ inl (same, is) ↦ rw is (omega arith) | inr (other, is) ↦ rw is (omega (arith, last_below_top l v)) ]
    last_below_top (bare.Join w e c ∷ l) v = elim (if_view w v c.pos (last_position initial_floor l v)) [ inl (same, is) ↦ rw is (omega arith) | inr (other, is) ↦ rw is (omega (arith, last_below_top l v)) ]
    last_below_top (m ∷ l) v = last_below_top l v

    -- behind a VIEW_CHANGE no vote of a lower view is added
    view_after : (later : List Bare) (w : ℕ) (d : Bytes) (l : List Bare) → IsOrdered (later ++ bare.ViewChange w d ∷ l) → w ≤ current_view initial_floor (later ++ bare.ViewChange w d ∷ l)
    unfolding current_view
    view_after [] w d l o = omega arith
    view_after (m ∷ later) w d l o =
        let up = view_grows m (later ++ bare.ViewChange w d ∷ l) o in
        let before = view_after later w d l (rest m (later ++ bare.ViewChange w d ∷ l) o) in
        omega arith

    no_vote : (n : ℕ) (m : Bare) (l : List Bare) (v p w : ℕ) → IsOrdered (m ∷ l) → v < w → w ≤ current_view initial_floor l → vote_by plans n m v p ≡ None
    unfolding vote_by
    no_vote n (bare.Prepare u q d) l v p w o lt le =
        let i = (prepare_is u q d l o).0 in rw (ne_eqb u v (λ e. omega (arith, i.view))) refl
    no_vote n (bare.Commit u q c f d) l v p w o lt le =
        let i = (commit_is u q c f d l o).0 in rw (ne_eqb u v (λ e. omega (arith, i.view))) refl
    no_vote n (bare.Open f d) l v p w o lt le =
        let i = open_is f d l o in rw (ne_eqb f.view v (λ e. omega (arith, i.view))) refl
    no_vote n (bare.Join u f c) l v p w o lt le = refl
    no_vote n (bare.ViewChange u d) l v p w o lt le = refl
    no_vote n (bare.NewView u b f q d) l v p w o lt le = refl
    no_vote n (bare.Enter u c q) l v p w o lt le = refl
    no_vote n (bare.Checkpoint q t d) l v p w o lt le = refl

    pub votes_before : (later : List Bare) (w : ℕ) (d : Bytes) (l : List Bare) (v p : ℕ) → IsOrdered (later ++ bare.ViewChange w d ∷ l) → v < w
        → vote_in plans (later ++ bare.ViewChange w d ∷ l) v p ≡ vote_in plans l v p
    unfolding vote_in vote_by
    votes_before [] w d l v p o lt = refl
    votes_before (m ∷ later) w d l v p o lt =
        let back = rest m (later ++ bare.ViewChange w d ∷ l) o in
        rw (no_vote (length (later ++ bare.ViewChange w d ∷ l) + 1) m (later ++ bare.ViewChange w d ∷ l) v p w o lt (view_after later w d l back)) (votes_before later w d l v p back lt)
