-- What the search in one shown log finds are the votes of its host.
--
-- The list of the host is what its floor hides and, behind that, what the log shows. What is found for a position is the host's vote for it in
-- the opened view (`found_is_vote`), and something is found for each position from where the run of votes begins up to the view's last position
-- (`finds_vote`): votes since the last opening are whole, and each is at the position after the one before. Nothing found is more than 2K above
-- the stable position (`found_low`).
use Rattle.std.proofs.Common.{◌≡◌, ℕ, ◌+◌, ◌-◌, ◌≤◌, ◌<◌, Bool, true, false, ◌&&◌, List, [], ◌∷◌, ◌++◌, length, refl, ap, subst, ◌∙◌, inl, inr, ◌⊎◌, arith, eqb, Option, Some, None, length-append}
use Rattle.std.specs.Prelude.{◌==◌, nat_lt, option_map, if◌then◌else◌}
use Rattle.std.specs.Option.{option_or}
use Rattle.std.specs.List.{AllByRecursion}
use Rattle.std.proofs.lemmas.Bool.{and_parts, cases_Bool, eqb-true, eqb-false, eq-eqb, ltb-true, lt-ltb, and_right, cases_lt}
use Rattle.std.proofs.lemmas.Option.{same_Some, slice_get_within, slice_get-map, slice_get_cases}
use Rattle.mb_base.specs.declared.shape.Shape.{Shape}
use Rattle.mb_base.specs.Shapes.{Bytes, span}
use Rattle.mb_parts.specs.declared.batch.Batch.{Batch}
use Rattle.mb_parts.specs.Bares.{Bare, batch_digest}
use Rattle.mb_parts.specs.Ordered.{initial_floor, is_ordered, floor_after, current_view, is_opened, last_position, phase_from, phase_is_open}
use Rattle.mb_parts.specs.Spelling.{batch_bytes}
use Rattle.mb_parts.specs.Claims.{Claim}
use Rattle.mb_parts.specs.Certificates.{is_stable, inner_valid}
use Rattle.mb_parts.proofs.Advance.{none_opened}
use Rattle.mb_parts.proofs.OrderedParts.{tail}
use Rattle.mb_msg.specs.declared.message.Body.{Body}
use Rattle.mb_msg.specs.declared.message.Body.TheVariants.{Whole, Bare as Short}
use Rattle.mb_msg.specs.declared.change.OpenBody.{OpenBody}
use Rattle.mb_msg.specs.declared.stamped.Shown.{Shown}
use Rattle.mb_msg.specs.declared.stamped.Shown.TheVariants as shown
use Rattle.mb_msg.specs.Stamps.{bare_of_shown, ui_of_shown}
use Rattle.mb_msg.specs.Bodies.{body_digest}
use Rattle.mb_model.specs.declared.known.Vote.{Vote}
use Rattle.mb_model.specs.UsableLogs.{bares, is_plan_body, is_comparable_body, is_sound_plan, is_whole}
use Rattle.mb_model.specs.Plans.{opened_from, view_if_open, vote_since, vote_with, plan_vote, ShownVote}
use Rattle.mb_model.specs.Committed.{Plans, planned, vote_by, vote_in}
use Rattle.mb_agreement.specs.Agreement.{IsConsistentRecord, IsKnownPlan, IsKnownBody}
use Rattle.mb_model.proofs.UsableLaws.{AreSound, HaveBodies}
use Rattle.mb_agreement.proofs.ShownPrefixes.{length_bares}
use Rattle.mb_model.proofs.Options.{if_some, map_some}
use Rattle.mb_agreement.proofs.WholeLists.{not_both, prepare_is, commit_is, open_is, join_is, change_is, IsPrepare}

-- the position behind which the votes that count begin; `hidden` is what the log's floor hides
abbrev pub run_start : List Bare → List Shown → ℕ
run_start hidden [] = (floor_after initial_floor hidden).last
run_start hidden (shown.Open m ∷ l) = m.evidence.base
run_start hidden (shown.Join m ∷ l) = m.stable.pos
run_start hidden (_ ∷ l) = run_start hidden l

pub plan_vote_counter : (base c q : ℕ) (b : Body OpenBody) (y : ShownVote) → plan_vote base c q b ≡ Some y → c ≡ y.0
plan_vote_counter base c q (Short d) y e = absurd cc
plan_vote_counter base c q (Whole w) y e = let a = if_some (nat_lt base q) _ y e in let b = map_some _ _ y a.1 in cc

pub if_open_is : (b : Bool) (v u : ℕ) → (if b then Some v else None) ≡ Some u → v ≡ u
if_open_is true v u e = cc
if_open_is false v u e = absurd cc

pub found_or : (a q : ℕ) (x y : Option ShownVote) (v : ShownVote) → ((eqb a q ≡ true) × (x ≡ Some v)) ⊎ ((eqb a q ≡ false) × (y ≡ Some v)) → (if a == q then x else y) ≡ Some v
found_or a q x y v (inl (t, e)) = rw t e
found_or a q x y v (inr (f, e)) = rw f e

module _ (s : Shape) (secret : Bytes) (plans : Plans) (issued : Claim → Bool) (prefix : ℕ → List Bare) (facts : IsConsistentRecord s secret plans issued prefix)
    (host stable : ℕ) (hidden : List Bare) where
  -- what the host stamped up to these entries
  abbrev whole_list : List Shown → List Bare
  whole_list l = bares l ++ hidden

  abbrev IsOrdered : List Shown → Type 0
  IsOrdered l = is_ordered initial_floor s host (inner_valid s issued) (whole_list l) ≡ true

  rest : (e : Shown) (l : List Shown) → IsOrdered (e ∷ l) → IsOrdered l
  rest e l o = tail initial_floor s host (inner_valid s issued) (bare_of_shown e) (whole_list l) o

  -- the view that is open at the log's floor
  abbrev at_floor : Option ℕ
  at_floor = view_if_open (Some (floor_after initial_floor hidden))

  open_floor : (b : Bool) (e : Bool) (v : ℕ) → b ≡ true → (if phase_is_open (phase_from b e) then Some v else None) ≡ Some v
  open_floor b e v h = rw h refl

  -- where the present view was opened, it is the view that the search finds
  pub finds_view : (l : List Shown) → IsOrdered l → is_opened initial_floor (whole_list l) (current_view initial_floor (whole_list l)) ≡ true
      → opened_from at_floor l ≡ Some (current_view initial_floor (whole_list l))
  unfolding current_view is_opened
  finds_view [] o opened = open_floor _ _ (current_view initial_floor hidden) opened
  finds_view (shown.Open m ∷ l) o opened = ap Some (open_is s secret plans issued prefix facts host m.evidence _ (whole_list l) o).view
  finds_view (shown.Join m ∷ l) o opened = ap Some (join_is s secret plans issued prefix facts host m.view m.evidence m.stable (whole_list l) o).0
  finds_view (shown.ViewChange m ∷ l) o opened =
      absurd (not_both _ opened (none_opened initial_floor s host (inner_valid s issued) (whole_list l) m.view (rest (shown.ViewChange m) l o) (change_is s secret plans issued prefix facts host m.view m.body (whole_list l) o)))
  finds_view (e ∷ l) o opened = finds_view l (rest e l o) opened

  -- ---- what the search finds is the host's vote

  view_is : (u v : ℕ) (x : Option ℕ) → x ≡ Some u → x ≡ Some v → u ≡ v
  view_is u v x a b = cc

  -- the present view is the one that the search finds, where a vote is the newest
  pub vote_view : (u v p : ℕ) (l : List Shown) → IsOrdered l → IsPrepare s secret plans issued prefix facts host (whole_list l) v p → opened_from at_floor l ≡ Some u → v ≡ u
  vote_view u v p l o i e =
      let here = finds_view l o (subst (λ (x : ℕ). is_opened initial_floor (whole_list l) x ≡ true) i.view i.opened) in
      i.view ∙ view_is _ _ (opened_from at_floor l) here e

  if_at : (a b : ℕ) (x : Option ShownVote) (y : Option ShownVote) (z : ShownVote) → (if a == b then x else y) ≡ Some z → ((a ≡ b) × (x ≡ Some z)) ⊎ ((eqb a b ≡ false) × (y ≡ Some z))
  if_at a b x y z e = elim (cases_Bool (eqb a b)) [
    | inl same ↦ inl (eqb-true a b same, rw same at e)
    | inr other ↦ inr (other, rw other at e)
  ]

  abbrev as_vote : ShownVote → Vote
  as_vote y = record { counter = y.0; request = batch_digest y.1 }

  vote_with_is : (n : ℕ) (b : Body Batch) (y : ShownVote) → vote_with n b ≡ Some y → (n ≡ y.0) × (body_digest batch_bytes b ≡ batch_digest y.1)
  vote_with_is n (Whole b) y e = (cc, cc)
  vote_with_is n (Short d) y e = absurd cc

  first_vote : (v p u q c : ℕ) (d : Bytes) (y : ShownVote) (later : Option Vote) → v ≡ u → p ≡ q → c ≡ y.0 → d ≡ batch_digest y.1
      → option_or (if v == u && p == q then Some (record { counter = c; request = d }) else None) later ≡ Some (as_vote y)
  first_vote v p u q c d y later same_view same_place same_counter same_digest =
      rw (eq-eqb v u same_view, eq-eqb p q same_place, same_counter, same_digest) refl

  other_vote : (v p u q : ℕ) (x : Vote) (later : Option Vote) → eqb p q ≡ false → option_or (if v == u && p == q then Some x else None) later ≡ later
  other_vote v p u q x later other = rw (and_right (eqb v u) (eqb p q) other) refl

  abbrev AreSoundHere : List Shown → Type 0
  AreSoundHere l = AreSound s secret issued host stable (floor_after initial_floor hidden) l

  own_counter : (e : Shown) (l : List Shown) → AreSoundHere (e ∷ l) → length (whole_list l) + 1 ≡ (ui_of_shown e).counter
  own_counter e l g = omega (arith, g.0.counter, length-append (bares l) hidden, length_bares l)

  -- the plans that are shown are known
  abbrev AreKnown : List Shown → Type 0
  AreKnown l = AllByRecursion (IsKnownPlan plans) l

  plan_vote_is : (base c q : ℕ) (plan : Bytes) (b : Body OpenBody) (y : ShownVote) → IsKnownBody plans base plan b
      → plan_vote base c q b ≡ Some y → (c ≡ y.0) × (planned (plans plan) q ≡ Some (batch_digest y.1))
  plan_vote_is base c q plan (Short d) y known e = absurd cc
  plan_vote_is base c q plan (Whole w) y known e =
      let a = if_some (nat_lt base q) _ y e in
      let b = map_some _ _ y a.1 in
      (cc, rw (known, a.0) (slice_get-map batch_digest w.batches (q - base - 1) ∙ rw b.1 (ap (λ (z : ShownVote). Some (batch_digest z.1)) b.2)))

  open_vote : (v u c : ℕ) (d : Option Bytes) (y : ShownVote) (later : Option Vote) → v ≡ u → c ≡ y.0 → d ≡ Some (batch_digest y.1)
      → option_or (if v == u then option_map (λ (r : Bytes). record { counter = c; request = r }) d else None) later ≡ Some (as_vote y)
  open_vote v u c d y later same_view same_counter digest = rw (eq-eqb v u same_view, digest, same_counter) refl

  -- what the search finds for a position is the vote in the whole list
  pub found_is_vote : (l : List Shown) (u q : ℕ) (y : ShownVote) → IsOrdered l → AreSoundHere l → AreKnown l → opened_from at_floor l ≡ Some u → vote_since q l ≡ Some y
      → vote_in plans (whole_list l) u q ≡ Some (as_vote y)
  unfolding vote_in vote_by
  found_is_vote [] u q y o g k view e = absurd cc
  found_is_vote (shown.Prepare m ∷ l) u q y o g k view e = elim (if_at m.pos q _ _ y e) [
    | inl (here, found) ↦
        let i = (prepare_is s secret plans issued prefix facts host m.view m.pos _ (whole_list l) o).0 in
        let v = vote_with_is m.ui.counter m.body y found in
        first_vote m.view m.pos u q _ _ y _ (vote_view u m.view m.pos l (rest (shown.Prepare m) l o) i view) here (own_counter (shown.Prepare m) l g ∙ v.0) v.1
    | inr (other, found) ↦
        other_vote m.view m.pos u q _ _ other ∙ found_is_vote l u q y (rest (shown.Prepare m) l o) g.1 k.1 view found
  ]
  found_is_vote (shown.Commit m ∷ l) u q y o g k view e = elim (if_at m.pos q _ _ y e) [
    | inl (here, found) ↦
        let i = (commit_is s secret plans issued prefix facts host m.view m.pos m.counter m.cert _ (whole_list l) o).0 in
        let v = vote_with_is m.counter m.body y found in
        first_vote m.view m.pos u q _ _ y _ (vote_view u m.view m.pos l (rest (shown.Commit m) l o) i view) here v.0 v.1
    | inr (other, found) ↦
        other_vote m.view m.pos u q _ _ other ∙ found_is_vote l u q y (rest (shown.Commit m) l o) g.1 k.1 view found
  ]
  found_is_vote (shown.Open m ∷ l) u q y o g k view e =
      let v = plan_vote_is m.evidence.base m.evidence.counter q m.evidence.plan m.body y k.0 e in
      open_vote m.evidence.view u m.evidence.counter (planned (plans m.evidence.plan) q) y _ (same_Some _ _ view) v.0 v.1
  found_is_vote (shown.Join m ∷ l) u q y o g k view e = absurd cc
  found_is_vote (shown.Checkpoint m ∷ l) u q y o g k view e = found_is_vote l u q y (rest (shown.Checkpoint m) l o) g.1 k.1 view e
  found_is_vote (shown.ViewChange m ∷ l) u q y o g k view e = found_is_vote l u q y (rest (shown.ViewChange m) l o) g.1 k.1 view e
  found_is_vote (shown.NewView m ∷ l) u q y o g k view e = found_is_vote l u q y (rest (shown.NewView m) l o) g.1 k.1 view e
  found_is_vote (shown.Enter m ∷ l) u q y o g k view e = found_is_vote l u q y (rest (shown.Enter m) l o) g.1 k.1 view e

  -- ---- a vote is found for each position since the run of votes began

  abbrev HaveBodiesHere : List Shown → Type 0
  HaveBodiesHere l = HaveBodies s secret issued host stable (floor_after initial_floor hidden) l

  -- The search finds a vote for the position.
  pub record Found (q : ℕ) (l : List Shown) : Type 0 where
    pub vote : ShownVote
    pub is : vote_since q l ≡ Some vote

  whole_vote : (n : ℕ) (b : Body Batch) → is_whole b ≡ true → (y : ShownVote) × (vote_with n b ≡ Some y)
  whole_vote n (Whole b) h = ((n, b), refl)
  whole_vote n (Short d) h = absurd cc

  below : (q p n : ℕ) → q ≤ p → (p ≡ q → ⊥) → p ≡ n + 1 → q ≤ n
  below q p n le ne e = elim (cases_lt q p) [ inl lt ↦ omega arith | inr ge ↦ absurd (ne (omega arith)) ]

  last_if : (w v p n q : ℕ) → w ≡ v → q ≤ (if w == v then p else n) → q ≤ p
  last_if w v p n q same le = rw (eq-eqb w v same) at le

  pub batches_long : (base end : ℕ) (plan : Bytes) (b : OpenBody) → is_plan_body s secret issued base end plan b ≡ true → (b.stable.pos ≡ base) × (length b.batches ≡ end - base)
  batches_long base end plan b ok =
      let a = and_parts (is_stable s issued b.stable) _ (and_parts (is_comparable_body s secret issued base end b) _ ok).0 in
      let c = and_parts (b.stable.pos == base) _ a.1 in
      let d = and_parts (length b.batches == end - base) _ c.1 in
      (eqb-true _ _ c.0, eqb-true _ _ d.0)

  -- An OPEN that is whole and sound has a vote for each position of its plan.
  pub plan_vote_found : (base end c q : ℕ) (plan : Bytes) (b : Body OpenBody) → is_whole b ≡ true → is_sound_plan s secret issued base end plan b ≡ true → base < q → q ≤ end
      → (y : ShownVote) × (plan_vote base c q b ≡ Some y)
  plan_vote_found base end c q plan (Short d) h ok lt le = absurd cc
  plan_vote_found base end c q plan (Whole w) h ok lt le =
      let long = (batches_long base end plan w ok).1 in
      elim (slice_get_cases w.batches (q - base - 1)).1 [
        | inl (x, within, found, same) ↦ ((c, x), rw (lt-ltb base q lt, found) refl)
        | inr (short, none) ↦ absurd (omega (arith, long))
      ]

  pub finds_vote : (l : List Shown) (u q : ℕ) → IsOrdered l → AreSoundHere l → HaveBodiesHere l → opened_from at_floor l ≡ Some u
      → run_start hidden l < q → q ≤ last_position initial_floor (whole_list l) u → Found q l
  unfolding last_position
  finds_vote [] u q o g b view lt le =
      let same = if_open_is _ (current_view initial_floor hidden) u view in
      let le2 : q ≤ last_position initial_floor hidden (current_view initial_floor hidden) = rw same le in
      absurd (omega arith)
  finds_vote (shown.Prepare m ∷ l) u q o g b view lt le =
      let i = (prepare_is s secret plans issued prefix facts host m.view m.pos _ (whole_list l) o).0 in
      let same = vote_view u m.view m.pos l (rest (shown.Prepare m) l o) i view in
      let le2 = last_if m.view u m.pos _ q same le in
      let place : m.pos ≡ last_position initial_floor (whole_list l) u + 1 = rw same at i.place in
      elim (cases_Bool (eqb m.pos q)) [
        | inl here ↦ let y = whole_vote m.ui.counter m.body (b.0 refl) in record { vote = y.0; is = found_or m.pos q _ _ y.0 (inl (here, y.1)) }
        | inr other ↦
            let ne = eqb-false m.pos q other in
            let f = finds_vote l u q (rest (shown.Prepare m) l o) g.1 (b.1 refl) view lt (below q m.pos _ le2 ne place) in
            record { vote = f.vote; is = found_or m.pos q _ _ f.vote (inr (other, f.is)) }
      ]
  finds_vote (shown.Commit m ∷ l) u q o g b view lt le =
      let i = (commit_is s secret plans issued prefix facts host m.view m.pos m.counter m.cert _ (whole_list l) o).0 in
      let same = vote_view u m.view m.pos l (rest (shown.Commit m) l o) i view in
      let le2 = last_if m.view u m.pos _ q same le in
      let place : m.pos ≡ last_position initial_floor (whole_list l) u + 1 = rw same at i.place in
      elim (cases_Bool (eqb m.pos q)) [
        | inl here ↦ let y = whole_vote m.counter m.body (b.0 refl) in record { vote = y.0; is = found_or m.pos q _ _ y.0 (inl (here, y.1)) }
        | inr other ↦
            let ne = eqb-false m.pos q other in
            let f = finds_vote l u q (rest (shown.Commit m) l o) g.1 (b.1 refl) view lt (below q m.pos _ le2 ne place) in
            record { vote = f.vote; is = found_or m.pos q _ _ f.vote (inr (other, f.is)) }
      ]
  finds_vote (shown.Open m ∷ l) u q o g b view lt le =
      let y = plan_vote_found m.evidence.base m.evidence.end m.evidence.counter q m.evidence.plan m.body (b.0 refl) g.0.body lt (last_if m.evidence.view u m.evidence.end _ q (same_Some _ _ view) le) in
      record { vote = y.0; is = y.1 }
  finds_vote (shown.Join m ∷ l) u q o g b view lt le = let le2 = last_if m.view u m.stable.pos _ q (same_Some _ _ view) le in absurd (omega arith)
  finds_vote (shown.Checkpoint m ∷ l) u q o g b view lt le = let f = finds_vote l u q (rest (shown.Checkpoint m) l o) g.1 (b.1 refl) view lt le in record { vote = f.vote; is = f.is }
  finds_vote (shown.ViewChange m ∷ l) u q o g b view lt le = let f = finds_vote l u q (rest (shown.ViewChange m) l o) g.1 (b.1 refl) view lt le in record { vote = f.vote; is = f.is }
  finds_vote (shown.NewView m ∷ l) u q o g b view lt le = let f = finds_vote l u q (rest (shown.NewView m) l o) g.1 (b.1 refl) view lt le in record { vote = f.vote; is = f.is }
  finds_vote (shown.Enter m ∷ l) u q o g b view lt le = let f = finds_vote l u q (rest (shown.Enter m) l o) g.1 (b.1 refl) view lt le in record { vote = f.vote; is = f.is }

  -- ---- bounds

  -- a vote that is found is at most so far above the stable position
  pub found_low : (l : List Shown) (q : ℕ) (y : ShownVote) → AreSoundHere l → HaveBodiesHere l → vote_since q l ≡ Some y → q ≤ stable + span s
  found_low [] q y g b e = absurd cc
  found_low (shown.Prepare m ∷ l) q y g b e = elim (if_at m.pos q _ _ y e) [
    | inl (here, found) ↦ let low : m.pos ≤ stable + span s = g.0.low_enough in omega (arith, here)
    | inr (other, found) ↦ found_low l q y g.1 (b.1 refl) found
  ]
  found_low (shown.Commit m ∷ l) q y g b e = elim (if_at m.pos q _ _ y e) [
    | inl (here, found) ↦ let low : m.pos ≤ stable + span s = g.0.low_enough in omega (arith, here)
    | inr (other, found) ↦ found_low l q y g.1 (b.1 refl) found
  ]
  found_low (shown.Open m ∷ l) q y g b e =
      let low : m.evidence.end ≤ stable + span s = g.0.low_enough in
      let within = plan_vote_within m.body (b.0 refl) g.0.body e in
      omega arith where
        plan_vote_within : (body : Body OpenBody) → is_whole body ≡ true → is_sound_plan s secret issued m.evidence.base m.evidence.end m.evidence.plan body ≡ true
            → plan_vote m.evidence.base m.evidence.counter q body ≡ Some y → q ≤ m.evidence.end
        plan_vote_within (Short d) h ok e = absurd cc
        plan_vote_within (Whole w) h ok e =
            let long = (batches_long m.evidence.base m.evidence.end m.evidence.plan w ok).1 in
            let a = if_some (nat_lt m.evidence.base q) _ y e in
            let lt = ltb-true m.evidence.base q a.0 in
            let c = map_some _ _ y a.1 in
            let within = slice_get_within w.batches (q - m.evidence.base - 1) c.0 c.1 in
            omega arith
  found_low (shown.Join m ∷ l) q y g b e = absurd cc
  found_low (shown.Checkpoint m ∷ l) q y g b e = found_low l q y g.1 (b.1 refl) e
  found_low (shown.ViewChange m ∷ l) q y g b e = found_low l q y g.1 (b.1 refl) e
  found_low (shown.NewView m ∷ l) q y g b e = found_low l q y g.1 (b.1 refl) e
  found_low (shown.Enter m ∷ l) q y g b e = found_low l q y g.1 (b.1 refl) e
