-- What the opened view of one shown log says.
--
-- A vote of its host is hidden by the floor, or the opened view is at least the vote's (`shown_view`). A view above 0 was opened by evidence
-- (`opened_list`), and then the run of votes begins at or behind the end of that evidence, or the log shows the whole plan with the NEW_VIEW's
-- counter (`shown_opened`).
use Rattle.std.proofs.Common.{◌≡◌, ℕ, ◌+◌, ◌≤◌, ◌<◌, Bool, true, false, ◌&&◌, List, [], ◌∷◌, ◌++◌, length, refl, sym, ap, subst, ◌∙◌, inl, inr, ◌⊎◌, arith, eqb, Option, Some, None}
use Rattle.std.specs.Prelude.{◌==◌, if◌then◌else◌}
use Rattle.std.proofs.lemmas.Bool.{and_parts, cases_Bool, eqb-true, eq-eqb, ne_eqb}
use Rattle.std.proofs.lemmas.Option.{same_Some}
use Rattle.mb_base.specs.declared.shape.Shape.{Shape}
use Rattle.mb_base.specs.Shapes.{Bytes}
use Rattle.mb_parts.specs.declared.certificates.Evidence.{Evidence}
use Rattle.mb_parts.specs.declared.certificates.StableCert.{StableCert}
use Rattle.mb_parts.specs.Bares.{Bare, batch_digest}
use Rattle.mb_parts.specs.Bares as bare
use Rattle.mb_parts.specs.Ordered.{initial_floor, end_of, is_ordered, floor_after, current_view, is_opened, last_position, phase_from, phase_is_open}
use Rattle.mb_parts.specs.Claims.{Claim}
use Rattle.mb_parts.specs.Certificates.{inner_valid, is_evidence}
use Rattle.mb_parts.proofs.OrderedParts.{tail}
use Rattle.mb_msg.specs.declared.message.Body.{Body}
use Rattle.mb_msg.specs.declared.message.Body.TheVariants.{Whole, Bare as Short}
use Rattle.mb_msg.specs.declared.change.OpenBody.{OpenBody}
use Rattle.mb_msg.specs.declared.stamped.Shown.{Shown}
use Rattle.mb_msg.specs.declared.stamped.Shown.TheVariants as shown
use Rattle.mb_msg.specs.Stamps.{bare_of_shown}
use Rattle.mb_model.specs.declared.known.Vote.{Vote}
use Rattle.mb_model.specs.UsableLogs.{bares, is_sound_plan, is_whole}
use Rattle.mb_model.specs.Plans.{opened_from, view_if_open, vote_since, vote_with, ShownVote, base_shown, body_base}
use Rattle.mb_model.specs.Committed.{Plans, vote_by, vote_in}
use Rattle.mb_agreement.specs.Agreement.{IsConsistentRecord}
use Rattle.mb_model.proofs.UsableLaws.{AreSound, HaveBodies}
use Rattle.mb_agreement.proofs.FoundVotes.{run_start, finds_view, vote_view, plan_vote_found, plan_vote_counter, batches_long, found_or, if_open_is}
use Rattle.mb_model.proofs.Options.{or_some, if_some}
use Rattle.mb_agreement.proofs.WholeLists.{prepare_is, commit_is, open_is, join_is, vote_placed, last_grows, view_grows, if_is}

module _ (s : Shape) (secret : Bytes) (plans : Plans) (issued : Claim → Bool) (prefix : ℕ → List Bare) (facts : IsConsistentRecord s secret plans issued prefix)
    (host stable : ℕ) (hidden : List Bare) where
  -- what the host stamped up to these entries
  abbrev whole_list : List Shown → List Bare
  whole_list l = bares l ++ hidden

  abbrev IsOrdered : List Shown → Type 0
  IsOrdered l = is_ordered initial_floor s host (inner_valid s issued) (whole_list l) ≡ true

  rest : (e : Shown) (l : List Shown) → IsOrdered (e ∷ l) → IsOrdered l
  rest e l o = tail initial_floor s host (inner_valid s issued) (bare_of_shown e) (whole_list l) o

  abbrev at_floor : Option ℕ
  at_floor = view_if_open (Some (floor_after initial_floor hidden))

  abbrev AreSoundHere : List Shown → Type 0
  AreSoundHere l = AreSound s secret issued host stable (floor_after initial_floor hidden) l

  abbrev HaveBodiesHere : List Shown → Type 0
  HaveBodiesHere l = HaveBodies s secret issued host stable (floor_after initial_floor hidden) l

  -- ---- where the run of votes begins

  pub run_base : (l : List Shown) → AreSoundHere l → HaveBodiesHere l → ((c : StableCert) × (base_shown l ≡ Some c) × (c.pos ≡ run_start hidden l)) ⊎ (run_start hidden l ≡ (floor_after initial_floor hidden).last)
  run_base [] g b = inr refl
  run_base (shown.Open m ∷ l) g b = whole_base m.body (b.0 refl) g.0.body where
    whole_base : (body : Body OpenBody) → is_whole body ≡ true → is_sound_plan s secret issued m.evidence.base m.evidence.end m.evidence.plan body ≡ true
        → ((c : StableCert) × (body_base body ≡ Some c) × (c.pos ≡ m.evidence.base)) ⊎ (m.evidence.base ≡ (floor_after initial_floor hidden).last)
    whole_base (Whole w) h ok = inl (w.stable, refl, (batches_long s secret plans issued prefix facts host stable hidden m.evidence.base m.evidence.end m.evidence.plan w ok).0)
    whole_base (Short d) h ok = absurd cc
  run_base (shown.Join m ∷ l) g b = inl (m.stable, refl, refl)
  run_base (shown.Prepare m ∷ l) g b = run_base l g.1 (b.1 refl)
  run_base (shown.Commit m ∷ l) g b = run_base l g.1 (b.1 refl)
  run_base (shown.Checkpoint m ∷ l) g b = run_base l g.1 (b.1 refl)
  run_base (shown.ViewChange m ∷ l) g b = run_base l g.1 (b.1 refl)
  run_base (shown.NewView m ∷ l) g b = run_base l g.1 (b.1 refl)
  run_base (shown.Enter m ∷ l) g b = run_base l g.1 (b.1 refl)

  -- ---- a vote of the host is shown, or hidden by the floor

  pub shown_view : (l : List Shown) (v p : ℕ) (x : Vote) → IsOrdered l → vote_in plans (whole_list l) v p ≡ Some x
      → (vote_in plans hidden v p ≡ Some x) ⊎ ((u : ℕ) × (opened_from at_floor l ≡ Some u) × (v ≤ u))
  unfolding vote_in vote_by
  shown_view [] v p x o e = inl e
  shown_view (shown.Prepare m ∷ l) v p x o e = elim (or_some (vote_by plans (length (whole_list l) + 1) (bare_of_shown (shown.Prepare m)) v p) (vote_in plans (whole_list l) v p) x e) [
    | inl here ↦
        let i = (prepare_is s secret plans issued prefix facts host m.view m.pos _ (whole_list l) o).0 in
        let a = and_parts (m.view == v) (m.pos == p) (if_is _ _ _ here).0 in
        let found = finds_view s secret plans issued prefix facts host stable hidden l (rest (shown.Prepare m) l o) (subst (λ (y : ℕ). is_opened initial_floor (whole_list l) y ≡ true) i.view i.opened) in
        inr (current_view initial_floor (whole_list l), found, omega (arith, i.view, eqb-true m.view v a.0))
    | inr before ↦ shown_view l v p x (rest (shown.Prepare m) l o) before
  ]
  shown_view (shown.Commit m ∷ l) v p x o e = elim (or_some (vote_by plans (length (whole_list l) + 1) (bare_of_shown (shown.Commit m)) v p) (vote_in plans (whole_list l) v p) x e) [
    | inl here ↦
        let i = (commit_is s secret plans issued prefix facts host m.view m.pos m.counter m.cert _ (whole_list l) o).0 in
        let a = and_parts (m.view == v) (m.pos == p) (if_is _ _ _ here).0 in
        let found = finds_view s secret plans issued prefix facts host stable hidden l (rest (shown.Commit m) l o) (subst (λ (y : ℕ). is_opened initial_floor (whole_list l) y ≡ true) i.view i.opened) in
        inr (current_view initial_floor (whole_list l), found, omega (arith, i.view, eqb-true m.view v a.0))
    | inr before ↦ shown_view l v p x (rest (shown.Commit m) l o) before
  ]
  shown_view (shown.Open m ∷ l) v p x o e = elim (or_some (vote_by plans (length (whole_list l) + 1) (bare_of_shown (shown.Open m)) v p) (vote_in plans (whole_list l) v p) x e) [
    | inl here ↦ inr (m.evidence.view, refl, omega (arith, eqb-true m.evidence.view v (if_some (m.evidence.view == v) _ x here).0))
    | inr before ↦
        let i = open_is s secret plans issued prefix facts host m.evidence _ (whole_list l) o in
        let placed = vote_placed s secret plans issued prefix facts host (whole_list l) v p x before (rest (shown.Open m) l o) in
        inr (m.evidence.view, refl, omega (arith, i.view, placed.view))
  ]
  shown_view (shown.Join m ∷ l) v p x o e =
      let i = join_is s secret plans issued prefix facts host m.view m.evidence m.stable (whole_list l) o in
      let placed = vote_placed s secret plans issued prefix facts host (whole_list l) v p x e (rest (shown.Join m) l o) in
      inr (m.view, refl, omega (arith, i.0, placed.view))
  shown_view (shown.Checkpoint m ∷ l) v p x o e = shown_view l v p x (rest (shown.Checkpoint m) l o) e
  shown_view (shown.ViewChange m ∷ l) v p x o e = shown_view l v p x (rest (shown.ViewChange m) l o) e
  shown_view (shown.NewView m ∷ l) v p x o e = shown_view l v p x (rest (shown.NewView m) l o) e
  shown_view (shown.Enter m ∷ l) v p x o e = shown_view l v p x (rest (shown.Enter m) l o) e

  -- ---- a view above 0 was opened by an evidence

  pub record IsOpenedBy (list : List Bare) (u : ℕ) (e : Evidence) : Type 0 where
    pub ok : is_evidence s issued e ≡ true
    pub view : e.view ≡ u
    pub ended : e.end ≤ last_position initial_floor list u

  pub opened_list : (l : List Bare) (u : ℕ) → is_ordered initial_floor s host (inner_valid s issued) l ≡ true → 0 < u → is_opened initial_floor l u ≡ true → (e : Evidence) × IsOpenedBy l u e
  unfolding is_opened last_position inner_valid
  opened_list [] u o lt h = absurd (zero_not u lt h) where
    zero_not : (u : ℕ) → 0 < u → (eqb 0 u && true) ≡ true → ⊥
    zero_not u lt h = let z = eqb-true 0 u (and_parts (eqb 0 u) true h).0 in omega arith
  opened_list (bare.Open e d ∷ l) u o lt h = elim (cases_Bool (eqb e.view u)) [
    | inl same ↦
        let i = open_is s secret plans issued prefix facts host e d l o in
        (e, record { ok = i.evidence; view = eqb-true _ _ same; ended = rw same (omega arith) })
    | inr other ↦
        let r = opened_list l u (tail initial_floor s host (inner_valid s issued) (bare.Open e d) l o) lt (rw other at h) in
        (r.0, record { ok = r.1.ok; view = r.1.view; ended = rw other r.1.ended })
  ]
  opened_list (bare.Join w None c ∷ l) u o lt h = elim (cases_Bool (eqb w u)) [
    | inl same ↦
        let i = join_is s secret plans issued prefix facts host w None c l o in
        let z = eqb-true w 0 (and_parts (w == 0) _ i.3).0 in
        absurd (omega (arith, eqb-true w u same))
    | inr other ↦
        let r = opened_list l u (tail initial_floor s host (inner_valid s issued) (bare.Join w None c) l o) lt (rw other at h) in
        (r.0, record { ok = r.1.ok; view = r.1.view; ended = rw other r.1.ended })
  ]
  opened_list (bare.Join w (Some e) c ∷ l) u o lt h = elim (cases_Bool (eqb w u)) [
    | inl same ↦
        let i = join_is s secret plans issued prefix facts host w (Some e) c l o in
        let a = and_parts (e.view == w) _ i.3 in
        let b = and_parts (is_evidence s issued e) _ a.1 in
        (e, record { ok = b.0; view = eqb-true _ _ a.0 ∙ eqb-true _ _ same; ended = rw same i.1 })
    | inr other ↦
        let r = opened_list l u (tail initial_floor s host (inner_valid s issued) (bare.Join w (Some e) c) l o) lt (rw other at h) in
        (r.0, record { ok = r.1.ok; view = r.1.view; ended = rw other r.1.ended })
  ]
  opened_list (m ∷ l) u o lt h =
      let r = opened_list l u (tail initial_floor s host (inner_valid s issued) m l o) lt h in
      let up = last_grows s secret plans issued prefix facts host m l u o in
      (r.0, record { ok = r.1.ok; view = r.1.view; ended = omega (arith, r.1.ended) })

  -- the opened view of a log was opened by an evidence: the run of votes begins behind its end, or its whole plan is shown
  pub record IsShownOpened (l : List Shown) (u : ℕ) (e : Evidence) : Type 0 where
    pub ok : is_evidence s issued e ≡ true
    pub view : e.view ≡ u
    pub ended : e.end ≤ last_position initial_floor (whole_list l) u
    pub how : (e.end ≤ run_start hidden l) ⊎ ((run_start hidden l ≡ e.base) × ((q : ℕ) → e.base < q → q ≤ e.end → (y : ShownVote) × (vote_since q l ≡ Some y) × (y.0 ≡ e.counter)))

  open_was : (b e : Bool) (v u : ℕ) → (if phase_is_open (phase_from b e) then Some v else None) ≡ Some u → (b ≡ true) × (v ≡ u)
  open_was true e v u h = (refl, cc)
  open_was false true v u h = absurd cc
  open_was false false v u h = absurd cc

  join_opened : (v : ℕ) (x : Option Evidence) (c : StableCert) → inner_valid s issued (bare.Join v x c) ≡ true → 0 < v → end_of x ≤ c.pos
      → (e : Evidence) × (is_evidence s issued e ≡ true) × (e.view ≡ v) × (e.end ≤ c.pos)
  unfolding inner_valid
  join_opened v None c h lt le = let z = eqb-true v 0 (and_parts (v == 0) _ h).0 in absurd (omega arith)
  join_opened v (Some e) c h lt le =
      let a = and_parts (e.view == v) _ h in
      let b = and_parts (is_evidence s issued e) _ a.1 in
      (e, b.0, eqb-true _ _ a.0, le)

  skips : (q p n end : ℕ) → q ≤ end → end ≤ n → p ≡ n + 1 → eqb p q ≡ false
  skips q p n end a b c = ne_eqb p q (λ e. omega arith)

  pub shown_opened : (l : List Shown) (u : ℕ) → IsOrdered l → AreSoundHere l → HaveBodiesHere l → opened_from at_floor l ≡ Some u → 0 < u → (e : Evidence) × IsShownOpened l u e
  unfolding last_position inner_valid
  shown_opened [] u o g b view lt =
      let was = open_was _ _ (current_view initial_floor hidden) u view in
      let r = opened_list hidden u o lt (subst (λ (x : ℕ). is_opened initial_floor hidden x ≡ true) was.1 was.0) in
      let start : (floor_after initial_floor hidden).last ≡ last_position initial_floor hidden u = ap (last_position initial_floor hidden) was.1 in
      (r.0, record { ok = r.1.ok; view = r.1.view; ended = r.1.ended; how = inl (omega (arith, r.1.ended)) })
  shown_opened (shown.Prepare m ∷ l) u o g b view lt =
      let i = (prepare_is s secret plans issued prefix facts host m.view m.pos _ (whole_list l) o).0 in
      let same = vote_view s secret plans issued prefix facts host stable hidden u m.view m.pos l (rest (shown.Prepare m) l o) i view in
      let place : m.pos ≡ last_position initial_floor (whole_list l) u + 1 = rw same at i.place in
      let r = shown_opened l u (rest (shown.Prepare m) l o) g.1 (b.1 refl) view lt in
      (r.0, record { ok = r.1.ok; view = r.1.view; ended = rw (eq-eqb m.view u same) (omega (arith, r.1.ended)); how = kept r.0 m.pos _ r.1.ended place r.1.how }) where
        kept : (e : Evidence) (p n : ℕ) → e.end ≤ n → p ≡ n + 1
            → (e.end ≤ run_start hidden l) ⊎ ((run_start hidden l ≡ e.base) × ((q : ℕ) → e.base < q → q ≤ e.end → (y : ShownVote) × (vote_since q l ≡ Some y) × (y.0 ≡ e.counter)))
            → (e.end ≤ run_start hidden l) ⊎ ((run_start hidden l ≡ e.base) × ((q : ℕ) → e.base < q → q ≤ e.end → (y : ShownVote) × ((if p == q then vote_with m.ui.counter m.body else vote_since q l) ≡ Some y) × (y.0 ≡ e.counter)))
        kept e p n ended place (inl low) = inl low
        kept e p n ended place (inr (base, votes)) = inr (base, λ q lt le. let y = votes q lt le in (y.0, found_or p q _ _ y.0 (inr (skips q p n e.end le ended place, y.1)), y.2))
  shown_opened (shown.Commit m ∷ l) u o g b view lt =
      let i = (commit_is s secret plans issued prefix facts host m.view m.pos m.counter m.cert _ (whole_list l) o).0 in
      let same = vote_view s secret plans issued prefix facts host stable hidden u m.view m.pos l (rest (shown.Commit m) l o) i view in
      let place : m.pos ≡ last_position initial_floor (whole_list l) u + 1 = rw same at i.place in
      let r = shown_opened l u (rest (shown.Commit m) l o) g.1 (b.1 refl) view lt in
      (r.0, record { ok = r.1.ok; view = r.1.view; ended = rw (eq-eqb m.view u same) (omega (arith, r.1.ended)); how = kept r.0 m.pos _ r.1.ended place r.1.how }) where
        kept : (e : Evidence) (p n : ℕ) → e.end ≤ n → p ≡ n + 1
            → (e.end ≤ run_start hidden l) ⊎ ((run_start hidden l ≡ e.base) × ((q : ℕ) → e.base < q → q ≤ e.end → (y : ShownVote) × (vote_since q l ≡ Some y) × (y.0 ≡ e.counter)))
            → (e.end ≤ run_start hidden l) ⊎ ((run_start hidden l ≡ e.base) × ((q : ℕ) → e.base < q → q ≤ e.end → (y : ShownVote) × ((if p == q then vote_with m.counter m.body else vote_since q l) ≡ Some y) × (y.0 ≡ e.counter)))
        kept e p n ended place (inl low) = inl low
        kept e p n ended place (inr (base, votes)) = inr (base, λ q lt le. let y = votes q lt le in (y.0, found_or p q _ _ y.0 (inr (skips q p n e.end le ended place, y.1)), y.2))
  shown_opened (shown.Open m ∷ l) u o g b view lt =
      let i = open_is s secret plans issued prefix facts host m.evidence _ (whole_list l) o in
      let same = same_Some _ _ view in (
        m.evidence,
        record {
          ok = i.evidence;
          view = same;
          ended = rw (eq-eqb m.evidence.view u same) (omega arith);
          how = inr (
            refl,
            λ q above below.
                let y = plan_vote_found s secret plans issued prefix facts host stable hidden m.evidence.base m.evidence.end m.evidence.counter q m.evidence.plan m.body (b.0 refl) g.0.body above below in
                let v = plan_vote_counter m.evidence.base m.evidence.counter q m.body y.0 y.1 in
                (y.0, y.1, sym v),
          );
        },
      )
  shown_opened (shown.Join m ∷ l) u o g b view lt =
      let i = join_is s secret plans issued prefix facts host m.view m.evidence m.stable (whole_list l) o in
      let same = same_Some _ _ view in
      let e = join_opened m.view m.evidence m.stable i.3 (omega (arith, same)) i.1 in
      (e.0, record { ok = e.1; view = e.2 ∙ same; ended = rw (eq-eqb m.view u same) e.3; how = inl e.3 })
  shown_opened (shown.Checkpoint m ∷ l) u o g b view lt = let r = shown_opened l u (rest (shown.Checkpoint m) l o) g.1 (b.1 refl) view lt in (r.0, record { ok = r.1.ok; view = r.1.view; ended = r.1.ended; how = r.1.how })
  shown_opened (shown.ViewChange m ∷ l) u o g b view lt = let r = shown_opened l u (rest (shown.ViewChange m) l o) g.1 (b.1 refl) view lt in (r.0, record { ok = r.1.ok; view = r.1.view; ended = r.1.ended; how = r.1.how })
  shown_opened (shown.NewView m ∷ l) u o g b view lt = let r = shown_opened l u (rest (shown.NewView m) l o) g.1 (b.1 refl) view lt in (r.0, record { ok = r.1.ok; view = r.1.view; ended = r.1.ended; how = r.1.how })
  shown_opened (shown.Enter m ∷ l) u o g b view lt = let r = shown_opened l u (rest (shown.Enter m) l o) g.1 (b.1 refl) view lt in (r.0, record { ok = r.1.ok; view = r.1.view; ended = r.1.ended; how = r.1.how })

  -- the opened view is at most the present one
  pub opened_low : (l : List Shown) (u : ℕ) → IsOrdered l → opened_from at_floor l ≡ Some u → u ≤ current_view initial_floor (whole_list l)
  opened_low [] u o e = let same = if_open_is _ (current_view initial_floor hidden) u e in omega arith
  opened_low (shown.Open m ∷ l) u o e =
      let i = open_is s secret plans issued prefix facts host m.evidence _ (whole_list l) o in
      let same = same_Some _ _ e in
      let up = view_grows s secret plans issued prefix facts host _ (whole_list l) o in
      omega (arith, i.view)
  opened_low (shown.Join m ∷ l) u o e =
      let i = join_is s secret plans issued prefix facts host m.view m.evidence m.stable (whole_list l) o in
      let same = same_Some _ _ e in
      let up = view_grows s secret plans issued prefix facts host _ (whole_list l) o in
      omega (arith, i.0)
  opened_low (shown.Prepare m ∷ l) u o e = let up = view_grows s secret plans issued prefix facts host _ (whole_list l) o in omega (arith, opened_low l u (rest (shown.Prepare m) l o) e)
  opened_low (shown.Commit m ∷ l) u o e = let up = view_grows s secret plans issued prefix facts host _ (whole_list l) o in omega (arith, opened_low l u (rest (shown.Commit m) l o) e)
  opened_low (shown.Checkpoint m ∷ l) u o e = let up = view_grows s secret plans issued prefix facts host _ (whole_list l) o in omega (arith, opened_low l u (rest (shown.Checkpoint m) l o) e)
  opened_low (shown.ViewChange m ∷ l) u o e = let up = view_grows s secret plans issued prefix facts host _ (whole_list l) o in omega (arith, opened_low l u (rest (shown.ViewChange m) l o) e)
  opened_low (shown.NewView m ∷ l) u o e = let up = view_grows s secret plans issued prefix facts host _ (whole_list l) o in omega (arith, opened_low l u (rest (shown.NewView m) l o) e)
  opened_low (shown.Enter m ∷ l) u o e = let up = view_grows s secret plans issued prefix facts host _ (whole_list l) o in omega (arith, opened_low l u (rest (shown.Enter m) l o) e)
