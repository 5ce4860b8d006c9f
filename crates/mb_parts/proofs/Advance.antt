-- One message more leads from the floor of a list to the floor of the longer list.
--
-- Field by field. Where the message leaves the view as it is, the floor before has the view's phase and last position, and the message adds to
-- them. Where it is a VIEW_CHANGE, its view is above all before, so nothing before it opened, entered or has a position in that view.
use Rattle.std.proofs.Common.{◌≡◌, ℕ, ◌<◌, Bool, true, false, ◌&&◌, ◌||◌, List, [], ◌∷◌, refl, sym, ◌∙◌, arith, eqb}
use Rattle.std.specs.Prelude.{nat_lt, ◌==◌}
use Rattle.std.specs.List.{list_all, list_any}
use Rattle.std.proofs.lemmas.Bool.{and_parts, ltb-true, eqb-true, eq-eqb, ne_eqb}
use Rattle.mb_base.specs.declared.shape.Shape.{Shape}
use Rattle.mb_parts.specs.declared.floor.Floor.{Floor}
use Rattle.mb_parts.specs.declared.floor.Phase.{Phase}
use Rattle.mb_parts.specs.Bares.{Bare}
use Rattle.mb_parts.specs.Bares as bare
use Rattle.mb_parts.specs.Ordered.{current_view, is_opened, is_entered, last_position, top_position, last_checkpoint, permits, is_ordered, floor_after, is_below, phase_from, phase_is_open, phase_is_entered, is_opening, is_entering}
use Rattle.mb_parts.proofs.OrderedParts.{head, tail}
use Rattle.mb_parts.proofs.OrderedLaws.{rising}

not_equal : (a b : ℕ) → a < b → eqb a b ≡ false
not_equal a b lt = ne_eqb a b (λ e. omega arith)

or_assoc : (a b c : Bool) → ((a || b) || c) ≡ (a || (b || c))
or_assoc true b c = refl
or_assoc false b c = refl

or_false : (a : Bool) → (a || false) ≡ a
or_false true = refl
or_false false = refl

-- a phase read off the phase before, and the newest message
phase_step : (a f opened entered : Bool) → phase_from (a || phase_is_open (phase_from opened entered)) (f || phase_is_entered (phase_from opened entered)) ≡ phase_from (a || opened) (f || entered)
phase_step true f opened entered = refl
phase_step false true true entered = refl
phase_step false true false true = refl
phase_step false true false false = refl
phase_step false false true entered = refl
phase_step false false false true = refl
phase_step false false false false = refl

abbrev pub floor_with : ℕ → ℕ → Phase → ℕ → ℕ → ℕ → Floor
floor_with c v h l t p = record { counter = c; view = v; phase = h; last = l; top = t; point = p }

pub same_floor : (c v l t p c' v' l' t' p' : ℕ) (h h' : Phase) → c ≡ c' → v ≡ v' → h ≡ h' → l ≡ l' → t ≡ t' → p ≡ p' → floor_with c v h l t p ≡ floor_with c' v' h' l' t' p'
same_floor c v l t p c' v' l' t' p' h h' e1 e2 e3 e4 e5 e6 = cc

module _ (o : Floor) (s : Shape) (host : ℕ) (inner : Bare → Bool) where
  -- a VIEW_CHANGE goes up
  change_rises : (v : ℕ) (d : List ℕ) (l : List Bare) → is_ordered o s host inner (bare.ViewChange v d ∷ l) ≡ true → (current_view o l < v) × (o.view < v)
  unfolding permits
  change_rises v d l h =
      let p = head o s host inner (bare.ViewChange v d) l h in
      (ltb-true _ _ (sym (rising o s host inner l v (tail o s host inner (bare.ViewChange v d) l h)) ∙ p), ltb-true _ _ (and_parts (nat_lt o.view v) (list_all (is_below v) l) p).0)

  -- each other message that has a view has the present one
  open_here : (e : _) (d : List ℕ) (l : List Bare) → is_ordered o s host inner (bare.Open e d ∷ l) ≡ true → e.view ≡ current_view o l
  unfolding permits
  open_here e d l h = eqb-true _ _ (and_parts (e.view == current_view o l) _ (head o s host inner (bare.Open e d) l h)).0

  join_here : (v : ℕ) (e : _) (c : _) (l : List Bare) → is_ordered o s host inner (bare.Join v e c ∷ l) ≡ true → v ≡ current_view o l
  unfolding permits
  join_here v e c l h = eqb-true _ _ (and_parts (v == current_view o l) _ (head o s host inner (bare.Join v e c) l h)).0

  -- no view above the present one was opened
  pub none_opened : (l : List Bare) (v : ℕ) → is_ordered o s host inner l ≡ true → current_view o l < v → is_opened o l v ≡ false
  unfolding is_opened current_view
  none_opened [] v h lt = rw (not_equal o.view v lt) refl
  none_opened (bare.ViewChange w d ∷ l) v h lt =
      let up = change_rises w d l h in none_opened l v (tail o s host inner (bare.ViewChange w d) l h) (omega arith)
  none_opened (bare.Open e d ∷ l) v h lt =
      let here = open_here e d l h in
      let other : eqb e.view v ≡ false = not_equal e.view v (omega arith) in
      rw other (none_opened l v (tail o s host inner (bare.Open e d) l h) lt)
  none_opened (bare.Join w e c ∷ l) v h lt =
      let here = join_here w e c l h in
      let other : eqb w v ≡ false = not_equal w v (omega arith) in
      rw other (none_opened l v (tail o s host inner (bare.Join w e c) l h) lt)
  none_opened (m ∷ l) v h lt = none_opened l v (tail o s host inner m l h) lt

  -- nor was it entered
  pub none_entered : (l : List Bare) (v : ℕ) → is_ordered o s host inner l ≡ true → current_view o l < v → is_entered o l v ≡ false
  unfolding is_entered current_view permits
  none_entered [] v h lt = rw (not_equal o.view v lt) refl
  none_entered (bare.ViewChange w d ∷ l) v h lt =
      let up = change_rises w d l h in none_entered l v (tail o s host inner (bare.ViewChange w d) l h) (omega arith)
  none_entered (bare.NewView w b e p d ∷ l) v h lt =
      let here : w ≡ current_view o l = eqb-true _ _ (and_parts (w == current_view o l) _ (head o s host inner (bare.NewView w b e p d) l h)).0 in
      let other : eqb w v ≡ false = not_equal w v (omega arith) in
      rw other (none_entered l v (tail o s host inner (bare.NewView w b e p d) l h) lt)
  none_entered (bare.Enter w c p ∷ l) v h lt =
      let here : w ≡ current_view o l = eqb-true _ _ (and_parts (w == current_view o l) _ (head o s host inner (bare.Enter w c p) l h)).0 in
      let other : eqb w v ≡ false = not_equal w v (omega arith) in
      rw other (none_entered l v (tail o s host inner (bare.Enter w c p) l h) lt)
  none_entered (m ∷ l) v h lt = none_entered l v (tail o s host inner m l h) lt

  prepare_here : (v p : ℕ) (d : List ℕ) (l : List Bare) → is_ordered o s host inner (bare.Prepare v p d ∷ l) ≡ true → v ≡ current_view o l
  unfolding permits
  prepare_here v p d l h = eqb-true _ _ (and_parts (v == current_view o l) _ (head o s host inner (bare.Prepare v p d) l h)).0

  commit_here : (v p n : ℕ) (c d : List ℕ) (l : List Bare) → is_ordered o s host inner (bare.Commit v p n c d ∷ l) ≡ true → v ≡ current_view o l
  unfolding permits
  commit_here v p n c d l h = eqb-true _ _ (and_parts (v == current_view o l) _ (head o s host inner (bare.Commit v p n c d) l h)).0

  -- nor has it a position
  pub none_placed : (l : List Bare) (v : ℕ) → is_ordered o s host inner l ≡ true → current_view o l < v → last_position o l v ≡ 0
  unfolding last_position current_view
  none_placed [] v h lt = rw (not_equal o.view v lt) refl
  none_placed (bare.ViewChange w d ∷ l) v h lt =
      let up = change_rises w d l h in none_placed l v (tail o s host inner (bare.ViewChange w d) l h) (omega arith)
  none_placed (bare.Open e d ∷ l) v h lt =
      let here = open_here e d l h in
      rw (not_equal e.view v (omega arith)) (none_placed l v (tail o s host inner (bare.Open e d) l h) lt)
  none_placed (bare.Join w e c ∷ l) v h lt =
      let here = join_here w e c l h in
      rw (not_equal w v (omega arith)) (none_placed l v (tail o s host inner (bare.Join w e c) l h) lt)
  none_placed (bare.Prepare w p d ∷ l) v h lt =
      let here = prepare_here w p d l h in
      rw (not_equal w v (omega arith)) (none_placed l v (tail o s host inner (bare.Prepare w p d) l h) lt)
  none_placed (bare.Commit w p n c d ∷ l) v h lt =
      let here = commit_here w p n c d l h in
      rw (not_equal w v (omega arith)) (none_placed l v (tail o s host inner (bare.Commit w p n c d) l h) lt)
  none_placed (m ∷ l) v h lt = none_placed l v (tail o s host inner m l h) lt

  -- ---- one message more

  counter_more : (m : Bare) (l : List Bare) → (floor_after (floor_after o l) (m ∷ [])).counter ≡ (floor_after o (m ∷ l)).counter
  counter_more m l = omega arith

  view_more : (m : Bare) (l : List Bare) → current_view (floor_after o l) (m ∷ []) ≡ current_view o (m ∷ l)
  unfolding current_view
  view_more (bare.ViewChange v d) l = refl
  view_more m l = refl

  top_more : (m : Bare) (l : List Bare) → top_position (floor_after o l) (m ∷ []) ≡ top_position o (m ∷ l)
  unfolding top_position
  top_more (bare.ViewChange v d) l = refl
  top_more m l = refl

  point_more : (m : Bare) (l : List Bare) → last_checkpoint (floor_after o l) (m ∷ []) ≡ last_checkpoint o (m ∷ l)
  unfolding last_checkpoint
  point_more (bare.ViewChange v d) l = refl
  point_more m l = refl

  opened_more : (m : Bare) (l : List Bare) (v : ℕ) → v ≡ current_view o l → is_opened (floor_after o l) (m ∷ []) v ≡ (is_opening v m || phase_is_open (phase_from (is_opened o l v) (is_entered o l v)))
  unfolding is_opened
  opened_more m l v e = rw (or_false (is_opening v m), ← e, eq-eqb v v refl) refl

  entered_more : (m : Bare) (l : List Bare) (v : ℕ) → v ≡ current_view o l → is_entered (floor_after o l) (m ∷ []) v ≡ (is_entering v m || phase_is_entered (phase_from (is_opened o l v) (is_entered o l v)))
  unfolding is_entered
  entered_more m l v e = rw (or_false (is_entering v m), ← e, eq-eqb v v refl) refl

  opened_cons : (m : Bare) (l : List Bare) (v : ℕ) → is_opened o (m ∷ l) v ≡ (is_opening v m || is_opened o l v)
  unfolding is_opened
  opened_cons m l v = or_assoc (is_opening v m) (list_any (is_opening v) l) (o.view == v && phase_is_open o.phase)

  entered_cons : (m : Bare) (l : List Bare) (v : ℕ) → is_entered o (m ∷ l) v ≡ (is_entering v m || is_entered o l v)
  unfolding is_entered
  entered_cons m l v = or_assoc (is_entering v m) (list_any (is_entering v) l) (o.view == v && phase_is_entered o.phase)

  -- the phase, at the view that is present then
  abbrev phase_at : Floor → List Bare → ℕ → Phase
  phase_at g l v = phase_from (is_opened g l v) (is_entered g l v)

  phase_same_view : (m : Bare) (l : List Bare) (v : ℕ) → v ≡ current_view o l → phase_at (floor_after o l) (m ∷ []) v ≡ phase_at o (m ∷ l) v
  phase_same_view m l v e =
      rw (opened_more m l v e, entered_more m l v e, opened_cons m l v, entered_cons m l v)
      (phase_step (is_opening v m) (is_entering v m) (is_opened o l v) (is_entered o l v))

  phase_new_view : (v : ℕ) (d : List ℕ) (l : List Bare) → is_ordered o s host inner (bare.ViewChange v d ∷ l) ≡ true
      → phase_at (floor_after o l) (bare.ViewChange v d ∷ []) v ≡ phase_at o (bare.ViewChange v d ∷ l) v
  unfolding is_opened is_entered
  phase_new_view v d l h =
      let up = change_rises v d l h in
      let before = tail o s host inner (bare.ViewChange v d) l h in
      let not_here : eqb (current_view o l) v ≡ false = not_equal _ _ up.0 in
      let no_open : is_opened o l v ≡ false = none_opened l v before up.0 in
      let no_enter : is_entered o l v ≡ false = none_entered l v before up.0 in
      rw (not_here, no_open, no_enter) refl

  last_same_view : (m : Bare) (l : List Bare) (v : ℕ) → v ≡ current_view o l → last_position (floor_after o l) (m ∷ []) v ≡ last_position o (m ∷ l) v
  unfolding last_position
  last_same_view (bare.ViewChange w d) l v e = rw (← e, eq-eqb v v refl) refl
  last_same_view m l v e = rw (← e, eq-eqb v v refl) refl

  last_new_view : (v : ℕ) (d : List ℕ) (l : List Bare) → is_ordered o s host inner (bare.ViewChange v d ∷ l) ≡ true
      → last_position (floor_after o l) (bare.ViewChange v d ∷ []) v ≡ last_position o (bare.ViewChange v d ∷ l) v
  unfolding last_position
  last_new_view v d l h =
      let up = change_rises v d l h in
      rw (not_equal (current_view o l) v up.0, none_placed l v (tail o s host inner (bare.ViewChange v d) l h) up.0) refl

  -- One message more leads where it leads from the floor at which the list stands.
  pub advance : (m : Bare) (l : List Bare) → is_ordered o s host inner (m ∷ l) ≡ true → floor_after (floor_after o l) (m ∷ []) ≡ floor_after o (m ∷ l)
  unfolding current_view
  advance (bare.ViewChange v d) l h =
      same_floor _ _ _ _ _ _ _ _ _ _ _ _ (counter_more (bare.ViewChange v d) l) refl (phase_new_view v d l h) (last_new_view v d l h) (top_more (bare.ViewChange v d) l) (point_more (bare.ViewChange v d) l)
  advance m l h =
      same_floor _ _ _ _ _ _ _ _ _ _ _ _ (counter_more m l) refl (phase_same_view m l (current_view o l) refl) (last_same_view m l (current_view o l) refl) (top_more m l) (point_more m l)
