-- One message of the primary orders a position of its view, and each vote names it.
--
-- In an ordered list no two NEW_VIEWs of a view stand (`not_twice`), so two evidences of a view are of one (`one_evidence`). A PREPARE is at the
-- position after the last, and the view's plan ends at or below the last position once the view is open. So no two messages of the primary order
-- one position (`one_order`). A vote names the message that orders its position, where that message's counter is within the prefix (`names`): a
-- PREPARE is that message, the PREPARE in a COMMIT was issued, and an OPEN has evidence of the NEW_VIEW.
use Rattle.std.proofs.Common.{◌≡◌, ℕ, ◌+◌, ◌≤◌, ◌<◌, Bool, true, false, ◌&&◌, ◌||◌, not, List, [], ◌∷◌, ◌++◌, length, refl, sym, ap, subst, ◌∙◌, inl, inr, arith, eqb, Option, Some, None, append_assoc}
use Rattle.std.specs.Prelude.{◌==◌, if◌then◌else◌}
use Rattle.std.specs.List.{list_any}
use Rattle.std.proofs.lemmas.Bool.{and_parts, eqb-true, eq-eqb, cases_order, cases_lt, not-true, or_right}
use Rattle.std.proofs.lemmas.Option.{same_Some}
use Rattle.mb_base.specs.declared.shape.Shape.{Shape}
use Rattle.mb_base.specs.Shapes.{Bytes, primary}
use Rattle.mb_parts.specs.declared.certificates.Evidence.{Evidence}
use Rattle.mb_parts.specs.Bares.{Bare}
use Rattle.mb_parts.specs.Bares as bare
use Rattle.mb_parts.specs.Ordered.{initial_floor, is_opening, permits, is_ordered, current_view, is_opened, is_entered, is_entering, last_position}
use Rattle.mb_parts.specs.Claims.{Claim}
use Rattle.mb_parts.specs.Certificates.{inner_valid, is_evidence}
use Rattle.mb_parts.specs.Counters.{at_counter}
use Rattle.mb_parts.proofs.Counters.{at_here, at_less, at_more, at_split}
use Rattle.mb_parts.proofs.OrderedParts.{head, tail, ordered_before}
use Rattle.mb_model.specs.declared.known.Vote.{Vote}
use Rattle.mb_model.specs.Committed.{Plans, planned, vote_by, vote_in}
use Rattle.mb_agreement.specs.Agreement.{IsConsistentRecord, OneEvidence}
use Rattle.mb_model.proofs.Options.{or_some, if_some, map_some}
use Rattle.mb_agreement.proofs.WholeLists.{not_both, prepare_is, commit_is, open_is, opened_grows, last_grows, has_plan, planned_within, if_is}
use Rattle.mb_agreement.proofs.ShownOpenings.{opened_list}

module _ (s : Shape) (secret : Bytes) (plans : Plans) (issued : Claim → Bool) (prefix : ℕ → List Bare) (facts : IsConsistentRecord s secret plans issued prefix) where
  -- the batch's digest that a message of the primary puts at a position of a view
  unfoldable pub ordered_by : ℕ → ℕ → Bare → Option Bytes
  ordered_by v p (bare.Prepare w q d) = if w == v && q == p then Some d else None
  ordered_by v p (bare.NewView w b e plan d) = if w == v then planned (plans plan) p else None
  ordered_by v p _ = None

  module _ (h : ℕ) where
    abbrev IsOrdered : List Bare → Type 0
    IsOrdered l = is_ordered initial_floor s h (inner_valid s issued) l ≡ true

    rest : (m : Bare) (l : List Bare) → IsOrdered (m ∷ l) → IsOrdered l
    rest m l o = tail initial_floor s h (inner_valid s issued) m l o

    opened_later : (later l : List Bare) (v : ℕ) → is_opened initial_floor l v ≡ true → is_opened initial_floor (later ++ l) v ≡ true
    opened_later [] l v e = e
    opened_later (m ∷ later) l v e = opened_grows s secret plans issued prefix facts h m (later ++ l) v (opened_later later l v e)

    last_later : (later l : List Bare) (v : ℕ) → IsOrdered (later ++ l) → last_position initial_floor l v ≤ last_position initial_floor (later ++ l) v
    last_later [] l v o = omega arith
    last_later (m ∷ later) l v o =
        let a = last_grows s secret plans issued prefix facts h m (later ++ l) v o in
        let b = last_later later l v (rest m (later ++ l) o) in
        omega arith

    entered_later : (later l : List Bare) (v : ℕ) → is_entered initial_floor l v ≡ true → is_entered initial_floor (later ++ l) v ≡ true
    unfolding is_entered
    entered_later [] l v e = e
    entered_later (m ∷ later) l v e = grow (is_entering v m) (list_any (is_entering v) (later ++ l)) (eqb 0 v && false) (entered_later later l v e) where
      grow : (a b c : Bool) → (b || c) ≡ true → ((a || b) || c) ≡ true
      grow true b c e = refl
      grow false b c e = e

    -- a PREPARE in a list: its view is opened, and its position is taken
    prepared : (l : List Bare) (c v p : ℕ) (d : Bytes) → IsOrdered l → at_counter l c ≡ Some (bare.Prepare v p d) → (is_opened initial_floor l v ≡ true) × (p ≤ last_position initial_floor l v)
    unfolding is_opened last_position
    prepared l c v p d o e =
        let t = at_split l c (bare.Prepare v p d) e in
        let all : IsOrdered (t.later ++ bare.Prepare v p d ∷ t.before) = subst (λ (x : List Bare). IsOrdered x) (sym t.is) o in
        let here = ordered_before initial_floor s h (inner_valid s issued) t.later (bare.Prepare v p d ∷ t.before) all in
        let i = (prepare_is s secret plans issued prefix facts h v p d t.before here).0 in
        let last = last_later t.later (bare.Prepare v p d ∷ t.before) v all in
        let now : last_position initial_floor (bare.Prepare v p d ∷ t.before) v ≡ p = rw (eq-eqb v v refl) refl in (
          subst (λ (x : List Bare). is_opened initial_floor x v ≡ true) t.is (opened_later t.later (bare.Prepare v p d ∷ t.before) v i.opened),
          subst (λ (x : List Bare). p ≤ last_position initial_floor x v) t.is (omega (arith, now)),
        )

    introduced : (l : List Bare) (c v b f : ℕ) (q d : Bytes) → at_counter l c ≡ Some (bare.NewView v b f q d) → is_entered initial_floor l v ≡ true
    unfolding is_entered
    introduced l c v b f q d e =
        let t = at_split l c (bare.NewView v b f q d) e in
        let here : is_entered initial_floor (bare.NewView v b f q d ∷ t.before) v ≡ true = rw (eq-eqb v v refl) refl in
        subst (λ (x : List Bare). is_entered initial_floor x v ≡ true) t.is (entered_later t.later (bare.NewView v b f q d ∷ t.before) v here)

    -- The view has neither a NEW_VIEW nor an opening yet.
    record IsNew (l : List Bare) (v : ℕ) : Type 0 where
      unentered : is_entered initial_floor l v ≡ false
      unopened : is_opened initial_floor l v ≡ false

    new_is : (v b f : ℕ) (q d : Bytes) (l : List Bare) → IsOrdered (bare.NewView v b f q d ∷ l) → IsNew l v
    unfolding permits
    new_is v b f q d l o =
        let a = and_parts (v == current_view initial_floor l) _ (head initial_floor s h (inner_valid s issued) (bare.NewView v b f q d) l o) in
        let c = and_parts (h == primary s v) _ a.1 in
        let e = and_parts (not (is_entered initial_floor l v)) _ c.1 in
        record { unentered = not-true _ e.0; unopened = not-true _ e.1 }

    -- no two NEW_VIEWs of one view stand in the list
    not_twice : (m : Bare) (l : List Bare) (c v b f b' f' : ℕ) (q d q' d' : Bytes) → m ≡ bare.NewView v b f q d → IsOrdered (m ∷ l) → at_counter l c ≡ Some (bare.NewView v b' f' q' d') → ⊥
    not_twice m l c v b f b' f' q d q' d' is o e =
        let n = new_is v b f q d l (subst (λ (x : Bare). IsOrdered (x ∷ l)) is o) in
        not_both _ (introduced l c v b' f' q' d' e) n.unentered

  -- at two counters, the lower one first
  record Lower (l : List Bare) (c : ℕ) (m : Bare) (d : ℕ) (n : Bare) : Type 0 where
    before : List Bare
    later : List Bare
    is : later ++ n ∷ before ≡ l
    first : at_counter before c ≡ Some m

  lower : (l : List Bare) (c : ℕ) (m : Bare) (d : ℕ) (n : Bare) → c < d → at_counter l c ≡ Some m → at_counter l d ≡ Some n → Lower l c m d n
  lower l c m d n lt a b =
      let t = at_split l d n b in
      let inside : c ≤ length t.before = omega (arith, t.counter) in
      let whole : at_counter (t.later ++ n ∷ t.before) c ≡ Some m = rw t.is a in
      let shorter : at_counter (n ∷ t.before) c ≡ Some m = sym (at_less t.later (n ∷ t.before) c (omega arith)) ∙ whole in
      let shortest : at_counter t.before c ≡ Some m = sym (at_less (n ∷ []) t.before c inside) ∙ shorter in
      record { before = t.before; later = t.later; is = t.is; first = shortest }

  abbrev leader : ℕ → List Bare
  leader v = prefix (primary s v)

  leader_good : (v : ℕ) → IsOrdered (primary s v) (leader v)
  leader_good v = facts.ordered (primary s v)

  lower_good : (v c d : ℕ) (m n : Bare) → (t : Lower (leader v) c m d n) → IsOrdered (primary s v) (n ∷ t.before)
  lower_good v c d m n t = ordered_before initial_floor s (primary s v) (inner_valid s issued) t.later (n ∷ t.before) (subst (λ (x : List Bare). IsOrdered (primary s v) x) (sym t.is) (leader_good v))

  -- one NEW_VIEW of a view stands in its primary's list
  pub one_new_view : (v c c' b f b' f' : ℕ) (q d q' d' : Bytes) → at_counter (leader v) c ≡ Some (bare.NewView v b f q d) → at_counter (leader v) c' ≡ Some (bare.NewView v b' f' q' d') → c ≡ c'
  one_new_view v c c' b f b' f' q d q' d' x y = elim (cases_order c c') [
    | inl same ↦ same
    | inr (inl less) ↦
        let t = lower (leader v) c (bare.NewView v b f q d) c' (bare.NewView v b' f' q' d') less x y in
        absurd (not_twice (primary s v) (bare.NewView v b' f' q' d') t.before c v b' f' b f q' d' q d refl (lower_good v c c' _ _ t) t.first)
    | inr (inr more) ↦
        let t = lower (leader v) c' (bare.NewView v b' f' q' d') c (bare.NewView v b f q d) more y x in
        absurd (not_twice (primary s v) (bare.NewView v b f q d) t.before c' v b f b' f' q d q' d' refl (lower_good v c' c _ _ t) t.first)
  ]

  same_new_view : (v b f b' f' : ℕ) (q d q' d' : Bytes) → bare.NewView v b f q d ≡ bare.NewView v b' f' q' d' → (b ≡ b') × (f ≡ f') × (q ≡ q')
  same_new_view v b f b' f' q d q' d' e = (cc, cc, cc)

  -- two evidences of one view are of one NEW_VIEW
  pub one_evidence : OneEvidence s secret plans issued prefix
  one_evidence d e x y same =
      let a = facts.new_views d x in
      let b = facts.new_views e y in
      let a2 : at_counter (leader e.view) d.counter ≡ Some (bare.NewView e.view d.base d.end d.plan d.body) = rw same at a in
      let c = one_new_view e.view d.counter e.counter d.base d.end e.base e.end d.plan d.body e.plan e.body a2 b in
      let b2 : at_counter (leader e.view) d.counter ≡ Some (bare.NewView e.view e.base e.end e.plan e.body) = rw c b in
      let m = same_Some _ _ (sym a2 ∙ b2) in
      let parts = same_new_view e.view d.base d.end e.base e.end d.plan d.body e.plan e.body m in
      (c, parts.0, parts.1, parts.2)

  -- ---- one message orders a position

  prepare_orders : (v p w q : ℕ) (d r : Bytes) → ordered_by v p (bare.Prepare w q d) ≡ Some r → (w ≡ v) × (q ≡ p)
  unfolding ordered_by
  prepare_orders v p w q d r e = let a = and_parts (w == v) (q == p) (if_is _ _ r e).0 in (eqb-true _ _ a.0, eqb-true _ _ a.1)

  new_orders : (v p w b f : ℕ) (q d r : Bytes) → ordered_by v p (bare.NewView w b f q d) ≡ Some r → (w ≡ v) × (planned (plans q) p ≡ Some r)
  unfolding ordered_by
  new_orders v p w b f q d r e = let a = if_some (w == v) _ r e in (eqb-true _ _ a.0, a.1)

  zero_opened : (l : List Bare) (v : ℕ) → v ≡ 0 → is_opened initial_floor l v ≡ true
  unfolding is_opened
  zero_opened l v z = or_right (list_any (is_opening v) l) (eqb 0 v && true) (rw (eq-eqb 0 v (sym z)) refl)

  view_zero : (v c b f : ℕ) (q d : Bytes) (l : List Bare) → IsOrdered (primary s v) l → v ≡ 0 → at_counter l c ≡ Some (bare.NewView v b f q d) → ⊥
  view_zero v c b f q d l o z e =
      let t = at_split l c (bare.NewView v b f q d) e in
      let here = ordered_before initial_floor s (primary s v) (inner_valid s issued) t.later (bare.NewView v b f q d ∷ t.before) (subst (λ (x : List Bare). IsOrdered (primary s v) x) (sym t.is) o) in
      not_both _ (zero_opened t.before v z) (new_is (primary s v) v b f q d t.before here).unopened

  -- behind the NEW_VIEW that plans a position, no PREPARE takes it
  plan_below : (v p c b f : ℕ) (q d r : Bytes) (l later : List Bare) → later ++ l ≡ leader v → IsOrdered (primary s v) l → is_opened initial_floor l v ≡ true → at_counter l c ≡ Some (bare.NewView v b f q d)
      → planned (plans q) p ≡ Some r → p ≤ last_position initial_floor l v
  plan_below v p c b f q d r l later is o opened e pl = elim (cases_lt 0 v) [
    | inl above ↦
        let by = opened_list s secret plans issued prefix facts (primary s v) 0 [] l v o above opened in
        let there : at_counter (leader v) by.0.counter ≡ Some (bare.NewView v by.0.base by.0.end by.0.plan by.0.body) = rw by.1.view at (facts.new_views by.0 by.1.ok) in
        let here : at_counter (leader v) c ≡ Some (bare.NewView v b f q d) = subst (λ (x : List Bare). at_counter x c ≡ Some (bare.NewView v b f q d)) is (at_more later l c _ e) in
        let same = one_new_view v c by.0.counter b f by.0.base by.0.end q d by.0.plan by.0.body here there in
        let here2 : at_counter (leader v) by.0.counter ≡ Some (bare.NewView v b f q d) = rw same at here in
        let m = same_Some _ _ (sym here2 ∙ there) in
        let parts = same_new_view v b f by.0.base by.0.end q d by.0.plan by.0.body m in
        let within = planned_within s secret plans issued prefix facts by.0 p r by.1.ok (rw parts.2 at pl) in
        omega (arith, within.1, by.1.ended)
    | inr least ↦ absurd (view_zero v c b f q d l o (omega arith) e)
  ]

  -- of two messages that order one position, none stands before the other
  none_before : (v p c : ℕ) (m n : Bare) (d r : Bytes) (l later : List Bare) → later ++ n ∷ l ≡ leader v → IsOrdered (primary s v) (n ∷ l) → at_counter l c ≡ Some m
      → ordered_by v p m ≡ Some d → ordered_by v p n ≡ Some r → ⊥
  unfolding ordered_by
  none_before v p c (bare.Prepare w q d1) (bare.Prepare w' q' d2) d r l later is o e x y =
      let a = prepare_orders v p w q d1 d x in
      let b = prepare_orders v p w' q' d2 r y in
      let i = (prepare_is s secret plans issued prefix facts (primary s v) w' q' d2 l o).0 in
      let j = prepared (primary s v) l c w q d1 (rest (primary s v) (bare.Prepare w' q' d2) l o) e in
      let place : q' ≡ last_position initial_floor l v + 1 = rw b.0 at i.place in
      let taken : q ≤ last_position initial_floor l v = rw a.0 at j.1 in
      omega (arith, a.1, b.1)
  none_before v p c (bare.NewView w b1 f1 q1 d1) (bare.Prepare w' q' d2) d r l later is o e x y =
      let a = new_orders v p w b1 f1 q1 d1 d x in
      let b = prepare_orders v p w' q' d2 r y in
      let i = (prepare_is s secret plans issued prefix facts (primary s v) w' q' d2 l o).0 in
      let place : q' ≡ last_position initial_floor l v + 1 = rw b.0 at i.place in
      let opened : is_opened initial_floor l v ≡ true = rw b.0 at i.opened in
      let there : at_counter l c ≡ Some (bare.NewView v b1 f1 q1 d1) = rw a.0 at e in
      let low = plan_below v p c b1 f1 q1 d1 d l (later ++ bare.Prepare w' q' d2 ∷ []) (append_assoc later (bare.Prepare w' q' d2 ∷ []) l ∙ is) (rest (primary s v) (bare.Prepare w' q' d2) l o) opened there a.1 in
      omega (arith, b.1)
  none_before v p c (bare.Prepare w q d1) (bare.NewView w' b2 f2 q2 d2) d r l later is o e x y =
      let a = prepare_orders v p w q d1 d x in
      let b = new_orders v p w' b2 f2 q2 d2 r y in
      let n = new_is (primary s v) w' b2 f2 q2 d2 l o in
      let j = prepared (primary s v) l c w q d1 (rest (primary s v) (bare.NewView w' b2 f2 q2 d2) l o) e in
      not_both _ (rw (a.0 ∙ sym b.0) at j.0) n.unopened
  none_before v p c (bare.NewView w b1 f1 q1 d1) (bare.NewView w' b2 f2 q2 d2) d r l later is o e x y =
      let a = new_orders v p w b1 f1 q1 d1 d x in
      let b = new_orders v p w' b2 f2 q2 d2 r y in
      not_twice (primary s v) (bare.NewView w' b2 f2 q2 d2) l c w' b2 f2 b1 f1 q2 d2 q1 d1 refl o (rw (a.0 ∙ sym b.0) at e)
  none_before v p c (bare.Commit w q n f d1) n2 d r l later is o e x y = absurd cc
  none_before v p c (bare.Checkpoint q t d1) n2 d r l later is o e x y = absurd cc
  none_before v p c (bare.ViewChange w d1) n2 d r l later is o e x y = absurd cc
  none_before v p c (bare.Enter w q d1) n2 d r l later is o e x y = absurd cc
  none_before v p c (bare.Open f d1) n2 d r l later is o e x y = absurd cc
  none_before v p c (bare.Join w f t) n2 d r l later is o e x y = absurd cc
  none_before v p c m (bare.Commit w q n f d1) d r l later is o e x y = absurd cc
  none_before v p c m (bare.Checkpoint q t d1) d r l later is o e x y = absurd cc
  none_before v p c m (bare.ViewChange w d1) d r l later is o e x y = absurd cc
  none_before v p c m (bare.Enter w q d1) d r l later is o e x y = absurd cc
  none_before v p c m (bare.Open f d1) d r l later is o e x y = absurd cc
  none_before v p c m (bare.Join w f t) d r l later is o e x y = absurd cc

  -- the message at this counter of the primary puts the batch there
  pub record Orders (v p : ℕ) (c : ℕ) (r : Bytes) : Type 0 where
    pub says : Bare
    pub there : at_counter (leader v) c ≡ Some says
    pub puts : ordered_by v p says ≡ Some r

  pub one_order : (v p c c' : ℕ) (r r' : Bytes) → Orders v p c r → Orders v p c' r' → (c ≡ c') × (r ≡ r')
  one_order v p c c' r r' x y = elim (cases_order c c') [
    | inl same ↦
        let m : x.says ≡ y.says = same_Some _ _ (sym x.there ∙ (ap (at_counter (leader v)) same ∙ y.there)) in
        (same, same_Some r r' (sym x.puts ∙ (ap (ordered_by v p) m ∙ y.puts)))
    | inr (inl less) ↦
        let t = lower (leader v) c x.says c' y.says less x.there y.there in
        absurd (none_before v p c x.says y.says r r' t.before t.later t.is (lower_good v c c' _ _ t) t.first x.puts y.puts)
    | inr (inr more) ↦
        let t = lower (leader v) c' y.says c x.says more y.there x.there in
        absurd (none_before v p c' y.says x.says r' r t.before t.later t.is (lower_good v c' c _ _ t) t.first y.puts x.puts)
  ]

  -- ---- a vote names the message that orders its position

  commit_claim : (g v p n : ℕ) (c d : Bytes) → inner_valid s issued (bare.Commit v p n c d) ≡ true → issued (record { host = primary s v; counter = n; says = bare.Prepare v p d; cert = c }) ≡ true
  unfolding inner_valid
  commit_claim g v p n c d e = e

  pub orders_prepare : (v p : ℕ) (d : Bytes) → ordered_by v p (bare.Prepare v p d) ≡ Some d
  unfolding ordered_by
  orders_prepare v p d = rw (eq-eqb v v refl, eq-eqb p p refl) refl

  pub orders_plan : (v p b f : ℕ) (q d r : Bytes) → planned (plans q) p ≡ Some r → ordered_by v p (bare.NewView v b f q d) ≡ Some r
  unfolding ordered_by
  orders_plan v p b f q d r e = rw (eq-eqb v v refl) e

  vote_parts : (c : ℕ) (d : Bytes) (x : Vote) → record { counter = c; request = d } ≡ x → (c ≡ x.counter) × (d ≡ x.request)
  vote_parts c d x e = (ap (λ (y : Vote). y.counter) e, ap (λ (y : Vote). y.request) e)

  moved : (v p v' p' c c' : ℕ) (r r' : Bytes) → v ≡ v' → p ≡ p' → c ≡ c' → r ≡ r' → Orders v p c r → Orders v' p' c' r'
  moved v p v' p' c c' r r' a b e f o = subst (λ (x : ℕ). Orders x p' c' r') a (subst (λ (x : ℕ). Orders v x c' r') b (subst (λ (x : ℕ). Orders v p x r') e (subst (λ (x : Bytes). Orders v p c x) f o)))

  head_names : (g : ℕ) (m : Bare) (l later : List Bare) (v p : ℕ) (x : Vote) → later ++ m ∷ l ≡ prefix g → IsOrdered g (m ∷ l) → vote_by plans (length l + 1) m v p ≡ Some x
      → x.counter ≤ length (leader v) → Orders v p x.counter x.request
  unfolding vote_by
  head_names g (bare.Prepare w q d) l later v p x is o e le =
      let a = if_is _ _ x e in
      let t = and_parts (w == v) (q == p) a.0 in
      let i = prepare_is s secret plans issued prefix facts g w q d l o in
      let y = vote_parts (length l + 1) d x a.1 in
      let there : at_counter (leader w) (length l + 1) ≡ Some (bare.Prepare w q d) = subst (λ (z : List Bare). at_counter z (length l + 1) ≡ Some (bare.Prepare w q d)) (is ∙ ap prefix i.1) (at_here later (bare.Prepare w q d) l) in
      moved w q v p (length l + 1) x.counter d x.request (eqb-true _ _ t.0) (eqb-true _ _ t.1) y.0 y.1 (record { says = bare.Prepare w q d; there = there; puts = orders_prepare w q d })
  head_names g (bare.Commit w q n c d) l later v p x is o e le =
      let a = if_is _ _ x e in
      let t = and_parts (w == v) (q == p) a.0 in
      let i = commit_is s secret plans issued prefix facts g w q n c d l o in
      let y = vote_parts n d x a.1 in
      let short : n ≤ length (leader w) = rw (eqb-true _ _ t.0, y.0) le in
      let there = facts.stands (record { host = primary s w; counter = n; says = bare.Prepare w q d; cert = c }) (commit_claim g w q n c d i.1) short in
      moved w q v p n x.counter d x.request (eqb-true _ _ t.0) (eqb-true _ _ t.1) y.0 y.1 (record { says = bare.Prepare w q d; there = there; puts = orders_prepare w q d })
  head_names g (bare.Open f d) l later v p x is o e le =
      let i = open_is s secret plans issued prefix facts g f d l o in
      let a = if_some (f.view == v) _ x e in
      let b = map_some _ _ x a.1 in
      let y = vote_parts f.counter b.0 x b.2 in
      moved f.view p v p f.counter x.counter b.0 x.request (eqb-true _ _ a.0) refl y.0 y.1
      (record { says = bare.NewView f.view f.base f.end f.plan f.body; there = facts.new_views f i.evidence; puts = orders_plan f.view p f.base f.end f.plan f.body b.0 b.1 })
  head_names g (bare.Join w f c) l later v p x is o e le = absurd cc
  head_names g (bare.ViewChange w d) l later v p x is o e le = absurd cc
  head_names g (bare.NewView w b f q d) l later v p x is o e le = absurd cc
  head_names g (bare.Enter w c q) l later v p x is o e le = absurd cc
  head_names g (bare.Checkpoint q t d) l later v p x is o e le = absurd cc

  pub names : (g : ℕ) (l later : List Bare) (v p : ℕ) (x : Vote) → later ++ l ≡ prefix g → IsOrdered g l → vote_in plans l v p ≡ Some x
      → x.counter ≤ length (leader v) → Orders v p x.counter x.request
  unfolding vote_in
  names g [] later v p x is o e le = absurd cc
  names g (m ∷ l) later v p x is o e le = elim (or_some (vote_by plans (length l + 1) m v p) (vote_in plans l v p) x e) [
    | inl here ↦ head_names g m l later v p x is o here le
    | inr before ↦ names g l (later ++ m ∷ []) v p x (append_assoc later (m ∷ []) l ∙ is) (rest g m l o) before le
  ]

  no_order : {r : Bytes} → None ≡ Some r → ⊥
  no_order e = cc

  -- ---- what orders a position of a view above 0, and the view's plan

  -- the message that orders the position is behind the base, and within the plan it is the plan's
  pub order_in_plan : (v p c : ℕ) (r : Bytes) (e : Evidence) → Orders v p c r → is_evidence s issued e ≡ true → e.view ≡ v → 0 < v
      → (e.base < p) × (p ≤ e.end → planned (plans e.plan) p ≡ Some r)
  unfolding ordered_by
  order_in_plan v p c r e o ok same above = by_kind o.says o.there o.puts where
    base_low : e.base ≤ e.end
    base_low = let h = has_plan s secret plans issued prefix facts e ok in omega (arith, h.base, h.end)

    prepared_above : (q : ℕ) (d : Bytes) → at_counter (leader v) c ≡ Some (bare.Prepare v q d) → e.end < q
    prepared_above q d at =
        let t = at_split (leader v) c (bare.Prepare v q d) at in
        let all : IsOrdered (primary s v) (t.later ++ bare.Prepare v q d ∷ t.before) = subst (λ (x : List Bare). IsOrdered (primary s v) x) (sym t.is) (leader_good v) in
        let here = ordered_before initial_floor s (primary s v) (inner_valid s issued) t.later (bare.Prepare v q d ∷ t.before) all in
        let i = (prepare_is s secret plans issued prefix facts (primary s v) v q d t.before here).0 in
        let by = opened_list s secret plans issued prefix facts (primary s v) 0 [] t.before v (rest (primary s v) (bare.Prepare v q d) t.before here) above i.opened in
        let one = one_evidence by.0 e by.1.ok ok (by.1.view ∙ sym same) in
        omega (arith, by.1.ended, one.2, i.place)

    by_kind : (m : Bare) → at_counter (leader v) c ≡ Some m → ordered_by v p m ≡ Some r → (e.base < p) × (p ≤ e.end → planned (plans e.plan) p ≡ Some r)
    by_kind (bare.Prepare w q d) at puts =
        let a = prepare_orders v p w q d r puts in
        let above_end = prepared_above q d (rw a.0 at at) in
        (omega (arith, a.1, base_low), λ le. absurd (omega (arith, a.1)))
    by_kind (bare.NewView w b f q d) at puts =
        let a = new_orders v p w b f q d r puts in
        let here : at_counter (leader v) c ≡ Some (bare.NewView v b f q d) = rw a.0 at at in
        let there : at_counter (leader v) e.counter ≡ Some (bare.NewView v e.base e.end e.plan e.body) = rw same at (facts.new_views e ok) in
        let one = one_new_view v c e.counter b f e.base e.end q d e.plan e.body here there in
        let here2 : at_counter (leader v) e.counter ≡ Some (bare.NewView v b f q d) = rw one at here in
        let parts = same_new_view v b f e.base e.end q d e.plan e.body (same_Some _ _ (sym here2 ∙ there)) in
        let pl : planned (plans e.plan) p ≡ Some r = rw parts.2 at a.1 in
        let within = planned_within s secret plans issued prefix facts e p r ok pl in
        (within.0, λ le. pl)
    by_kind (bare.Commit w q n f d) at puts = absurd (no_order puts)
    by_kind (bare.Checkpoint q t d) at puts = absurd (no_order puts)
    by_kind (bare.ViewChange w d) at puts = absurd (no_order puts)
    by_kind (bare.Enter w q d) at puts = absurd (no_order puts)
    by_kind (bare.Open f d) at puts = absurd (no_order puts)
    by_kind (bare.Join w f t) at puts = absurd (no_order puts)
