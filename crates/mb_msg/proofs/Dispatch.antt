-- Reading by the kind, and writing it again: the entries of a VIEW_CHANGE, VIEW_CHANGE and NEW_VIEW, stamped messages, LOG.
use Rattle.std.proofs.Common.{◌≡◌, ◌≢◌, ℕ, ◌+◌, ◌^◌, ◌≤◌, ◌++◌, Bool, true, false, eqb, cond, not, ◌&&◌, Option, None, Ok, length, refl, sym, ap, subst, ◌∙◌, arith, append_assoc, lit<, lit≤}
use Rattle.std.proofs.lemmas.Bool.{eqb-true, eqb-false}
use Rattle.std.specs.Int.{w8, w16, w64}
use Rattle.mb_base.specs.Limits.{entry_limit}
use Rattle.mb_base.specs.declared.shape.Shape.{Shape}
use Rattle.mb_base.specs.Shapes.{Bytes, IsShape, quorum}
use Rattle.mb_base.specs.Spelling.{number, IsBytes}
use Rattle.mb_base.specs.Reading.{Cursor, cursor, Reads, map_at}
use Rattle.mb_base.proofs.Laws.{IsField, Takes, bind_ok, ok_is, iff_field, checked_field, pair_field, then_field, made_field, ranged_field, optional_field, list_field, wide8, wide16}
use Rattle.mb_parts.specs.Spelling.{ui_bytes}
use Rattle.mb_parts.proofs.Fields.{IsMember, host_field, position_field, base_field, end_field, digest_field, ui_from_field, ui_field, members_field, any_stable_field, floor_cert_field, any_evidence_field}
use Rattle.mb_msg.specs.declared.stamped.Shown.{Shown}
use Rattle.mb_msg.specs.declared.stamped.Shown.TheVariants as shown
use Rattle.mb_msg.specs.declared.stamped.Stamped.{Stamped}
use Rattle.mb_msg.specs.declared.stamped.Stamped.TheVariants as stamped
use Rattle.mb_msg.specs.declared.change.ViewChange.{ViewChange}
use Rattle.mb_msg.specs.Bodies.{form_of, body_bytes}
use Rattle.mb_msg.specs.Spelling.{shown_kind, behind_shown_kind, shown_bytes, stamped_kind, behind_stamped_kind, stamped_bytes, plan_bytes, change_body_bytes, view_change_bytes, member_bytes, new_view_body_bytes, new_view_bytes, log_bytes}
use Rattle.mb_msg.specs.Fits.{shown_limit, FitsShown, FitsStamped, FitsChangeBody, FitsViewChange, FitsMember, FitsNewViewBody, FitsNewView, FitsLog}
use Rattle.mb_msg.specs.Reading.{is_stamped_kind, stamped_kind_at, behind_shown_kind_at, second, shown_at, change_body_of_fields, change_body_at, view_change_of_fields, view_change_from, member_at, new_view_body_of, new_view_body_at, new_view_of_fields, new_view_at, behind_stamped_kind_at, stamped_at, log_of_fields, log_at}
use Rattle.mb_msg.proofs.Bodies.{form_field, body_field, form_below}
use Rattle.mb_msg.proofs.KindFields.{prepare_field, commit_field, checkpoint_field, bare_checkpoint_field, bare_view_change_field, bare_new_view_field, enter_field, open_field, join_field}

-- ---- the half of a field's law that reading needs

abbrev pub Yields : {A : Type 0} → (Cursor → Reads A) → (A → Bytes) → (A → Type 0) → Type 0
Yields {A} f text P = (c : Cursor) (x : A) (t : Cursor) → IsBytes c.rest → f c ≡ Ok (x, t) → Takes c (text x) t × P x

pub made_yields : {A B : Type 0} (make : A → B) (f : Cursor → Reads A) (tf : A → Bytes) (P : A → Type 0) (text : B → Bytes) (Q : B → Type 0)
    → ((x : A) → text (make x) ≡ tf x) → ((x : A) → P x → Q (make x)) → IsField f tf P → Yields (map_at make f) text Q
made_yields {A} {B} make f tf P text Q spelled into hf c y t fits e =
    let a = bind_ok (f c) (λ v. Ok (make v.0, v.1)) (y, t) e in
    let p = hf.takes c a.0.0 a.0.1 fits a.1 in
    let made : Takes c (text (make a.0.0)) a.0.1 = subst (λ (u : Bytes). Takes c u a.0.1) (sym (spelled a.0.0)) p.0 in
    subst (λ (z : B × Cursor). Takes c (text z.0) z.1 × Q z.0) (ok_is (make a.0.0, a.0.1) (y, t) a.2) (made, into a.0.0 p.1)

pub cond_yields : {A : Type 0} (b : Bool) (f g : Cursor → Reads A) (tf : A → Bytes) (P : A → Type 0) → (b ≡ true → Yields f tf P) → (b ≡ false → Yields g tf P) → Yields (cond b f g) tf P
cond_yields true f g tf P first second = first refl
cond_yields false f g tf P first second = second refl

pub made_again : {A B : Type 0} (make : A → B) (f : Cursor → Reads A) (tf : A → Bytes) (P : A → Type 0) → IsField f tf P → (x : A) (at : ℕ) (rest : Bytes) → P x
    → map_at make f (cursor at (tf x ++ rest)) ≡ Ok (make x, cursor (at + length (tf x)) rest)
made_again make f tf P hf x at rest fits = rw (hf.again x at rest fits) refl

-- ---- the kinds that are stamped

IsStampedKind : ℕ → Type 0
IsStampedKind k = ((2 ≤ k) × (k ≤ 11)) × (is_stamped_kind k ≡ true)

pub stamped_kind_field : IsField stamped_kind_at (number w8) (λ k. ((2 ≤ k) × (k ≤ 11)) × (is_stamped_kind k ≡ true))
stamped_kind_field = checked_field is_stamped_kind _ _ _ (ranged_field w8 (2 ^ 8) 2 11 (lit< tt) wide8)

-- the last of them, where it is none of the others
last_kind : (k : ℕ) → ((2 ≤ k) × (k ≤ 11)) × (is_stamped_kind k ≡ true) → k ≢ 2 → k ≢ 3 → k ≢ 5 → k ≢ 7 → k ≢ 8 → k ≢ 9 → k ≢ 10 → k ≡ 11
last_kind k h n2 n3 n5 n7 n8 n9 n10 = go (eqb k 4) (eqb k 6) refl refl h.1 where
  go : (a b : Bool) → eqb k 4 ≡ a → eqb k 6 ≡ b → (not a && not b) ≡ true → k ≡ 11
  go true b ea eb e = absurd cc
  go false true ea eb e = absurd cc
  go false false ea eb e = let n4 = eqb-false k 4 ea in let n6 = eqb-false k 6 eb in omega (arith, h.0.0, h.0.1, n2, n3, n4, n5, n6, n7, n8, n9, n10)

module _ (s : Shape) (h : IsShape s) where
  -- ---- entries of a VIEW_CHANGE

  abbrev ShownFits : ℕ → Shown → Type 0
  ShownFits kind m = (shown_kind m ≡ kind) × FitsShown s m

  shown_yields : (k : ℕ) → ((2 ≤ k) × (k ≤ 11)) × (is_stamped_kind k ≡ true) → Yields (behind_shown_kind_at s k) behind_shown_kind (ShownFits k)
  unfolding behind_shown_kind_at
  shown_yields k ok =
      let F = behind_shown_kind in
      let P = ShownFits k in
      cond_yields (eqb k 2) _ _ F P (λ e. made_yields shown.Prepare _ _ _ F P (λ x. refl) (λ x f. (sym (eqb-true k 2 e), f)) (prepare_field s h)) (λ n2.
      cond_yields (eqb k 3) _ _ F P (λ e. made_yields shown.Commit _ _ _ F P (λ x. refl) (λ x f. (sym (eqb-true k 3 e), f)) (commit_field s h)) (λ n3.
      cond_yields (eqb k 5) _ _ F P (λ e. made_yields shown.Checkpoint _ _ _ F P (λ x. refl) (λ x f. (sym (eqb-true k 5 e), f)) (bare_checkpoint_field s h)) (λ n5.
      cond_yields (eqb k 7) _ _ F P (λ e. made_yields shown.ViewChange _ _ _ F P (λ x. refl) (λ x f. (sym (eqb-true k 7 e), f)) (bare_view_change_field s h)) (λ n7.
      cond_yields (eqb k 8) _ _ F P (λ e. made_yields shown.NewView _ _ _ F P (λ x. refl) (λ x f. (sym (eqb-true k 8 e), f)) (bare_new_view_field s h)) (λ n8.
      cond_yields (eqb k 9) _ _ F P (λ e. made_yields shown.Enter _ _ _ F P (λ x. refl) (λ x f. (sym (eqb-true k 9 e), f)) (enter_field s h)) (λ n9.
      cond_yields (eqb k 10) _ _ F P (λ e. made_yields shown.Open _ _ _ F P (λ x. refl) (λ x f. (sym (eqb-true k 10 e), f)) (open_field s h)) (λ n10.
      let last = last_kind k ok (eqb-false k 2 n2) (eqb-false k 3 n3) (eqb-false k 5 n5) (eqb-false k 7 n7) (eqb-false k 8 n8) (eqb-false k 9 n9) (eqb-false k 10 n10) in
      made_yields shown.Join _ _ _ F P (λ x. refl) (λ x f. (sym last, f)) (join_field s h))))))))

  shown_again : (m : Shown) (at : ℕ) (rest : Bytes) → FitsShown s m → behind_shown_kind_at s (shown_kind m) (cursor at (behind_shown_kind m ++ rest)) ≡ Ok (m, cursor (at + length (behind_shown_kind m)) rest)
  unfolding behind_shown_kind_at
  shown_again (shown.Prepare m) at rest f = made_again shown.Prepare _ _ _ (prepare_field s h) m at rest f
  shown_again (shown.Commit m) at rest f = made_again shown.Commit _ _ _ (commit_field s h) m at rest f
  shown_again (shown.Checkpoint m) at rest f = made_again shown.Checkpoint _ _ _ (bare_checkpoint_field s h) m at rest f
  shown_again (shown.ViewChange m) at rest f = made_again shown.ViewChange _ _ _ (bare_view_change_field s h) m at rest f
  shown_again (shown.NewView m) at rest f = made_again shown.NewView _ _ _ (bare_new_view_field s h) m at rest f
  shown_again (shown.Enter m) at rest f = made_again shown.Enter _ _ _ (enter_field s h) m at rest f
  shown_again (shown.Open m) at rest f = made_again shown.Open _ _ _ (open_field s h) m at rest f
  shown_again (shown.Join m) at rest f = made_again shown.Join _ _ _ (join_field s h) m at rest f

  behind_shown_field : (k : ℕ) → ((2 ≤ k) × (k ≤ 11)) × (is_stamped_kind k ≡ true) → IsField (behind_shown_kind_at s k) behind_shown_kind (ShownFits k)
  behind_shown_field k ok = record {
    takes = λ c x t fits e. shown_yields k ok c x t fits e;
    again = λ x at rest f. subst (λ (n : ℕ). behind_shown_kind_at s n (cursor at (behind_shown_kind x ++ rest)) ≡ Ok (x, cursor (at + length (behind_shown_kind x)) rest)) f.0 (shown_again x at rest f.1);
  }

  shown_kind_ok : (m : Shown) → ((2 ≤ shown_kind m) × (shown_kind m ≤ 11)) × (is_stamped_kind (shown_kind m) ≡ true)
  shown_kind_ok (shown.Prepare m) = ((lit≤ tt, lit≤ tt), refl)
  shown_kind_ok (shown.Commit m) = ((lit≤ tt, lit≤ tt), refl)
  shown_kind_ok (shown.Checkpoint m) = ((lit≤ tt, lit≤ tt), refl)
  shown_kind_ok (shown.ViewChange m) = ((lit≤ tt, lit≤ tt), refl)
  shown_kind_ok (shown.NewView m) = ((lit≤ tt, lit≤ tt), refl)
  shown_kind_ok (shown.Enter m) = ((lit≤ tt, lit≤ tt), refl)
  shown_kind_ok (shown.Open m) = ((lit≤ tt, lit≤ tt), refl)
  shown_kind_ok (shown.Join m) = ((lit≤ tt, lit≤ tt), refl)

  shown_field : IsField (shown_at s) shown_bytes (FitsShown s)
  unfolding shown_at shown_bytes
  shown_field =
      made_field second _ _ _ shown_bytes (FitsShown s)
      (λ p f. ap (λ k. number w8 k ++ behind_shown_kind p.1) f.1.0)
      (λ p f. f.1.1)
      (λ m f. ((shown_kind m, m), refl, (shown_kind_ok m, (refl, f)))) (
      then_field _ _ _ _ (λ k. behind_shown_kind) ShownFits stamped_kind_field behind_shown_field)

  -- ---- VIEW_CHANGE and NEW_VIEW

  change_body_field : IsField (change_body_at s) change_body_bytes (FitsChangeBody s)
  unfolding change_body_at change_body_bytes
  change_body_field =
      made_field change_body_of_fields _ _ _ change_body_bytes (FitsChangeBody s)
      (λ p f. refl)
      (λ p f. record { floor = f.0; stable = f.1.0; count = f.1.1.0.1; entries = f.1.1.1 })
      (λ b f. ((b.floor, (b.stable, b.entries)), refl, (f.floor, (f.stable, ((omega arith, f.count), f.entries))))) (
      pair_field _ _ _ _ _ _ (optional_field _ _ _ (floor_cert_field s h)) (
      pair_field _ _ _ _ _ _ (any_stable_field s h)
      (list_field w16 (2 ^ 16) 0 (shown_limit s) (omega (arith, h.intervals)) wide16 _ _ _ shown_field)))

  abbrev FromFits : ℕ → Option ℕ → ℕ → ViewChange → Type 0
  FromFits form left_out least m = FitsViewChange s m × ((form ≤ form_of m.body) × IsMember s h left_out least m.ui.host)

  change_from_field : (form : ℕ) → (left_out : Option ℕ) (least : ℕ) → IsField (view_change_from s form left_out least) view_change_bytes (FromFits form left_out least)
  unfolding view_change_from view_change_bytes
  change_from_field form left_out least =
      made_field view_change_of_fields _ _ _ view_change_bytes (FromFits form left_out least)
      (λ p f. ap (λ k. number w8 k ++ (number w64 p.1.0 ++ (body_bytes change_body_bytes p.1.1.0 ++ ui_bytes p.1.1.1))) f.1.1.0.0)
      (λ p f. (record { view = f.1.0; body = f.1.1.0.1; ui = f.1.1.1.0 }, (omega (arith, f.0.0, f.1.1.0.0), f.1.1.1.1)))
      (λ m f. ((form_of m.body, (m.view, (m.body, m.ui))), refl, ((f.1.0, omega (arith, form_below m.body)), (f.0.view, ((refl, f.0.body), (f.0.ui, f.1.1)))))) (
      then_field _ _ _ _ (λ k p. number w64 p.0 ++ (body_bytes change_body_bytes p.1.0 ++ ui_bytes p.1.1)) _ (ranged_field w8 (2 ^ 8) form 1 (lit< tt) wide8) (λ k small.
      pair_field _ _ _ _ _ _ position_field (
      pair_field _ _ _ _ _ _ (body_field _ _ _ change_body_field k (omega (arith, small.1))) (ui_from_field s h left_out least))))

  pub view_change_field : IsField (view_change_from s 0 None 0) view_change_bytes (FitsViewChange s)
  view_change_field = iff_field _ _ _ _ (λ m f. f.0) (λ m f. (f, (omega arith, ((omega arith, f.ui.host), refl)))) (change_from_field 0 None 0)

  one_member_field : (left_out : Option ℕ) (least : ℕ) → IsField (member_at s left_out least) member_bytes (λ m. FitsMember s m × IsMember s h left_out least m.ui.host)
  unfolding member_at member_bytes
  one_member_field left_out least =
      made_field second _ _ _ member_bytes (λ m. FitsMember s m × IsMember s h left_out least m.ui.host)
      (λ p f. ap (λ k. number w8 k ++ view_change_bytes p.1) (omega (arith, f.0.0, f.0.1)))
      (λ p f. ((f.1.0, omega (arith, f.1.1.0, form_below p.1.body)), f.1.1.1))
      (λ m f. ((7, m), refl, ((lit≤ tt, lit≤ tt), (f.0.0, (omega (arith, f.0.1), f.1))))) (
      pair_field _ _ _ _ _ _ (ranged_field w8 (2 ^ 8) 7 7 (lit< tt) wide8) (change_from_field 1 left_out least))

  new_view_body_field : IsField (new_view_body_at s) new_view_body_bytes (FitsNewViewBody s)
  unfolding new_view_body_at new_view_body_bytes
  new_view_body_field =
      made_field new_view_body_of _ _ _ new_view_body_bytes (FitsNewViewBody s) (λ l f. refl) (λ l f. f) (λ b f. (b.changes, refl, f))
      (members_field s h _ _ (λ m. m.ui.host) (FitsMember s) None (λ m f. (f.0.ui.host, refl)) (one_member_field None) (quorum s))

  pub new_view_field : IsField (new_view_at s) new_view_bytes (FitsNewView s)
  unfolding new_view_at new_view_bytes
  new_view_field =
      made_field new_view_of_fields _ _ _ new_view_bytes (FitsNewView s)
      (λ p f. ap (λ k. number w8 k ++ (number w64 p.1.0 ++ (plan_bytes p.1.1.0 p.1.1.1.0 p.1.1.1.1.0 ++ (body_bytes new_view_body_bytes p.1.1.1.1.1.0 ++ ui_bytes p.1.1.1.1.1.1)))) f.1.1.1.1.1.0.0 ∙ simp append_assoc)
      (λ p f. record { view = f.1.0; base = f.1.1.0; end = f.1.1.1.0; plan = f.1.1.1.1.0; body = f.1.1.1.1.1.0.1; ui = f.1.1.1.1.1.1 })
      (λ m f. ((form_of m.body, (m.view, (m.base, (m.end, (m.plan, (m.body, m.ui)))))), refl, (form_below m.body, (f.view, (f.base, (f.end, (f.plan, ((refl, f.body), f.ui)))))))) (
      then_field _ _ _ _ (λ form p. number w64 p.0 ++ (number w64 p.1.0 ++ (number w64 p.1.1.0 ++ (p.1.1.1.0 ++ (body_bytes new_view_body_bytes p.1.1.1.1.0 ++ ui_bytes p.1.1.1.1.1))))) _ form_field (λ form small.
      pair_field _ _ _ _ _ _ position_field (
      then_field _ _ _ _ (λ base p. number w64 p.0 ++ (p.1.0 ++ (body_bytes new_view_body_bytes p.1.1.0 ++ ui_bytes p.1.1.1))) _ (base_field s h) (λ base ok.
      pair_field _ _ _ _ _ _ (end_field s h base) (
      pair_field _ _ _ _ _ _ digest_field (
      pair_field _ _ _ _ _ _ (body_field _ _ _ new_view_body_field form small) (ui_field s h)))))))

  -- ---- stamped messages

  abbrev StampedFits : ℕ → Stamped → Type 0
  StampedFits kind m = (stamped_kind m ≡ kind) × FitsStamped s m

  pub stamped_yields : (k : ℕ) → ((2 ≤ k) × (k ≤ 11)) × (is_stamped_kind k ≡ true) → Yields (behind_stamped_kind_at s k) behind_stamped_kind (StampedFits k)
  unfolding behind_stamped_kind_at
  stamped_yields k ok =
      let F = behind_stamped_kind in
      let P = StampedFits k in
      cond_yields (eqb k 2) _ _ F P (λ e. made_yields stamped.Prepare _ _ _ F P (λ x. refl) (λ x f. (sym (eqb-true k 2 e), f)) (prepare_field s h)) (λ n2.
      cond_yields (eqb k 3) _ _ F P (λ e. made_yields stamped.Commit _ _ _ F P (λ x. refl) (λ x f. (sym (eqb-true k 3 e), f)) (commit_field s h)) (λ n3.
      cond_yields (eqb k 5) _ _ F P (λ e. made_yields stamped.Checkpoint _ _ _ F P (λ x. refl) (λ x f. (sym (eqb-true k 5 e), f)) (checkpoint_field s h)) (λ n5.
      cond_yields (eqb k 7) _ _ F P (λ e. made_yields stamped.ViewChange _ _ _ F P (λ x. refl) (λ x f. (sym (eqb-true k 7 e), f)) view_change_field) (λ n7.
      cond_yields (eqb k 8) _ _ F P (λ e. made_yields stamped.NewView _ _ _ F P (λ x. refl) (λ x f. (sym (eqb-true k 8 e), f)) new_view_field) (λ n8.
      cond_yields (eqb k 9) _ _ F P (λ e. made_yields stamped.Enter _ _ _ F P (λ x. refl) (λ x f. (sym (eqb-true k 9 e), f)) (enter_field s h)) (λ n9.
      cond_yields (eqb k 10) _ _ F P (λ e. made_yields stamped.Open _ _ _ F P (λ x. refl) (λ x f. (sym (eqb-true k 10 e), f)) (open_field s h)) (λ n10.
      let last = last_kind k ok (eqb-false k 2 n2) (eqb-false k 3 n3) (eqb-false k 5 n5) (eqb-false k 7 n7) (eqb-false k 8 n8) (eqb-false k 9 n9) (eqb-false k 10 n10) in
      made_yields stamped.Join _ _ _ F P (λ x. refl) (λ x f. (sym last, f)) (join_field s h))))))))

  pub stamped_again : (m : Stamped) (at : ℕ) (rest : Bytes) → FitsStamped s m → behind_stamped_kind_at s (stamped_kind m) (cursor at (behind_stamped_kind m ++ rest)) ≡ Ok (m, cursor (at + length (behind_stamped_kind m)) rest)
  unfolding behind_stamped_kind_at
  stamped_again (stamped.Prepare m) at rest f = made_again stamped.Prepare _ _ _ (prepare_field s h) m at rest f
  stamped_again (stamped.Commit m) at rest f = made_again stamped.Commit _ _ _ (commit_field s h) m at rest f
  stamped_again (stamped.Checkpoint m) at rest f = made_again stamped.Checkpoint _ _ _ (checkpoint_field s h) m at rest f
  stamped_again (stamped.ViewChange m) at rest f = made_again stamped.ViewChange _ _ _ view_change_field m at rest f
  stamped_again (stamped.NewView m) at rest f = made_again stamped.NewView _ _ _ new_view_field m at rest f
  stamped_again (stamped.Enter m) at rest f = made_again stamped.Enter _ _ _ (enter_field s h) m at rest f
  stamped_again (stamped.Open m) at rest f = made_again stamped.Open _ _ _ (open_field s h) m at rest f
  stamped_again (stamped.Join m) at rest f = made_again stamped.Join _ _ _ (join_field s h) m at rest f

  behind_stamped_field : (k : ℕ) → ((2 ≤ k) × (k ≤ 11)) × (is_stamped_kind k ≡ true) → IsField (behind_stamped_kind_at s k) behind_stamped_kind (StampedFits k)
  behind_stamped_field k ok = record {
    takes = λ c x t fits e. stamped_yields k ok c x t fits e;
    again = λ x at rest f. subst (λ (n : ℕ). behind_stamped_kind_at s n (cursor at (behind_stamped_kind x ++ rest)) ≡ Ok (x, cursor (at + length (behind_stamped_kind x)) rest)) f.0 (stamped_again x at rest f.1);
  }

  pub stamped_kind_ok : (m : Stamped) → ((2 ≤ stamped_kind m) × (stamped_kind m ≤ 11)) × (is_stamped_kind (stamped_kind m) ≡ true)
  stamped_kind_ok (stamped.Prepare m) = ((lit≤ tt, lit≤ tt), refl)
  stamped_kind_ok (stamped.Commit m) = ((lit≤ tt, lit≤ tt), refl)
  stamped_kind_ok (stamped.Checkpoint m) = ((lit≤ tt, lit≤ tt), refl)
  stamped_kind_ok (stamped.ViewChange m) = ((lit≤ tt, lit≤ tt), refl)
  stamped_kind_ok (stamped.NewView m) = ((lit≤ tt, lit≤ tt), refl)
  stamped_kind_ok (stamped.Enter m) = ((lit≤ tt, lit≤ tt), refl)
  stamped_kind_ok (stamped.Open m) = ((lit≤ tt, lit≤ tt), refl)
  stamped_kind_ok (stamped.Join m) = ((lit≤ tt, lit≤ tt), refl)

  pub stamped_field : IsField (stamped_at s) stamped_bytes (FitsStamped s)
  unfolding stamped_at stamped_bytes
  stamped_field =
      made_field second _ _ _ stamped_bytes (FitsStamped s)
      (λ p f. ap (λ k. number w8 k ++ behind_stamped_kind p.1) f.1.0)
      (λ p f. f.1.1)
      (λ m f. ((stamped_kind m, m), refl, (stamped_kind_ok m, (refl, f)))) (
      then_field _ _ _ _ (λ k. behind_stamped_kind) StampedFits stamped_kind_field behind_stamped_field)

  pub log_field : IsField (log_at s) log_bytes (FitsLog s)
  unfolding log_at log_bytes
  log_field =
      made_field log_of_fields _ _ _ log_bytes (FitsLog s)
      (λ p f. refl)
      (λ p f. record { host = f.0; floor = f.1.0; stable = f.1.1.0; evidence = f.1.1.1.0; count = f.1.1.1.1.0.1; entries = f.1.1.1.1.1 })
      (λ m f. ((m.host, (m.floor, (m.stable, (m.evidence, m.entries)))), refl, (f.host, (f.floor, (f.stable, (f.evidence, ((omega arith, f.count), f.entries))))))) (
      pair_field _ _ _ _ _ _ (host_field s h) (
      pair_field _ _ _ _ _ _ (optional_field _ _ _ (floor_cert_field s h)) (
      pair_field _ _ _ _ _ _ (any_stable_field s h) (
      pair_field _ _ _ _ _ _ (optional_field _ _ _ (any_evidence_field s h))
      (list_field w16 (2 ^ 16) 0 entry_limit (lit< tt) wide16 _ _ _ stamped_field)))))
