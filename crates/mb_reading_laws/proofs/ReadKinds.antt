-- Messages of each kind have the values of the grammar as they are read.
use Rattle.std.proofs.Common.{◌≡◌, ℕ, ◌-◌, ◌^◌, ◌<◌, ◌≤◌, true, length, refl, eqb, arith, lit<, Option, None}
use Rattle.std.specs.Int.{w8, w16, w32}
use Rattle.std.specs.List.{AllByRecursion}
use Rattle.std.proofs.lemmas.Bool.{eqb-true}
use Rattle.mb_base.specs.Limits.{text_limit, part_count, table_part, entry_limit}
use Rattle.mb_base.specs.Shapes.{IsShape, host_count, quorum}
use Rattle.mb_base.specs.declared.shape.Shape.{Shape}
use Rattle.mb_base.specs.Reading.{Cursor, Reads, number_in, is_other, pair_at, then_at, map_at, list_in}
use Rattle.mb_parts.specs.declared.certificates.Evidence.{Evidence}
use Rattle.mb_parts.specs.Fits.{IsCounter, IsPosition, IsDigest, IsBase, IsEnd, FitsStatePart, FitsBatch, FitsUi, FitsStable, FitsFloorCert, FitsEvidence, FitsJoined}
use Rattle.mb_parts.specs.Reading.{counter_at, place_at, position_at, base_at, end_at, digest_at, state_part_at, ui_from, ui_at, batch_at, stable_in, floor_cert_at, evidence_at, evidence_of_view}
use Rattle.mb_msg.specs.declared.message.Body.TheVariants.{Whole, Bare as Short}
use Rattle.mb_msg.specs.declared.change.ViewChange.{ViewChange}
use Rattle.mb_msg.specs.declared.stamped.Shown.TheVariants as shown
use Rattle.mb_msg.specs.declared.stamped.Stamped.TheVariants as stamped
use Rattle.mb_msg.specs.Bodies.{body_at, FitsBody, form_at, bare_form_at, form_of}
use Rattle.mb_msg.specs.Fits.{shown_limit, FitsPrepare, FitsCommit, FitsReply, FitsFloorsBody, FitsCheckpoint, FitsBareCheckpoint, FitsWish, FitsBareViewChange, FitsBareNewView, FitsEnter, FitsOpenBody, FitsOpen, FitsJoin, FitsShown, FitsChangeBody, FitsViewChange, FitsMember, FitsNewViewBody, FitsNewView, FitsStamped, FitsResend, FitsLog, FitsFetch, FitsState}
use Rattle.mb_msg.specs.Reading.{prepare_of_fields, prepare_at, commit_of_fields, commit_at, reply_of_fields, reply_at, floors_body_of, floors_body_at, checkpoint_of_fields, checkpoint_at, bare_checkpoint_of_fields, bare_checkpoint_at, wish_of_fields, wish_at, bare_view_change_of_fields, bare_view_change_at, bare_new_view_of_fields, bare_new_view_at, enter_of_fields, enter_at, open_body_of_fields, open_body_at, open_of_fields, open_at, join_of_fields, join_at, is_stamped_kind, stamped_kind_at, behind_shown_kind_at, second, shown_at, change_body_of_fields, change_body_at, view_change_of_fields, view_change_from, view_change_at, member_at, new_view_body_of, new_view_body_at, new_view_of_fields, new_view_at, behind_stamped_kind_at, stamped_at, resend_of_fields, resend_at, log_of_fields, log_at, fetch_of_fields, fetch_at, state_of_fields, state_at}
use Rattle.mb_reading_laws.proofs.Yields.{IsYield, more_yield, in_yield, checked_yield, pair_yield, then_yield, map_yield, cond_yield, optional_yield, repeat_yield, list_yield, text_yield, rising_yield}
use Rattle.mb_reading_laws.proofs.ReadParts.{counter_yield, place_yield, position_yield, digest_yield, host_yield, client_yield, base_yield, point_yield, end_yield, ui_from_yield, ui_yield, batch_yield, floors_yield, stable_yield, any_stable_yield, floor_cert_yield, any_evidence_yield, joined_yield}

body_yield : {B : Type 0} (whole : Cursor → Reads B) (P : B → Type 0) (form : ℕ) → IsYield whole P → IsYield (body_at whole form) (λ b. FitsBody P b × (1 ≤ form → form_of b ≡ 1))
unfolding body_at
body_yield whole P form y = cond_yield (eqb form 0) (map_at Short digest_at) (map_at Whole whole) (λ b. FitsBody P b × (1 ≤ form → form_of b ≡ 1))
    (λ e. map_yield Short digest_at IsDigest (λ b. FitsBody P b × (1 ≤ form → form_of b ≡ 1)) (λ d f. (f, λ le. absurd (omega (arith, le, eqb-true form 0 e)))) digest_yield)
    (λ e. map_yield Whole whole P (λ b. FitsBody P b × (1 ≤ form → form_of b ≡ 1)) (λ x f. (f, λ le. refl)) y)

some_body : {B : Type 0} (whole : Cursor → Reads B) (P : B → Type 0) (form : ℕ) → IsYield whole P → IsYield (body_at whole form) (FitsBody P)
some_body whole P form y = more_yield _ _ (FitsBody P) (λ b p. p.0) (body_yield whole P form y)

any_form : IsYield form_at (λ n. Unit {0})
any_form = more_yield _ _ (λ n. Unit {0}) (λ n p. tt) (in_yield w8 0 1)

any_bare_form : IsYield bare_form_at (λ n. Unit {0})
any_bare_form = more_yield _ _ (λ n. Unit {0}) (λ n p. tt) (in_yield w8 0 0)

module _ (s : Shape) (k : IsShape s) where
  prepare_yield : IsYield (prepare_at s) (FitsPrepare s)
  unfolding prepare_at
  prepare_yield = map_yield prepare_of_fields _ _ (FitsPrepare s) (λ p f. record { view = f.1.0; pos = f.1.1.0; body = f.1.1.1.0; ui = f.1.1.1.1 })
      (then_yield form_at _ (λ form. pair_at place_at (pair_at position_at (pair_at (body_at (batch_at s) form) (ui_at s)))) (λ form p. (p.0 < 2 ^ 63) × (IsPosition p.1.0 × (FitsBody (FitsBatch s) p.1.1.0 × FitsUi s p.1.1.1))) any_form (λ form ok.
      pair_yield _ _ _ _ place_yield (pair_yield _ _ _ _ position_yield (pair_yield _ _ _ _ (some_body _ _ form (batch_yield s k)) (ui_yield s k)))))

  commit_yield : IsYield (commit_at s) (FitsCommit s)
  unfolding commit_at
  commit_yield = map_yield commit_of_fields _ _ (FitsCommit s) (λ p f. record { view = f.1.0; pos = f.1.1.0; counter = f.1.1.1.0; cert = f.1.1.1.1.0; body = f.1.1.1.1.1.0; ui = f.1.1.1.1.1.1 })
      (then_yield form_at _ (λ form. pair_at place_at (pair_at position_at (pair_at counter_at (pair_at digest_at (pair_at (body_at (batch_at s) form) (ui_at s)))))) (λ form p. (p.0 < 2 ^ 63) × (IsPosition p.1.0 × (IsCounter p.1.1.0 × (IsDigest p.1.1.1.0 × (FitsBody (FitsBatch s) p.1.1.1.1.0 × FitsUi s p.1.1.1.1.1))))) any_form (λ form ok.
      pair_yield _ _ _ _ place_yield (pair_yield _ _ _ _ position_yield (pair_yield _ _ _ _ counter_yield (pair_yield _ _ _ _ digest_yield (pair_yield _ _ _ _ (some_body _ _ form (batch_yield s k)) (ui_yield s k)))))))

  pub reply_yield : IsYield (reply_at s) (FitsReply s)
  unfolding reply_at
  reply_yield = map_yield reply_of_fields _ _ (FitsReply s) (λ p f. record { host = f.0; client = f.1.0; seq = f.1.1.0; pos = f.1.1.1.0; result = f.1.1.1.1.0.1; tag = f.1.1.1.1.1 })
      (pair_yield _ _ _ _ (host_yield s k) (pair_yield _ _ _ _ (client_yield s k) (pair_yield _ _ _ _ counter_yield (pair_yield _ _ _ _ place_yield (pair_yield _ _ _ _ (text_yield w16 0 text_limit) digest_yield)))))

  checkpoint_yield : IsYield (checkpoint_at s) (FitsCheckpoint s)
  unfolding checkpoint_at floors_body_at
  checkpoint_yield = map_yield checkpoint_of_fields _ _ (FitsCheckpoint s) (λ p f. record { pos = f.1.0; state = f.1.1.0; body = f.1.1.1.0; ui = f.1.1.1.1 })
      (then_yield form_at _ (λ form. pair_at position_at (pair_at digest_at (pair_at (body_at (floors_body_at s) form) (ui_at s)))) (λ form p. IsPosition p.0 × (IsDigest p.1.0 × (FitsBody (FitsFloorsBody s) p.1.1.0 × FitsUi s p.1.1.1))) any_form (λ form ok.
      pair_yield _ _ _ _ position_yield (pair_yield _ _ _ _ digest_yield (pair_yield _ _ _ _ (some_body _ _ form (map_yield floors_body_of _ _ (FitsFloorsBody s) (λ l f. f) (floors_yield s k))) (ui_yield s k)))))

  bare_checkpoint_yield : IsYield (bare_checkpoint_at s) (FitsBareCheckpoint s)
  unfolding bare_checkpoint_at
  bare_checkpoint_yield = map_yield bare_checkpoint_of_fields _ _ (FitsBareCheckpoint s) (λ p f. record { pos = f.1.0; state = f.1.1.0; body = f.1.1.1.0; ui = f.1.1.1.1 })
      (pair_yield _ _ _ _ any_bare_form (pair_yield _ _ _ _ position_yield (pair_yield _ _ _ _ digest_yield (pair_yield _ _ _ _ digest_yield (ui_yield s k)))))

  pub wish_yield : IsYield (wish_at s) (FitsWish s)
  unfolding wish_at
  wish_yield = map_yield wish_of_fields _ _ (FitsWish s) (λ p f. record { host = f.0; view = f.1.0; tag = f.1.1 }) (pair_yield _ _ _ _ (host_yield s k) (pair_yield _ _ _ _ position_yield digest_yield))

  bare_view_change_yield : IsYield (bare_view_change_at s) (FitsBareViewChange s)
  unfolding bare_view_change_at
  bare_view_change_yield = map_yield bare_view_change_of_fields _ _ (FitsBareViewChange s) (λ p f. record { view = f.1.0; body = f.1.1.0; ui = f.1.1.1 }) (pair_yield _ _ _ _ any_bare_form (pair_yield _ _ _ _ position_yield (pair_yield _ _ _ _ digest_yield (ui_yield s k))))

  bare_new_view_yield : IsYield (bare_new_view_at s) (FitsBareNewView s)
  unfolding bare_new_view_at
  bare_new_view_yield = map_yield bare_new_view_of_fields _ _ (FitsBareNewView s) (λ p f. record { view = f.1.0; base = f.1.1.0; end = f.1.1.1.0; plan = f.1.1.1.1.0; body = f.1.1.1.1.1.0; ui = f.1.1.1.1.1.1 })
      (pair_yield _ _ _ _ any_bare_form (pair_yield _ _ _ _ position_yield (then_yield (base_at s) _ (λ base. pair_at (end_at s base) (pair_at digest_at (pair_at digest_at (ui_at s)))) (λ base p. IsEnd s base p.0 × (IsDigest p.1.0 × (IsDigest p.1.1.0 × FitsUi s p.1.1.1))) (base_yield s k) (λ base ok.
      pair_yield _ _ _ _ (end_yield s k base) (pair_yield _ _ _ _ digest_yield (pair_yield _ _ _ _ digest_yield (ui_yield s k)))))))

  enter_yield : IsYield (enter_at s) (FitsEnter s)
  unfolding enter_at
  enter_yield = map_yield enter_of_fields _ _ (FitsEnter s) (λ p f. record { view = f.1.0; counter = f.1.1.0; plan = f.1.1.1.0; ui = f.1.1.1.1 }) (pair_yield _ _ _ _ any_bare_form (pair_yield _ _ _ _ position_yield (pair_yield _ _ _ _ counter_yield (pair_yield _ _ _ _ digest_yield (ui_yield s k)))))

  open_body_yield : (e : Evidence) → e.base < 2 ^ 63 → IsYield (open_body_at s e) (FitsOpenBody s e)
  unfolding open_body_at
  open_body_yield e small = map_yield open_body_of_fields _ _ (FitsOpenBody s e) (λ p f. ((f.0.0, f.1.1), (omega (arith, f.0.1.0, f.0.1.1), f.1.0)))
      (pair_yield _ _ _ _ (stable_yield s k e.base e.base small) (repeat_yield (batch_at s) (FitsBatch s) (batch_yield s k) (e.end - e.base)))

  open_yield : IsYield (open_at s) (FitsOpen s)
  unfolding open_at
  open_yield = map_yield open_of_fields _ _ (FitsOpen s) (λ p f. record { evidence = f.1.0; body = f.1.1.0; ui = f.1.1.1 })
      (then_yield form_at _ (λ form. then_at (evidence_at s) (λ e. pair_at (body_at (open_body_at s e) form) (ui_at s))) (λ form p. FitsEvidence s p.0 × (FitsBody (FitsOpenBody s p.0) p.1.0 × FitsUi s p.1.1)) any_form (λ form ok.
      then_yield (evidence_at s) _ (λ e. pair_at (body_at (open_body_at s e) form) (ui_at s)) (λ e p. FitsBody (FitsOpenBody s e) p.0 × FitsUi s p.1) (any_evidence_yield s k) (λ e fits.
      pair_yield _ _ _ _ (some_body _ _ form (open_body_yield e fits.base.0)) (ui_yield s k))))

  join_yield : IsYield (join_at s) (FitsJoin s)
  unfolding join_at
  join_yield = map_yield join_of_fields _ _ (FitsJoin s) (λ p f. record { view = f.1.0; evidence = f.1.1.0; stable = f.1.1.1.0.0; above = f.1.1.1.0.1.0; ui = f.1.1.1.1 })
      (pair_yield _ _ _ _ any_bare_form (then_yield place_at _ (λ view. pair_at (evidence_of_view s view) (pair_at (stable_in s 1 (2 ^ 63 - 1)) (ui_at s))) (λ view p. FitsJoined s view p.0 × ((FitsStable s p.1.0 × ((1 ≤ p.1.0.pos) × (p.1.0.pos ≤ 2 ^ 63 - 1))) × FitsUi s p.1.1)) place_yield (λ view lt.
      pair_yield _ _ _ _ (joined_yield s k view lt) (pair_yield _ _ _ _ (stable_yield s k 1 (2 ^ 63 - 1) (lit< tt)) (ui_yield s k)))))

  -- an entry of a VIEW_CHANGE
  behind_shown_yield : (kind : ℕ) → IsYield (behind_shown_kind_at s kind) (FitsShown s)
  unfolding behind_shown_kind_at
  behind_shown_yield n =
      cond_yield (eqb n 2) _ _ (FitsShown s) (λ e. map_yield shown.Prepare (prepare_at s) (FitsPrepare s) (FitsShown s) (λ x f. f) prepare_yield) (λ n2.
      cond_yield (eqb n 3) _ _ (FitsShown s) (λ e. map_yield shown.Commit (commit_at s) (FitsCommit s) (FitsShown s) (λ x f. f) commit_yield) (λ n3.
      cond_yield (eqb n 5) _ _ (FitsShown s) (λ e. map_yield shown.Checkpoint (bare_checkpoint_at s) (FitsBareCheckpoint s) (FitsShown s) (λ x f. f) bare_checkpoint_yield) (λ n5.
      cond_yield (eqb n 7) _ _ (FitsShown s) (λ e. map_yield shown.ViewChange (bare_view_change_at s) (FitsBareViewChange s) (FitsShown s) (λ x f. f) bare_view_change_yield) (λ n7.
      cond_yield (eqb n 8) _ _ (FitsShown s) (λ e. map_yield shown.NewView (bare_new_view_at s) (FitsBareNewView s) (FitsShown s) (λ x f. f) bare_new_view_yield) (λ n8.
      cond_yield (eqb n 9) _ _ (FitsShown s) (λ e. map_yield shown.Enter (enter_at s) (FitsEnter s) (FitsShown s) (λ x f. f) enter_yield) (λ n9.
      cond_yield (eqb n 10) _ _ (FitsShown s) (λ e. map_yield shown.Open (open_at s) (FitsOpen s) (FitsShown s) (λ x f. f) open_yield) (λ n10.
      map_yield shown.Join (join_at s) (FitsJoin s) (FitsShown s) (λ x f. f) join_yield)))))))

  any_kind : IsYield stamped_kind_at (λ n. Unit {0})
  any_kind = more_yield _ _ (λ n. Unit {0}) (λ n p. tt) (checked_yield is_stamped_kind (number_in w8 2 11) _ (in_yield w8 2 11))

  shown_yield : IsYield (shown_at s) (FitsShown s)
  unfolding shown_at
  shown_yield = map_yield second _ _ (FitsShown s) (λ p f. f.1) (then_yield stamped_kind_at (λ n. Unit {0}) (behind_shown_kind_at s) (λ n e. FitsShown s e) any_kind (λ n ok. behind_shown_yield n))

  change_body_yield : IsYield (change_body_at s) (FitsChangeBody s)
  unfolding change_body_at
  change_body_yield = map_yield change_body_of_fields _ _ (FitsChangeBody s) (λ p f. record { floor = f.0; stable = f.1.0; count = f.1.1.0.1; entries = f.1.1.1 })
      (pair_yield _ _ _ _ (optional_yield (floor_cert_at s) (FitsFloorCert s) (floor_cert_yield s k)) (pair_yield _ _ _ _ (any_stable_yield s k) (list_yield w16 0 (shown_limit s) (shown_at s) (FitsShown s) shown_yield)))

  change_from_yield : (form : ℕ) (left_out : Option ℕ) (least : ℕ) → IsYield (view_change_from s form left_out least) (λ m. FitsViewChange s m × ((1 ≤ form → form_of m.body ≡ 1) × (least ≤ m.ui.host)))
  unfolding view_change_from
  change_from_yield form left_out least = map_yield view_change_of_fields _ _ (λ (m : ViewChange). FitsViewChange s m × ((1 ≤ form → form_of m.body ≡ 1) × (least ≤ m.ui.host)))
      (λ p f. (record { view = f.1.0; body = f.1.1.0.0; ui = f.1.1.1.0 }, (λ le. f.1.1.0.1 (omega (arith, le, f.0.0)), f.1.1.1.1.0)))
      (then_yield (number_in w8 form 1) _ (λ n. pair_at position_at (pair_at (body_at (change_body_at s) n) (ui_from s left_out least))) (λ n p. IsPosition p.0 × ((FitsBody (FitsChangeBody s) p.1.0 × (1 ≤ n → form_of p.1.0 ≡ 1)) × (FitsUi s p.1.1 × ((least ≤ p.1.1.host) × (is_other left_out p.1.1.host ≡ true)))))
      (in_yield w8 form 1) (λ n ok. pair_yield _ _ _ _ position_yield (pair_yield _ _ _ _ (body_yield (change_body_at s) (FitsChangeBody s) n change_body_yield) (ui_from_yield s k left_out least))))

  view_change_yield : IsYield (view_change_at s) (FitsViewChange s)
  view_change_yield = more_yield _ _ (FitsViewChange s) (λ m p. p.0) (change_from_yield 0 None 0)

  member_yield : (least : ℕ) → IsYield (member_at s None least) (λ m. FitsMember s m × (least ≤ m.ui.host))
  unfolding member_at
  member_yield least = map_yield second _ _ (λ (m : ViewChange). FitsMember s m × (least ≤ m.ui.host)) (λ p f. ((f.1.0, f.1.1.0 (omega arith)), f.1.1.1)) (pair_yield _ _ _ _ (in_yield w8 7 7) (change_from_yield 1 None least))

  new_view_body_yield : IsYield (new_view_body_at s) (FitsNewViewBody s)
  unfolding new_view_body_at
  new_view_body_yield = map_yield new_view_body_of _ _ (FitsNewViewBody s) (λ l f. f) (rising_yield (member_at s None) (λ m. m.ui.host) (FitsMember s) member_yield (quorum s) 0)

  new_view_yield : IsYield (new_view_at s) (FitsNewView s)
  unfolding new_view_at
  new_view_yield = map_yield new_view_of_fields _ _ (FitsNewView s) (λ p f. record { view = f.1.0; base = f.1.1.0; end = f.1.1.1.0; plan = f.1.1.1.1.0; body = f.1.1.1.1.1.0; ui = f.1.1.1.1.1.1 })
      (then_yield form_at _ (λ form. pair_at position_at (then_at (base_at s) (λ base. pair_at (end_at s base) (pair_at digest_at (pair_at (body_at (new_view_body_at s) form) (ui_at s)))))) (λ form p. IsPosition p.0 × (IsBase s p.1.0 × (IsEnd s p.1.0 p.1.1.0 × (IsDigest p.1.1.1.0 × (FitsBody (FitsNewViewBody s) p.1.1.1.1.0 × FitsUi s p.1.1.1.1.1))))) any_form (λ form ok.
      pair_yield _ _ _ _ position_yield (then_yield (base_at s) _ (λ base. pair_at (end_at s base) (pair_at digest_at (pair_at (body_at (new_view_body_at s) form) (ui_at s)))) (λ base p. IsEnd s base p.0 × (IsDigest p.1.0 × (FitsBody (FitsNewViewBody s) p.1.1.0 × FitsUi s p.1.1.1))) (base_yield s k) (λ base ok2.
      pair_yield _ _ _ _ (end_yield s k base) (pair_yield _ _ _ _ digest_yield (pair_yield _ _ _ _ (some_body _ _ form new_view_body_yield) (ui_yield s k)))))))

  -- ---- stamped messages

  pub behind_stamped_yield : (kind : ℕ) → IsYield (behind_stamped_kind_at s kind) (FitsStamped s)
  unfolding behind_stamped_kind_at
  behind_stamped_yield n =
      cond_yield (eqb n 2) _ _ (FitsStamped s) (λ e. map_yield stamped.Prepare (prepare_at s) (FitsPrepare s) (FitsStamped s) (λ x f. f) prepare_yield) (λ n2.
      cond_yield (eqb n 3) _ _ (FitsStamped s) (λ e. map_yield stamped.Commit (commit_at s) (FitsCommit s) (FitsStamped s) (λ x f. f) commit_yield) (λ n3.
      cond_yield (eqb n 5) _ _ (FitsStamped s) (λ e. map_yield stamped.Checkpoint (checkpoint_at s) (FitsCheckpoint s) (FitsStamped s) (λ x f. f) checkpoint_yield) (λ n5.
      cond_yield (eqb n 7) _ _ (FitsStamped s) (λ e. map_yield stamped.ViewChange (view_change_at s) (FitsViewChange s) (FitsStamped s) (λ x f. f) view_change_yield) (λ n7.
      cond_yield (eqb n 8) _ _ (FitsStamped s) (λ e. map_yield stamped.NewView (new_view_at s) (FitsNewView s) (FitsStamped s) (λ x f. f) new_view_yield) (λ n8.
      cond_yield (eqb n 9) _ _ (FitsStamped s) (λ e. map_yield stamped.Enter (enter_at s) (FitsEnter s) (FitsStamped s) (λ x f. f) enter_yield) (λ n9.
      cond_yield (eqb n 10) _ _ (FitsStamped s) (λ e. map_yield stamped.Open (open_at s) (FitsOpen s) (FitsStamped s) (λ x f. f) open_yield) (λ n10.
      map_yield stamped.Join (join_at s) (FitsJoin s) (FitsStamped s) (λ x f. f) join_yield)))))))

  stamped_yield : IsYield (stamped_at s) (FitsStamped s)
  unfolding stamped_at
  stamped_yield = map_yield second _ _ (FitsStamped s) (λ p f. f.1) (then_yield stamped_kind_at (λ n. Unit {0}) (behind_stamped_kind_at s) (λ n e. FitsStamped s e) any_kind (λ n ok. behind_stamped_yield n))

  -- ---- a host that comes back

  pub resend_yield : IsYield (resend_at s) (FitsResend s)
  unfolding resend_at
  resend_yield = map_yield resend_of_fields _ _ (FitsResend s) (λ p f. record { host = f.0; low = f.1.0; count = f.1.1.0; nexts = f.1.1.1 }) (pair_yield _ _ _ _ (host_yield s k) (pair_yield _ _ _ _ place_yield (repeat_yield counter_at IsCounter counter_yield (host_count s))))

  pub log_yield : IsYield (log_at s) (FitsLog s)
  unfolding log_at
  log_yield = map_yield log_of_fields _ _ (FitsLog s) (λ p f. record { host = f.0; floor = f.1.0; stable = f.1.1.0; evidence = f.1.1.1.0; count = f.1.1.1.1.0.1; entries = f.1.1.1.1.1 })
      (pair_yield _ _ _ _ (host_yield s k) (pair_yield _ _ _ _ (optional_yield (floor_cert_at s) (FitsFloorCert s) (floor_cert_yield s k)) (pair_yield _ _ _ _ (any_stable_yield s k)
      (pair_yield _ _ _ _ (optional_yield (evidence_at s) (FitsEvidence s) (any_evidence_yield s k)) (list_yield w16 0 entry_limit (stamped_at s) (FitsStamped s) stamped_yield)))))

  pub fetch_yield : IsYield (fetch_at s) (FitsFetch s)
  unfolding fetch_at
  fetch_yield = map_yield fetch_of_fields _ _ (FitsFetch s) (λ p f. record { host = f.0; asked = f.1.0; pos = f.1.1.0; first = f.1.1.1.1 }) (pair_yield _ _ _ _ (host_yield s k) (pair_yield _ _ _ _ (host_yield s k) (pair_yield _ _ _ _ (point_yield s k) (in_yield w8 0 table_part))))

  part_yield : IsYield state_part_at FitsStatePart
  part_yield = more_yield _ _ FitsStatePart (λ x p. omega (arith, p.1)) (text_yield w32 0 (2 ^ 32 - 1))

  pub state_yield : IsYield (state_at s) (FitsState s)
  unfolding state_at
  state_yield = map_yield state_of_fields _ _ (FitsState s) (λ p f. record { host = f.0; pos = f.1.0; digest_count = f.1.1.0.0; digests = f.1.1.0.1; first = f.1.1.1.0.1; count = f.1.1.1.1.0; parts = f.1.1.1.1.1 })
      (pair_yield _ _ _ _ (host_yield s k) (pair_yield _ _ _ _ (point_yield s k) (pair_yield _ _ _ _ (repeat_yield digest_at IsDigest digest_yield part_count)
      (then_yield (number_in w8 0 table_part) _ (λ first. list_in w8 1 (part_count - first) state_part_at) (λ first parts. ((1 ≤ length parts) × (length parts ≤ part_count - first)) × AllByRecursion FitsStatePart parts) (in_yield w8 0 table_part) (λ first ok. list_yield w8 1 (part_count - first) state_part_at FitsStatePart part_yield)))))
