-- The kinds of messages, behind their kind byte: what is read is spelled so and fits, and what fits and is spelled so is read.
use Rattle.std.proofs.Common.{◌≡◌, ℕ, ◌+◌, ◌-◌, ◌^◌, ◌<◌, ◌≤◌, ◌++◌, List, length, refl, ap, subst, arith, append_assoc, lit<, lit≤}
use Rattle.std.specs.Int.{w8, w32, w64}
use Rattle.std.specs.List.{AllByRecursion}
use Rattle.mb_base.specs.Limits.{text_limit, part_count, table_part}
use Rattle.mb_base.specs.declared.shape.Shape.{Shape}
use Rattle.mb_base.specs.Shapes.{Bytes, IsShape, host_count}
use Rattle.mb_base.specs.Spelling.{number, text, listed}
use Rattle.mb_base.proofs.Laws.{IsField, iff_field, pair_field, then_field, made_field, ranged_field, text_field, text16_field, repeat_field, list_field, wide8, wide32}
use Rattle.mb_parts.specs.declared.certificates.Evidence.{Evidence}
use Rattle.mb_parts.specs.Fits.{FitsStable, FitsEvidence, FitsStatePart}
use Rattle.mb_parts.specs.Spelling.{ui_bytes, batch_bytes, stable_bytes, evidence_bytes}
use Rattle.mb_parts.specs.Bares.{if_there}
use Rattle.mb_parts.specs.Reading.{stable_in, state_part_at}
use Rattle.mb_parts.proofs.Fields.{host_field, client_field, counter_field, place_field, position_field, base_field, point_field, end_field, digest_field, ui_field, batch_field, floors_field, stable_field, any_evidence_field, joined_field}
use Rattle.mb_msg.specs.Bodies.{form_of, body_bytes}
use Rattle.mb_msg.specs.Spelling.{prepare_bytes, commit_bytes, reply_bytes, floors_body_bytes, checkpoint_bytes, bare_checkpoint_bytes, wish_bytes, bare_view_change_bytes, bare_new_view_bytes, enter_bytes, open_body_bytes, open_bytes, join_bytes, resend_bytes, fetch_bytes, state_bytes}
use Rattle.mb_msg.specs.Fits.{FitsPrepare, FitsCommit, FitsReply, FitsFloorsBody, FitsCheckpoint, FitsBareCheckpoint, FitsWish, FitsBareViewChange, FitsBareNewView, FitsEnter, FitsOpenBody, FitsOpen, FitsJoin, FitsResend, FitsFetch, FitsState}
use Rattle.mb_msg.specs.Reading.{prepare_of_fields, prepare_at, commit_of_fields, commit_at, reply_of_fields, reply_at, floors_body_of, floors_body_at, checkpoint_of_fields, checkpoint_at, bare_checkpoint_of_fields, bare_checkpoint_at, wish_of_fields, wish_at, bare_view_change_of_fields, bare_view_change_at, bare_new_view_of_fields, bare_new_view_at, enter_of_fields, enter_at, open_body_of_fields, open_body_at, open_of_fields, open_at, join_of_fields, join_at, resend_of_fields, resend_at, fetch_of_fields, fetch_at, state_of_fields, state_parts_at, state_at}
use Rattle.mb_msg.proofs.Bodies.{form_field, bare_form_field, body_field, form_below}

module _ (s : Shape) (h : IsShape s) where
  -- ---- a view that goes its way

  pub prepare_field : IsField (prepare_at s) prepare_bytes (FitsPrepare s)
  unfolding prepare_at prepare_bytes
  prepare_field =
      made_field prepare_of_fields _ _ _ prepare_bytes (FitsPrepare s)
      (λ p f. ap (λ k. number w8 k ++ (number w64 p.1.0 ++ (number w64 p.1.1.0 ++ (body_bytes batch_bytes p.1.1.1.0 ++ ui_bytes p.1.1.1.1)))) f.1.1.1.0.0)
      (λ p f. record { view = f.1.0; pos = f.1.1.0; body = f.1.1.1.0.1; ui = f.1.1.1.1 })
      (λ m f. ((form_of m.body, (m.view, (m.pos, (m.body, m.ui)))), refl, (form_below m.body, (f.view, (f.pos, ((refl, f.body), f.ui)))))) (
      then_field _ _ _ _ (λ form p. number w64 p.0 ++ (number w64 p.1.0 ++ (body_bytes batch_bytes p.1.1.0 ++ ui_bytes p.1.1.1))) _ form_field (λ form small.
      pair_field _ _ _ _ _ _ place_field (
      pair_field _ _ _ _ _ _ position_field (
      pair_field _ _ _ _ _ _ (body_field _ _ _ (batch_field s h) form small) (ui_field s h)))))

  pub commit_field : IsField (commit_at s) commit_bytes (FitsCommit s)
  unfolding commit_at commit_bytes
  commit_field =
      made_field commit_of_fields _ _ _ commit_bytes (FitsCommit s)
      (λ p f. ap (λ k. number w8 k ++ (number w64 p.1.0 ++ (number w64 p.1.1.0 ++ (number w64 p.1.1.1.0 ++ (p.1.1.1.1.0 ++ (body_bytes batch_bytes p.1.1.1.1.1.0 ++ ui_bytes p.1.1.1.1.1.1)))))) f.1.1.1.1.1.0.0)
      (λ p f. record { view = f.1.0; pos = f.1.1.0; counter = f.1.1.1.0; cert = f.1.1.1.1.0; body = f.1.1.1.1.1.0.1; ui = f.1.1.1.1.1.1 })
      (λ m f. ((form_of m.body, (m.view, (m.pos, (m.counter, (m.cert, (m.body, m.ui)))))), refl, (form_below m.body, (f.view, (f.pos, (f.counter, (f.cert, ((refl, f.body), f.ui)))))))) (
      then_field _ _ _ _ (λ form p. number w64 p.0 ++ (number w64 p.1.0 ++ (number w64 p.1.1.0 ++ (p.1.1.1.0 ++ (body_bytes batch_bytes p.1.1.1.1.0 ++ ui_bytes p.1.1.1.1.1))))) _ form_field (λ form small.
      pair_field _ _ _ _ _ _ place_field (
      pair_field _ _ _ _ _ _ position_field (
      pair_field _ _ _ _ _ _ counter_field (
      pair_field _ _ _ _ _ _ digest_field (
      pair_field _ _ _ _ _ _ (body_field _ _ _ (batch_field s h) form small) (ui_field s h)))))))

  pub reply_field : IsField (reply_at s) reply_bytes (FitsReply s)
  unfolding reply_at reply_bytes
  reply_field =
      made_field reply_of_fields _ _ _ reply_bytes (FitsReply s)
      (λ p f. refl)
      (λ p f. record { host = f.0; client = f.1.0; seq = f.1.1.0; pos = f.1.1.1.0; result = f.1.1.1.1.0; tag = f.1.1.1.1.1 })
      (λ m f. ((m.host, (m.client, (m.seq, (m.pos, (m.result, m.tag))))), refl, (f.host, (f.client, (f.seq, (f.pos, (f.result, f.tag))))))) (
      pair_field _ _ _ _ _ _ (host_field s h) (
      pair_field _ _ _ _ _ _ (client_field s h) (
      pair_field _ _ _ _ _ _ counter_field (
      pair_field _ _ _ _ _ _ place_field (
      pair_field _ _ _ _ _ _ (text16_field text_limit (lit< tt)) digest_field)))))

  floors_body_field : IsField (floors_body_at s) floors_body_bytes (FitsFloorsBody s)
  unfolding floors_body_at
  floors_body_field = made_field floors_body_of _ _ _ floors_body_bytes (FitsFloorsBody s) (λ l f. refl) (λ l f. f) (λ b f. (b.floors, refl, f)) (floors_field s h)

  pub checkpoint_field : IsField (checkpoint_at s) checkpoint_bytes (FitsCheckpoint s)
  unfolding checkpoint_at checkpoint_bytes
  checkpoint_field =
      made_field checkpoint_of_fields _ _ _ checkpoint_bytes (FitsCheckpoint s)
      (λ p f. ap (λ k. number w8 k ++ (number w64 p.1.0 ++ (p.1.1.0 ++ (body_bytes floors_body_bytes p.1.1.1.0 ++ ui_bytes p.1.1.1.1)))) f.1.1.1.0.0)
      (λ p f. record { pos = f.1.0; state = f.1.1.0; body = f.1.1.1.0.1; ui = f.1.1.1.1 })
      (λ m f. ((form_of m.body, (m.pos, (m.state, (m.body, m.ui)))), refl, (form_below m.body, (f.pos, (f.state, ((refl, f.body), f.ui)))))) (
      then_field _ _ _ _ (λ form p. number w64 p.0 ++ (p.1.0 ++ (body_bytes floors_body_bytes p.1.1.0 ++ ui_bytes p.1.1.1))) _ form_field (λ form small.
      pair_field _ _ _ _ _ _ position_field (
      pair_field _ _ _ _ _ _ digest_field (
      pair_field _ _ _ _ _ _ (body_field _ _ _ floors_body_field form small) (ui_field s h)))))

  pub bare_checkpoint_field : IsField (bare_checkpoint_at s) bare_checkpoint_bytes (FitsBareCheckpoint s)
  unfolding bare_checkpoint_at bare_checkpoint_bytes
  bare_checkpoint_field =
      made_field bare_checkpoint_of_fields _ _ _ bare_checkpoint_bytes (FitsBareCheckpoint s)
      (λ p f. rw f.0 refl)
      (λ p f. record { pos = f.1.0; state = f.1.1.0; body = f.1.1.1.0; ui = f.1.1.1.1 })
      (λ m f. ((0, (m.pos, (m.state, (m.body, m.ui)))), refl, (refl, (f.pos, (f.state, (f.body, f.ui)))))) (
      pair_field _ _ _ _ _ _ bare_form_field (
      pair_field _ _ _ _ _ _ position_field (
      pair_field _ _ _ _ _ _ digest_field (
      pair_field _ _ _ _ _ _ digest_field (ui_field s h)))))

  -- ---- a change of the view

  pub wish_field : IsField (wish_at s) wish_bytes (FitsWish s)
  unfolding wish_at wish_bytes
  wish_field =
      made_field wish_of_fields _ _ _ wish_bytes (FitsWish s)
      (λ p f. refl)
      (λ p f. record { host = f.0; view = f.1.0; tag = f.1.1 })
      (λ m f. ((m.host, (m.view, m.tag)), refl, (f.host, (f.view, f.tag)))) (
      pair_field _ _ _ _ _ _ (host_field s h) (
      pair_field _ _ _ _ _ _ position_field digest_field))

  pub bare_view_change_field : IsField (bare_view_change_at s) bare_view_change_bytes (FitsBareViewChange s)
  unfolding bare_view_change_at bare_view_change_bytes
  bare_view_change_field =
      made_field bare_view_change_of_fields _ _ _ bare_view_change_bytes (FitsBareViewChange s)
      (λ p f. rw f.0 refl)
      (λ p f. record { view = f.1.0; body = f.1.1.0; ui = f.1.1.1 })
      (λ m f. ((0, (m.view, (m.body, m.ui))), refl, (refl, (f.view, (f.body, f.ui))))) (
      pair_field _ _ _ _ _ _ bare_form_field (
      pair_field _ _ _ _ _ _ position_field (
      pair_field _ _ _ _ _ _ digest_field (ui_field s h))))

  pub bare_new_view_field : IsField (bare_new_view_at s) bare_new_view_bytes (FitsBareNewView s)
  unfolding bare_new_view_at bare_new_view_bytes
  bare_new_view_field =
      made_field bare_new_view_of_fields _ _ _ bare_new_view_bytes (FitsBareNewView s)
      (λ p f. rw f.0 (simp append_assoc))
      (λ p f. record { view = f.1.0; base = f.1.1.0; end = f.1.1.1.0; plan = f.1.1.1.1.0; body = f.1.1.1.1.1.0; ui = f.1.1.1.1.1.1 })
      (λ m f. ((0, (m.view, (m.base, (m.end, (m.plan, (m.body, m.ui)))))), refl, (refl, (f.view, (f.base, (f.end, (f.plan, (f.body, f.ui)))))))) (
      pair_field _ _ _ _ _ _ bare_form_field (
      pair_field _ _ _ _ _ _ position_field (
      then_field _ _ _ _ (λ base p. number w64 p.0 ++ (p.1.0 ++ (p.1.1.0 ++ ui_bytes p.1.1.1))) _ (base_field s h) (λ base ok.
      pair_field _ _ _ _ _ _ (end_field s h base) (
      pair_field _ _ _ _ _ _ digest_field (
      pair_field _ _ _ _ _ _ digest_field (ui_field s h)))))))

  pub enter_field : IsField (enter_at s) enter_bytes (FitsEnter s)
  unfolding enter_at enter_bytes
  enter_field =
      made_field enter_of_fields _ _ _ enter_bytes (FitsEnter s)
      (λ p f. rw f.0 refl)
      (λ p f. record { view = f.1.0; counter = f.1.1.0; plan = f.1.1.1.0; ui = f.1.1.1.1 })
      (λ m f. ((0, (m.view, (m.counter, (m.plan, m.ui)))), refl, (refl, (f.view, (f.counter, (f.plan, f.ui)))))) (
      pair_field _ _ _ _ _ _ bare_form_field (
      pair_field _ _ _ _ _ _ position_field (
      pair_field _ _ _ _ _ _ counter_field (
      pair_field _ _ _ _ _ _ digest_field (ui_field s h)))))

  -- of one position
  stable_at_field : (base : ℕ) → base < 2 ^ 63 → IsField (stable_in s base base) stable_bytes (λ c. FitsStable s c × (c.pos ≡ base))
  stable_at_field base lt =
      let same : base + 1 - 1 ≡ base = omega arith in
      iff_field _ _ _ _ (λ c f. (f.0, omega (arith, f.1.0, f.1.1))) (λ c f. (f.0, (omega (arith, f.1), omega (arith, f.1)))) (
      subst (λ (k : ℕ). IsField (stable_in s base k) stable_bytes (λ c. FitsStable s c × ((base ≤ c.pos) × (c.pos < base + 1)))) same (stable_field s h base (base + 1) (omega arith) (omega (arith, lt))))

  open_body_field : (e : Evidence) → FitsEvidence s e → IsField (open_body_at s e) open_body_bytes (FitsOpenBody s e)
  unfolding open_body_at open_body_bytes
  open_body_field e ok =
      made_field open_body_of_fields _ _ _ open_body_bytes (FitsOpenBody s e)
      (λ p f. refl)
      (λ p f. ((f.0.0, f.1.1), (f.0.1, f.1.0)))
      (λ b f. ((b.stable, b.batches), refl, ((f.0.0, f.1.0), (f.1.1, f.0.1)))) (
      pair_field _ _ _ _ _ _ (stable_at_field e.base ok.base.0) (repeat_field (e.end - e.base) _ _ _ (batch_field s h)))

  pub open_field : IsField (open_at s) open_bytes (FitsOpen s)
  unfolding open_at open_bytes
  open_field =
      made_field open_of_fields _ _ _ open_bytes (FitsOpen s)
      (λ p f. ap (λ k. number w8 k ++ (evidence_bytes p.1.0 ++ (body_bytes open_body_bytes p.1.1.0 ++ ui_bytes p.1.1.1))) f.1.1.0.0)
      (λ p f. record { evidence = f.1.0; body = f.1.1.0.1; ui = f.1.1.1 })
      (λ m f. ((form_of m.body, (m.evidence, (m.body, m.ui))), refl, (form_below m.body, (f.evidence, ((refl, f.body), f.ui))))) (
      then_field _ _ _ _ (λ form p. evidence_bytes p.0 ++ (body_bytes open_body_bytes p.1.0 ++ ui_bytes p.1.1)) _ form_field (λ form small.
      then_field _ _ _ _ (λ e p. body_bytes open_body_bytes p.0 ++ ui_bytes p.1) _ (any_evidence_field s h) (λ e ok.
      pair_field _ _ _ _ _ _ (body_field _ _ _ (open_body_field e ok) form small) (ui_field s h))))

  pub join_field : IsField (join_at s) join_bytes (FitsJoin s)
  unfolding join_at join_bytes
  join_field =
      made_field join_of_fields _ _ _ join_bytes (FitsJoin s)
      (λ p f. rw f.0 refl)
      (λ p f. record { view = f.1.0; evidence = f.1.1.0; stable = f.1.1.1.0.0; above = f.1.1.1.0.1.0; ui = f.1.1.1.1 })
      (λ m f. ((0, (m.view, (m.evidence, (m.stable, m.ui)))), refl, (refl, (f.view, (f.evidence, ((f.stable, (f.above, f.stable.pos.0)), f.ui)))))) (
      pair_field _ _ _ _ _ _ bare_form_field (
      then_field _ _ _ _ (λ view p. if_there p.0 ++ (stable_bytes p.1.0 ++ ui_bytes p.1.1)) _ place_field (λ view lt.
      pair_field _ _ _ _ _ _ (joined_field s h view lt) (
      pair_field _ _ _ _ _ _ (stable_field s h 1 (2 ^ 63) (lit≤ tt) (lit≤ tt)) (ui_field s h)))))

  -- ---- a host that comes back

  pub resend_field : IsField (resend_at s) resend_bytes (FitsResend s)
  unfolding resend_at resend_bytes
  resend_field =
      made_field resend_of_fields _ _ _ resend_bytes (FitsResend s)
      (λ p f. refl)
      (λ p f. record { host = f.0; low = f.1.0; count = f.1.1.0; nexts = f.1.1.1 })
      (λ m f. ((m.host, (m.low, m.nexts)), refl, (f.host, (f.low, (f.count, f.nexts))))) (
      pair_field _ _ _ _ _ _ (host_field s h) (
      pair_field _ _ _ _ _ _ place_field (repeat_field (host_count s) _ _ _ counter_field)))

  pub fetch_field : IsField (fetch_at s) fetch_bytes (FitsFetch s)
  unfolding fetch_at fetch_bytes
  fetch_field =
      made_field fetch_of_fields _ _ _ fetch_bytes (FitsFetch s)
      (λ p f. refl)
      (λ p f. record { host = f.0; asked = f.1.0; pos = f.1.1.0; first = f.1.1.1.1 })
      (λ m f. ((m.host, (m.of, (m.pos, m.first))), refl, (f.host, (f.asked, (f.pos, (omega arith, f.first)))))) (
      pair_field _ _ _ _ _ _ (host_field s h) (
      pair_field _ _ _ _ _ _ (host_field s h) (
      pair_field _ _ _ _ _ _ (point_field s h) (ranged_field w8 (2 ^ 8) 0 table_part (lit< tt) wide8))))

  state_part_field : IsField state_part_at (text w32) FitsStatePart
  state_part_field = iff_field _ _ _ _ (λ p f. omega (arith, f.1)) (λ p f. (omega arith, omega (arith, f))) (text_field w32 (2 ^ 32) 0 (2 ^ 32 - 1) (lit< tt) wide32)

  abbrev PartsFit : ℕ × List Bytes → Type 0
  PartsFit p = ((0 ≤ p.0) × (p.0 ≤ table_part)) × (((1 ≤ length p.1) × (length p.1 ≤ part_count - p.0)) × AllByRecursion FitsStatePart p.1)

  state_parts_field : IsField state_parts_at (λ p. number w8 p.0 ++ listed w8 (text w32) p.1) PartsFit
  state_parts_field =
      then_field _ _ _ _ (λ first parts. listed w8 (text w32) parts) (λ first parts. ((1 ≤ length parts) × (length parts ≤ part_count - first)) × AllByRecursion FitsStatePart parts)
      (ranged_field w8 (2 ^ 8) 0 table_part (lit< tt) wide8) (λ first f. list_field w8 (2 ^ 8) 1 (part_count - first) (omega arith) wide8 _ _ _ state_part_field)

  pub state_field : IsField (state_at s) state_bytes (FitsState s)
  unfolding state_at state_bytes
  state_field =
      made_field state_of_fields _ _ _ state_bytes (FitsState s)
      (λ p f. refl)
      (λ p f. record { host = f.0; pos = f.1.0; digest_count = f.1.1.0.0; digests = f.1.1.0.1; first = f.1.1.1.0.1; count = f.1.1.1.1.0; parts = f.1.1.1.1.1 })
      (λ m f. ((m.host, (m.pos, (m.digests, (m.first, m.parts)))), refl, (f.host, (f.pos, ((f.digest_count, f.digests), ((omega arith, f.first), (f.count, f.parts))))))) (
      pair_field _ _ _ _ _ _ (host_field s h) (
      pair_field _ _ _ _ _ _ (point_field s h) (
      pair_field _ _ _ _ _ _ (repeat_field part_count _ _ _ digest_field) state_parts_field)))
