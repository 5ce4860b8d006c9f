-- What a certificate covers says all of what was stamped: it is read back, so different bare messages have different bytes.
use Rattle.std.proofs.Common.{◌≡◌, ℕ, ◌+◌, ◌-◌, ◌^◌, ◌<◌, ◌≤◌, ◌++◌, [], Option, Some, Ok, length, refl, sym, ap, ◌∙◌, lit<, lit≤}
use Rattle.std.specs.Int.{w8, w64}
use Rattle.std.proofs.lemmas.List.{append-nil}
use Rattle.mb_base.specs.declared.shape.Shape.{Shape}
use Rattle.mb_base.specs.Shapes.{Bytes, IsShape}
use Rattle.mb_base.specs.Spelling.{number}
use Rattle.mb_base.specs.Reading.{Cursor, cursor, Reads, pair_at, then_at, map_at}
use Rattle.mb_base.proofs.Laws.{IsField, pair_field, then_field, ranged_field, wide8}
use Rattle.mb_parts.specs.declared.certificates.Evidence.{Evidence}
use Rattle.mb_parts.specs.declared.certificates.StableCert.{StableCert}
use Rattle.mb_parts.specs.Fits.{IsPosition, IsDigest, IsEnd, IsBase, FitsStable, FitsJoined, FitsBare}
use Rattle.mb_parts.specs.Spelling.{evidence_bytes, stable_bytes}
use Rattle.mb_parts.specs.Bares.{Bare, bare_bytes, if_there}
use Rattle.mb_parts.specs.Bares as bare
use Rattle.mb_parts.specs.Reading.{place_at, position_at, base_at, end_at, digest_at, stable_in, evidence_of_view}
use Rattle.mb_parts.specs.BareReading.{bare_prepare_at, bare_commit_at, bare_checkpoint_at, bare_view_change_at, bare_new_view_at, bare_enter_at, bare_open_at, bare_join_at, bare_at, bare_of_bytes}
use Rattle.mb_parts.proofs.Fields.{counter_field, place_field, position_field, base_field, end_field, digest_field, stable_field, any_evidence_field, joined_field}

abbrev kind_of : Bare → ℕ
kind_of (bare.Prepare view pos digest) = 2
kind_of (bare.Commit view pos counter cert digest) = 3
kind_of (bare.Checkpoint pos state digest) = 5
kind_of (bare.ViewChange view digest) = 7
kind_of (bare.NewView view base end plan digest) = 8
kind_of (bare.Enter view counter plan) = 9
kind_of (bare.Open evidence digest) = 10
kind_of (bare.Join view evidence stable) = 11

kind_in : (b : Bare) → (0 ≤ kind_of b) × (kind_of b ≤ 255)
kind_in (bare.Prepare view pos digest) = (lit≤ tt, lit≤ tt)
kind_in (bare.Commit view pos counter cert digest) = (lit≤ tt, lit≤ tt)
kind_in (bare.Checkpoint pos state digest) = (lit≤ tt, lit≤ tt)
kind_in (bare.ViewChange view digest) = (lit≤ tt, lit≤ tt)
kind_in (bare.NewView view base end plan digest) = (lit≤ tt, lit≤ tt)
kind_in (bare.Enter view counter plan) = (lit≤ tt, lit≤ tt)
kind_in (bare.Open evidence digest) = (lit≤ tt, lit≤ tt)
kind_in (bare.Join view evidence stable) = (lit≤ tt, lit≤ tt)

-- what is read of fields that fit, made into a bare message
made : {A : Type 0} (make : A → Bare) (f : Cursor → Reads A) (tf : A → Bytes) (P : A → Type 0) → IsField f tf P → (x : A) (at : ℕ) → P x
    → map_at make f (cursor at (tf x)) ≡ Ok (make x, cursor (at + length (tf x)) [])
made make f tf P hf x at fits =
    let here : f (cursor at (tf x)) ≡ Ok (x, cursor (at + length (tf x)) []) = ap (λ (u : Bytes). f (cursor at u)) (sym (append-nil (tf x))) ∙ hf.again x at [] fits in
    rw here refl

module _ (s : Shape) (h : IsShape s) where
  abbrev NewViewFields : Type 0
  NewViewFields = ℕ × (ℕ × (ℕ × (Bytes × Bytes)))

  new_view_field : IsField (pair_at position_at (then_at (base_at s) (λ base. pair_at (end_at s base) (pair_at digest_at digest_at))))
      (λ (p : NewViewFields). number w64 p.0 ++ (number w64 p.1.0 ++ (number w64 p.1.1.0 ++ (p.1.1.1.0 ++ p.1.1.1.1)))) (λ p. IsPosition p.0 × (IsBase s p.1.0 × (IsEnd s p.1.0 p.1.1.0 × (IsDigest p.1.1.1.0 × IsDigest p.1.1.1.1))))
  new_view_field =
      pair_field _ _ _ _ _ _ position_field (
      then_field _ _ _ _ (λ base p. number w64 p.0 ++ (p.1.0 ++ p.1.1)) (λ base p. IsEnd s base p.0 × (IsDigest p.1.0 × IsDigest p.1.1)) (base_field s h) (λ base ok.
      pair_field _ _ _ _ _ _ (end_field s h base) (pair_field _ _ _ _ _ _ digest_field digest_field)))

  abbrev JoinFields : Type 0
  JoinFields = ℕ × (Option Evidence × StableCert)

  join_field : IsField (then_at place_at (λ view. pair_at (evidence_of_view s view) (stable_in s 1 (2 ^ 63 - 1))))
      (λ (p : JoinFields). number w64 p.0 ++ (if_there p.1.0 ++ stable_bytes p.1.1)) (λ p. (p.0 < 2 ^ 63) × (FitsJoined s p.0 p.1.0 × (FitsStable s p.1.1 × ((1 ≤ p.1.1.pos) × (p.1.1.pos < 2 ^ 63)))))
  join_field =
      then_field _ _ _ _ (λ view p. if_there p.0 ++ stable_bytes p.1) (λ view p. FitsJoined s view p.0 × (FitsStable s p.1 × ((1 ≤ p.1.pos) × (p.1.pos < 2 ^ 63)))) place_field (λ view lt.
      pair_field _ _ _ _ _ _ (joined_field s h view lt) (stable_field s h 1 (2 ^ 63) (lit≤ tt) (lit≤ tt)))

  -- what fits is read back from its bytes
  pub bare_again : (b : Bare) → FitsBare s b → bare_of_bytes s (bare_bytes b) ≡ Some b
  unfolding bare_of_bytes bare_at bare_bytes bare_prepare_at bare_commit_at bare_checkpoint_at bare_view_change_at bare_new_view_at bare_enter_at bare_open_at bare_join_at
  bare_again (bare.Prepare view pos digest) f =
      let kind = (ranged_field w8 (2 ^ 8) 0 255 (lit< tt) wide8).again 2 0 (number w64 view ++ (number w64 pos ++ digest)) (lit≤ tt, lit≤ tt) in
      rw (kind, made (λ p. bare.Prepare p.0 p.1.0 p.1.1) _ _ _ (pair_field _ _ _ _ _ _ place_field (pair_field _ _ _ _ _ _ position_field digest_field)) (view, (pos, digest)) (0 + length (number w8 2)) f) refl
  bare_again (bare.Commit view pos counter cert digest) f =
      let kind = (ranged_field w8 (2 ^ 8) 0 255 (lit< tt) wide8).again 3 0 (number w64 view ++ (number w64 pos ++ (number w64 counter ++ (cert ++ digest)))) (lit≤ tt, lit≤ tt) in
      rw (kind, made (λ p. bare.Commit p.0 p.1.0 p.1.1.0 p.1.1.1.0 p.1.1.1.1) _ _ _ (pair_field _ _ _ _ _ _ place_field (pair_field _ _ _ _ _ _ position_field (pair_field _ _ _ _ _ _ counter_field (pair_field _ _ _ _ _ _ digest_field digest_field)))) (view, (pos, (counter, (cert, digest)))) (0 + length (number w8 3)) f) refl
  bare_again (bare.Checkpoint pos state digest) f =
      let kind = (ranged_field w8 (2 ^ 8) 0 255 (lit< tt) wide8).again 5 0 (number w64 pos ++ (state ++ digest)) (lit≤ tt, lit≤ tt) in
      rw (kind, made (λ p. bare.Checkpoint p.0 p.1.0 p.1.1) _ _ _ (pair_field _ _ _ _ _ _ position_field (pair_field _ _ _ _ _ _ digest_field digest_field)) (pos, (state, digest)) (0 + length (number w8 5)) f) refl
  bare_again (bare.ViewChange view digest) f =
      let kind = (ranged_field w8 (2 ^ 8) 0 255 (lit< tt) wide8).again 7 0 (number w64 view ++ digest) (lit≤ tt, lit≤ tt) in
      rw (kind, made (λ p. bare.ViewChange p.0 p.1) _ _ _ (pair_field _ _ _ _ _ _ position_field digest_field) (view, digest) (0 + length (number w8 7)) f) refl
  bare_again (bare.NewView view base end plan digest) f =
      let kind = (ranged_field w8 (2 ^ 8) 0 255 (lit< tt) wide8).again 8 0 (number w64 view ++ (number w64 base ++ (number w64 end ++ (plan ++ digest)))) (lit≤ tt, lit≤ tt) in
      rw (kind, made (λ p. bare.NewView p.0 p.1.0 p.1.1.0 p.1.1.1.0 p.1.1.1.1) _ _ _ new_view_field (view, (base, (end, (plan, digest)))) (0 + length (number w8 8)) f) refl
  bare_again (bare.Enter view counter plan) f =
      let kind = (ranged_field w8 (2 ^ 8) 0 255 (lit< tt) wide8).again 9 0 (number w64 view ++ (number w64 counter ++ plan)) (lit≤ tt, lit≤ tt) in
      rw (kind, made (λ p. bare.Enter p.0 p.1.0 p.1.1) _ _ _ (pair_field _ _ _ _ _ _ position_field (pair_field _ _ _ _ _ _ counter_field digest_field)) (view, (counter, plan)) (0 + length (number w8 9)) f) refl
  bare_again (bare.Open evidence digest) f =
      let kind = (ranged_field w8 (2 ^ 8) 0 255 (lit< tt) wide8).again 10 0 (evidence_bytes evidence ++ digest) (lit≤ tt, lit≤ tt) in
      rw (kind, made (λ p. bare.Open p.0 p.1) _ _ _ (pair_field _ _ _ _ _ _ (any_evidence_field s h) digest_field) (evidence, digest) (0 + length (number w8 10)) f) refl
  bare_again (bare.Join view evidence stable) f =
      let kind = (ranged_field w8 (2 ^ 8) 0 255 (lit< tt) wide8).again 11 0 (number w64 view ++ (if_there evidence ++ stable_bytes stable)) (lit≤ tt, lit≤ tt) in
      rw (kind, made (λ p. bare.Join p.0 p.1.0 p.1.1) _ _ _ join_field (view, (evidence, stable)) (0 + length (number w8 11)) (f.0, (f.1.0, (f.1.1.0, (f.1.1.1, f.1.1.0.pos.0))))) refl

  some_is : (x y : Bare) → Some x ≡ Some y → x ≡ y
  some_is x y e = cc

  -- different bare messages that fit have different bytes
  pub bare_injective : (x y : Bare) → FitsBare s x → FitsBare s y → bare_bytes x ≡ bare_bytes y → x ≡ y
  bare_injective x y fx fy e = some_is x y (sym (bare_again x fx) ∙ ap (bare_of_bytes s) e ∙ bare_again y fy)
