-- Bytes that are read as a bare message are those of that message.
use Rattle.std.proofs.Common.{◌≡◌, ℕ, ◌^◌, ◌<◌, ◌≤◌, ◌++◌, Bool, true, false, cond, eqb, [], length, Some, None, Result, Ok, Err, refl, sym, ap, ◌∙◌, inl, inr, lit<, lit≤}
use Rattle.std.specs.Int.{w8, w64}
use Rattle.std.proofs.lemmas.Bool.{cases_Bool, eqb-true}
use Rattle.std.proofs.lemmas.List.{append-nil, nil_from_length}
use Rattle.mb_base.specs.declared.shape.Shape.{Shape}
use Rattle.mb_base.specs.Shapes.{Bytes, IsShape}
use Rattle.mb_base.specs.Spelling.{number, IsBytes}
use Rattle.mb_base.specs.Reading.{Cursor, cursor, Reads, number_in, then_at}
use Rattle.mb_base.proofs.Laws.{Takes, bind_ok, ok_is, pair_field, then_field, ranged_field, wide8}
use Rattle.mb_parts.specs.Fits.{IsDigest, IsEnd, FitsStable, FitsJoined}
use Rattle.mb_parts.specs.Spelling.{evidence_bytes, stable_bytes}
use Rattle.mb_parts.specs.Bares.{Bare, bare_bytes, if_there}
use Rattle.mb_parts.specs.Bares as bare
use Rattle.mb_parts.specs.BareReading.{bare_prepare_at, bare_commit_at, bare_checkpoint_at, bare_view_change_at, bare_new_view_at, bare_enter_at, bare_open_at, bare_join_at, behind_bare_kind, bare_at, if_all, bare_of_bytes}
use Rattle.mb_parts.proofs.Fields.{counter_field, place_field, position_field, base_field, end_field, digest_field, stable_field, any_evidence_field, joined_field}
use Rattle.mb_msg.proofs.Dispatch.{Yields, made_yields}

abbrev kind_of : Bare → ℕ
kind_of (bare.Prepare view pos digest) = 2
kind_of (bare.Commit view pos counter cert digest) = 3
kind_of (bare.Checkpoint pos state digest) = 5
kind_of (bare.ViewChange view digest) = 7
kind_of (bare.NewView view base end plan digest) = 8
kind_of (bare.Enter view counter plan) = 9
kind_of (bare.Open evidence digest) = 10
kind_of (bare.Join view evidence stable) = 11

abbrev behind : Bare → Bytes
behind (bare.Prepare view pos digest) = number w64 view ++ (number w64 pos ++ digest)
behind (bare.Commit view pos counter cert digest) = number w64 view ++ (number w64 pos ++ (number w64 counter ++ (cert ++ digest)))
behind (bare.Checkpoint pos state digest) = number w64 pos ++ (state ++ digest)
behind (bare.ViewChange view digest) = number w64 view ++ digest
behind (bare.NewView view base end plan digest) = number w64 view ++ (number w64 base ++ (number w64 end ++ (plan ++ digest)))
behind (bare.Enter view counter plan) = number w64 view ++ (number w64 counter ++ plan)
behind (bare.Open evidence digest) = evidence_bytes evidence ++ digest
behind (bare.Join view evidence stable) = number w64 view ++ (if_there evidence ++ stable_bytes stable)

spelled : (b : Bare) → number w8 (kind_of b) ++ behind b ≡ bare_bytes b
unfolding bare_bytes
spelled (bare.Prepare view pos digest) = refl
spelled (bare.Commit view pos counter cert digest) = refl
spelled (bare.Checkpoint pos state digest) = refl
spelled (bare.ViewChange view digest) = refl
spelled (bare.NewView view base end plan digest) = refl
spelled (bare.Enter view counter plan) = refl
spelled (bare.Open evidence digest) = refl
spelled (bare.Join view evidence stable) = refl

cond_read : {A : Type 0} (b : Bool) (u v : Result A ℕ) (G : Type 0) (r : A) → cond b u v ≡ Ok r → (b ≡ true → u ≡ Ok r → G) → (b ≡ false → v ≡ Ok r → G) → G
cond_read true u v G r e first second = first refl e
cond_read false u v G r e first second = second refl e

module _ (s : Shape) (h : IsShape s) where
  abbrev IsKind : ℕ → (Cursor → Reads Bare) → Type 0
  IsKind k f = Yields f behind (λ b. kind_of b ≡ k)

  prepare_kind : IsKind 2 bare_prepare_at
  unfolding bare_prepare_at
  prepare_kind = made_yields (λ p. bare.Prepare p.0 p.1.0 p.1.1) _ _ _ behind _ (λ p. refl) (λ p f. refl) (pair_field _ _ _ _ _ _ place_field (pair_field _ _ _ _ _ _ position_field digest_field))

  commit_kind : IsKind 3 bare_commit_at
  unfolding bare_commit_at
  commit_kind = made_yields (λ p. bare.Commit p.0 p.1.0 p.1.1.0 p.1.1.1.0 p.1.1.1.1) _ _ _ behind _ (λ p. refl) (λ p f. refl)
      (pair_field _ _ _ _ _ _ place_field (pair_field _ _ _ _ _ _ position_field (pair_field _ _ _ _ _ _ counter_field (pair_field _ _ _ _ _ _ digest_field digest_field))))

  checkpoint_kind : IsKind 5 bare_checkpoint_at
  unfolding bare_checkpoint_at
  checkpoint_kind = made_yields (λ p. bare.Checkpoint p.0 p.1.0 p.1.1) _ _ _ behind _ (λ p. refl) (λ p f. refl) (pair_field _ _ _ _ _ _ position_field (pair_field _ _ _ _ _ _ digest_field digest_field))

  view_change_kind : IsKind 7 bare_view_change_at
  unfolding bare_view_change_at
  view_change_kind = made_yields (λ p. bare.ViewChange p.0 p.1) _ _ _ behind _ (λ p. refl) (λ p f. refl) (pair_field _ _ _ _ _ _ position_field digest_field)

  new_view_kind : IsKind 8 (bare_new_view_at s)
  unfolding bare_new_view_at
  new_view_kind = made_yields (λ p. bare.NewView p.0 p.1.0 p.1.1.0 p.1.1.1.0 p.1.1.1.1) _ _ _ behind _ (λ p. refl) (λ p f. refl)
      (pair_field _ _ _ _ _ _ position_field (
      then_field _ _ _ _ (λ base p. number w64 p.0 ++ (p.1.0 ++ p.1.1)) (λ base p. IsEnd s base p.0 × (IsDigest p.1.0 × IsDigest p.1.1)) (base_field s h) (λ base ok.
      pair_field _ _ _ _ _ _ (end_field s h base) (pair_field _ _ _ _ _ _ digest_field digest_field))))

  enter_kind : IsKind 9 bare_enter_at
  unfolding bare_enter_at
  enter_kind = made_yields (λ p. bare.Enter p.0 p.1.0 p.1.1) _ _ _ behind _ (λ p. refl) (λ p f. refl) (pair_field _ _ _ _ _ _ position_field (pair_field _ _ _ _ _ _ counter_field digest_field))

  open_kind : IsKind 10 (bare_open_at s)
  unfolding bare_open_at
  open_kind = made_yields (λ p. bare.Open p.0 p.1) _ _ _ behind _ (λ p. refl) (λ p f. refl) (pair_field _ _ _ _ _ _ (any_evidence_field s h) digest_field)

  join_kind : IsKind 11 (bare_join_at s)
  unfolding bare_join_at
  join_kind = made_yields (λ p. bare.Join p.0 p.1.0 p.1.1) _ _ _ behind _ (λ p. refl) (λ p f. refl)
      (then_field _ _ _ _ (λ view p. if_there p.0 ++ stable_bytes p.1) (λ view p. FitsJoined s view p.0 × (FitsStable s p.1 × ((1 ≤ p.1.pos) × (p.1.pos < 2 ^ 63)))) place_field (λ view lt.
      pair_field _ _ _ _ _ _ (joined_field s h view lt) (stable_field s h 1 (2 ^ 63) (lit≤ tt) (lit≤ tt))))

  -- by the kind
  behind_takes : (k : ℕ) → IsKind k (behind_bare_kind s k)
  behind_takes k c x t fits e =
      cond_read (eqb k 2) _ _ Goal (x, t) e (λ y e. to 2 y (prepare_kind c x t fits e)) (λ n e.
      cond_read (eqb k 3) _ _ Goal (x, t) e (λ y e. to 3 y (commit_kind c x t fits e)) (λ n e.
      cond_read (eqb k 5) _ _ Goal (x, t) e (λ y e. to 5 y (checkpoint_kind c x t fits e)) (λ n e.
      cond_read (eqb k 7) _ _ Goal (x, t) e (λ y e. to 7 y (view_change_kind c x t fits e)) (λ n e.
      cond_read (eqb k 8) _ _ Goal (x, t) e (λ y e. to 8 y (new_view_kind c x t fits e)) (λ n e.
      cond_read (eqb k 9) _ _ Goal (x, t) e (λ y e. to 9 y (enter_kind c x t fits e)) (λ n e.
      cond_read (eqb k 10) _ _ Goal (x, t) e (λ y e. to 10 y (open_kind c x t fits e)) (λ n e.
      cond_read (eqb k 11) _ _ Goal (x, t) e (λ y e. to 11 y (join_kind c x t fits e)) (λ n e. absurd cc)))))))) where
        Goal : Type 0
        Goal = Takes c (behind x) t × (kind_of x ≡ k)

        to : (n : ℕ) → eqb k n ≡ true → Takes c (behind x) t × (kind_of x ≡ n) → Goal
        to n y p = (p.0, p.1 ∙ sym (eqb-true k n y))

  some_is : (x y : Bare) → Some x ≡ Some y → x ≡ y
  some_is x y e = cc

  -- a bare message that is all that was read
  all_read : (p : Bare × Cursor) (m : Bare) → if_all (Ok p) ≡ Some m → (p.1.rest ≡ []) × (p.0 ≡ m)
  all_read p m e = elim (cases_Bool (eqb (length p.1.rest) 0)) [
    | inl none ↦ (nil_from_length p.1.rest (eqb-true _ _ none), some_is p.0 m (rw none at e))
    | inr more ↦ absurd (none_is (rw more at e))
  ] where
    none_is : None ≡ Some m → ⊥
    none_is e = cc

  whole : (bytes : Bytes) (p : Bare × Cursor) → IsBytes bytes → bare_at s (cursor 0 bytes) ≡ Ok p → p.1.rest ≡ [] → bytes ≡ bare_bytes p.0
  unfolding bare_at
  whole bytes p fits e none =
      let a = bind_ok (then_at (number_in w8 0 255) (behind_bare_kind s) (cursor 0 bytes)) (λ v. Ok (v.0.1, v.1)) p e in
      let b = bind_ok (number_in w8 0 255 (cursor 0 bytes)) _ a.0 a.1 in
      let k = (ranged_field w8 (2 ^ 8) 0 255 (lit< tt) wide8).takes (cursor 0 bytes) b.0.0 b.0.1 fits b.1 in
      let d = bind_ok (behind_bare_kind s b.0.0 b.0.1) _ a.0 b.2 in
      let y = behind_takes b.0.0 b.0.1 d.0.0 d.0.1 k.0.rest_fits d.1 in
      let inner = ok_is ((b.0.0, d.0.0), d.0.1) a.0 d.2 in
      let outer = ok_is (a.0.0.1, a.0.1) p a.2 in
      let said : d.0.0 ≡ p.0 = ap (λ (v : (ℕ × Bare) × Cursor). v.0.1) inner ∙ ap (λ (v : Bare × Cursor). v.0) outer in
      let rest : d.0.1.rest ≡ [] = ap (λ (v : (ℕ × Bare) × Cursor). v.1.rest) inner ∙ ap (λ (v : Bare × Cursor). v.1.rest) outer ∙ none in
      let front : bytes ≡ number w8 b.0.0 ++ (behind d.0.0 ++ d.0.1.rest) = k.0.parts ∙ ap (λ u. number w8 b.0.0 ++ u) y.0.parts in
      let text : bytes ≡ number w8 (kind_of d.0.0) ++ behind d.0.0 = front ∙ ap (λ u. number w8 b.0.0 ++ (behind d.0.0 ++ u)) rest ∙ ap (λ u. number w8 b.0.0 ++ u) (append-nil (behind d.0.0)) ∙ ap (λ n. number w8 n ++ behind d.0.0) (sym y.1) in
      text ∙ spelled d.0.0 ∙ ap bare_bytes said

  pub bare_spelled : (bytes : Bytes) (m : Bare) → IsBytes bytes → bare_of_bytes s bytes ≡ Some m → bytes ≡ bare_bytes m
  unfolding bare_of_bytes
  bare_spelled bytes m fits e = by_read (bare_at s (cursor 0 bytes)) refl e where
    by_read : (r : Result (Bare × Cursor) ℕ) → bare_at s (cursor 0 bytes) ≡ r → if_all r ≡ Some m → bytes ≡ bare_bytes m
    by_read (Err at) is e = absurd cc
    by_read (Ok p) is e = let a = all_read p m e in whole bytes p fits is a.0 ∙ ap bare_bytes a.1
