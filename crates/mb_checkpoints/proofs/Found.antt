-- The certificates of a table are those of the search that it stands for.
use Rattle.std.proofs.Common.{◌≡◌, ℕ, ◌+◌, ◌*◌, Option, filter_map, sym, ap, ◌∙◌, arith}
use Rattle.std.specs.List.{range_with_len}
use Rattle.mb_base.specs.declared.shape.Shape.{Shape}
use Rattle.mb_base.specs.Shapes.{interval, host_count}
use Rattle.mb_msg.specs.declared.normal.Checkpoint.{Checkpoint}
use Rattle.mb_model.specs.Stable.{kept_floor}
use Rattle.mb_checkpoints.specs.declared.checkpoints.Checkpoints.{Checkpoints}
use Rattle.mb_checkpoints.specs.Kept.{Represents}
use Rattle.mb_checkpoints.specs.Certificates.{stable_of_these, floor_of_these, found_at, agreed_at, floor_at, message_at, whole_row}
use Rattle.mb_checkpoints.proofs.Rows.{found_same}

module _ (s : Shape) (t : Checkpoints) (low : ℕ) (search : ℕ → ℕ → Option Checkpoint) (st : Represents s t low search) (more pos : ℕ) (at : pos ≡ low + more * interval s) where
  place : (t.first + more) * interval t.shape ≡ pos
  place =
      let first : t.first * interval t.shape ≡ low = st.low_is in
      let same : interval t.shape ≡ interval s = ap interval st.shape_is in
      distribute t.first more (interval t.shape) ∙ ap (λ q. q + more * interval t.shape) first ∙ ap (λ k. low + more * k) same ∙ sym at where
        distribute : (a b k : ℕ) → (a + b) * k ≡ a * k + b * k
        distribute a b k = grind arith

  row_found : whole_row t (t.first + more) ≡ found_at s search pos
  row_found =
      ap (λ (x : Shape). filter_map (message_at t (t.first + more)) (range_with_len 0 (host_count x))) st.shape_is
      ∙ found_same (message_at t (t.first + more)) (λ h. search h pos) 0 (host_count s) (λ h from below.
      st.finds h (t.first + more) (omega (arith, below)) (omega arith) ∙ ap (search h) (sym (ap (λ (x : Shape). (t.first + more) * interval x) st.shape_is) ∙ place))

  pub stable_is : stable_of_these t.shape ((t.first + more) * interval t.shape) (whole_row t (t.first + more)) ≡ agreed_at s search pos
  stable_is = ap (λ (x : Shape). stable_of_these x ((t.first + more) * interval t.shape) (whole_row t (t.first + more))) st.shape_is
      ∙ ap (λ q. stable_of_these s q (whole_row t (t.first + more))) place ∙ ap (stable_of_these s pos) row_found

  pub floor_is : (owner : ℕ) → floor_of_these t.shape ((t.first + more) * interval t.shape) (filter_map (kept_floor owner) (whole_row t (t.first + more))) ≡ floor_at s search owner pos
  floor_is owner = ap (λ (x : Shape). floor_of_these x ((t.first + more) * interval t.shape) (filter_map (kept_floor owner) (whole_row t (t.first + more)))) st.shape_is
      ∙ ap (λ q. floor_of_these s q (filter_map (kept_floor owner) (whole_row t (t.first + more)))) place ∙ ap (λ l. floor_of_these s pos (filter_map (kept_floor owner) l)) row_found
