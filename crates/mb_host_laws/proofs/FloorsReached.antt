-- Where a list of what fits leads from a floor: to a floor whose view and positions fit.
use Rattle.std.proofs.Common.{ℕ, ◌^◌, ◌<◌, Bool, true, false, List, [], ◌∷◌, arith, max}
use Rattle.std.specs.Prelude.{◌==◌, if◌then◌else◌}
use Rattle.std.specs.List.{AllByRecursion}
use Rattle.mb_base.specs.declared.shape.Shape.{Shape}
use Rattle.mb_parts.specs.declared.floor.Floor.{Floor}
use Rattle.mb_parts.specs.Bares.{Bare}
use Rattle.mb_parts.specs.Bares as bare
use Rattle.mb_parts.specs.Fits.{FitsBare, FitsFloor}
use Rattle.mb_parts.specs.Ordered.{current_view, last_position, top_position, last_checkpoint, floor_after}
use Rattle.mb_host_laws.specs.Placed.{IsPlaced}

pub placed : (f : Floor) → FitsFloor f → IsPlaced f
placed f x = record { view = x.view; last = x.last; top = x.top; point = x.point }

if_low : (b : Bool) (x y : ℕ) → x < 2 ^ 63 → y < 2 ^ 63 → (if b then x else y) < 2 ^ 63
if_low true x y p q = p
if_low false x y p q = q

max_low : (x y : ℕ) → x < 2 ^ 63 → y < 2 ^ 63 → max x y < 2 ^ 63
max_low x y p q = omega (arith, p, q)

module _ (s : Shape) where
  abbrev AllFit : List Bare → Type 0
  AllFit l = AllByRecursion (FitsBare s) l

  module _ (o : Floor) (p : IsPlaced o) where
    view_low : (l : List Bare) → AllFit l → current_view o l < 2 ^ 63
    unfolding current_view
    view_low [] a = p.view
    view_low (bare.ViewChange v d ∷ l) a = a.0.0.1
    view_low (bare.Prepare v q d ∷ l) a = view_low l a.1
    view_low (bare.Commit v q n c d ∷ l) a = view_low l a.1
    view_low (bare.Checkpoint q t d ∷ l) a = view_low l a.1
    view_low (bare.NewView v b e q d ∷ l) a = view_low l a.1
    view_low (bare.Enter v c q ∷ l) a = view_low l a.1
    view_low (bare.Open e d ∷ l) a = view_low l a.1
    view_low (bare.Join v e c ∷ l) a = view_low l a.1

    last_low : (l : List Bare) (u : ℕ) → AllFit l → last_position o l u < 2 ^ 63
    unfolding last_position
    last_low [] u a = if_low (o.view == u) o.last 0 p.last (omega arith)
    last_low (bare.ViewChange v d ∷ l) u a = last_low l u a.1
    last_low (bare.Prepare v q d ∷ l) u a = if_low (v == u) q (last_position o l u) a.0.1.0.1 (last_low l u a.1)
    last_low (bare.Commit v q n c d ∷ l) u a = if_low (v == u) q (last_position o l u) a.0.1.0.1 (last_low l u a.1)
    last_low (bare.Checkpoint q t d ∷ l) u a = last_low l u a.1
    last_low (bare.NewView v b e q d ∷ l) u a = last_low l u a.1
    last_low (bare.Enter v c q ∷ l) u a = last_low l u a.1
    last_low (bare.Open e d ∷ l) u a = if_low (e.view == u) e.end (last_position o l u) a.0.0.end.1.1 (last_low l u a.1)
    last_low (bare.Join v e c ∷ l) u a = if_low (v == u) c.pos (last_position o l u) a.0.1.1.0.pos.0 (last_low l u a.1)

    top_low : (l : List Bare) → AllFit l → top_position o l < 2 ^ 63
    unfolding top_position
    top_low [] a = p.top
    top_low (bare.ViewChange v d ∷ l) a = top_low l a.1
    top_low (bare.Prepare v q d ∷ l) a = max_low (top_position o l) q (top_low l a.1) a.0.1.0.1
    top_low (bare.Commit v q n c d ∷ l) a = max_low (top_position o l) q (top_low l a.1) a.0.1.0.1
    top_low (bare.Checkpoint q t d ∷ l) a = top_low l a.1
    top_low (bare.NewView v b e q d ∷ l) a = top_low l a.1
    top_low (bare.Enter v c q ∷ l) a = top_low l a.1
    top_low (bare.Open e d ∷ l) a = max_low (top_position o l) e.end (top_low l a.1) a.0.0.end.1.1
    top_low (bare.Join v e c ∷ l) a = max_low (top_position o l) c.pos (top_low l a.1) a.0.1.1.0.pos.0

    point_low : (l : List Bare) → AllFit l → last_checkpoint o l < 2 ^ 63
    unfolding last_checkpoint
    point_low [] a = p.point
    point_low (bare.ViewChange v d ∷ l) a = point_low l a.1
    point_low (bare.Prepare v q d ∷ l) a = point_low l a.1
    point_low (bare.Commit v q n c d ∷ l) a = point_low l a.1
    point_low (bare.Checkpoint q t d ∷ l) a = a.0.0.1
    point_low (bare.NewView v b e q d ∷ l) a = point_low l a.1
    point_low (bare.Enter v c q ∷ l) a = point_low l a.1
    point_low (bare.Open e d ∷ l) a = point_low l a.1
    point_low (bare.Join v e c ∷ l) a = point_low l a.1

    pub leads_low : (l : List Bare) → AllFit l → IsPlaced (floor_after o l)
    leads_low l a = record { view = view_low l a; last = last_low l (current_view o l) a; top = top_low l a; point = point_low l a }
