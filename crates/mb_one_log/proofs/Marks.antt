-- The requests of a batch that was served lead from state to state, whatever their marks.
use Rattle.std.proofs.Common.{◌≡◌, ℕ, List, [], ◌∷◌, map, refl, ap, ◌∙◌}
use Rattle.mb_parts.specs.declared.request.Request.{Request}
use Rattle.mb_msg.specs.declared.event.Placed.{Placed}
use Rattle.mb_model.specs.Service.{Machine, Served, served, served_each}

abbrev pub requests_of : List Placed → List Request
requests_of ps = map (λ (p : Placed). p.request) ps

module _ {S : Type 0} (m : Machine S) where
  -- The requests alone lead from state to state.
  pub each_same : (x : Served S) (pos : ℕ) (ps qs : List Placed) → requests_of ps ≡ requests_of qs → served_each m x pos ps ≡ served_each m x pos qs
  unfolding served_each
  each_same x pos [] [] e = refl
  each_same x pos [] (q ∷ qs) e = absurd cc
  each_same x pos (p ∷ ps) [] e = absurd cc
  each_same x pos (p ∷ ps) (q ∷ qs) e =
      let first : p.request ≡ q.request = cc in
      let rest : requests_of ps ≡ requests_of qs = cc in
      ap (λ (r : Request). served_each m (served m x pos r) pos ps) first ∙ each_same (served m x pos q.request) pos ps qs rest
