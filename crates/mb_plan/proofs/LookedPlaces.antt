-- What was found of votes stays right at its places.
use Rattle.std.proofs.Common.{◌≡◌, ℕ, zero, suc, List, [], ◌∷◌, slice_get, set, replicate, Some, None, subst}
use Rattle.mb_base.specs.Shapes.{Bytes}
use Rattle.mb_base.specs.declared.shape.Shape.{Shape}
use Rattle.mb_plan.specs.declared.looked.Looked.{Looked}
use Rattle.mb_plan.specs.declared.looked.Named.{Named}
use Rattle.mb_plan.specs.declared.looked.Place.{Place}
use Rattle.mb_plan.specs.Looked.{IsFound, IsStamped, IsRight, AreFound}

module _ (s : Shape) (secret : Bytes) where
  none_right : IsRight s secret (record { looked = None; stamped = None })
  none_right = record { batch = λ l e. absurd cc; prepare = λ m e. absurd cc }

  -- Nothing stands at any place yet.
  pub none_found : (n : ℕ) → AreFound s secret (replicate n (record { looked = None; stamped = None }))
  none_found zero = tt
  none_found (suc n) = (none_right, none_found n)

  -- What stands at a place is right.
  pub right_at : (places : List Place) (i : ℕ) (place : Place) → AreFound s secret places → slice_get places i ≡ Some place → IsRight s secret place
  right_at [] i place are e = absurd cc
  right_at (p ∷ ps) zero place are e = subst (IsRight s secret) (let same : p ≡ place = cc in same) are.0
  right_at (p ∷ ps) (suc i) place are e = right_at ps i place are.1 e

  -- One more stands at its place.
  pub one_more : (places : List Place) (i : ℕ) (place : Place) → AreFound s secret places → IsRight s secret place → AreFound s secret (set places i place)
  one_more [] i place are is = tt
  one_more (p ∷ ps) zero place are is = (is, are.1)
  one_more (p ∷ ps) (suc i) place are is = (are.0, one_more ps i place are.1 is)

  -- Another batch stands there.
  pub with_batch : (place : Place) (l : Looked) → IsRight s secret place → IsFound secret l.batch.now l.found → IsRight s secret (record place { looked = Some l })
  with_batch place l is found = record {
    batch = λ k e. subst (λ (x : Looked). IsFound secret x.batch.now x.found) (let same : l ≡ k = cc in same) found;
    prepare = is.prepare;
  }

  -- Another PREPARE stands there.
  pub with_stamped : (place : Place) (m : Named) → IsRight s secret place → IsStamped s secret m → IsRight s secret (record place { stamped = Some m })
  with_stamped place m is stamped = record {
    batch = is.batch;
    prepare = λ k e. subst (IsStamped s secret) (let same : m ≡ k = cc in same) stamped;
  }
