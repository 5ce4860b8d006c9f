-- The first of two failures.
use Rattle.std.proofs.Common.{◌≡◌, ◌⊎◌, inl, inr}
use Rattle.std.specs.Prelude.{Result, Ok, Err}
use Rattle.mb_cluster.specs.Sends.{first_failure}

-- the first of two failures is one of them
pub either_failed : {E : Type 0} (r q : Result (Unit {0}) E) (e : E) → first_failure r q ≡ Err e → (r ≡ Err e) ⊎ (q ≡ Err e)
either_failed (Ok done) q e is = inr is
either_failed (Err x) q e is = inl is
