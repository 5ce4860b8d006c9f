-- A value behind what is done with it, where that went well.
use Rattle.std.proofs.Common.{◌≡◌, Result, Ok, Err, OnOk}
use Rattle.std.specs.Result.{result_and}

module _ {T E U : Type 0} where
  -- What was done went well.
  pub went_well : (done : Result T E) (given left : U) {P : Type 0} → Ok left ≡ result_and done (Ok given) → OnOk done P → P
  went_well (Ok x) given left is holds = holds
  went_well (Err e) given left is holds = absurd cc

  -- The value is the same.
  pub still : (done : Result T E) (given left : U) → Ok left ≡ result_and done (Ok given) → left ≡ given
  still (Ok x) given left is = cc
  still (Err e) given left is = absurd cc
