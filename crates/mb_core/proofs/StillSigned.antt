-- A signed message behind what is done with it, where that went well.
use Rattle.std.proofs.Common.{◌≡◌, sym, subst, Result, Ok, Err, OnOk}
use Rattle.std.specs.Result.{result_and}
use Rattle.mb_msg.specs.declared.stamped.Stamped.{Stamped as StampedMessage}
use Rattle.mb_core.specs.declared.stamping.Signed.{Signed}
use Rattle.mb_core.specs.Signed.{IsSigned}

module _ {T E U : Type 0} where
  -- What was done went well.
  pub went_well : (done : Result T E) (given left : U) {P : Type 0} → Ok left ≡ result_and done (Ok given) → OnOk done P → P
  went_well (Ok x) given left is holds = holds
  went_well (Err e) given left is holds = absurd cc

  -- The value is the same.
  pub still : (done : Result T E) (given left : U) → Ok left ≡ result_and done (Ok given) → left ≡ given
  still (Ok x) given left is = cc
  still (Err e) given left is = absurd cc

-- So it is signed still.
pub still_signed : {T E : Type 0} (m : StampedMessage) (done : Result T E) (given left : Signed) → Ok left ≡ result_and done (Ok given) → IsSigned m given → IsSigned m left
still_signed m done given left is signed = subst (IsSigned m) (sym (still done given left is)) signed
