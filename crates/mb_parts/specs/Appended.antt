-- What a call that writes a part of a message gives.
use Rattle.std.specs.Prelude.{◌≡◌, ◌++◌, Result, OnOk, OnErr}
use Rattle.mb_base.specs.Shapes.{Bytes}

-- A call that appends these bytes has them behind what is there, or memory ran out and nothing is written.
pub record AppendsPart {X E : Type 0} (text : Bytes) (result : Result X E) (old new : Bytes) : Type 0 where
  pub ok : OnOk result (new ≡ old ++ text)
  pub err : OnErr result (new ≡ old)
