-- What a service does, on its states.
use Rattle.std.specs.Prelude.{ℕ, List, Result}
use Rattle.mb_base.specs.Shapes.{Bytes}

pub record ServiceMachine (S : Type 0) : Type 1 where
  pub is_state : S → Type 0  -- a state that the service may have
  pub after : S → Bytes → S  -- the state after an operation
  pub answer : S → Bytes → Bytes  -- the operation's result
  pub part_of : S → ℕ → Bytes  -- a part of a state, by its number
  pub restored : List Bytes → Result S (ℕ × ℕ)  -- the state of all parts, or the first bad part and the offset in it
