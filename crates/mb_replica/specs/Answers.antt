-- What an outcome says of what follows: whether a message was taken, and whether the entries of a LOG go on.
use Rattle.std.specs.Prelude.{Bool, true, false}
use Rattle.mb_msg.specs.declared.event.Outcome.{Outcome}
use Rattle.mb_msg.specs.declared.event.Outcome.TheVariants as outcome

-- A message was taken.
abbrev pub is_taken : Outcome → Bool
is_taken outcome.Took = true
is_taken o = false

-- It goes on behind an entry that is taken, stale or idle.
abbrev pub goes_on : Outcome → Bool
goes_on outcome.Took = true
goes_on (outcome.Stale next) = true
goes_on outcome.Idle = true
goes_on o = false
