-- What the host of a record was given.
use Rattle.std.specs.Prelude.{List, [], ◌∷◌}
use Rattle.std.specs.List.{flat_map}
use Rattle.mb_base.specs.Shapes.{Bytes}
use Rattle.mb_msg.specs.declared.event.Event.{Event}
use Rattle.mb_msg.specs.declared.event.Event.TheVariants.{Given, Patience, Nudge}
use Rattle.mb_sched.specs.declared.records.Entry.{Entry}

-- the bytes that an event gave
abbrev pub given_by : Event → List Bytes
given_by (Given bytes) = bytes ∷ []
given_by Patience = []
given_by Nudge = []

-- all byte strings that were given, in order
abbrev pub given_in : List Entry → List Bytes
given_in = flat_map (λ e. given_by e.event)
