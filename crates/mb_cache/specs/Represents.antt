-- A service and a client table represent what `state_of` finds in a host's history.
use Rattle.std.specs.Prelude.{◌≡◌, ℕ, ◌∷◌, ◌⊎◌, List}
use Rattle.mb_parts.specs.declared.request.Request.{Request}
use Rattle.mb_service.specs.Machine.{ServiceMachine}
use Rattle.mb_msg.specs.declared.event.Placed.{Placed}
use Rattle.mb_model.specs.declared.known.LastReply.{LastReply}
use Rattle.mb_model.specs.Service.{Machine, Served, served}
use Rattle.mb_model.specs.States.{Snapshots}
use Rattle.mb_model.specs.Histories.{Identity, History}
use Rattle.mb_model.specs.Histories as entry
use Rattle.mb_model.specs.Execution.{state_of}

module _ {S : Type 0} where
  -- what a service does, as the model has it
  abbrev pub machine_of : ServiceMachine S → Machine S
  machine_of m = record { after = m.after; result = m.answer }

  abbrev pub snapshots_of : ServiceMachine S → Snapshots S
  snapshots_of m = record { part = m.part_of; restored = m.restored }

  -- a service with its client table
  abbrev pub joined : S → List LastReply → Served S
  joined state table = record { state = state; table = table }

  abbrev pub Represents : Identity S → Served S → History → Type 0
  Represents host x d = x ≡ state_of host d

  -- what an execution makes of what they represent: the request is served in the history, too
  abbrev pub StandsServed : Machine S → Served S → ℕ → Request → Served S → Type 0
  StandsServed m old pos r new = (host : Identity S) (d : History) (placed : Placed) → host.machine ≡ m → placed.request ≡ r → Represents host old d → Represents host new (entry.Served pos placed ∷ d)

  -- where memory ran out
  abbrev pub ServedOrNot : Machine S → Served S → ℕ → Request → Served S → Type 0
  ServedOrNot m old pos r new = (new ≡ old) ⊎ (new ≡ served m old pos r)
