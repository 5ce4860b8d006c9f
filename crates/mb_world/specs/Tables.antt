-- What the code's world is: a world of the definitions, table by table.
use Rattle.std.specs.Prelude.{◌≡◌, true, false, ◌∷◌, length, Result, Ok, Err}
use Rattle.mb_service.specs.Machine.{ServiceMachine}
use Rattle.mb_schedule.specs.declared.schedule.Schedule.{Schedule}
use Rattle.mb_world_model.specs.Refusals.{refusals}
use Rattle.mb_world_model.specs.World.{World as WorldState, System, Seen as Answer}
use Rattle.mb_unforged.specs.Reached.{IsReached}
use Rattle.mb_forgery.specs.Ledgers.{KeepsWorld}
use Rattle.mb_forgery.specs.Checks.{ArePens}
use Rattle.mb_service.specs.declared.service.Service.{Ghosts}
use Rattle.mb_world.specs.declared.seen.WorldStop.{WorldStop}
use Rattle.mb_world.specs.declared.seen.WorldStop.TheVariants as stop
use Rattle.mb_world.specs.declared.world.World.{World}
use Rattle.mb_members.specs.Askers.{RepresentsAskers}
use Rattle.mb_members.specs.Hosts.{IsSystem}
use Rattle.mb_members.specs.Marks.{AreMarks}
use Rattle.mb_members.specs.Members.{RepresentsMembers}

-- all but the hosts
pub record RepresentsRest {V : Type 0} {g : Ghosts V} (s : Schedule) (w : World V g) (x : WorldState) : Type 0 where
  pub shape : w.shape ≡ s.shape
  pub verifier : w.usig ≡ record { shape = s.shape; host = 0; secret = s.secret; counter = 0 }
  pub pens : ArePens s w.pens.items
  pub hosts : w.faulty_hosts.items ≡ s.faulty_hosts
  pub clients : w.faulty_clients.items ≡ s.faulty_clients
  pub askers : RepresentsAskers s w.askers.items x.askers
  pub ledger : KeepsWorld s w.ledger x
  pub pool : w.pool.items ≡ x.pool
  pub marks : AreMarks s x w.marks.items
  pub line : w.line.items ≡ x.line
  pub refused : w.refused.items ≡ refusals x.seen
  pub events : w.events ≡ length x.seen

pub record RepresentsWorld {V : Type 0} {g : Ghosts V} (y : System V) (w : World V g) (x : WorldState) : Type 0 where
  pub members : RepresentsMembers y w.members.items x.histories x.faulty_stamps
  pub rest : RepresentsRest y.schedule w x

-- There is a world of the definitions that it represents, of hosts with this service, to which events lead that nothing stopped.
pub record HasWorld {V : Type 0} {g : Ghosts V} (machine : ServiceMachine V) (w : World V g) : Type 0 where
  pub system : System V
  pub state : WorldState
  pub is : IsSystem machine system
  pub reached : IsReached system state
  pub represents : RepresentsWorld system w state

-- the world after an event, with what it answered
pub record Leaves {V : Type 0} {g : Ghosts V} (y : System V) (w : World V g) (answer : Answer) (before after : WorldState) : Type 0 where
  pub stands : RepresentsWorld y w after
  pub answered : after.seen ≡ answer ∷ before.seen

-- Halted comes exactly where an earlier event ran out of memory. Then nothing changes, nor where something stands in the way.
abbrev pub WorldHalts : {V : Type 0} {g : Ghosts V} {A : Type 0} → World V g → Result A WorldStop → World V g → Type 0
WorldHalts old (Ok x) new = (old.halted ≡ false) × (new.halted ≡ false)
WorldHalts old (Err stop.NoMemory) new = (old.halted ≡ false) × (new.halted ≡ true)
WorldHalts old (Err stop.Halted) new = (old.halted ≡ true) × (new ≡ old)
WorldHalts old (Err e) new = (old.halted ≡ false) × (new ≡ old)
