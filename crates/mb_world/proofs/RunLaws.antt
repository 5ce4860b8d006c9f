-- A world before an event, while it runs, and behind it: the tables are the same, or those of the next world.
use Rattle.std.proofs.Common.{◌≡◌}
use Rattle.mb_service.specs.declared.service.Service.{Ghosts}
use Rattle.mb_service.specs.Machine.{ServiceMachine}
use Rattle.mb_world_model.specs.World.{World as WorldState, System, Seen as Answer}
use Rattle.mb_world.specs.declared.world.World.{World}
use Rattle.mb_world.specs.Tables.{RepresentsWorld, HasWorld, Leaves}
use Rattle.mb_world.proofs.WorldLaws.{IsFixed, unchanged}

-- Each table is as it was.
pub record HasTables {V : Type 0} {g : Ghosts V} (v w : World V g) : Type 0 where
  pub fixed : IsFixed v w
  pub members : w.members ≡ v.members
  pub askers : w.askers ≡ v.askers
  pub ledger : w.ledger ≡ v.ledger
  pub pool : w.pool ≡ v.pool
  pub line : w.line ≡ v.line
  pub refused : w.refused ≡ v.refused
  pub events : w.events ≡ v.events

module _ {V : Type 0} {g : Ghosts V} (v w : World V g) where
  pub still_stands : (y : System V) (x : WorldState) → RepresentsWorld y v x → HasTables v w → RepresentsWorld y w x
  still_stands y x old same = unchanged y v w x old same.fixed same.members same.askers same.ledger same.pool same.line same.refused same.events

  pub still_left : (y : System V) (a : Answer) (x z : WorldState) → Leaves y v a x z → HasTables v w → Leaves y w a x z
  still_left y a x z left same = record { stands = still_stands y z left.stands same; answered = left.answered }

  pub still_has : (machine : ServiceMachine V) → HasWorld machine v → HasTables v w
      → HasWorld machine w
  still_has machine old same = record { system = old.system; state = old.state; is = old.is; reached = old.reached; represents = still_stands old.system old.state old.represents same }
