-- What installing a state does to the tables beside the service.
use Rattle.std.specs.Prelude.{◌≡◌, ℕ, Some}
use Rattle.mb_base.specs.declared.shape.Shape.{Shape}
use Rattle.mb_normal.specs.declared.normal.Normal.{Normal}
use Rattle.mb_normal.specs.Searches.{Searches}
use Rattle.mb_normal.specs.Tables.{Represents}
use Rattle.mb_refinement.specs.Positions.{settled_below}
use Rattle.mb_replica.specs.declared.state.ReplicaState.{ReplicaState}
use Rattle.mb_replica.specs.declared.sending.StepOutput.{StepOutput}
use Rattle.mb_replica.specs.Represents.{tables_of}
use Rattle.mb_replica.specs.Between.{IsSame}

-- The pending requests of the clients below one were settled by these numbers.
abbrev pub Settles : Normal → Normal → (ℕ → ℕ) → ℕ → Type 0
Settles old new numbers count = (s : Shape) (host : ℕ) (x : Searches) → Represents s host old x → Represents s host new (settled_below x numbers count)

module _ {V : Type 0} where
  -- All up to the stable position counts as executed, and requests were settled.
  pub record WritesInstalled (old new : ReplicaState V) : Type 0 where
    pub same : IsSame old new
    pub tables : tables_of new ≡ record (tables_of old) { normal = new.protocol.normal; exec = old.protocol.stable.pos }

-- The step installed the state of a position, and did nothing else.
pub record DoesInstall (pos : ℕ) (old new : StepOutput) : Type 0 where
  pub sent : new.sent ≡ old.sent
  pub executed : new.executed ≡ old.executed
  pub installed : new.installed ≡ Some pos
