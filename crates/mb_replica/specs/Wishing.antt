-- When a host tells its wish, and when it wishes for the view behind its own.
use Rattle.std.specs.Prelude.{◌≡◌, ◌==◌, false}
use Rattle.mb_msg.specs.Fits.{Fits}
use Rattle.mb_model.specs.Histories.{History, Identity, view_of}
use Rattle.mb_model.specs.Held.{view_limit}
use Rattle.mb_model.specs.Making.{wish}
use Rattle.mb_replica.specs.declared.state.ReplicaState.{ReplicaState}
use Rattle.mb_replica.specs.Represents.{Represents}

module _ {V : Type 0} where
  -- There is a history that it represents, in which its wish can be sent.
  pub record Wishes (r : ReplicaState V) : Type 0 where
    pub me : Identity V
    pub history : History
    pub represents : Represents me r history
    pub fits : Fits me.shape (wish me history)

  -- There is one in which there is a view behind the host's.
  pub record LosesPatience (r : ReplicaState V) : Type 0 where
    pub me : Identity V
    pub history : History
    pub represents : Represents me r history
    pub more : (view_of me history == view_limit) ≡ false
