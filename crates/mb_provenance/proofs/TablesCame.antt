-- All that a host finds in its tables of requests, of changes of the view and of what is stable came.
use Rattle.mb_model.specs.Histories.{History, Identity}
use Rattle.mb_model.specs.Held.{wish_of, changes_of}
use Rattle.mb_model.proofs.Members.{in_contained}
use Rattle.mb_promise.specs.FindsTables.{FindsTables}
use Rattle.mb_world_model.specs.World.{System, self_of}
use Rattle.mb_world_model.specs.WorldSteps.{world}
use Rattle.mb_provenance.proofs.EntriesCame.{requests_came, wishes_came, changes_came, finds_enters, opens_came, new_views_came, evidence_came, plans_came, checkpoints_came, snapshots_came}
use Rattle.mb_provenance.proofs.StableCame.{finds_stable}
use Rattle.std.proofs.Common.{ℕ, refl}

module _ {S : Type 0} (self : Identity S) where
  pub finds_tables : (d : History) → FindsTables self d
  finds_tables d = record {
    requests = requests_came self d;
    wishes = λ h lt. wishes_came self d h (wish_of self d h) refl lt;
    changes = λ m c. changes_came self d m (in_contained (changes_of self d) m c);
    enters = finds_enters self d;
    opens = opens_came d;
    new_views = new_views_came self d;
    evidence = evidence_came self d;
    plans = plans_came self d;
    checkpoints = checkpoints_came d;
    stable = finds_stable self d;
    snapshots = snapshots_came self d;
  }

-- Of any history, so in each world.
pub hosts_find_tables : {S : Type 0} (system : System S) → (k h : ℕ) → FindsTables (self_of system h) ((world system k).histories h)
hosts_find_tables system k h = finds_tables (self_of system h) ((world system k).histories h)
