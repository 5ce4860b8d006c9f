-- Logs of correct hosts keep their limits, and correct hosts are never blamed, after each event.
use Rattle.std.proofs.Common.{ℕ}
use Rattle.mb_world_model.specs.WorldEvents.{IsCorrect}
use Rattle.mb_world_model.specs.World.{System}
use Rattle.mb_world_model.specs.WorldSteps.{world}
use Rattle.mb_promise.specs.Bounds.{AreBounded, IsBlameless}
use Rattle.mb_each_host.proofs.LogLimits.{hosts_keep_limits}
use Rattle.mb_host_laws.specs.Rests.{Each}
use Rattle.mb_world_laws.proofs.Facts.{Facts}
use Rattle.mb_views.proofs.Prefixes.{sound_list}
use Rattle.mb_views.proofs.Follows.{JumpsLed}
use Rattle.mb_justified.proofs.NeverClosed.{never_closed}
use Rattle.mb_justified.proofs.OwnVotes.{own_votes}
use Rattle.mb_justified.proofs.PastLimits.{limits_since}
use Rattle.mb_justified.proofs.OwnUsable.{change_usable}

module _ {S : Type 0} (system : System S) (k : ℕ) (f : Facts system (world system k)) where
  -- Their own votes stay within two intervals above the stable position.
  pub bounded_in : AreBounded system (world system k)
  bounded_in h correct = record { limits = hosts_keep_limits S system k h; votes = own_votes system (world system k) f h correct }

  -- Their lists are in order, no gate is closed for them, and their VIEW_CHANGEs are usable.
  pub blameless_in : ((h : ℕ) → IsCorrect system.schedule h → Each (JumpsLed system (world system k) f) ((world system k).histories h)) → IsBlameless system (world system k)
  blameless_in jumps = record {
    ordered = sound_list system (world system k) f;
    free = never_closed system (world system k) f jumps;
    usable = λ h m b correct there whole. change_usable system (world system k) f jumps h correct m b (limits_since system k h) there whole;
  }
