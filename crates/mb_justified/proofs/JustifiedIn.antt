-- All that correct hosts executed and installed is justified by what they stamped and what they were given.
use Rattle.std.proofs.Common.{ℕ}
use Rattle.mb_world_model.specs.WorldEvents.{IsCorrect}
use Rattle.mb_world_model.specs.World.{World, System}
use Rattle.mb_world_model.specs.WorldRecord.{IsConsistent}
use Rattle.mb_promise.specs.Justification.{IsJustified}
use Rattle.mb_host_laws.specs.Rests.{Each}
use Rattle.mb_world_laws.proofs.Facts.{Facts}
use Rattle.mb_views.proofs.Follows.{JumpsLed}
use Rattle.mb_justified.proofs.JustifiedSlots.{executed_justified}
use Rattle.mb_justified.proofs.JustifiedStates.{installed_justified}

pub justified_in : {S : Type 0} (system : System S) (w : World) (f : Facts system w) → ((h : ℕ) → IsCorrect system.schedule h → Each (JumpsLed system w f) (w.histories h)) → IsConsistent system.schedule w → IsJustified system.schedule w
justified_in system w f jumps record_is = record {
  executed = λ h later before slot correct is. executed_justified system w f jumps record_is h correct later before slot is;
  installed = λ h pos parts correct there. installed_justified system w f h correct pos parts there;
}
