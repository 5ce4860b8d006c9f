-- Executions are justified, limits are kept and nobody correct is blamed, in each world that nothing stopped.
use Rattle.std.proofs.Common.{ℕ}
use Rattle.mb_world_model.specs.Hashed.{HashesApart}
use Rattle.mb_world_model.specs.WorldEvents.{IsCorrect}
use Rattle.mb_world_model.specs.World.{World}
use Rattle.mb_world_model.specs.WorldSteps.{world}
use Rattle.mb_world_model.specs.Stops.{IsUnstopped}
use Rattle.mb_host_laws.specs.Rests.{Each}
use Rattle.mb_world_laws.proofs.Facts.{Facts}
use Rattle.mb_world_laws.proofs.FactsOf.{facts_in}
use Rattle.mb_views.proofs.Follows.{JumpsLed}
use Rattle.mb_views.proofs.Jumps.{jumps_led}
use Rattle.mb_views.proofs.Agreed.{consistent}
use Rattle.mb_justified.specs.Worlds.{WorldsAreJustified}
use Rattle.mb_justified.proofs.JustifiedIn.{justified_in}
use Rattle.mb_justified.proofs.Blameless.{bounded_in, blameless_in}

pub worlds_are_justified : (S : Type 0) → WorldsAreJustified S
worlds_are_justified S system fits k le none apart =
    let w : World = world system k in
    let facts : (k : ℕ) → IsUnstopped system k → HashesApart (world system k).hashed → Facts system (world system k) = facts_in system fits in
    let f : Facts system w = facts k none apart in
    let jumps : (h : ℕ) → IsCorrect system.schedule h → Each (JumpsLed system w f) (w.histories h) = jumps_led system facts k none apart in
    record {
      justified = justified_in system w f jumps (consistent system w f jumps);
      bounded = bounded_in system k f;
      blameless = blameless_in system k f jumps;
    }
