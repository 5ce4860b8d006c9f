-- Views agree in each world that nothing stopped.
use Rattle.std.proofs.Common.{ℕ}
use Rattle.mb_world_model.specs.Hashed.{HashesApart}
use Rattle.mb_world_model.specs.WorldSteps.{world}
use Rattle.mb_world_model.specs.Stops.{IsUnstopped}
use Rattle.mb_world_laws.proofs.Facts.{Facts}
use Rattle.mb_world_laws.proofs.FactsOf.{facts_in}
use Rattle.mb_views.specs.Worlds.{WorldsAgree}
use Rattle.mb_views.proofs.Jumps.{jumps_led}
use Rattle.mb_views.proofs.Agreed.{views_agree_in}

pub worlds_agree : (S : Type 0) → WorldsAgree S
worlds_agree S system fits k le none apart =
    let facts : (k : ℕ) → IsUnstopped system k → HashesApart (world system k).hashed → Facts system (world system k) = facts_in system fits in
    views_agree_in system (world system k) (facts k none apart) (jumps_led system facts k none apart)
