-- There is one list in each world that nothing stopped, and accepted results are the service's.
use Rattle.std.proofs.Common.{ℕ}
use Rattle.mb_world_model.specs.Hashed.{HashesApart}
use Rattle.mb_world_model.specs.WorldSteps.{world}
use Rattle.mb_world_model.specs.Stops.{IsUnstopped}
use Rattle.mb_world_laws.proofs.Facts.{Facts}
use Rattle.mb_world_laws.proofs.FactsOf.{facts_in}
use Rattle.mb_one_log.specs.Worlds.{WorldsHaveOneList}
use Rattle.mb_one_log.proofs.SafeWorlds.{safe_from}
use Rattle.mb_one_log.proofs.ServedWorlds.{results_from}

pub worlds_have_one_list : (S : Type 0) → WorldsHaveOneList S
worlds_have_one_list S system service fits k le none apart =
    let facts : (k : ℕ) → IsUnstopped system k → HashesApart (world system k).hashed → Facts system (world system k) = facts_in system fits in
    record { safe = safe_from system facts fits service k none apart; results = results_from system facts fits service k none apart }
