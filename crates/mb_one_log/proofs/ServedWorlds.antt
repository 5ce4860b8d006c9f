-- In each world that nothing stopped accepted results are the service's, while no two of its hashed strings share a digest.
use Rattle.std.proofs.Common.{ℕ}
use Rattle.mb_world_model.specs.Hashed.{HashesApart}
use Rattle.mb_promise.specs.Headline.{IsService}
use Rattle.mb_schedule.specs.Limits.{IsSchedule}
use Rattle.mb_world_model.specs.World.{World, System}
use Rattle.mb_world_model.specs.WorldSteps.{world}
use Rattle.mb_world_model.specs.Stops.{IsUnstopped}
use Rattle.mb_promise.specs.Safety.{AreServedResults}
use Rattle.mb_world_laws.proofs.Facts.{Facts}
use Rattle.mb_views.proofs.Jumps.{jumps_led}
use Rattle.mb_one_log.proofs.Line.{LineStands}
use Rattle.mb_one_log.proofs.Along.{line_fits, within, along, closed_later, along_fits}
use Rattle.mb_one_log.proofs.WholeBatches.{world_whole}
use Rattle.mb_one_log.proofs.SafeWorlds.{line_stands, safe_from}
use Rattle.mb_one_log.proofs.Replied.{all_tagged}
use Rattle.mb_one_log.proofs.AskedFits.{asked_fits}
use Rattle.mb_one_log.proofs.AskerWorlds.{asker_stands}
use Rattle.mb_one_log.proofs.Served.{served_results}

module _ {S : Type 0} (system : System S) (facts : (k : ℕ) → IsUnstopped system k → HashesApart (world system k).hashed → Facts system (world system k)) (fits : IsSchedule system.schedule) where
  pub results_from : IsService system.machine system.snapshots system.initial → (k : ℕ) → IsUnstopped system k → HashesApart (world system k).hashed → AreServedResults system (world system k)
  results_from service k none apart =
      let w : World = world system k in
      let f : Facts system w = facts k none apart in
      let jumps = jumps_led system facts k none apart in
      let line : LineStands system w = line_stands system facts fits k none apart in
      let asked = asked_fits system fits k none in
      let whole = world_whole system k in
      served_results system w (safe_from system facts fits service k none apart) f
      (line_fits system w f jumps asked service line whole)
      (λ h d c p. (within system w f jumps asked service line whole h d c p, along system w f jumps asked service line whole h d c p))
      (along_fits system w f jumps asked service line whole)
      (closed_later system w f jumps asked service line whole)
      (all_tagged system fits k)
      (λ c. asker_stands system fits k c none)
