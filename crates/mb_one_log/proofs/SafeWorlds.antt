-- Each world that nothing stopped is safe, while no two of its hashed strings share a digest.
--
-- The line stands in each world, by induction on the events. All else is shown in the one world, from the agreement of its views.
use Rattle.std.proofs.Common.{ℕ, zero, suc, arith}
use Rattle.mb_model.specs.Histories.{Executed}
use Rattle.mb_model.specs.Positions.{exec_of}
use Rattle.mb_world_model.specs.Hashed.{HashesApart}
use Rattle.mb_promise.specs.Headline.{IsService}
use Rattle.mb_schedule.specs.Limits.{IsSchedule}
use Rattle.mb_world_model.specs.WorldEvents.{IsCorrect}
use Rattle.mb_world_model.specs.World.{World, System}
use Rattle.mb_world_model.specs.WorldSteps.{world}
use Rattle.mb_world_model.specs.Stops.{IsUnstopped}
use Rattle.mb_promise.specs.Safety.{IsSafe}
use Rattle.mb_host_laws.specs.Rests.{Each}
use Rattle.mb_world_laws.proofs.Standings.{Passage, before_last, passage}
use Rattle.mb_world_laws.proofs.Facts.{Facts}
use Rattle.mb_views.proofs.Follows.{JumpsLed}
use Rattle.mb_views.proofs.Jumps.{apart_before, jumps_led}
use Rattle.mb_one_log.proofs.Moves.{world_moves}
use Rattle.mb_one_log.proofs.Executions.{past_in}
use Rattle.mb_one_log.proofs.WholeBatches.{world_whole}
use Rattle.mb_one_log.proofs.InstalledState.{installed_state}
use Rattle.mb_one_log.proofs.Line.{LineStands, InstallsRun, line_stands_on}
use Rattle.mb_one_log.proofs.AskedFits.{asked_fits}
use Rattle.mb_one_log.proofs.SafeStatic.{safe_static}

module _ {S : Type 0} (system : System S) where
  installs_run : (w : World) (f : Facts system w) → ((h : ℕ) → IsCorrect system.schedule h → Each (JumpsLed system w f) (w.histories h)) → InstallsRun system w
  installs_run w f jumps h pos parts d c p =
      let x = installed_state system w f jumps h pos parts d c p in
      (x.slot, x.place, record { host = x.host; correct = x.correct; there = past_in (w.histories x.host) (Executed x.slot) x.before x.past })

  module _ (facts : (k : ℕ) → IsUnstopped system k → HashesApart (world system k).hashed → Facts system (world system k)) (fits : IsSchedule system.schedule) where
    jumps : (k : ℕ) (none : IsUnstopped system k) (apart : HashesApart (world system k).hashed) (h : ℕ) → IsCorrect system.schedule h → Each (JumpsLed system (world system k) (facts k none apart)) ((world system k).histories h)
    jumps k none apart = jumps_led system facts k none apart

    -- The line stands.
    pub line_stands : (k : ℕ) → IsUnstopped system k → HashesApart (world system k).hashed → LineStands system (world system k)
    unfolding world exec_of
    line_stands zero none apart = record { run = λ q slot at. absurd cc; short = λ h c. omega arith }
    line_stands (suc k) none apart =
        let w : World = world system k in
        let v : World = world system (suc k) in
        let before : IsUnstopped system k = before_last system k none in
        let p : Passage system w v = passage system k none in
        let apart_then : HashesApart w.hashed = apart_before w.hashed v.hashed p.grows.hashed apart in
        let f : Facts system v = facts (suc k) none apart in
        line_stands_on system w v f.arises (installs_run v f (jumps (suc k) none apart)) (line_stands k before apart_then) (world_moves system fits k)

    pub safe_from : IsService system.machine system.snapshots system.initial → (k : ℕ) → IsUnstopped system k → HashesApart (world system k).hashed → IsSafe system (world system k)
    safe_from service k none apart =
        let w : World = world system k in
        let f : Facts system w = facts k none apart in
        let j = jumps k none apart in
        safe_static system w f j (asked_fits system fits k none) service (line_stands k none apart) (world_whole system k)
