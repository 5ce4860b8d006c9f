use Rattle.mb_model.specs.CarriedOut.{run_rules, enough}
use Rattle.mb_core.proofs.Stepping.{step_goes_on}
use Rattle.mb_core.proofs.events.finished.Goals as goal

-- src/events.rt
pub with_fetch-requires : goal.with_fetch-requires
with_fetch-requires g c = step_goes_on _ _ _ _ _ (λ me x. run_rules me enough x) c.requires c.in_ok-run_rules.ensures

pub returns : goal.returns
returns g c = λ me d x o serves st before. c.with_fetch.ensures me d (run_rules me enough x) (c.in_ok-run_rules.ensures me x serves st) before
