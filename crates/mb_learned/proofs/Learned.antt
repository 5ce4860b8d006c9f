-- What is learnt is the history, in each world that nothing stopped.
use Rattle.std.proofs.Common.{ℕ}
use Rattle.mb_model.proofs.Members.{in_contained, contained, in_left}
use Rattle.mb_base.specs.Shapes.{Bytes}
use Rattle.std.specs.Prelude.{List, ◌++◌}
use Rattle.mb_world_model.specs.Hashed.{HashesApart}
use Rattle.mb_world_model.specs.Stops.{IsUnstopped}
use Rattle.mb_world_model.specs.World.{World}
use Rattle.mb_world_model.specs.WorldSteps.{world}
use Rattle.mb_world_laws.proofs.Facts.{Facts}
use Rattle.mb_world_laws.proofs.FactsOf.{facts_in}
use Rattle.mb_views.proofs.Agreed.{consistent}
use Rattle.mb_views.proofs.Jumps.{jumps_led}
use Rattle.mb_one_log.proofs.AskedFits.{asked_fits}
use Rattle.mb_one_log.proofs.SafeWorlds.{line_stands, safe_from}
use Rattle.mb_one_log.proofs.WholeBatches.{world_whole}
use Rattle.mb_learned.specs.Learned.{LearnersAgree}
use Rattle.mb_learned.proofs.History.{one_history, same_states}
use Rattle.mb_learned.proofs.Voted.{proved_committed}

apart_before : (a b : List Bytes) → HashesApart (a ++ b) → HashesApart a
apart_before a b apart x y i j same = apart x y (contained (a ++ b) x (in_left a b x (in_contained a x i))) (contained (a ++ b) y (in_left a b y (in_contained a y j))) same

pub learners_agree : (S : Type 0) → LearnersAgree S
learners_agree S system service fits k le none id correct apart =
    let w : World = world system k in
    let facts : (k : ℕ) → IsUnstopped system k → HashesApart (world system k).hashed → Facts system (world system k) = facts_in system fits in
    let hashed : HashesApart w.hashed = apart_before w.hashed _ apart in
    let f : Facts system w = facts k none hashed in
    let jumps = jumps_led system facts k none hashed in
    let asked = asked_fits system fits k none in
    let line = line_stands system facts fits k none hashed in
    let whole = world_whole system k in
    let safe = safe_from system facts fits service k none hashed in
    let agreed = consistent system w f jumps in
    record {
      committed = λ taken slots were learns q slot at. proved_committed system w f agreed id apart taken were _ _ (learns.proved q slot at);
      one_history = λ taken slots were learns. one_history system w f jumps asked service line whole safe agreed id apart taken were slots learns;
      same_states = λ taken slots position certified were learns d. same_states system w f jumps asked service line whole safe agreed id apart taken were slots learns position certified d;
    }
