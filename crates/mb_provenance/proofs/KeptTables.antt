-- What came to a host is found in what it holds: all of it.
use Rattle.mb_model.specs.Histories.{History, Identity}
use Rattle.mb_promise.specs.KeepsTables.{KeepsTables}
use Rattle.mb_views.proofs.PlanMoments.{base_below}
use Rattle.mb_provenance.proofs.KeptRequests.{keeps_requests, keeps_wishes, keeps_wishes_of_changes, keeps_own_wishes}
use Rattle.mb_provenance.proofs.KeptParts.{keeps_parts, keeps_snapshots}
use Rattle.mb_provenance.proofs.KeptChanges.{keeps_changes, keeps_own_changes, keeps_enters}
use Rattle.mb_provenance.proofs.KeptOpenings.{keeps_opens, keeps_new_views, keeps_own_new_views, keeps_plans, keeps_own_plans, keeps_plans_of_opens, keeps_evidence, keeps_evidence_of_joins, keeps_evidence_of_logs, keeps_own_evidence}
use Rattle.mb_provenance.proofs.KeptStable.{keeps_checkpoints, raises_by_checkpoints, raises_by_joins, raises_by_logs}

pub keeps_tables : {S : Type 0} (self : Identity S) (d : History) → KeepsTables self d
keeps_tables self d = record {
  requests = keeps_requests self d;
  wishes = keeps_wishes self d;
  wishes_of_changes = keeps_wishes_of_changes self d;
  own_wishes = keeps_own_wishes self d;
  parts = keeps_parts self d;
  changes = keeps_changes self d;
  own_changes = keeps_own_changes self d;
  enters = keeps_enters self d;
  opens = keeps_opens self d;
  new_views = keeps_new_views self d;
  own_new_views = keeps_own_new_views self d;
  plans = keeps_plans self d;
  own_plans = keeps_own_plans self d;
  plans_of_opens = keeps_plans_of_opens self d;
  evidence = keeps_evidence self d;
  evidence_of_joins = keeps_evidence_of_joins self d;
  evidence_of_logs = keeps_evidence_of_logs self d;
  own_evidence = keeps_own_evidence self d;
  checkpoints = keeps_checkpoints self d;
  raises_by_checkpoints = raises_by_checkpoints self d;
  raises_by_joins = raises_by_joins self d;
  raises_by_logs = raises_by_logs self d;
  raises_by_plans = λ view plan held. base_below self d (view, plan) held;
  snapshots = keeps_snapshots self d;
}
