use Rattle.mb_agreement.proofs.ViewChangeWitness.{view_change}
use Rattle.mb_agreement.proofs.laws.records_have_view_changes.Goals as goal

pub returns : goal.returns
returns c = view_change
