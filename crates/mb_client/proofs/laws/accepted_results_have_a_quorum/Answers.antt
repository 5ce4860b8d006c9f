use Rattle.mb_client.proofs.AcceptedResults.{accepted_have_quorum}
use Rattle.mb_client.proofs.laws.accepted_results_have_a_quorum.Goals as goal

pub returns : goal.returns
returns c = accepted_have_quorum
