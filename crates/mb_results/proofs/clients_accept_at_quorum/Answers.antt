use Rattle.mb_results.proofs.Accepting.{clients_accept}
use Rattle.mb_results.proofs.clients_accept_at_quorum.Goals as goal

pub returns : goal.returns
returns g c = clients_accept _
