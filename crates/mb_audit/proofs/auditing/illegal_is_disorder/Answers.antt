use Rattle.mb_audit.proofs.Disorder.{illegal_disordered}
use Rattle.mb_audit.proofs.auditing.illegal_is_disorder.Goals as goal

pub returns : goal.returns
returns c = illegal_disordered
