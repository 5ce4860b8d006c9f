use Rattle.mb_audit.proofs.OneVerdict.{one_verdict}
use Rattle.mb_audit.proofs.auditing.verdicts_are_one.Goals as goal

pub returns : goal.returns
returns c = one_verdict
