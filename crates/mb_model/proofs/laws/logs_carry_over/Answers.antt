use Rattle.mb_model.proofs.CarriedLogs.{logs_carry_over}
use Rattle.mb_model.proofs.laws.logs_carry_over.Goals as goal

pub returns : goal.returns
returns c = logs_carry_over
