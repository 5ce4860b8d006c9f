use Rattle.std.proofs.Common.{◌∙◌}
use Rattle.mb_replica.proofs.Making.{log_length}
use Rattle.mb_core.proofs.replica.Replica.log_len.Goals as goal

-- src/replica.rt
pub returns : goal.returns
returns g c = λ me d r. c.len.ensures ∙ log_length me c.args.self.now.state d r
