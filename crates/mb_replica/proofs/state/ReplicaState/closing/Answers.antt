use Rattle.mb_replica.proofs.Accepting.{illegal_closes}
use Rattle.mb_replica.proofs.state.ReplicaState.closing.Goals as goal

-- src/stamped.rt
pub returns-in-Illegal : goal.returns-in-Illegal
returns-in-Illegal g c = λ me x done m s fits is some.
    illegal_closes me c.args.self.now c.close_gate.new.self done c.args.ui.now m x c.args.outcome c.in-Illegal.rule s fits is some c.in-Illegal.is c.close_gate.ensures
