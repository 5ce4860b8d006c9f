use Rattle.std.proofs.Common.{refl, ◌∙◌}
use Rattle.mb_gate.proofs.InnerAside.{same_test, ordered_more}
use Rattle.mb_gate.proofs.laws.gates_keep_lists_in_order.Goals as goal

pub returns : goal.returns
returns c = record {
  asks = λ log valid m. same_test log.from log.shape log.sender (λ b. valid m) valid log.taken m refl;
  keeps = λ log valid m h. same_test log.from log.shape log.sender (λ b. valid m) valid log.taken m refl ∙ ordered_more log.from log.shape log.sender valid log.taken m h;
}
