use Rattle.std.proofs.Common.{refl, None}
use Rattle.mb_node.specs.Receives.{held_of}
use Rattle.mb_node.proofs.receiving.Receiver.receive.Goals as goal

pub returns-in-Quiet-clause-gives : goal.returns-in-Quiet-clause-gives
unfolding held_of
returns-in-Quiet-clause-gives g c = record {
  one = None;
  told = c.in-Quiet.ensures.received;
  of_bytes = tt;
  is = λ s before has. refl;
  has = λ s before has. record { hosts = has.hosts; client = has.client };
}
