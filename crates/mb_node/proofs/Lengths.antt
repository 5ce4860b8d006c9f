-- Messages that have the length of one.
use Rattle.std.proofs.Common.{suc, List, [], ◌∷◌, refl}
use Rattle.mb_msg.specs.declared.event.Sent.{Sent}
use Rattle.mb_replica.specs.Lengths.{AreMessageLong}
use Rattle.mb_node.specs.Messages.{AreMessages}

pub messages_are : (sent : List Sent) → AreMessageLong sent → AreMessages sent
messages_are [] long = tt
messages_are (x ∷ xs) long = (record { some = (long 0 x refl).0; fits = (long 0 x refl).1 }, messages_are xs (λ i one is. long (suc i) one is))
