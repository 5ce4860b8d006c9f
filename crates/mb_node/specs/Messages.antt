-- What is sent are messages: some bytes, and no more than a message may have.
use Rattle.std.specs.Prelude.{◌≤◌, List, length}
use Rattle.std.specs.List.{AllByRecursion}
use Rattle.mb_base.specs.Limits.{message_limit}
use Rattle.mb_msg.specs.declared.event.Sent.{Sent}

pub record IsMessage (s : Sent) : Type 0 where
  pub some : 1 ≤ length s.bytes
  pub fits : length s.bytes ≤ message_limit

abbrev pub AreMessages : List Sent → Type 0
AreMessages sent = AllByRecursion IsMessage sent
