-- Whom bytes of another program are to, computed on the definitions by which `client_of_reply` is bound.
use Rattle.std.proofs.Common.{◌≡◌, ℕ, Option, Some, None, refl, arith}
use Rattle.std.specs.Prelude.{codes, option_and_then}
use Rattle.mb_base.specs.Shapes.{Bytes}
use Rattle.mb_base.specs.declared.shape.Shape.{Shape}
use Rattle.mb_msg.specs.Reading.{message_of}
use Rattle.mb_msg.proofs.OnLiterals.{messages_on_literals}
use Rattle.mb_model.proofs.Hex.{unhex}
use Rattle.mb_model.specs.Inside.{if_read}
use Rattle.mb_members.specs.Replies.{addressee}

-- five hosts and four clients
abbrev five_hosts : Shape
five_hosts = record { f = 2; k = 6; clients = 4; faults_in = (omega arith, omega arith); interval_in = (omega arith, omega arith); clients_in = (omega arith, omega arith) }

-- the client of these bytes, exactly where they are a REPLY
abbrev client_in : Bytes → Option ℕ
client_in bytes = option_and_then addressee (if_read (message_of five_hosts bytes))

-- a REPLY of host 1 to client 2, and the same with another tag
to_client_2 : client_in (unhex (codes "0401020000000000000004000000000000000c000100fd7d23a4eb187b0ad28722e72e95c84d8c63263a6f329c0ffe36a854755e9302")) ≡ Some 2
unfolding messages_on_literals
to_client_2 = refl

of_another_tag : client_in (unhex (codes "0401020000000000000004000000000000000c000100fd7d23a4eb187bffffffffffffffff4d8c63263a6f329c0ffe36a854755e9302")) ≡ Some 2
unfolding messages_on_literals
of_another_tag = refl

-- one byte stands behind it
longer : client_in (unhex (codes "0401020000000000000004000000000000000c000100fd7d23a4eb187b0ad28722e72e95c84d8c63263a6f329c0ffe36a854755e9302f8")) ≡ None
unfolding messages_on_literals
longer = refl

-- one of its numbers is left out
without_a_number : client_in (unhex (codes "040102000000000000000c000100fd7d23a4eb187b0ad28722e72e95c84d8c63263a6f329c0ffe36a854755e9302")) ≡ None
unfolding messages_on_literals
without_a_number = refl

-- it ends early
shorter : client_in (unhex (codes "0401020000000000000004")) ≡ None
unfolding messages_on_literals
shorter = refl

-- a REQUEST of client 2
of_a_request : client_in (unhex (codes "01020000000000000003000403026464e4ddee4713c6fcfe8b59a2263af89597ad191cf17bdda4162e8a696541934235")) ≡ None
unfolding messages_on_literals
of_a_request = refl
