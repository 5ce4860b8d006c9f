-- What hosts answer, send and execute while the first view goes on, computed on the definitions with real tags and digests. What is expected was
-- worked out from the rules by hand.
use Rattle.std.proofs.Common.{◌≡◌, ℕ, List, [], ◌∷◌, refl, Option, Some}
use Rattle.std.specs.Prelude.{replicate, codes, ◌++◌}
use Rattle.mb_base.specs.Shapes.{Bytes}
use Rattle.mb_msg.specs.declared.message.Message.{Message}
use Rattle.mb_msg.specs.declared.message.Message.TheVariants as message
use Rattle.mb_msg.specs.declared.event.Outcome.TheVariants as outcome
use Rattle.mb_model.specs.Histories.{Identity}
use Rattle.mb_model.specs.HostStep.{transition}
use Rattle.mb_model.proofs.Hex.{unhex}
use Rattle.mb_model.proofs.StepOnLiterals.{host_on_literals}
use Rattle.mb_examples_host.proofs.Networks.{Net, Happening, Appears, Reaches, Hears, nothing_yet, net_after, message_at, story}
use Rattle.mb_examples_host.proofs.Samples.{four_clients, host, asked, prepare}

-- ---- three hosts; each client asks once

abbrev three : ℕ → Identity Bytes
three = host four_clients

abbrev ask : ℕ → Happening
ask c = Appears (message.Request (asked c))

abbrev run : List Happening → Net
run events = net_after three events (nothing_yet 3)

-- ---- one request

-- h0 orders it, and both backups commit and execute it at once: the PREPARE and their own COMMIT are two votes. h0 executes at the first COMMIT.
abbrev goes_through : List Happening
goes_through = ask 0 ∷ Reaches 1 0 ∷ Reaches 2 1 ∷ Reaches 2 2 ∷ Reaches 3 0 ∷ []

-- Then the client asks h1 once more, which sends its reply again.
abbrev asked_again : List Happening
asked_again = goes_through ++ Reaches 1 1 ∷ []

-- It is the same message, with the tag that h1 makes for this client, number, position and result.
abbrev reply_of_1 : Option Message
reply_of_1 = Some (message.Reply (record { host = 1; client = 0; seq = 1; pos = 1; result = 0 ∷ []; tag = unhex (codes "b5ff78955a87b1a0037a45ef793207c414d13c0c373990fcb1c55bec9c2d1d11") }))

record OneRequest : Type 0 where
  goes : story three (run goes_through) ≡ record {
    outcomes = outcome.Took ∷ outcome.Took ∷ outcome.Took ∷ outcome.Took ∷ [];
    kinds = 1 ∷ 2 ∷ 3 ∷ 4 ∷ 3 ∷ 4 ∷ 4 ∷ [];
    hosts = (0 ∷ 1 ∷ 0 ∷ 1 ∷ 1 ∷ []) ∷ (0 ∷ 1 ∷ 0 ∷ 1 ∷ 1 ∷ []) ∷ (0 ∷ 1 ∷ 0 ∷ 1 ∷ 1 ∷ []) ∷ [];
  }
  the_reply_is_sent_again : story three (run asked_again) ≡ record {
    outcomes = outcome.Took ∷ outcome.Took ∷ outcome.Took ∷ outcome.Took ∷ outcome.Again ∷ [];
    kinds = 1 ∷ 2 ∷ 3 ∷ 4 ∷ 3 ∷ 4 ∷ 4 ∷ 4 ∷ [];
    hosts = (0 ∷ 1 ∷ 0 ∷ 1 ∷ 1 ∷ []) ∷ (0 ∷ 1 ∷ 0 ∷ 1 ∷ 1 ∷ []) ∷ (0 ∷ 1 ∷ 0 ∷ 1 ∷ 1 ∷ []) ∷ [];
  }
  both_replies_are_one : (message_at (run asked_again) 4 ≡ reply_of_1) × (message_at (run asked_again) 8 ≡ reply_of_1)

one_request : OneRequest
unfolding host_on_literals net_after story
one_request = record { goes = refl; the_reply_is_sent_again = refl; both_replies_are_one = (refl, refl) }

-- ---- a COMMIT first

-- h2 hears the COMMIT of h1 and never the PREPARE: it takes the PREPARE from the COMMIT, stamps its own COMMIT, executes, and answers the client. The same
-- COMMIT once more is stale: nothing else changes, and nothing is sent.
abbrev commit_first : List Happening
commit_first = ask 0 ∷ Reaches 1 0 ∷ Reaches 2 1 ∷ Reaches 3 2 ∷ []

record CommitFirst : Type 0 where
  it_brings_its_prepare : story three (run commit_first) ≡ record {
    outcomes = outcome.Took ∷ outcome.Took ∷ outcome.Took ∷ [];
    kinds = 1 ∷ 2 ∷ 3 ∷ 4 ∷ 3 ∷ 4 ∷ [];
    hosts = (0 ∷ 0 ∷ 0 ∷ 1 ∷ 1 ∷ []) ∷ (0 ∷ 1 ∷ 0 ∷ 1 ∷ 1 ∷ []) ∷ (0 ∷ 1 ∷ 0 ∷ 1 ∷ 1 ∷ []) ∷ [];
  }
  once_more_it_is_stale : story three (run (commit_first ++ Reaches 3 2 ∷ [])) ≡ record {
    outcomes = outcome.Took ∷ outcome.Took ∷ outcome.Took ∷ outcome.Stale 2 ∷ [];
    kinds = 1 ∷ 2 ∷ 3 ∷ 4 ∷ 3 ∷ 4 ∷ [];
    hosts = (0 ∷ 0 ∷ 0 ∷ 1 ∷ 1 ∷ []) ∷ (0 ∷ 1 ∷ 0 ∷ 1 ∷ 1 ∷ []) ∷ (0 ∷ 1 ∷ 0 ∷ 1 ∷ 1 ∷ []) ∷ [];
  }

a_commit_brings_its_prepare : CommitFirst
unfolding host_on_literals net_after story
a_commit_brings_its_prepare = record { it_brings_its_prepare = refl; once_more_it_is_stale = refl }

-- ---- a PREPARE that nobody stamped

-- A host can't tell: whoever knows the secret makes what verifies. h1 takes a PREPARE of h0, which stamped nothing.
what_verifies_is_taken : story three (run (ask 0 ∷ Appears (message.Prepare prepare) ∷ Reaches 2 1 ∷ [])) ≡ record {
  outcomes = outcome.Took ∷ [];
  kinds = 1 ∷ 2 ∷ 3 ∷ 4 ∷ [];
  hosts = (0 ∷ 0 ∷ 0 ∷ 0 ∷ 0 ∷ []) ∷ (0 ∷ 1 ∷ 0 ∷ 1 ∷ 1 ∷ []) ∷ (0 ∷ 0 ∷ 0 ∷ 0 ∷ 0 ∷ []) ∷ [];
}
unfolding host_on_literals net_after story
what_verifies_is_taken = refl

-- ---- bytes

-- a REQUEST of client 0, with number 1, for GET a, with so many zero bytes where a tag of 32 bytes is to stand
abbrev get_with : ℕ → Bytes
get_with zeros = (1 ∷ 0 ∷ 0 ∷ 0 ∷ 0 ∷ 0 ∷ 0 ∷ 0 ∷ 0 ∷ 1 ∷ 0 ∷ 3 ∷ 2 ∷ 1 ∷ 97 ∷ []) ++ replicate zeros 0

-- a whole PREPARE of position 1 that ends behind the count of its batch
abbrev counts : ℕ → Bytes
counts n = (2 ∷ 1 ∷ []) ++ replicate 15 0 ++ 1 ∷ n ∷ []

-- No byte, no kind, a number that is not there, a tag that is short; a batch of no request and one of seventeen; and last a whole REQUEST whose tag is not its
-- client's.
bytes_that_are_refused : story three (run (Hears 1 [] ∷ Hears 1 (255 ∷ []) ∷ Hears 1 (1 ∷ 0 ∷ []) ∷ Hears 1 (get_with 31) ∷ Hears 1 (counts 0) ∷ Hears 1 (counts 17) ∷ Hears 1 (get_with 32) ∷ [])) ≡ record {
  outcomes = outcome.Malformed 0 ∷ outcome.Malformed 0 ∷ outcome.Malformed 2 ∷ outcome.Malformed 15 ∷ outcome.Malformed 18 ∷ outcome.Malformed 18 ∷ outcome.BadTag ∷ [];
  kinds = [];
  hosts = (0 ∷ 0 ∷ 0 ∷ 0 ∷ 0 ∷ []) ∷ (0 ∷ 0 ∷ 0 ∷ 0 ∷ 0 ∷ []) ∷ (0 ∷ 0 ∷ 0 ∷ 0 ∷ 0 ∷ []) ∷ [];
}
unfolding host_on_literals transition net_after story
bytes_that_are_refused = refl
