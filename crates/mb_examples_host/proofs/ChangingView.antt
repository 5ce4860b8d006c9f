-- VIEW_CHANGEs that are refused, computed on the definitions with real tags and digests. What is expected was worked out from the rules by hand.
use Rattle.std.proofs.Common.{◌≡◌, ℕ, List, [], ◌∷◌, refl, arith, Some, None}
use Rattle.std.specs.Prelude.{codes}
use Rattle.mb_base.specs.Shapes.{Bytes}
use Rattle.mb_base.specs.declared.shape.Shape.{Shape}
use Rattle.mb_msg.specs.declared.message.Body.TheVariants.{Whole}
use Rattle.mb_msg.specs.declared.change.ViewChange.{ViewChange}
use Rattle.mb_msg.specs.declared.message.Message.TheVariants as message
use Rattle.mb_msg.specs.declared.normal.Prepare.{Prepare}
use Rattle.mb_msg.specs.declared.normal.Commit.{Commit}
use Rattle.mb_msg.specs.declared.stamped.Shown.{Shown}
use Rattle.mb_msg.specs.declared.stamped.Shown.TheVariants as shown
use Rattle.mb_model.specs.Plans.{no_base}
use Rattle.mb_msg.specs.declared.event.Outcome.TheVariants as outcome
use Rattle.mb_model.specs.Histories.{Identity}
use Rattle.mb_model.specs.Held.{change_fault}
use Rattle.mb_model.proofs.Hex.{unhex}
use Rattle.mb_model.proofs.StepOnLiterals.{host_on_literals}
use Rattle.mb_examples_host.proofs.Networks.{Appears, Reaches, nothing_yet, net_after, story}
use Rattle.mb_examples_host.proofs.Samples.{four_clients, host, asked, alone, prepare}

-- a VIEW_CHANGE with no floor and nothing stable that shows these entries
abbrev change : ℕ → ℕ → ℕ → List Shown → Bytes → ViewChange
change h counter view entries cert = record { view = view; body = Whole (record { floor = None; stable = no_base; entries = entries }); ui = record { host = h; counter = counter; cert = cert } }

-- ---- an invented view: of five hosts h3 is faulty. It leaves for view 3, and orders a request there, though it did not open the view.

abbrev five_hosts : Shape
five_hosts = record { f = 2; k = 4; clients = 1; faults_in = (omega arith, omega arith); interval_in = (omega arith, omega arith); clients_in = (omega arith, omega arith) }

abbrev five : ℕ → Identity Bytes
five = host five_hosts

abbrev leaves : ViewChange
leaves = change 3 1 3 [] (unhex (codes "bea379cc956488531384508c014027ea1068d4a09c901c036aa8964ae4f284a8"))

abbrev orders : Prepare
orders = record { view = 3; pos = 1; body = Whole (alone (asked 0)); ui = record { host = 3; counter = 2; cert = unhex (codes "31e980eed7ab2ac9ec9f609390c13aa0f2364769450a558c920a992ba73d69ba") } }

-- It shows both as it leaves for view 5; the first of them as its digest.
abbrev leaves_again : ViewChange
leaves_again = change 3 3 5 (shown.ViewChange (record { view = 3; body = unhex (codes "71b6c1d53832f789a7f2435a7c629245fa3761ad8487775ebf4957330213a706"); ui = leaves.ui }) ∷ shown.Prepare orders ∷ []) (unhex (codes "9cb8c286835f6739dea344e63451c70c1cad90f8504c61e27ef0bc5395925171"))

-- The PREPARE may not stand behind the first VIEW_CHANGE.
what_shows_an_invented_view : change_fault (five 0) leaves_again ≡ Some (1, 5)
unfolding host_on_literals
what_shows_an_invented_view = refl

-- h0 is given the three in order: the first is taken, the second closes the gate of h3, and the third comes too late. The wish of one host moves nobody.
an_invented_view_convicts : story five (net_after five (Appears (message.Request (asked 0)) ∷ Appears (message.ViewChange leaves) ∷ Appears (message.Prepare orders) ∷ Appears (message.ViewChange leaves_again)
    ∷ Reaches 2 0 ∷ Reaches 3 0 ∷ Reaches 4 0 ∷ []) (nothing_yet 5)) ≡ record {
      outcomes = outcome.Took ∷ outcome.Illegal 6 ∷ outcome.Convicted 2 ∷ [];
      kinds = 1 ∷ 7 ∷ 2 ∷ 7 ∷ [];
      hosts = (0 ∷ 0 ∷ 0 ∷ 0 ∷ 0 ∷ []) ∷ (0 ∷ 0 ∷ 0 ∷ 0 ∷ 0 ∷ []) ∷ (0 ∷ 0 ∷ 0 ∷ 0 ∷ 0 ∷ []) ∷ (0 ∷ 0 ∷ 0 ∷ 0 ∷ 0 ∷ []) ∷ (0 ∷ 0 ∷ 0 ∷ 0 ∷ 0 ∷ []) ∷ [];
    }
unfolding host_on_literals net_after story
an_invented_view_convicts = refl

-- ---- a log that begins late: of three hosts h1 shows one COMMIT, which it stamped at counter 12, and no floor

abbrev three : ℕ → Identity Bytes
three = host four_clients

abbrev late_commit : Commit
late_commit = record { view = 0; pos = 1; counter = 1; cert = prepare.ui.cert; body = Whole (alone (asked 0)); ui = record { host = 1; counter = 12; cert = unhex (codes "2b363e687f9aecccf87612524af53a6b7e9914bbb366005b981202de63c37d1f") } }

abbrev shows_a_late_commit : ViewChange
shows_a_late_commit = change 1 1 1 (shown.Commit late_commit ∷ []) (unhex (codes "42d2bb57e08792040cffdae1238e8eaa5f5722887b5ece3bec501cf3055591fb"))

-- Without a floor a log begins at counter 1. h0 refuses it behind the gate of h1, which stays where it was: given once more, it is refused for the same reason.
a_late_log_is_unusable : story three (net_after three (Appears (message.ViewChange shows_a_late_commit) ∷ Reaches 1 0 ∷ Reaches 1 0 ∷ []) (nothing_yet 3)) ≡ record {
  outcomes = outcome.Unusable 0 3 ∷ outcome.Unusable 0 3 ∷ [];
  kinds = 7 ∷ [];
  hosts = (0 ∷ 0 ∷ 0 ∷ 0 ∷ 0 ∷ []) ∷ (0 ∷ 0 ∷ 0 ∷ 0 ∷ 0 ∷ []) ∷ (0 ∷ 0 ∷ 0 ∷ 0 ∷ 0 ∷ []) ∷ [];
}
unfolding host_on_literals net_after story
a_late_log_is_unusable = refl
