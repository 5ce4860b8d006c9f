-- What a step of a host sends: each message that it stamps, to all; and of each fresh request that it serves the reply, to its client.
use Rattle.std.specs.Prelude.{◌≡◌, true, List, [], ◌∷◌, ◌++◌, Contains}
use Rattle.mb_msg.specs.declared.event.Event.{Event}
use Rattle.mb_msg.specs.Stamps.{as_message}
use Rattle.mb_model.specs.Histories.{Stamped, Served, History, Identity}
use Rattle.mb_model.specs.Sending.{Letter, to_all, to_client}
use Rattle.mb_model.specs.Given.{stored_reply}
use Rattle.mb_model.specs.HostStep.{transition}

module _ {S : Type 0} (self : Identity S) where
  -- What stands before a history is sent where it has to be: a stamped message to all, the reply to a fresh request to its client.
  abbrev pub AreSent : List Letter → History → History → Type 0
  AreSent sent d [] = Unit {0}
  AreSent sent d (Stamped m ∷ l) = Contains sent (to_all (as_message m)) × AreSent sent d l
  AreSent sent d (Served pos p ∷ l) = (p.fresh ≡ true → Contains sent (to_client p.request.client (stored_reply self (Served pos p ∷ l ++ d) p.request.client))) × AreSent sent d l
  AreSent sent d (e ∷ l) = AreSent sent d l

  -- What is left has something before the history, and all of that is sent.
  pub record SendsAdded (d : History) (sent : List Letter) (left : History) : Type 0 where
    pub added : History
    pub is : left ≡ added ++ d
    pub are_sent : AreSent sent d added

  -- So it is of each event.
  abbrev pub SendsAll : History → Type 0
  SendsAll d = (e : Event) → SendsAdded d (transition self d e).left.sent (transition self d e).left.history
