-- All that an event makes a host send, in its order: what answers the event; each message that the host stamps, to all, and the reply to each fresh request that it
-- serves, as it does so; and a FETCH, where it is behind. Nothing more is sent, and nothing twice.
use Rattle.std.specs.Prelude.{◌≡◌, ℕ, ◌<◌, ◌⊎◌, List, [], ◌∷◌, ◌++◌, Result, Ok, Err, if◌then◌else◌}
use Rattle.mb_msg.specs.declared.message.Message.{Message}
use Rattle.mb_msg.specs.declared.message.Message.TheVariants as message
use Rattle.mb_msg.specs.declared.change.ReqViewChange.{ReqViewChange}
use Rattle.mb_msg.specs.declared.transfer.Resend.{Resend}
use Rattle.mb_msg.specs.declared.transfer.Log.{Log}
use Rattle.mb_msg.specs.declared.transfer.StateMsg.{StateMsg}
use Rattle.mb_msg.specs.declared.event.Event.{Event}
use Rattle.mb_msg.specs.declared.event.Event.TheVariants as event
use Rattle.mb_msg.specs.declared.event.Outcome.{Outcome}
use Rattle.mb_msg.specs.declared.event.Outcome.TheVariants as outcome
use Rattle.mb_msg.specs.Reading.{message_of}
use Rattle.mb_msg.specs.Stamps.{as_message}
use Rattle.mb_model.specs.Histories.{Entry, Stamped, Served, History, Identity, view_of}
use Rattle.mb_model.specs.Held.{wish_of}
use Rattle.mb_model.specs.Stable.{low_of}
use Rattle.mb_model.specs.Positions.{exec_of}
use Rattle.mb_model.specs.Execution.{asked_host}
use Rattle.mb_model.specs.Sending.{Letter, Progress, to_all, to_host, to_client}
use Rattle.mb_model.specs.Making.{fetch}
use Rattle.mb_model.specs.Given.{stored_reply}
use Rattle.mb_model.specs.HostStep.{transition}
use Rattle.mb_world_model.specs.World.{System, self_of}
use Rattle.mb_world_model.specs.WorldSteps.{world}

-- none, or one that is so
abbrev pub AtMostOne : (Letter → Type 0) → List Letter → Type 0
AtMostOne P [] = Unit {0}
AtMostOne P (l ∷ []) = P l
AtMostOne P l = ⊥

-- a wish, to all
abbrev pub IsWish : Letter → Type 0
IsWish l = (m : ReqViewChange) × (l ≡ to_all (message.ReqViewChange m))

module _ {S : Type 0} (self : Identity S) where
  -- ---- what a host does, and tells of it

  -- It is of an entry, behind what stands before it: a stamped message, to all; the reply to a fresh request, to its client.
  abbrev pub letters_of : Entry → History → List Letter
  letters_of (Stamped m) d = to_all (as_message m) ∷ []
  letters_of (Served pos p) d = if p.fresh then to_client p.request.client (stored_reply self (Served pos p ∷ d) p.request.client) ∷ [] else []
  letters_of e d = []

  -- The entries are newest first, and the letters oldest first.
  abbrev pub letters_of_all : History → History → List Letter
  letters_of_all [] d = []
  letters_of_all (e ∷ l) d = letters_of_all l d ++ letters_of e (l ++ d)

  module _ (d : History) where
    -- ---- answers

    -- The stored reply goes to the client whose last served request comes again, a LOG and a STATE to the host that asks.
    abbrev pub AnswersMessage : Message → Outcome → Letter → Type 0
    AnswersMessage (message.Request r) outcome.Again l = l ≡ to_client r.client (stored_reply self d r.client)
    AnswersMessage (message.Resend m) outcome.Took l = (x : Log) × (l ≡ to_host m.host (message.Log x))
    AnswersMessage (message.Fetch m) outcome.Took l = (x : StateMsg) × (l ≡ to_host m.host (message.State x))
    AnswersMessage m o l = ⊥

    abbrev pub AnswersBytes : Result Message ℕ → Outcome → List Letter → Type 0
    AnswersBytes (Ok m) o ls = AtMostOne (AnswersMessage m o) ls
    AnswersBytes (Err at) o ls = ls ≡ []

    -- behind the RESEND of a Nudge: a wish, where the own one is not fulfilled
    abbrev pub IsWishAgain : Letter → Type 0
    IsWishAgain l = (view_of self d < wish_of self d self.host) × IsWish l

    abbrev pub AnswersNudge : List Letter → Type 0
    AnswersNudge [] = ⊥
    AnswersNudge (l ∷ ls) = ((m : Resend) × (l ≡ to_all (message.Resend m))) × AtMostOne IsWishAgain ls

    abbrev pub Answers : Event → Outcome → List Letter → Type 0
    Answers (event.Given bytes) o ls = AnswersBytes (message_of self.shape bytes) o ls
    Answers event.Patience o ls = AtMostOne IsWish ls
    Answers event.Nudge o ls = AnswersNudge ls

    -- ---- asking for state

    abbrev pub IsOfState : Result Message ℕ → Type 0
    IsOfState r = (m : StateMsg) × (r ≡ Ok (message.State m))

    -- behind a Nudge, behind a STATE, and where the stable position rose
    abbrev pub MayAsk : Event → History → Type 0
    MayAsk (event.Given bytes) left = IsOfState (message_of self.shape bytes) ⊎ (low_of self d < low_of self left)
    MayAsk event.Patience left = low_of self d < low_of self left
    MayAsk event.Nudge left = Unit {0}

    -- What is left lacks the state at the stable position, and the FETCH for it goes to the host whose turn it is.
    pub record IsAsking (e : Event) (left : History) (l : Letter) : Type 0 where
      pub behind : exec_of left < low_of self left
      pub may : MayAsk e left
      pub is : l ≡ to_host (asked_host self left) (fetch self left)

    -- ---- all that is sent

    pub record SendsThis (e : Event) (o : Outcome) (left : Progress) : Type 0 where
      pub added : History
      pub is : left.history ≡ added ++ d
      pub answers : List Letter
      pub asks : List Letter
      pub sent : left.sent ≡ answers ++ letters_of_all added d ++ asks
      pub are_answers : Answers e o answers
      pub is_asking : AtMostOne (IsAsking e left.history) asks

    abbrev pub SendsNoMore : Type 0
    SendsNoMore = (e : Event) → SendsThis e (transition self d e).outcome (transition self d e).left

-- So it is of each host after any events, whoever is faulty and whatever is forged.
abbrev pub HostsSendNoMore : Type 0 → Type 0
HostsSendNoMore S = (system : System S) (k h : ℕ) → SendsNoMore (self_of system h) ((world system k).histories h)
