-- Who asks is answered: a RESEND with a LOG, a FETCH with a STATE, a request that was served with its reply; lost patience with a wish, a Nudge with a
-- RESEND and with the own wish, where that is not fulfilled. And while a host lacks state, it asks for it.
use Rattle.std.specs.Prelude.{◌≡◌, ℕ, ◌<◌, List, Contains, Some, Ok}
use Rattle.mb_base.specs.Shapes.{Bytes}
use Rattle.mb_parts.specs.declared.request.Request.{Request}
use Rattle.mb_msg.specs.declared.message.Message.TheVariants as message
use Rattle.mb_msg.specs.declared.transfer.Resend.{Resend}
use Rattle.mb_msg.specs.declared.transfer.Log.{Log}
use Rattle.mb_msg.specs.declared.transfer.Fetch.{Fetch}
use Rattle.mb_msg.specs.declared.transfer.StateMsg.{StateMsg}
use Rattle.mb_msg.specs.declared.event.Event.TheVariants as event
use Rattle.mb_msg.specs.declared.event.Outcome.TheVariants as outcome
use Rattle.mb_msg.specs.Reading.{message_of}
use Rattle.mb_model.specs.Service.{reply_of}
use Rattle.mb_model.specs.Histories.{History, Identity, view_of}
use Rattle.mb_model.specs.Held.{view_limit, wish_of}
use Rattle.mb_model.specs.Stable.{low_of}
use Rattle.mb_model.specs.Positions.{exec_of}
use Rattle.mb_model.specs.Execution.{state_of, snapshot_of, asked_host}
use Rattle.mb_model.specs.Sending.{Letter, Progress, to_all, to_host, to_client}
use Rattle.mb_model.specs.Making.{wish_for, wish, resend, fetch}
use Rattle.mb_model.specs.Given.{stored_reply}
use Rattle.mb_model.specs.HostStep.{transition}
use Rattle.mb_promise.specs.TakesValid.{IsTagged}
use Rattle.mb_promise.specs.ShowsLog.{ShowsLog, ShowsState}

module _ {S : Type 0} (self : Identity S) (d : History) where
  -- A LOG of what its sender lacks goes to the sender of a RESEND that is taken.
  abbrev pub AnswersResend : Type 0
  AnswersResend = (bytes : Bytes) (m : Resend) → message_of self.shape bytes ≡ Ok (message.Resend m) → (transition self d (event.Given bytes)).outcome ≡ outcome.Took
      → (l : Log) × Contains (transition self d (event.Given bytes)).left.sent (to_host m.host (message.Log l)) × ShowsLog self d m l

  -- The parts of the snapshot from the first one that is asked for go to the sender of a FETCH that is taken.
  abbrev pub AnswersFetch : Type 0
  AnswersFetch = (bytes : Bytes) (m : Fetch) (parts : List Bytes) → message_of self.shape bytes ≡ Ok (message.Fetch m) → (transition self d (event.Given bytes)).outcome ≡ outcome.Took
      → snapshot_of self d m.pos ≡ Some parts → (s : StateMsg) × Contains (transition self d (event.Given bytes)).left.sent (to_host m.host (message.State s)) × ShowsState self d m parts s

  -- The stored reply goes to the client whose last served request comes again.
  abbrev pub AnswersAgain : Type 0
  AnswersAgain = (bytes : Bytes) (r : Request) → message_of self.shape bytes ≡ Ok (message.Request r) → IsTagged self r → r.seq ≡ (reply_of (state_of self d) r.client).seq
      → Contains (transition self d (event.Given bytes)).left.sent (to_client r.client (stored_reply self d r.client))

  -- All are told a wish for a view above the host's own.
  pub record IsToldWish (sent : List Letter) : Type 0 where
    pub view : ℕ
    pub above : view_of self d < view
    pub told : Contains sent (to_all (wish_for self view))

  -- So it is where a host lost patience below the greatest view.
  abbrev pub WishesOnward : Type 0
  WishesOnward = (view_of self d ≡ view_limit → ⊥) → IsToldWish (transition self d event.Patience).left.sent

  -- A Nudge asks all for what they stamped.
  abbrev pub AsksAll : Type 0
  AsksAll = Contains (transition self d event.Nudge).left.sent (to_all (resend self d))

  -- Behind a Nudge a wish that is not fulfilled is told again.
  abbrev pub TellsWishAgain : Type 0
  TellsWishAgain = view_of self d < wish_of self d self.host → Contains (transition self d event.Nudge).left.sent (to_all (wish self d))

  -- What is left lacks the state at the stable position, and the parts that are missing are asked for.
  abbrev pub AsksWhereBehind : Progress → Type 0
  AsksWhereBehind left = exec_of left.history < low_of self left.history → Contains left.sent (to_host (asked_host self left.history) (fetch self left.history))

  -- So it is behind a Nudge, and behind each STATE that is taken.
  abbrev pub FetchesOnNudge : Type 0
  FetchesOnNudge = AsksWhereBehind (transition self d event.Nudge).left

  abbrev pub FetchesOn : Type 0
  FetchesOn = (bytes : Bytes) (m : StateMsg) → message_of self.shape bytes ≡ Ok (message.State m) → (transition self d (event.Given bytes)).outcome ≡ outcome.Took
      → AsksWhereBehind (transition self d (event.Given bytes)).left

  pub record AnswersAll : Type 0 where
    pub resend : AnswersResend
    pub fetch : AnswersFetch
    pub again : AnswersAgain
    pub patience : WishesOnward
    pub nudge : AsksAll
    pub wishes_again : TellsWishAgain
    pub fetches_on_nudge : FetchesOnNudge
    pub fetches_on : FetchesOn
