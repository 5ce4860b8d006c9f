-- What is taken was valid, and what is not valid is refused whole: a LOG too, and each entry of one. What is refused sends nothing, but for the stored reply of
-- a request that comes again.
use Rattle.std.specs.Prelude.{◌≡◌, ℕ, [], ◌∷◌, ◌++◌, List, Ok, Err}
use Rattle.mb_base.specs.Shapes.{Bytes}
use Rattle.mb_msg.specs.declared.message.Message.{Message}
use Rattle.mb_msg.specs.declared.message.Message.TheVariants as message
use Rattle.mb_msg.specs.declared.transfer.Log.{Log}
use Rattle.mb_msg.specs.declared.event.Event.TheVariants as event
use Rattle.mb_msg.specs.declared.event.Outcome.{Outcome}
use Rattle.mb_msg.specs.declared.event.Outcome.TheVariants as outcome
use Rattle.mb_msg.specs.Reading.{message_of}
use Rattle.mb_model.specs.Histories.{Accepted, History, Identity}
use Rattle.mb_model.specs.Sending.{Letter, to_client}
use Rattle.mb_model.specs.Given.{stored_reply}
use Rattle.mb_model.specs.HostStep.{transition}
use Rattle.mb_promise.specs.NothingLeft.{IsNoLog}
use Rattle.mb_promise.specs.TakesLogs.{IsValidLog}
use Rattle.mb_promise.specs.TakesValid.{IsValid}
use Rattle.mb_world_model.specs.World.{System, self_of}
use Rattle.mb_world_model.specs.WorldSteps.{world}

module _ {S : Type 0} (self : Identity S) (d : History) where
  -- Each message that stands in the history was valid behind what stood before it, given by itself or as the entry of a LOG.
  abbrev pub AcceptsOnlyValid : Type 0
  AcceptsOnlyValid = (later before : History) (m : Message) → IsNoLog self d m → d ≡ later ++ Accepted m ∷ before → IsValid self before m

  abbrev pub AcceptsOnlyValidLogs : Type 0
  AcceptsOnlyValidLogs = (later before : History) (m : Log) → d ≡ later ++ Accepted (message.Log m) ∷ before → IsValidLog self m

  -- A LOG that is not valid leaves the history as it was, and nothing is sent.
  abbrev pub RefusesLogs : Type 0
  RefusesLogs = (bytes : Bytes) (m : Log) → message_of self.shape bytes ≡ Ok (message.Log m) → (IsValidLog self m → ⊥)
      → ((transition self d (event.Given bytes)).left.history ≡ d) × ((transition self d (event.Given bytes)).left.sent ≡ [])

  -- what is sent with an outcome that is no Took
  abbrev pub IsSilent : Message → Outcome → List Letter → Type 0
  IsSilent (message.Request r) outcome.Again sent = sent ≡ to_client r.client (stored_reply self d r.client) ∷ []
  IsSilent m o sent = sent ≡ []

  -- A LOG is followed by the rules also where one of its entries is refused.
  abbrev pub RefusesSilently : Type 0
  RefusesSilently = (bytes : Bytes) (m : Message) → message_of self.shape bytes ≡ Ok m → IsNoLog self d m → ((transition self d (event.Given bytes)).outcome ≡ outcome.Took → ⊥)
      → IsSilent m (transition self d (event.Given bytes)).outcome (transition self d (event.Given bytes)).left.sent

  abbrev pub MalformedSilently : Type 0
  MalformedSilently = (bytes : Bytes) (at : ℕ) → message_of self.shape bytes ≡ Err at → (transition self d (event.Given bytes)).left.sent ≡ []

  pub record TakesOnlyValid : Type 0 where
    pub valid : AcceptsOnlyValid
    pub logs : AcceptsOnlyValidLogs
    pub refused_logs : RefusesLogs
    pub silent : RefusesSilently
    pub malformed : MalformedSilently

-- So it is of each host after any events, whoever is faulty and whatever is forged.
abbrev pub HostsTakeOnlyValid : Type 0 → Type 0
HostsTakeOnlyValid S = (system : System S) (k h : ℕ) → TakesOnlyValid (self_of system h) ((world system k).histories h)
