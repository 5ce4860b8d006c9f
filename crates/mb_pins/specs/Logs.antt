-- What a LOG gives, how long the own log may get, and how long it ever was: each in numbers, and of what the host stamped.
use Rattle.std.specs.Prelude.{◌≡◌, ℕ, ◌+◌, ◌-◌, ◌*◌, ◌≤◌, ◌<◌, ◌⊎◌, not, count_by, List, [], ◌∷◌, ◌++◌, length, slice_get, Some, Ok, Contains}
use Rattle.std.specs.List.{flat_map}
use Rattle.mb_base.specs.Shapes.{Bytes, interval}
use Rattle.mb_msg.specs.declared.message.Message.TheVariants as message
use Rattle.mb_msg.specs.declared.transfer.Resend.{Resend}
use Rattle.mb_msg.specs.declared.transfer.Log.{Log}
use Rattle.mb_msg.specs.declared.stamped.Stamped.{Stamped as StampedMessage}
use Rattle.mb_msg.specs.declared.event.Event.TheVariants as event
use Rattle.mb_msg.specs.declared.event.Outcome.TheVariants as outcome
use Rattle.mb_msg.specs.Reading.{message_of}
use Rattle.mb_msg.specs.Spelling.{stamped_bytes}
use Rattle.mb_model.specs.Histories.{Stamped, History, Identity, counter_of}
use Rattle.mb_model.specs.OwnLog.{own_log, is_normal, log_longest}
use Rattle.mb_model.specs.Sending.{to_host}
use Rattle.mb_model.specs.HostStep.{transition}
use Rattle.mb_promise.specs.ShowsLog.{next_shown, IsShownOf}
use Rattle.mb_world_model.specs.World.{System, self_of}
use Rattle.mb_world_model.specs.WorldSteps.{world}

-- the bytes that messages have together
abbrev pub bytes_of : List StampedMessage → ℕ
bytes_of l = length (flat_map stamped_bytes l)

-- As many as go into one LOG, of all of these: the first always, and the others while there are at most 64, which have at most 800,000 bytes.
pub record IsFilled (all some : List StampedMessage) : Type 0 where
  pub rest : List StampedMessage
  pub begins : all ≡ some ++ rest
  pub first : 1 ≤ length all → 1 ≤ length some
  pub few : length some ≤ 64
  pub short : (length some ≤ 1) ⊎ (bytes_of some ≤ 800000)
  pub full : (m : StampedMessage) (more : List StampedMessage) → rest ≡ m ∷ more → (length some ≡ 64) ⊎ (800000 < bytes_of (some ++ m ∷ []))

-- how long the log of a host was as it stamped the next message, with it, and before what it cuts
abbrev pub length_with : {S : Type 0} → Identity S → History → ℕ
length_with self before = length (own_log self before) + 1

module _ {S : Type 0} (self : Identity S) (d : History) where
  -- These are all messages that the host stamped from a counter on, in the forms in which it keeps them.
  pub record AreAllFrom (counter : ℕ) (all : List StampedMessage) : Type 0 where
    pub many : length all ≡ counter_of d + 1 - counter
    pub each : (i : ℕ) (x : StampedMessage) → slice_get all i ≡ Some x → IsShownOf self d (counter + i) x

  -- A LOG has as many of them as go into one, from the first that is expected and not cut away.
  pub record GivesWhatFits (m : Resend) (l : Log) : Type 0 where
    pub all : List StampedMessage
    pub are_all : AreAllFrom (next_shown self d m) all
    pub filled : IsFilled all l.entries

  -- So does the one that goes to the sender of a RESEND that is taken.
  abbrev pub FillsLogs : Type 0
  FillsLogs = (bytes : Bytes) (m : Resend) → message_of self.shape bytes ≡ Ok (message.Resend m) → (transition self d (event.Given bytes)).outcome ≡ outcome.Took
      → (l : Log) × Contains (transition self d (event.Given bytes)).left.sent (to_host m.host (message.Log l)) × GivesWhatFits m l

  -- six intervals of PREPAREs, COMMITs and CHECKPOINTs, and 768 others
  pub record IsShort : Type 0 where
    pub normal : count_by is_normal (own_log self d) ≤ 6 * interval self.shape
    pub others : count_by (λ m. not (is_normal m)) (own_log self d) ≤ 768

  -- What a report tells is the greatest of these lengths, and 0 where nothing was stamped.
  pub record TellsLongest : Type 0 where
    pub least : (later before : History) (m : StampedMessage) → d ≡ later ++ Stamped m ∷ before → length_with self before ≤ log_longest self d
    pub reached : (log_longest self d ≡ 0) ⊎ ((later before : History) × (m : StampedMessage) × (d ≡ later ++ Stamped m ∷ before) × (log_longest self d ≡ length_with self before))

  pub record KeepsLogs : Type 0 where
    pub fills : FillsLogs
    pub short : IsShort
    pub longest : TellsLongest

-- So it is of each host after any events, whoever is faulty and whatever is forged.
abbrev pub HostsKeepLogs : Type 0 → Type 0
HostsKeepLogs S = (system : System S) (k h : ℕ) → KeepsLogs (self_of system h) ((world system k).histories h)
