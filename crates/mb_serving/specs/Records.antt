-- What is answered to the text of a record: whether each of its entries is that of its host's own step, from the start on.
use Rattle.std.specs.Prelude.{◌≡◌, ℕ, ◌⊎◌, ◌++◌, List, [], ◌∷◌, length, codes}
use Rattle.std.specs.Fmt.{decimal}
use Rattle.hex.specs.Hex.{encode_lower}
use Rattle.mb_base.specs.Shapes.{Bytes}
use Rattle.mb_kv.specs.Pairs.{Pairs}
use Rattle.mb_kv.specs.Machine.{kv_machine}
use Rattle.mb_cache.specs.Represents.{machine_of, snapshots_of}
use Rattle.mb_model.specs.Histories.{Identity}
use Rattle.mb_node.specs.Retracing.{AreOwn, Differs}
use Rattle.mb_sched.specs.declared.configs.Config.{Config}
use Rattle.mb_sched.specs.declared.records.Record.{Record}
use Rattle.mb_edge.specs.Seen.{Device}
use Rattle.mb_answer.specs.Devices.{Responds}
use Rattle.mb_answer.specs.Records.{IsRecordText, AnswersText}

-- a host of a config's system, made with the key-value service of no keys
abbrev pub host_of : Config → ℕ → Identity Pairs
host_of c host = record { shape = c.shape; host = host; secret = c.secret; machine = machine_of kv_machine; snapshots = snapshots_of kv_machine; initial = [] }

-- the host of a record
abbrev pub recorded_host : Record → Identity Pairs
recorded_host r = host_of r.config r.id

-- Each entry is that of its host's own step.
abbrev pub IsOwnRecord : Record → Type 0
IsOwnRecord r = AreOwn (recorded_host r) r.entries

-- ---- what is written

-- so many events
abbrev pub same_text : ℕ → Bytes
same_text events = codes "same " ++ (decimal events ++ codes "\n")

-- an entry by its number, with its digest and that of its host's own step
abbrev pub differs_text : ℕ → Bytes → Bytes → Bytes
differs_text number recorded found = codes "differs event " ++ (decimal number ++ (codes " " ++ (encode_lower recorded ++ (codes " " ++ (encode_lower found ++ codes "\n")))))

-- ---- answers

-- what is answered to a record
pub data AnswersRecord (r : Record) (status : ℕ) (out : Bytes) : Type 0 where
  same : IsOwnRecord r → status ≡ 0 → out ≡ same_text (length r.entries) → AnswersRecord r status out
  differs : (number : ℕ) (recorded found : Bytes) → Differs (recorded_host r) r.entries number recorded found → status ≡ 10 → out ≡ differs_text number recorded found
      → AnswersRecord r status out

-- ... to the text of one
abbrev pub AnswersRecordText : Bytes → ℕ → Bytes → Type 0
AnswersRecordText = AnswersText AnswersRecord

-- the statuses of the word `retrace`
abbrev pub retrace_statuses : List ℕ
retrace_statuses = 0 ∷ 2 ∷ 4 ∷ 5 ∷ 6 ∷ 10 ∷ []

-- what the word does with a text: the answer to it is written, or the text could not be read
abbrev pub Retraces : Bytes → ℕ → Device → Device → Device → Device → Type 0
Retraces text status source source' sink sink' = Responds (AnswersRecordText text) status source source' sink sink'

-- The text of a record each of whose entries is that of its host's own step is answered by how many they are, unless memory runs out or a device fails.
abbrev pub IsRetraced : Bytes → ℕ → Type 0 → Type 0
IsRetraced text status fault = (r : Record) → IsRecordText text r → IsOwnRecord r → ¬ fault → (status ≡ 0) ⊎ (status ≡ 4)
