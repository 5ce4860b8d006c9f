-- What a call leaves at the devices, and its status.
use Rattle.std.specs.Prelude.{◌≡◌, ℕ, ◌<◌, ◌⊎◌}
use Rattle.std.specs.Io.KnownBytes.{Appends}
use Rattle.mb_base.specs.Shapes.{Bytes}
use Rattle.mb_edge.specs.declared.reading.ReadStop.{ReadStop}
use Rattle.mb_edge.specs.declared.reading.ReadStop.TheVariants as stop
use Rattle.mb_edge.specs.Faults.{Rose}
use Rattle.mb_edge.specs.Seen.{Device, LinkState, SpawnerState}
use Rattle.mb_edge.specs.Pieces.{AppendsPart}
use Rattle.mb_answer.specs.Texts.{too_long_text}

-- all four at a moment
pub record Devices : Type 0 where
  pub source : Device
  pub sink : Device
  pub link : LinkState
  pub spawner : SpawnerState

abbrev pub edge : Device → Device → LinkState → SpawnerState → Devices
edge source sink link spawner = record { source = source; sink = sink; link = link; spawner = spawner }

-- ---- texts

-- a text is written with a status, or writing fails and leaves a part of it
pub data Says (wanted : ℕ) (text : Bytes) (status : ℕ) (old new : Device) : Type 0 where
  said : status ≡ wanted → Appends old.bytes new.bytes text → Says wanted text status old new
  failed : status ≡ 6 → Rose old.faults new.faults → AppendsPart text old.bytes new.bytes → Says wanted text status old new
  cut_short : status ≡ 4 → AppendsPart text old.bytes new.bytes → Says wanted text status old new

-- It is, or memory runs out before.
pub data SaysOrStarves (wanted : ℕ) (text : Bytes) (status : ℕ) (old new : Device) : Type 0 where
  says : Says wanted text status old new → SaysOrStarves wanted text status old new
  lacks : status ≡ 4 → old ≡ new → SaysOrStarves wanted text status old new

-- a text that could not be read
abbrev pub IsUnread : ReadStop → ℕ → Device → Device → Type 0
IsUnread stop.TooLong status sink sink' = SaysOrStarves 2 too_long_text status sink sink'
IsUnread stop.Fault status sink sink' = (status ≡ 5) × (sink ≡ sink')
IsUnread stop.NoMemory status sink sink' = (status ≡ 4) × (sink ≡ sink')

-- the statuses of what is found in a record, and of what is found in the file of a journal
abbrev pub IsFinding : ℕ → Type 0
IsFinding status = (status ≡ 10) ⊎ ((status ≡ 12) ⊎ ((status ≡ 13) ⊎ ((status ≡ 16) ⊎ (status ≡ 17))))

-- the statuses that a text goes with
abbrev pub IsToldBy : ℕ → Type 0
IsToldBy status = (status < 4) ⊎ IsFinding status

-- those of the words that use neither link nor spawner
abbrev pub IsLow : ℕ → Type 0
IsLow status = (status < 7) ⊎ IsFinding status

-- A text is answered, or reading it fails, or memory runs out before it is answered. The devices are the source and the sink, before and after.
pub data Responds (answers : ℕ → Bytes → Type 0) (status : ℕ) (source source' sink sink' : Device) : Type 0 where
  answered : (wanted : ℕ) (out : Bytes) → answers wanted out → Says wanted out status sink sink' → Responds answers status source source' sink sink'
  unread : status ≡ 5 → Rose source.faults source'.faults → sink ≡ sink' → Responds answers status source source' sink sink'
  starved : status ≡ 4 → sink ≡ sink' → Responds answers status source source' sink sink'
