-- The text that a schedule is printed as.
use Rattle.std.specs.Prelude.{◌≡◌, ℕ, ◌+◌, ◌^◌, ◌<◌, length, map, Bool, true, false, List, [], ◌∷◌, ◌++◌, codes}
use Rattle.std.specs.List.{join_with_byte, flat_map, AllByRecursion}
use Rattle.std.specs.Str.{byte}
use Rattle.std.specs.Fmt.{decimal}
use Rattle.hex.specs.Hex.{encode_lower, IsBytes}
use Rattle.mb_base.specs.Shapes.{Bytes, max_faults, interval, client_count}
use Rattle.mb_schedule.specs.declared.schedule.Schedule.{Schedule}
use Rattle.mb_schedule.specs.declared.schedule.WorldEvent.{WorldEvent}
use Rattle.mb_schedule.specs.declared.schedule.WorldEvent.TheVariants.{Ask, Give, Take, Raw, Patience, Nudge, Sign, TagReply, TagWish, StampPrepare, StampCommit, StampCheckpoint, StampChange, StampAs, StampRaw}
use Rattle.mb_schedule.specs.declared.schedule.Name.{Name}
use Rattle.mb_schedule.specs.declared.schedule.Name.TheVariants as name
use Rattle.mb_schedule.specs.Limits.{IsSchedule}
use Rattle.mb_sched.specs.Printing.{client_name, host_name, hex_word}

-- words with a space between each two, and the LF behind them
abbrev pub line_text : List Bytes → Bytes
line_text words = join_with_byte (byte " ") words ++ codes "\n"

-- either by its name
abbrev pub name_text : Name → Bytes
name_text (name.Host host) = host_name host
name_text (name.Client client) = client_name client

-- the names of those that are marked, where the first mark has the number n
abbrev pub marked : {A : Type 0} → (ℕ → A) → ℕ → List Bool → List A
marked name n [] = []
marked name n (true ∷ marks) = name n ∷ marked name (n + 1) marks
marked name n (false ∷ marks) = marked name (n + 1) marks

-- a word behind a space
abbrev pub spaced : Bytes → Bytes
spaced word = codes " " ++ word

-- the line of whom is faulty
abbrev pub faulty_text : Schedule → Bytes
faulty_text s = line_text (codes "faulty" ∷ (marked host_name 0 s.faulty_hosts ++ marked client_name 0 s.faulty_clients))

-- the words of an event's line
abbrev pub event_words : WorldEvent → List Bytes
event_words (Ask client op) = codes "ask" ∷ client_name client ∷ hex_word op ∷ []
event_words (Give message host) = codes "give" ∷ decimal message ∷ host_name host ∷ []
event_words (Take message client) = codes "take" ∷ decimal message ∷ client_name client ∷ []
event_words (Raw who bytes) = codes "raw" ∷ name_text who ∷ hex_word bytes ∷ []
event_words (Patience host) = codes "patience" ∷ host_name host ∷ []
event_words (Nudge host) = codes "nudge" ∷ host_name host ∷ []
event_words (Sign client seq op) = codes "sign" ∷ client_name client ∷ decimal seq ∷ hex_word op ∷ []
event_words (TagReply host client seq pos result) = codes "tag" ∷ host_name host ∷ codes "reply" ∷ client_name client ∷ decimal seq ∷ decimal pos ∷ hex_word result ∷ []
event_words (TagWish host view) = codes "tag" ∷ host_name host ∷ codes "wish" ∷ decimal view ∷ []
event_words (StampPrepare host view pos messages) = codes "stamp" ∷ host_name host ∷ codes "prepare" ∷ decimal view ∷ decimal pos ∷ map decimal messages
event_words (StampCommit host message) = codes "stamp" ∷ host_name host ∷ codes "commit" ∷ decimal message ∷ []
event_words (StampCheckpoint host pos digest) = codes "stamp" ∷ host_name host ∷ codes "checkpoint" ∷ decimal pos ∷ encode_lower digest ∷ []
event_words (StampChange host view counter) = codes "stamp" ∷ host_name host ∷ codes "change" ∷ decimal view ∷ decimal counter ∷ []
event_words (StampAs host message) = codes "stamp" ∷ host_name host ∷ codes "as" ∷ decimal message ∷ []
event_words (StampRaw host bytes) = codes "stamp" ∷ host_name host ∷ codes "raw" ∷ hex_word bytes ∷ []

abbrev pub event_text : WorldEvent → Bytes
event_text event = line_text (event_words event)

-- the six lines of the header, and one for each event
unfoldable pub schedule_text : Schedule → Bytes
schedule_text s =
    codes "minbft schedule 2\n"
    ++ (line_text (codes "f" ∷ decimal (max_faults s.shape) ∷ [])
    ++ (line_text (codes "k" ∷ decimal (interval s.shape) ∷ [])
    ++ (line_text (codes "clients" ∷ decimal (client_count s.shape) ∷ [])
    ++ (line_text (codes "secret" ∷ encode_lower s.secret ∷ [])
    ++ (faulty_text s
    ++ flat_map event_text s.events)))))

-- Numbers of messages have 64 bits, and bytes are bytes.
abbrev pub IsPrintable : WorldEvent → Type 0
IsPrintable (Ask client op) = IsBytes op
IsPrintable (Give message host) = message < 2 ^ 64
IsPrintable (Take message client) = message < 2 ^ 64
IsPrintable (Raw who bytes) = IsBytes bytes
IsPrintable (Patience host) = Unit {0}
IsPrintable (Nudge host) = Unit {0}
IsPrintable (Sign client seq op) = IsBytes op
IsPrintable (TagReply host client seq pos result) = IsBytes result
IsPrintable (TagWish host view) = Unit {0}
IsPrintable (StampPrepare host view pos messages) = AllByRecursion (λ m. m < 2 ^ 64) messages
IsPrintable (StampCommit host message) = message < 2 ^ 64
IsPrintable (StampCheckpoint host pos digest) = IsBytes digest
IsPrintable (StampChange host view counter) = Unit {0}
IsPrintable (StampAs host message) = message < 2 ^ 64
IsPrintable (StampRaw host bytes) = IsBytes bytes

-- a schedule keeps the limits of the grammar
pub record KeepsLimits (s : Schedule) : Type 0 where
  pub fits : IsSchedule s
  pub secret_length : length s.secret ≡ 32
  pub secret_bytes : IsBytes s.secret
  pub printable : AllByRecursion IsPrintable s.events
