-- What the text of a record says, and the texts that its parts are printed as.
use Rattle.std.specs.Prelude.{◌≡◌, ℕ, ◌+◌, ◌-◌, ◌*◌, ◌^◌, ◌<◌, length, slice_get, codes, Bool, if◌then◌else◌, List, [], ◌∷◌, ◌++◌, drop, Option, Some, None, option_map, Result, Ok, Err}
use Rattle.std.specs.List.{flat_map, AllByRecursion}
use Rattle.std.specs.Fmt.{decimal}
use Rattle.hex.specs.Hex.{encode_lower, IsBytes}
use Rattle.mb_base.specs.Shapes.{Bytes, host_count}
use Rattle.mb_msg.specs.declared.event.Event.{Event}
use Rattle.mb_msg.specs.declared.event.Event.TheVariants.{Given, Patience, Nudge}
use Rattle.mb_sched.specs.declared.configs.Config.{Config}
use Rattle.mb_sched.specs.declared.records.Record.{Record}
use Rattle.mb_sched.specs.declared.records.Entry.{Entry}
use Rattle.mb_sched.specs.Words.{words, is, number_in, bytes_of, digest_of}
use Rattle.mb_sched.specs.Lines.{lines, is_ended, ◌>>=◌, numbered, read_line}
use Rattle.mb_sched.specs.Printing.{hex_word}
use Rattle.mb_sched.specs.ScheduleText.{line_text}
use Rattle.mb_sched.specs.TextLines.{keyword_line}
use Rattle.mb_sched.specs.Settings.{SettingsContents, settings_of, settings_text}
use Rattle.mb_sched.specs.Configs.{ConfigContents, with_ops, config_contents, config_settings, SettingsFit}

-- the most bytes that the text of a record may have
abbrev pub max_record : ℕ
max_record = 67108864

-- a record as its text says it; its config has no operations
pub record RecordContents : Type 0 where
  pub config : ConfigContents
  pub id : ℕ
  pub entries : List Entry

-- ---- an entry

-- `given HEX`, `patience` or `nudge`
abbrev pub event_said : Bytes → Option Event
event_said line =
    if is "patience" line then Some Patience
    else (if is "nudge" line then Some Nudge
    else option_map Given (keyword_line (codes "given") bytes_of line))

-- an event, and what is said of what was sent then
abbrev pub entry_with : Event → Option ℕ → Option Bytes → Option Entry
entry_with event (Some count) (Some digest) = Some (record { event = event; count = count; digest = digest })
entry_with event (Some count) None = None
entry_with event None digest = None

-- `sent COUNT DIGEST` behind an event
abbrev pub entry_of : Event → List Bytes → Option Entry
entry_of event (verb ∷ count ∷ digest ∷ []) =
    if is "sent" verb then entry_with event (number_in 0 (2 ^ 32 - 1) count) (digest_of digest) else None
entry_of event _ = None

-- the entry of a pair of lines, the first of which has the number n
abbrev pub entry_by : ℕ → Bytes → Bytes → Result Entry ℕ
entry_by n first second = do
  event ← numbered n (event_said first)
  numbered (n + 1) (entry_of event (words second))

-- ---- all entries

-- behind `end` is nothing
abbrev pub end_by : {A : Type 0} → A → Bool → ℕ → Result A ℕ
end_by x ended n = if ended then Ok x else Err (n + 1)

-- the last line is `end`, or an event of which the second line is missing or isn't whole
abbrev pub last_by : Bool → ℕ → Bytes → Result (List Entry) ℕ
last_by ended n line =
    if is "end" line then end_by [] ended n else (numbered n (event_said line) >>= λ event. Ok [])

-- the entries of lines, the first of which has the number n. Without `end` they go as far as there are whole pairs
unfoldable pub entries_from : Bool → ℕ → List Bytes → Result (List Entry) ℕ
entries_from ended n [] = Ok []
entries_from ended n (line ∷ []) = last_by ended n line
entries_from ended n (first ∷ second ∷ more) =
    if is "end" first then Err (n + 1) else do
      entry ← entry_by n first second
      entries ← entries_from ended (n + 2) more
      Ok (entry ∷ entries)

-- the next entry of lines, the first of which has the number n; none where the record is over
abbrev pub next_entry : Bool → ℕ → List Bytes → Result (Option Entry) ℕ
next_entry ended n [] = Ok None
next_entry ended n (line ∷ []) =
    if is "end" line then end_by None ended n else (numbered n (event_said line) >>= λ event. Ok None)
next_entry ended n (first ∷ second ∷ more) =
    if is "end" first then Err (n + 1) else (entry_by n first second >>= λ entry. Ok (Some entry))

-- ---- a record

-- `id H`, a host's number
abbrev pub id_line : ℕ → Bytes → Option ℕ
id_line f line = keyword_line (codes "id") (number_in 0 (2 * f)) line

abbrev pub with_entries : SettingsContents → ℕ → List Entry → RecordContents
with_entries settings id entries = record { config = with_ops settings []; id = id; entries = entries }

-- the record of a text, or the number of its first bad line: six lines of settings, the host, and the entries
unfoldable pub record_of : Bytes → Result RecordContents ℕ
record_of text = do
  settings ← settings_of (codes "minbft record 2") (lines text)
  id ← read_line 7 (id_line settings.f) (slice_get (lines text) 6)
  entries ← entries_from (is_ended text) 8 (drop 7 (lines text))
  Ok (with_entries settings id entries)

-- what a record's text has to say
abbrev pub record_contents : Record → RecordContents
record_contents r = record { config = config_contents r.config; id = r.id; entries = r.entries }

-- ---- printing

-- the words of an event's line
abbrev pub event_words : Event → List Bytes
event_words (Given bytes) = codes "given" ∷ hex_word bytes ∷ []
event_words Patience = codes "patience" ∷ []
event_words Nudge = codes "nudge" ∷ []

-- the two lines of an entry
unfoldable pub entry_text : Entry → Bytes
entry_text e =
    line_text (event_words e.event)
    ++ line_text (codes "sent" ∷ decimal e.count ∷ encode_lower e.digest ∷ [])

-- what a record begins with: the settings of a config, and the host
unfoldable pub record_head : Config → ℕ → Bytes
record_head c id = codes "minbft record 2\n" ++ (settings_text c.shape c.secret c.port ++ line_text (codes "id" ∷ decimal id ∷ []))

-- the lines of entries, with the line `end` behind them once the host was stopped
abbrev pub entries_text : Bool → List Entry → Bytes
entries_text stopped entries = flat_map entry_text entries ++ (if stopped then codes "end\n" else [])

-- the text of a record
abbrev pub record_text : Bool → Config → ℕ → List Entry → Bytes
record_text stopped c id entries = record_head c id ++ entries_text stopped entries

-- it is shorter than the lines of the next entry, if there is one
abbrev pub IsShort : Bytes → List Entry → Type 0
IsShort text [] = Unit {0}
IsShort text (next ∷ more) = length text < length (entry_text next)

-- What stands behind the head of a record are the lines of these entries and less than those of the next one. It is read as the entries that have whole pairs of lines.
pub record ReadsWholePairs (c : Config) (id : ℕ) (entries : List Entry) (part : Bytes) : Type 0 where
  pub whole : List Entry
  pub later : List Entry
  pub first : whole ++ later ≡ entries
  pub cut : Bytes
  pub parts : part ≡ flat_map entry_text whole ++ cut
  pub short : IsShort cut later
  pub read : record_of (record_head c id ++ part) ≡ Ok (with_entries (config_settings c) id whole)

-- a host was given bytes
abbrev pub EventFits : Event → Type 0
EventFits (Given bytes) = IsBytes bytes
EventFits Patience = Unit {0}
EventFits Nudge = Unit {0}

-- an entry keeps the limits of its lines
pub record EntryFits (e : Entry) : Type 0 where
  pub event : EventFits e.event
  pub count : e.count < 2 ^ 32
  pub digest_length : length e.digest ≡ 32
  pub digest_bytes : IsBytes e.digest

-- so does a record of these
pub record RecordFits (c : Config) (id : ℕ) (entries : List Entry) : Type 0 where
  pub settings : SettingsFit c
  pub host : id < host_count c.shape
  pub entries_fit : AllByRecursion EntryFits entries
