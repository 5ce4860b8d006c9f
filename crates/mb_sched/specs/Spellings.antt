-- What a text spells, said of its lines all at once.
use Rattle.std.specs.Prelude.{◌≡◌, Bool, true, List, [], ◌∷◌, map, drop, slice_get, codes, Some, option_and_then, ◌⊎◌, Ok}
use Rattle.mb_base.specs.Shapes.{Bytes}
use Rattle.mb_msg.specs.declared.event.Event.{Event}
use Rattle.mb_sched.specs.declared.records.Entry.{Entry}
use Rattle.mb_sched.specs.Words.{words}
use Rattle.mb_sched.specs.Lines.{lines, is_ended}
use Rattle.mb_sched.specs.Settings.{settings_of}
use Rattle.mb_sched.specs.Configs.{ConfigContents, op_line}
use Rattle.mb_sched.specs.Records.{RecordContents, event_said, entry_of, id_line}

-- a text spells a config: it ends with LF, its first six lines are the settings, and each line behind them is an operation's, in order
pub record SpellsConfig (text : Bytes) (c : ConfigContents) : Type 0 where
  pub ended : is_ended text ≡ true
  pub settings : settings_of (codes "minbft config 2") (lines text) ≡ Ok c.settings
  pub ops : map op_line (drop 6 (lines text)) ≡ map Some c.ops

-- what may stand behind the last pair of lines: no line; or only the line `end`, with nothing behind it; or only an event's line
abbrev pub IsOver : Bool → List Bytes → Type 0
IsOver ended [] = Unit {0}
IsOver ended (line ∷ []) = ((line ≡ codes "end") × (ended ≡ true)) ⊎ ((event : Event) × (event_said line ≡ Some event))
IsOver ended (first ∷ second ∷ more) = ⊥

-- lines spell entries: each entry by a pair of lines, and behind them the record is over
abbrev pub SpellEntries : Bool → List Bytes → List Entry → Type 0
SpellEntries ended lines [] = IsOver ended lines
SpellEntries ended [] (e ∷ es) = ⊥
SpellEntries ended (line ∷ []) (e ∷ es) = ⊥
SpellEntries ended (first ∷ second ∷ more) (e ∷ es) =
    (event_said first ≡ Some e.event) × (entry_of e.event (words second) ≡ Some e) × SpellEntries ended more es

-- a text spells a record: its first six lines are the settings, the seventh is the host's, and those behind it are the entries'
pub record SpellsRecord (text : Bytes) (r : RecordContents) : Type 0 where
  pub settings : settings_of (codes "minbft record 2") (lines text) ≡ Ok r.config.settings
  pub no_ops : r.config.ops ≡ []
  pub id : option_and_then (id_line r.config.settings.f) (slice_get (lines text) 6) ≡ Some r.id
  pub entries : SpellEntries (is_ended text) (drop 7 (lines text)) r.entries
