-- What calls give that read several clients, or a whole table.
use Rattle.std.specs.Prelude.{◌≡◌, ℕ, ◌<◌, ◌^◌, List, Result, Ok, Err}
use Rattle.std.specs.Global.{Vec}
use Rattle.mb_base.specs.declared.fields.Fields.{Fields}
use Rattle.mb_base.specs.Reading.{Reads}
use Rattle.mb_base.specs.Fields.{place_of}
use Rattle.mb_parts.specs.declared.fault.Undecoded.{Undecoded}
use Rattle.mb_parts.specs.declared.fault.Undecoded.TheVariants.{Malformed, NoMemory}
use Rattle.mb_parts.specs.Decoded.{Fails}
use Rattle.mb_model.specs.declared.known.LastReply.{LastReply}

-- what reading gives
abbrev pub DecodesEach : Result (Vec LastReply) Undecoded → Fields → Reads (List LastReply) → Type 0
DecodesEach (Ok v) new read = read ≡ Ok (v.items, place_of new)
DecodesEach (Err e) new read = Fails e new read

-- The same of a whole table, whose faults have small offsets.
abbrev pub FailsTable : Undecoded → Result (List LastReply) ℕ → Type 0
FailsTable NoMemory read = Unit {0}
FailsTable (Malformed at) read = (read ≡ Err at) × (at < 2 ^ 32)

abbrev pub DecodesTable : Result (Vec LastReply) Undecoded → Result (List LastReply) ℕ → Type 0
DecodesTable (Ok v) read = read ≡ Ok v.items
DecodesTable (Err e) read = FailsTable e read
