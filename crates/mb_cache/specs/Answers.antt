-- What the calls of a table answer.
use Rattle.std.specs.Prelude.{◌≡◌, ℕ, ◌<◌, List, length, ◌==◌, Option, Some, None, Result, Ok, Err, if◌then◌else◌}
use Rattle.mb_base.specs.Limits.{table_part}
use Rattle.mb_base.specs.Shapes.{Bytes}
use Rattle.mb_parts.specs.declared.request.Request.{Request}
use Rattle.mb_service.specs.declared.restore.Restore.{Restore}
use Rattle.mb_service.specs.declared.restore.Restore.TheVariants.{BadSnapshot, NoMemory}
use Rattle.mb_model.specs.declared.known.LastReply.{LastReply}
use Rattle.mb_model.specs.Service.{Served, is_fresh}
use Rattle.mb_model.specs.States.{table_of}
use Rattle.mb_cache.specs.declared.accept.Accept.{Accept}
use Rattle.mb_cache.specs.declared.accept.Accept.TheVariants.{Fresh, Old, Again}

-- A number is above, below or equal to that of the last request, and each answer comes exactly there.
abbrev pub Accepts : LastReply → ℕ → Accept → Type 0
Accepts last seq Fresh = last.seq < seq
Accepts last seq (Old number) = (seq < last.seq) × (number ≡ last.seq)
Accepts last seq (Again pos) = (seq ≡ last.seq) × (pos ≡ last.pos)

-- number, position and result, where there is a last request
abbrev pub told : LastReply → Option (ℕ × (ℕ × Bytes))
told last = if last.seq == 0 then None else Some (last.seq, (last.pos, last.result))

-- the result of a fresh request
abbrev pub result_of : {S : Type 0} → (S → Bytes → Bytes) → Served S → Request → Option Bytes
result_of answer x r = if is_fresh x r then Some (answer x.state r.op) else None

-- The table is that of the bytes, or stays where the bytes give none, or where memory ran out.
abbrev pub Restores : {U : Type 0} → Bytes → Result U Restore → List LastReply → List LastReply → Type 0
Restores bytes (Ok u) old new = table_of (length old) bytes ≡ Ok new
Restores bytes (Err (BadSnapshot part at)) old new = (part ≡ table_part) × (table_of (length old) bytes ≡ Err at) × (new ≡ old)
Restores bytes (Err NoMemory) old new = new ≡ old
