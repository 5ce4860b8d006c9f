-- What is answered to a text that is to be a record.
use Rattle.std.specs.Prelude.{◌≡◌, ℕ, ◌≤◌, ◌<◌, length, Ok, Err}
use Rattle.mb_base.specs.Shapes.{Bytes}
use Rattle.mb_sched.specs.declared.records.Record.{Record}
use Rattle.mb_sched.specs.Records.{max_record, record_of, record_contents}
use Rattle.mb_answer.specs.Texts.{too_long_text, bad_line_text}

-- a text is that of a record
abbrev pub IsRecordText : Bytes → Record → Type 0
IsRecordText text r = (length text ≤ max_record) × (record_of text ≡ Ok (record_contents r))

-- what is answered to a text, where this is answered to a record
pub data AnswersText (answers : Record → ℕ → Bytes → Type 0) (text : Bytes) (status : ℕ) (out : Bytes) : Type 0 where
  too_long : max_record < length text → status ≡ 2 → out ≡ too_long_text → AnswersText answers text status out
  bad_line : (n : ℕ) → length text ≤ max_record → record_of text ≡ Err n → status ≡ 2 → out ≡ bad_line_text n → AnswersText answers text status out
  right : (r : Record) → IsRecordText text r → answers r status out → AnswersText answers text status out
