-- What a record's text says keeps the limits of its lines, and a text is that of one record. What is answered to a text that is none.
use Rattle.std.proofs.Common.{◌≡◌, ℕ, ◌*◌, ◌≤◌, ◌<◌, ◌&&◌, leb, List, Option, Some, None, Err, codes, sym, ap, subst, ◌∙◌, arith}
use Rattle.std.specs.Prelude.{slice_get, option_and_then}
use Rattle.std.proofs.lemmas.Bool.{leb-true, and_parts}
use Rattle.mb_base.specs.Shapes.{Bytes, is_within, max_faults, host_count}
use Rattle.mb_sched.specs.declared.bad_text.BadText.{BadText}
use Rattle.mb_sched.specs.declared.bad_text.BadText.TheVariants as fault
use Rattle.mb_sched.specs.declared.configs.Config.{Config}
use Rattle.mb_sched.specs.declared.records.Entry.{Entry}
use Rattle.mb_sched.specs.declared.records.Record.{Record}
use Rattle.mb_sched.specs.Words.{is_decimal, decimal_value, number_in}
use Rattle.mb_sched.specs.Lines.{lines}
use Rattle.mb_sched.specs.TextLines.{word_behind, ReadsText}
use Rattle.mb_sched.specs.Records.{RecordContents, max_record, record_of, record_contents, id_line}
use Rattle.mb_sched.proofs.ReadSteps.{ok_is, allowed}
use Rattle.mb_sched.proofs.ReadWords.{some_is}
use Rattle.mb_sched.proofs.RecordSpellings.{record_spelled}
use Rattle.mb_answer.specs.Records.{IsRecordText, AnswersText, too_long, bad_line}
use Rattle.mb_answer.specs.Refusals.{IsRefusal}
use Rattle.mb_answer.proofs.ConfigLaws.{same_settings}

-- ---- the host of a record

number_most : (high n : ℕ) (word : Bytes) → number_in 0 high word ≡ Some n → n ≤ high
number_most high n word e =
    let a = allowed (is_decimal word && is_within 0 high (decimal_value word)) (Some (decimal_value word)) n e in
    let b = and_parts (is_decimal word) (is_within 0 high (decimal_value word)) a.0 in
    let c = and_parts (leb 0 (decimal_value word)) (leb (decimal_value word) high) b.1 in
    subst (λ (m : ℕ). m ≤ high) (some_is (decimal_value word) n a.1) (leb-true _ _ c.1)

word_most : (high n : ℕ) (word : Option Bytes) → option_and_then (number_in 0 high) word ≡ Some n → n ≤ high
word_most high n None e = absurd cc
word_most high n (Some word) e = number_most high n word e

line_most : (f n : ℕ) (line : Option Bytes) → option_and_then (id_line f) line ≡ Some n → n ≤ 2 * f
line_most f n None e = absurd cc
line_most f n (Some line) e = word_most (2 * f) n (word_behind (codes "id") line) e

pub host_below : (text : Bytes) (r : Record) → IsRecordText text r → r.id < host_count r.config.shape
host_below text r is =
    let spelled = record_spelled text (record_contents r) is.1 in
    let most : r.id ≤ 2 * max_faults r.config.shape = line_most (max_faults r.config.shape) r.id (slice_get (lines text) 6) spelled.id in
    omega (arith, most)

-- ---- one record

abbrev made_of : Config → ℕ → List Entry → Record
made_of config id entries = record { config = config; id = id; entries = entries }

same_contents : (r s : Record) → record_contents r ≡ record_contents s → r ≡ s
same_contents r s e =
    ap (λ (x : Config). made_of x r.id r.entries) (same_settings r.config s.config (ap (λ (c : RecordContents). c.config) e))
    ∙ ap (λ (x : ℕ). made_of s.config x r.entries) (ap (λ (c : RecordContents). c.id) e)
    ∙ ap (λ (x : List Entry). made_of s.config s.id x) (ap (λ (c : RecordContents). c.entries) e)

pub same_record : (text : Bytes) (r s : Record) → IsRecordText text r → IsRecordText text s → r ≡ s
same_record text r s a b = same_contents r s (ok_is {E = ℕ} (record_contents r) (record_contents s) (sym a.1 ∙ b.1))

-- ---- no record

-- What is answered to a text that says nothing is an answer to a text.
pub refuses_record : (answers : Record → ℕ → Bytes → Type 0) (text : Bytes) (found : BadText) (status : ℕ) (out : Bytes) → ReadsText {X = Record} max_record record_contents record_of (Err found) text → IsRefusal found status out
    → AnswersText answers text status out
refuses_record answers text fault.TooLong status out bad is = too_long bad is.0 is.1
refuses_record answers text (fault.BadLine n) status out bad is = bad_line n bad.0 bad.1 is.0 is.1
refuses_record answers text fault.NoMemory status out bad is = absurd is
