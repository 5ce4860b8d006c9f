-- What is answered to the text of a record that is audited: what its host was given shows of a host.
use Rattle.std.specs.Prelude.{◌≡◌, ℕ, ◌≤◌, ◌<◌, ◌⊎◌, Contains, List, [], ◌∷◌, ◌++◌, codes}
use Rattle.std.specs.Fmt.{decimal}
use Rattle.mb_base.specs.Shapes.{Bytes, host_count}
use Rattle.mb_audit.specs.declared.auditing.Verdict.{Verdict}
use Rattle.mb_audit.specs.declared.auditing.Verdict.TheVariants.{Double, Gap, Illegal, Ordered}
use Rattle.mb_audit.specs.Verdicts.{IsVerdict}
use Rattle.mb_sched.specs.declared.records.Record.{Record}
use Rattle.mb_edge.specs.Seen.{Device}
use Rattle.mb_answer.specs.Devices.{Responds}
use Rattle.mb_answer.specs.Records.{IsRecordText, AnswersText}
use Rattle.mb_answer.specs.Texts.{usage_text}
use Rattle.mb_reviewing.specs.Given.{given_in}

abbrev pub verdict_status : Verdict → ℕ
verdict_status (Double counter) = 3
verdict_status (Gap missing seen) = 13
verdict_status (Illegal counter rule) = 12
verdict_status (Ordered last) = 0

-- of a host and one number
abbrev pub with_one : Bytes → ℕ → ℕ → Bytes
with_one word host a = word ++ (decimal host ++ (codes " " ++ (decimal a ++ codes "\n")))

-- of a host and two numbers
abbrev pub with_two : Bytes → ℕ → ℕ → ℕ → Bytes
with_two word host a b = word ++ (decimal host ++ (codes " " ++ (decimal a ++ (codes " " ++ (decimal b ++ codes "\n")))))

-- what is written of a verdict on a host
abbrev pub verdict_text : ℕ → Verdict → Bytes
verdict_text host (Double counter) = with_one (codes "double h") host counter
verdict_text host (Gap missing seen) = with_two (codes "gap h") host missing seen
verdict_text host (Illegal counter rule) = with_two (codes "illegal h") host counter rule
verdict_text host (Ordered last) = with_one (codes "ordered h") host last

-- There is no such host; or this is the verdict on it, by what the record's host was given.
pub data AnswersAudit (host : ℕ) (r : Record) (status : ℕ) (out : Bytes) : Type 0 where
  no_host : host_count r.config.shape ≤ host → status ≡ 1 → out ≡ usage_text → AnswersAudit host r status out
  judged : (v : Verdict) → host < host_count r.config.shape → IsVerdict r.config.shape r.config.secret (given_in r.entries) host v → status ≡ verdict_status v → out ≡ verdict_text host v
      → AnswersAudit host r status out

-- the statuses that tell a verdict
abbrev pub audit_findings : List ℕ
audit_findings = 0 ∷ 3 ∷ 12 ∷ 13 ∷ []

-- the statuses of the word `audit`
abbrev pub audit_statuses : List ℕ
audit_statuses = 0 ∷ 1 ∷ 2 ∷ 3 ∷ 4 ∷ 5 ∷ 6 ∷ 12 ∷ 13 ∷ []

-- what the word does with a text: the answer to it is written, or the text could not be read
abbrev pub Audits : Bytes → ℕ → ℕ → Device → Device → Device → Device → Type 0
Audits text host status source source' sink sink' = Responds (AnswersText (AnswersAudit host) text) status source source' sink sink'

-- The text of a record is answered by a verdict on a host of its system, unless memory runs out or a device fails.
abbrev pub IsAudited : Bytes → ℕ → ℕ → Type 0 → Type 0
IsAudited text host status fault = (r : Record) → IsRecordText text r → host < host_count r.config.shape → ¬ fault → Contains audit_findings status ⊎ (status ≡ 4)
