-- Which statuses the word `learn` can end with, and which has to come.
use Rattle.std.proofs.Common.{◌≡◌, ℕ, refl, sym, subst, ◌∙◌, arith, ◌⊎◌, inl, inr}
use Rattle.std.specs.Prelude.{Contains}
use Rattle.mb_base.specs.Shapes.{Bytes}
use Rattle.mb_edge.specs.Faults.{Rose}
use Rattle.mb_edge.specs.declared.reading.ReadStop.{ReadStop}
use Rattle.mb_sched.specs.declared.records.Record.{Record}
use Rattle.mb_edge.specs.Seen.{Device}
use Rattle.mb_answer.specs.Devices.{IsToldBy, Says, said, failed, cut_short, IsUnread, answered, unread, starved}
use Rattle.mb_answer.specs.Records.{IsRecordText, AnswersText, too_long, bad_line, right}
use Rattle.mb_answer.proofs.Contained.{any_of}
use Rattle.mb_answer.proofs.Statuses.{unread_is}
use Rattle.mb_reviewing.specs.Learning.{AnswersLearn, learnt, differs, learn_findings, learn_statuses, LearnsFrom, IsLearntFrom}

unfound : (n : ℕ) → ¬ (0 ≡ n) → ¬ (10 ≡ n) → ¬ Contains learn_findings n
unfound n zero ten = λ is. any_of (λ x. ¬ (x ≡ n)) learn_findings n (zero, (ten, tt)) is refl

-- Where the text could not be read, nothing is told of what was learnt.
pub unread_unlearnt : (found : ReadStop) (status : ℕ) (sink sink' : Device) → IsUnread found status sink sink' → ¬ Contains learn_findings status
unread_unlearnt found status sink sink' is =
    unread_is (λ s. ¬ Contains learn_findings s)
    (unfound 4 (λ e. absurd (omega (arith, e))) (λ e. absurd (omega (arith, e))))
    (unfound 6 (λ e. absurd (omega (arith, e))) (λ e. absurd (omega (arith, e))))
    found status sink sink'
    (unfound 2 (λ e. absurd (omega (arith, e))) (λ e. absurd (omega (arith, e))))
    (unfound 5 (λ e. absurd (omega (arith, e))) (λ e. absurd (omega (arith, e))))
    is

-- ---- the statuses

record_told : {r : _} (status : ℕ) (out : Bytes) → AnswersLearn r status out → IsToldBy status
record_told status out (learnt slots took zero text_is) = inl (omega (arith, zero))
record_told status out (differs slots position certified first ten text_is) = inr (inl ten)

pub learn_told : (text : Bytes) (status : ℕ) (out : Bytes) → AnswersText AnswersLearn text status out → IsToldBy status
learn_told text status out (too_long long two text_is) = inl (omega (arith, two))
learn_told text status out (bad_line n short fault two text_is) = inl (omega (arith, two))
learn_told text status out (right r is answers) = record_told status out answers

record_found : {r : _} (status : ℕ) (out : Bytes) → AnswersLearn r status out → Contains learn_findings status
record_found status out (learnt slots took zero text_is) = subst (Contains learn_findings) (sym zero) (0, omega arith, refl)
record_found status out (differs slots position certified first ten text_is) = subst (Contains learn_findings) (sym ten) (1, omega arith, refl)

record_known : {r : _} (status : ℕ) (out : Bytes) → AnswersLearn r status out → Contains learn_statuses status
record_known status out (learnt slots took zero text_is) = subst (Contains learn_statuses) (sym zero) (0, omega arith, refl)
record_known status out (differs slots position certified first ten text_is) = subst (Contains learn_statuses) (sym ten) (5, omega arith, refl)

pub learn_known : (text : Bytes) (status : ℕ) (out : Bytes) → AnswersText AnswersLearn text status out → Contains learn_statuses status
learn_known text status out (too_long long is text_is) = subst (Contains learn_statuses) (sym is) (1, omega arith, refl)
learn_known text status out (bad_line n short fault is text_is) = subst (Contains learn_statuses) (sym is) (1, omega arith, refl)
learn_known text status out (right r is answers) = record_known status out answers

-- ---- which status has to come

text_completes : (text : Bytes) (r : Record) (status : ℕ) (out : Bytes) → IsRecordText text r → AnswersText AnswersLearn text status out → Contains learn_findings status
text_completes text r status out is (too_long long two text_is) = let short = is.0 in absurd (omega (arith, long, short))
text_completes text r status out is (bad_line n short fault two text_is) = let e = sym fault ∙ is.1 in absurd cc
text_completes text r status out is (right s is' answers) = record_found status out answers

said_completes : (wanted : ℕ) (out : Bytes) (status : ℕ) (old new : Device) → Contains learn_findings wanted → ¬ Rose old.faults new.faults → Says wanted out status old new → Contains learn_findings status ⊎ (status ≡ 4)
said_completes wanted out status old new found none (said same grew) = inl (subst (Contains learn_findings) (sym same) found)
said_completes wanted out status old new found none (failed six rose part) = absurd (none rose)
said_completes wanted out status old new found none (cut_short four part) = inr four

pub learn_completes : (text : Bytes) (status : ℕ) (source source' sink sink' : Device) → LearnsFrom text status source source' sink sink'
    → IsLearntFrom text status (Rose source.faults source'.faults ⊎ Rose sink.faults sink'.faults)
learn_completes text status source source' sink sink' (answered wanted out a says) r is none =
    said_completes wanted out status sink sink' (text_completes text r wanted out is a) (λ rose. none (inr rose)) says
learn_completes text status source source' sink sink' (unread five rose kept) r is none = absurd (none (inl rose))
learn_completes text status source source' sink sink' (starved four kept) r is none = inr four
