-- Which statuses an audit can end with, and which has to come.
use Rattle.std.proofs.Common.{◌≡◌, ℕ, ◌<◌, refl, sym, subst, ◌∙◌, arith, ◌⊎◌, inl, inr}
use Rattle.std.specs.Prelude.{Contains}
use Rattle.mb_base.specs.Shapes.{Bytes, host_count}
use Rattle.mb_edge.specs.Faults.{Rose}
use Rattle.mb_edge.specs.declared.reading.ReadStop.{ReadStop}
use Rattle.mb_audit.specs.declared.auditing.Verdict.{Verdict}
use Rattle.mb_audit.specs.declared.auditing.Verdict.TheVariants.{Double, Gap, Illegal, Ordered}
use Rattle.mb_sched.specs.declared.records.Record.{Record}
use Rattle.mb_edge.specs.Seen.{Device}
use Rattle.mb_answer.specs.Devices.{IsToldBy, Says, said, failed, cut_short, IsUnread, answered, unread, starved}
use Rattle.mb_answer.specs.Records.{IsRecordText, AnswersText, too_long, bad_line, right}
use Rattle.mb_answer.proofs.Contained.{any_of}
use Rattle.mb_answer.proofs.RecordTexts.{same_record}
use Rattle.mb_answer.proofs.Statuses.{unread_is}
use Rattle.mb_reviewing.specs.Audits.{verdict_status, AnswersAudit, no_host, judged, audit_findings, audit_statuses, Audits, IsAudited}

-- ---- a verdict tells something

verdict_found : (v : Verdict) → Contains audit_findings (verdict_status v)
verdict_found (Double counter) = (1, omega arith, refl)
verdict_found (Gap missing seen) = (3, omega arith, refl)
verdict_found (Illegal counter rule) = (2, omega arith, refl)
verdict_found (Ordered last) = (0, omega arith, refl)

verdict_known : (v : Verdict) → Contains audit_statuses (verdict_status v)
verdict_known (Double counter) = (3, omega arith, refl)
verdict_known (Gap missing seen) = (8, omega arith, refl)
verdict_known (Illegal counter rule) = (7, omega arith, refl)
verdict_known (Ordered last) = (0, omega arith, refl)

verdict_told : (v : Verdict) → IsToldBy (verdict_status v)
verdict_told (Double counter) = inl (omega arith)
verdict_told (Gap missing seen) = inr (inr (inr (inl refl)))
verdict_told (Illegal counter rule) = inr (inr (inl refl))
verdict_told (Ordered last) = inl (omega arith)

-- ---- no verdict

unfound : (n : ℕ) → ¬ (0 ≡ n) → ¬ (3 ≡ n) → ¬ (12 ≡ n) → ¬ (13 ≡ n) → ¬ Contains audit_findings n
unfound n zero three twelve thirteen = λ is. any_of (λ x. ¬ (x ≡ n)) audit_findings n (zero, (three, (twelve, (thirteen, tt)))) is refl

-- Where the text could not be read, no verdict is told.
pub unread_unfound : (found : ReadStop) (status : ℕ) (sink sink' : Device) → IsUnread found status sink sink' → ¬ Contains audit_findings status
unread_unfound found status sink sink' is =
    unread_is (λ s. ¬ Contains audit_findings s)
    (unfound 4 (λ e. absurd (omega (arith, e))) (λ e. absurd (omega (arith, e))) (λ e. absurd (omega (arith, e))) (λ e. absurd (omega (arith, e))))
    (unfound 6 (λ e. absurd (omega (arith, e))) (λ e. absurd (omega (arith, e))) (λ e. absurd (omega (arith, e))) (λ e. absurd (omega (arith, e))))
    found status sink sink'
    (unfound 2 (λ e. absurd (omega (arith, e))) (λ e. absurd (omega (arith, e))) (λ e. absurd (omega (arith, e))) (λ e. absurd (omega (arith, e))))
    (unfound 5 (λ e. absurd (omega (arith, e))) (λ e. absurd (omega (arith, e))) (λ e. absurd (omega (arith, e))) (λ e. absurd (omega (arith, e))))
    is

-- ---- the statuses

module _ (host : ℕ) where
  record_told : {r : _} (status : ℕ) (out : Bytes) → AnswersAudit host r status out → IsToldBy status
  record_told status out (no_host none one text_is) = inl (omega (arith, one))
  record_told status out (judged v below is status_is text_is) = subst IsToldBy (sym status_is) (verdict_told v)

  pub audit_told : (text : Bytes) (status : ℕ) (out : Bytes) → AnswersText (AnswersAudit host) text status out → IsToldBy status
  audit_told text status out (too_long long two text_is) = inl (omega (arith, two))
  audit_told text status out (bad_line n short fault two text_is) = inl (omega (arith, two))
  audit_told text status out (right r is answers) = record_told status out answers

  record_known : {r : _} (status : ℕ) (out : Bytes) → AnswersAudit host r status out → Contains audit_statuses status
  record_known status out (no_host none is text_is) = subst (Contains audit_statuses) (sym is) (1, omega arith, refl)
  record_known status out (judged v below is status_is text_is) = subst (Contains audit_statuses) (sym status_is) (verdict_known v)

  pub audit_known : (text : Bytes) (status : ℕ) (out : Bytes) → AnswersText (AnswersAudit host) text status out → Contains audit_statuses status
  audit_known text status out (too_long long is text_is) = subst (Contains audit_statuses) (sym is) (2, omega arith, refl)
  audit_known text status out (bad_line n short fault is text_is) = subst (Contains audit_statuses) (sym is) (2, omega arith, refl)
  audit_known text status out (right r is answers) = record_known status out answers

  -- ---- which status has to come

  record_completes : (r : Record) (status : ℕ) (out : Bytes) → host < host_count r.config.shape → AnswersAudit host r status out → Contains audit_findings status
  record_completes r status out below (no_host none one text_is) = absurd (omega (arith, below, none))
  record_completes r status out below (judged v below' is status_is text_is) = subst (Contains audit_findings) (sym status_is) (verdict_found v)

  text_completes : (text : Bytes) (r : Record) (status : ℕ) (out : Bytes) → IsRecordText text r → host < host_count r.config.shape → AnswersText (AnswersAudit host) text status out → Contains audit_findings status
  text_completes text r status out is below (too_long long two text_is) = let short = is.0 in absurd (omega (arith, long, short))
  text_completes text r status out is below (bad_line n short fault two text_is) = let e = sym fault ∙ is.1 in absurd cc
  text_completes text r status out is below (right s is' answers) = record_completes s status out (subst (λ (x : Record). host < host_count x.config.shape) (same_record text r s is is') below) answers

  said_completes : (wanted : ℕ) (out : Bytes) (status : ℕ) (old new : Device) → Contains audit_findings wanted → ¬ Rose old.faults new.faults → Says wanted out status old new → Contains audit_findings status ⊎ (status ≡ 4)
  said_completes wanted out status old new found none (said same grew) = inl (subst (Contains audit_findings) (sym same) found)
  said_completes wanted out status old new found none (failed six rose part) = absurd (none rose)
  said_completes wanted out status old new found none (cut_short four part) = inr four

  pub audit_completes : (text : Bytes) (status : ℕ) (source source' sink sink' : Device) → Audits text host status source source' sink sink'
      → IsAudited text host status (Rose source.faults source'.faults ⊎ Rose sink.faults sink'.faults)
  audit_completes text status source source' sink sink' (answered wanted out a says) r is below none =
      said_completes wanted out status sink sink' (text_completes text r wanted out is below a) (λ rose. none (inr rose)) says
  audit_completes text status source source' sink sink' (unread five rose kept) r is below none = absurd (none (inl rose))
  audit_completes text status source source' sink sink' (starved four kept) r is below none = inr four
