-- An audit of what a correct host was given accuses nobody who is correct; and what it tells of a host's stamps, whatever was forged.
use Rattle.std.proofs.Common.{◌≡◌, ℕ, ◌<◌, true, List, Option, sym, subst, ◌∙◌, arith}
use Rattle.std.specs.Io.KnownBytes.{Appends}
use Rattle.mb_base.specs.Shapes.{Bytes, host_count}
use Rattle.mb_base.specs.declared.shape.Shape.{Shape}
use Rattle.mb_kv.specs.Pairs.{Pairs}
use Rattle.mb_audit.specs.declared.auditing.Verdict.{Verdict}
use Rattle.mb_audit.specs.declared.auditing.Verdict.TheVariants.{Double, Gap, Illegal, Ordered}
use Rattle.mb_audit.specs.Verdicts.{IsVerdict}
use Rattle.mb_audit.proofs.Disorder.{disordered}
use Rattle.mb_audited.specs.Blame.{given_to, AccusesRightly}
use Rattle.mb_audited.proofs.Blame.{audits_accuse_rightly}
use Rattle.mb_schedule.specs.declared.schedule.Schedule.{Schedule}
use Rattle.mb_schedule.specs.Limits.{is_faulty}
use Rattle.mb_sched.specs.declared.records.Record.{Record}
use Rattle.mb_world_model.specs.World.{World}
use Rattle.mb_edge.specs.Seen.{Device}
use Rattle.mb_answer.specs.Devices.{Says, said, failed, cut_short, answered, unread, starved}
use Rattle.mb_answer.specs.Records.{IsRecordText, AnswersText, too_long, bad_line, right}
use Rattle.mb_answer.proofs.RecordTexts.{same_record}
use Rattle.mb_reviewing.specs.Given.{given_in}
use Rattle.mb_reviewing.specs.Audits.{verdict_status, verdict_text, AnswersAudit, no_host, judged, Audits}
use Rattle.mb_top.specs.Systems.{system_of, world}
use Rattle.mb_top.specs.Blames.{IsRecordIn, ConvictsRightly, TellsDisorder}

module _ (host : ℕ) (s : Schedule) (w : World) where
  -- Status 12 convicts, and status 3 isn't told.
  abbrev Convicts : ℕ → Type 0
  Convicts status = (status ≡ 12 → is_faulty s host ≡ true) × ¬ (status ≡ 3)

  none_told : (status n : ℕ) → status ≡ n → ¬ (n ≡ 12) → ¬ (n ≡ 3) → Convicts status
  none_told status n is twelve three = (λ told. absurd (twelve (sym is ∙ told)), λ told. three (sym is ∙ told))

  module _ (r : Record) (of : IsRecordIn s w r) (accuses : AccusesRightly (system_of s) w r.id) where
    -- the verdict in the words of the schedule
    moved : (v : Verdict) → IsVerdict r.config.shape r.config.secret (given_in r.entries) host v → IsVerdict s.shape s.secret (given_to (system_of s) w r.id) host v
    moved v is =
        subst (λ (x : Shape). IsVerdict x s.secret (given_to (system_of s) w r.id) host v) of.shape
        (subst (λ (x : Bytes). IsVerdict r.config.shape x (given_to (system_of s) w r.id) host v) of.secret
        (subst (λ (x : List Bytes). IsVerdict r.config.shape r.config.secret x host v) of.given is))

    judged_rightly : (v : Verdict) (status : ℕ) → host < host_count r.config.shape → IsVerdict r.config.shape r.config.secret (given_in r.entries) host v → status ≡ verdict_status v → Convicts status
    judged_rightly (Double counter) status below is told = absurd (accuses.single host counter (moved (Double counter) is))
    judged_rightly (Gap missing seen) status below is told = none_told status 13 told (λ e. absurd (omega (arith, e))) (λ e. absurd (omega (arith, e)))
    judged_rightly (Illegal counter rule) status below is told =
        (λ twelve. accuses.guilty host counter rule (subst (λ (x : Shape). host < host_count x) of.shape below) (moved (Illegal counter rule) is), λ three. absurd (omega (arith, told, three)))
    judged_rightly (Ordered last) status below is told = none_told status 0 told (λ e. absurd (omega (arith, e))) (λ e. absurd (omega (arith, e)))

    record_convicts : (status : ℕ) (out : Bytes) → AnswersAudit host r status out → Convicts status
    record_convicts status out (no_host none one text_is) = none_told status 1 one (λ e. absurd (omega (arith, e))) (λ e. absurd (omega (arith, e)))
    record_convicts status out (judged v below is told text_is) = judged_rightly v status below is told

    text_convicts : (text : Bytes) (status : ℕ) (out : Bytes) → IsRecordText text r → AnswersText (AnswersAudit host) text status out → Convicts status
    text_convicts text status out is (too_long long two text_is) = none_told status 2 two (λ e. absurd (omega (arith, e))) (λ e. absurd (omega (arith, e)))
    text_convicts text status out is (bad_line n short fault two text_is) = none_told status 2 two (λ e. absurd (omega (arith, e))) (λ e. absurd (omega (arith, e)))
    text_convicts text status out is (right q is' answers) = record_convicts status out (subst (λ (x : Record). AnswersAudit host x status out) (sym (same_record text r q is is')) answers)

    said_convicts : (wanted : ℕ) (out : Bytes) (status : ℕ) (old new : Device) → Convicts wanted → Says wanted out status old new → Convicts status
    said_convicts wanted out status old new so (said same grew) = subst Convicts (sym same) so
    said_convicts wanted out status old new so (failed six rose part) = none_told status 6 six (λ e. absurd (omega (arith, e))) (λ e. absurd (omega (arith, e)))
    said_convicts wanted out status old new so (cut_short four part) = none_told status 4 four (λ e. absurd (omega (arith, e))) (λ e. absurd (omega (arith, e)))

    audit_convicts : (text : Bytes) (status : ℕ) (source source' sink sink' : Device) → IsRecordText text r → Audits text host status source source' sink sink' → Convicts status
    audit_convicts text status source source' sink sink' is (answered wanted out a says) = said_convicts wanted out status sink sink' (text_convicts text wanted out is a) says
    audit_convicts text status source source' sink sink' is (unread five rose kept) = none_told status 5 five (λ e. absurd (omega (arith, e))) (λ e. absurd (omega (arith, e)))
    audit_convicts text status source source' sink sink' is (starved four kept) = none_told status 4 four (λ e. absurd (omega (arith, e))) (λ e. absurd (omega (arith, e)))

pub audits_convict : (host : ℕ) (text : Bytes) (r : Record) (status : ℕ) (source source' sink sink' : Device) → IsRecordText text r → Audits text host status source source' sink sink' → ConvictsRightly host status r
audits_convict host text r status source source' sink sink' is told = λ s k none of.
    audit_convicts host s (world s k) r of (audits_accuse_rightly Pairs (system_of s) k none r.id of.correct) text status source source' sink sink' is told

-- ---- at status 12

module _ (host : ℕ) (r : Record) (old new : Option Bytes) where
  verdict_tells : (v : Verdict) → IsVerdict r.config.shape r.config.secret (given_in r.entries) host v → verdict_status v ≡ 12 → Appends old new (verdict_text host v) → TellsDisorder host r old new
  verdict_tells (Double counter) is twelve grew = absurd (omega (arith, twelve))
  verdict_tells (Gap missing seen) is twelve grew = absurd (omega (arith, twelve))
  verdict_tells (Illegal counter rule) is twelve grew = record { counter = counter; rule = rule; wrote = grew; disorder = disordered r.config.shape r.config.secret (given_in r.entries) host counter rule is }
  verdict_tells (Ordered last) is twelve grew = absurd (omega (arith, twelve))

  record_tells : (status : ℕ) (out : Bytes) → status ≡ 12 → Appends old new out → AnswersAudit host r status out → TellsDisorder host r old new
  record_tells status out twelve grew (no_host none one text_is) = absurd (omega (arith, one, twelve))
  record_tells status out twelve grew (judged v below is told text_is) = verdict_tells v is (sym told ∙ twelve) (subst (λ (t : Bytes). Appends old new t) text_is grew)

  text_tells : (text : Bytes) (status : ℕ) (out : Bytes) → status ≡ 12 → Appends old new out → IsRecordText text r → AnswersText (AnswersAudit host) text status out → TellsDisorder host r old new
  text_tells text status out twelve grew is (too_long long two text_is) = absurd (omega (arith, two, twelve))
  text_tells text status out twelve grew is (bad_line n short fault two text_is) = absurd (omega (arith, two, twelve))
  text_tells text status out twelve grew is (right q is' answers) = record_tells status out twelve grew (subst (λ (x : Record). AnswersAudit host x status out) (sym (same_record text r q is is')) answers)

module _ (host : ℕ) (text : Bytes) (r : Record) (status : ℕ) (twelve : status ≡ 12) (is : IsRecordText text r) where
  said_tells : (wanted : ℕ) (out : Bytes) (sink sink' : Device) → AnswersText (AnswersAudit host) text wanted out → Says wanted out status sink sink' → TellsDisorder host r sink.bytes sink'.bytes
  said_tells wanted out sink sink' a (said same grew) = text_tells host r sink.bytes sink'.bytes text wanted out (sym same ∙ twelve) grew is a
  said_tells wanted out sink sink' a (failed six rose part) = absurd (omega (arith, six, twelve))
  said_tells wanted out sink sink' a (cut_short four part) = absurd (omega (arith, four, twelve))

  pub audit_tells : (source source' sink sink' : Device) → Audits text host status source source' sink sink' → TellsDisorder host r sink.bytes sink'.bytes
  audit_tells source source' sink sink' (answered wanted out a says) = said_tells wanted out sink sink' a says
  audit_tells source source' sink sink' (unread five rose kept) = absurd (omega (arith, five, twelve))
  audit_tells source source' sink sink' (starved four kept) = absurd (omega (arith, four, twelve))
