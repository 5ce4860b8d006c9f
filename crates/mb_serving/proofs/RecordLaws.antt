-- Where all entries of a record are own, none differs; and which statuses come.
use Rattle.std.proofs.Common.{◌≡◌, ℕ, List, [], ◌∷◌, ◌++◌, map, reverse, refl, sym, ap, subst, ◌∙◌, append-nil, append_assoc, arith, ◌⊎◌, inl, inr}
use Rattle.std.specs.Prelude.{Contains}
use Rattle.std.proofs.lemmas.List.{append_cancel_left, map-append, reverse-append}
use Rattle.mb_base.specs.Shapes.{Bytes}
use Rattle.mb_edge.specs.Faults.{Rose}
use Rattle.mb_model.specs.Histories.{Identity}
use Rattle.mb_msg.specs.declared.event.Event.{Event}
use Rattle.mb_node.specs.Events.{left_by}
use Rattle.mb_node.specs.Recording.{entry_at, entries_of}
use Rattle.mb_node.specs.Retracing.{events_in, AreOwn, own_entry, Differs}
use Rattle.mb_sched.specs.declared.records.Entry.{Entry}
use Rattle.mb_sched.specs.declared.records.Record.{Record}
use Rattle.mb_edge.specs.Seen.{Device}
use Rattle.mb_answer.specs.Devices.{IsToldBy, answered, unread, starved}
use Rattle.mb_answer.specs.Records.{IsRecordText, too_long, bad_line, right}
use Rattle.mb_serving.specs.Records.{recorded_host, IsOwnRecord, IsRetraced, Retraces, AnswersRecord, same, differs, AnswersRecordText, retrace_statuses}
use Rattle.mb_answer.proofs.RecordTexts.{same_record}
use Rattle.mb_answer.proofs.Statuses.{said_completes}

-- ---- own entries

heads : {A : Type 0} (x y : A) (xs ys : List A) → x ∷ xs ≡ y ∷ ys → x ≡ y
heads x y xs ys e = cc

abbrev event_of : Entry → Event
event_of e = e.event

-- the events of entries in two parts
pub events_parted : (before later : List Entry) (entry : Entry) → events_in (before ++ entry ∷ later) ≡ events_in later ++ entry.event ∷ events_in before
events_parted before later entry =
    let a = map event_of before in
    let b = map event_of later in
    ap reverse (map-append event_of before (entry ∷ later)) ∙ (reverse-append a (entry.event ∷ b)
    ∙ (ap (λ (l : List Event). l ++ reverse a) (reverse-append (entry.event ∷ []) b) ∙ append_assoc (reverse b) (entry.event ∷ []) (reverse a)))

module _ {S : Type 0} (me : Identity S) where
  -- The entries of the first events begin those of all.
  begun : (later before : List Event) → (rest : List Entry) × (entries_of me [] (later ++ before) ≡ entries_of me [] before ++ rest)
  unfolding entries_of
  begun [] before = ([], sym (append-nil (entries_of me [] before)))
  begun (e ∷ later) before =
      let b = begun later before in
      let last = entry_at me (left_by me [] (later ++ before)) e ∷ [] in
      (b.0 ++ last, ap (λ (l : List Entry). l ++ last) b.1 ∙ append_assoc (entries_of me [] before) b.0 last)

  pub none_differs : (entries : List Entry) (number : ℕ) (recorded found : Bytes) → AreOwn me entries → Differs me entries number recorded found → ⊥
  unfolding entries_of
  none_differs entries number recorded found own d =
      let mine = own_entry me d.before d.entry.event in
      let parted : events_in entries ≡ events_in d.later ++ d.entry.event ∷ events_in d.before = ap events_in d.place ∙ events_parted d.before d.later d.entry in
      let b = begun (events_in d.later) (d.entry.event ∷ events_in d.before) in
      let whole : entries ≡ (entries_of me [] (events_in d.before) ++ mine ∷ []) ++ b.0 = own ∙ (ap (entries_of me []) parted ∙ b.1) in
      let mended : entries ≡ d.before ++ mine ∷ b.0 = whole ∙ (ap (λ (l : List Entry). (l ++ mine ∷ []) ++ b.0) (sym d.own) ∙ append_assoc d.before (mine ∷ []) b.0) in
      d.other (heads d.entry mine d.later b.0 (append_cancel_left d.before (d.entry ∷ d.later) (mine ∷ b.0) (sym d.place ∙ mended)))

-- ---- which status has to come

record_completes : (r : Record) (status : ℕ) (out : Bytes) → IsOwnRecord r → AnswersRecord r status out → status ≡ 0
record_completes r status out own (same also zero text_is) = zero
record_completes r status out own (differs number recorded found d ten text_is) = absurd (none_differs (recorded_host r) r.entries number recorded found own d)

text_completes : (text : Bytes) (r : Record) (status : ℕ) (out : Bytes) → IsRecordText text r → IsOwnRecord r → AnswersRecordText text status out → status ≡ 0
text_completes text r status out is own (too_long long two text_is) = let short = is.0 in absurd (omega (arith, long, short))
text_completes text r status out is own (bad_line n short fault two text_is) = let e = sym fault ∙ is.1 in absurd cc
text_completes text r status out is own (right s is' answers) = record_completes s status out (subst (λ (x : Record). IsOwnRecord x) (same_record text r s is is') own) answers

pub retrace_completes : (text : Bytes) (status : ℕ) (source source' sink sink' : Device) → Retraces text status source source' sink sink'
    → IsRetraced text status (Rose source.faults source'.faults ⊎ Rose sink.faults sink'.faults)
retrace_completes text status source source' sink sink' (answered wanted out a says) r is own none =
    said_completes wanted out status sink sink' (text_completes text r wanted out is own a) (λ rose. none (inr rose)) says
retrace_completes text status source source' sink sink' (unread five rose kept) r is own none = absurd (none (inl rose))
retrace_completes text status source source' sink sink' (starved four kept) r is own none = inr four

-- ---- the statuses

record_told : {r : _} (status : ℕ) (out : Bytes) → AnswersRecord r status out → IsToldBy status
record_told status out (same own zero text_is) = inl (omega (arith, zero))
record_told status out (differs number recorded found first ten text_is) = inr (inl ten)

pub record_answers_told : (text : Bytes) (status : ℕ) (out : Bytes) → AnswersRecordText text status out → IsToldBy status
record_answers_told text status out (too_long long two text_is) = inl (omega (arith, two))
record_answers_told text status out (bad_line n short fault two text_is) = inl (omega (arith, two))
record_answers_told text status out (right r is answers) = record_told status out answers

record_known : {r : _} (status : ℕ) (out : Bytes) → AnswersRecord r status out → Contains retrace_statuses status
record_known status out (same own is text_is) = subst (Contains retrace_statuses) (sym is) (0, omega arith, refl)
record_known status out (differs number recorded found first is text_is) = subst (Contains retrace_statuses) (sym is) (5, omega arith, refl)

pub record_answers_known : (text : Bytes) (status : ℕ) (out : Bytes) → AnswersRecordText text status out → Contains retrace_statuses status
record_answers_known text status out (too_long long is text_is) = subst (Contains retrace_statuses) (sym is) (1, omega arith, refl)
record_answers_known text status out (bad_line n short fault is text_is) = subst (Contains retrace_statuses) (sym is) (1, omega arith, refl)
record_answers_known text status out (right r is answers) = record_known status out answers
