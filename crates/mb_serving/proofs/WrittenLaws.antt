-- What a node writes is a record of its host's own steps, also where it was cut off.
use Rattle.std.proofs.Common.{◌≡◌, ℕ, ◌+◌, ◌≤◌, ◌<◌, Bool, List, [], ◌∷◌, ◌++◌, length, take, drop, Option, Some, None, refl, sym, ap, subst, ◌∙◌, append-nil, append_assoc, length-append, arith, inl, inr}
use Rattle.std.specs.Prelude.{◌⊎◌}
use Rattle.std.specs.List.{AllByRecursion}
use Rattle.std.specs.Io.KnownBytes.{Appends}
use Rattle.std.proofs.lemmas.Bool.{cases_lt}
use Rattle.std.proofs.lemmas.List.{length-map, take-append-drop, drop_at}
use Rattle.sha2.proofs.Facts256.{length-sha256}
use Rattle.mb_base.specs.Shapes.{Bytes, host_count}
use Rattle.mb_usig.proofs.SmallBytes.{IsBytes-sha256}
use Rattle.mb_edge.specs.Faults.{Rose}
use Rattle.mb_edge.proofs.PieceLemmas.{appended_both}
use Rattle.mb_edge.proofs.ToldLemmas.{with_more-nil}
use Rattle.mb_msg.specs.declared.event.Event.{Event}
use Rattle.mb_model.specs.Histories.{Identity, History}
use Rattle.mb_model.specs.HostStep.{transition}
use Rattle.mb_steps.specs.Arises.{IsWhole}
use Rattle.mb_history_laws.specs.Sound.{IsSound}
use Rattle.mb_history_laws.proofs.Sound.{begins_sound}
use Rattle.mb_history_laws.proofs.SoundRules.{transition_sound}
use Rattle.mb_encodable.specs.Fitting.{AreFit}
use Rattle.mb_encodable.proofs.Fit.{begins_fit, transition_fit}
use Rattle.mb_replica.specs.Represents.{as_sent}
use Rattle.mb_node.specs.Receives.{Receives}
use Rattle.mb_node.specs.Events.{events, left_by, has_stop}
use Rattle.mb_node.specs.Recording.{sent_digest, entry_at, entries_of, lines_of}
use Rattle.mb_node.specs.Retracing.{events_in, AreOwn}
use Rattle.mb_node.specs.Serving.{AreCutOff}
use Rattle.mb_node.proofs.Counting.{sends_few}
use Rattle.mb_node.proofs.OfBytes.{events_of_bytes}
use Rattle.mb_node.proofs.Runs.{lines_more}
use Rattle.mb_sched.specs.declared.configs.Config.{Config}
use Rattle.mb_sched.specs.declared.records.Entry.{Entry}
use Rattle.mb_sched.specs.declared.records.Record.{Record}
use Rattle.mb_sched.specs.Configs.{SettingsFit}
use Rattle.mb_sched.specs.Records.{max_record, record_head, entries_text, EventFits, EntryFits, RecordFits}
use Rattle.mb_sched.proofs.CutRecords.{split_front, cut_record}
use Rattle.mb_edge.specs.Seen.{Device, LinkState}
use Rattle.mb_answer.specs.Devices.{Says, said, failed, cut_short as part_said, answered, unread, starved}
use Rattle.mb_serving.specs.Nodes.{HasListened, events_of, Serves, stopped, exhausted, cut_short, unbegun, headless, unopened}
use Rattle.mb_answer.specs.Records.{IsRecordText, too_long, bad_line, right}
use Rattle.mb_answer.proofs.RecordTexts.{same_record}
use Rattle.mb_serving.specs.Records.{host_of, recorded_host, IsOwnRecord, same_text, AnswersRecord, same, differs, AnswersRecordText, Retraces}
use Rattle.mb_serving.specs.Written.{IsOwnSoFar, WritesFront, WritesReceived, IsLeft, LeavesParts, RetracesLeft, NodesLeaveRecords}
use Rattle.mb_serving.proofs.RecordLaws.{events_parted, none_differs}
use Rattle.mb_serving.proofs.ReadConfigs.{settings_fit}

module _ {S : Type 0} (me : Identity S) where
  -- ---- entries of the first events

  all_in : (es : List Event) → events_in (entries_of me [] es) ≡ es
  unfolding entries_of
  all_in [] = refl
  all_in (e ∷ before) = events_parted (entries_of me [] before) [] (entry_at me (left_by me [] before) e) ∙ ap (λ (l : List Event). e ∷ l) (all_in before)

  all_own : (es : List Event) → AreOwn me (entries_of me [] es)
  all_own es = sym (ap (entries_of me []) (all_in es))

  none_before : {A : Type 0} (xs ys : List A) → xs ++ ys ≡ [] → xs ≡ []
  none_before [] ys e = refl
  none_before (x ∷ xs) ys e = absurd cc

  none_left : {A : Type 0} (ys : List A) → length ys ≡ 0 → ys ≡ []
  none_left [] e = refl
  none_left (y ∷ ys) e = absurd cc

  own_front : (es : List Event) (whole later : List Entry) → whole ++ later ≡ entries_of me [] es → AreOwn me whole
  unfolding entries_of
  own_front [] whole later is = rw (none_before whole later is) refl
  own_front (e ∷ before) whole later is =
      let last = entry_at me (left_by me [] before) e in
      elim (cases_lt (length (entries_of me [] before)) (length whole)) [
        | inr within ↦ let front = split_front whole later (entries_of me [] before) (last ∷ []) is within in own_front before whole front.0 front.1
        | inl all ↦
            let size = ap length is in
            let none : length later ≡ 0 = omega (arith, all, size, length-append whole later, length-append (entries_of me [] before) (last ∷ [])) in
            let whole_is : whole ≡ entries_of me [] (e ∷ before) = sym (append-nil whole) ∙ ap (λ (l : List Entry). whole ++ l) (sym (none_left later none)) ∙ is in
            subst (AreOwn me) (sym whole_is) (all_own (e ∷ before))
      ]

  -- ---- entries keep the limits of a record's lines

  record IsKept (d : History) : Type 0 where
    sound : IsSound me d
    whole : IsWhole d
    fit : AreFit me d

  module _ (there : me.host < host_count me.shape) where
    kept : (es : List Event) → IsKept (left_by me [] es)
    unfolding left_by
    kept [] = record { sound = begins_sound me; whole = tt; fit = begins_fit me }
    kept (e ∷ before) =
        let d = left_by me [] before in
        let k = kept before in
        let s = transition_sound me d e k.sound k.whole in
        record { sound = s.0; whole = s.1; fit = transition_fit me there d e k.sound k.whole k.fit }

    entry_fits : (es : List Event) (e : Event) → EventFits e → EntryFits (entry_at me (left_by me [] es) e)
    unfolding sent_digest
    entry_fits es e fits =
        let d = left_by me [] es in
        let k = kept es in
        let few = sends_few me there d e k.sound k.whole k.fit in
        record {
          event = fits;
          count = let len = length-map (transition me d e).left.sent as_sent in omega (arith, few, len);
          digest_length = length-sha256 _;
          digest_bytes = IsBytes-sha256 _;
        }

    all_and : (xs : List Entry) (x : Entry) → AllByRecursion EntryFits xs → EntryFits x → AllByRecursion EntryFits (xs ++ x ∷ [])
    all_and [] x all one = (one, tt)
    all_and (y ∷ xs) x all one = (all.0, all_and xs x all.1 one)

    entries_fit : (es : List Event) → AllByRecursion EventFits es → AllByRecursion EntryFits (entries_of me [] es)
    unfolding entries_of
    entries_fit [] fit = tt
    entries_fit (e ∷ before) fit = all_and (entries_of me [] before) (entry_at me (left_by me [] before) e) (entries_fit before fit.1) (entry_fits before e fit.0)

  lines_as : (es : List Event) → lines_of me [] es ≡ entries_text (has_stop me [] es) (entries_of me [] es)
  unfolding lines_of
  lines_as es = refl

-- ---- a record that was cut off

pub own_so_far : (c : Config) (host : ℕ) (es : List Event) (part rest : Bytes) → SettingsFit c → host < host_count c.shape → AllByRecursion EventFits es → part ++ rest ≡ lines_of (host_of c host) [] es
    → length (record_head c host ++ part) ≤ max_record → IsOwnSoFar c host es part
own_so_far c host es part rest settings there of_bytes is within =
    let me = host_of c host in
    let fits : RecordFits c host (entries_of me [] es) = record { settings = settings; host = there; entries_fit = entries_fit me there es of_bytes } in
    let pairs = cut_record (has_stop me [] es) c host (entries_of me [] es) part rest fits (is ∙ lines_as me es) in
    record {
      read = record { config = record c { ops = [] }; id = host; entries = pairs.whole };
      is = (within, pairs.read);
      own = own_front me es pairs.whole pairs.later pairs.first;
      later = pairs.later;
      first = pairs.first;
      cut = pairs.cut;
      parts = pairs.parts;
      short = pairs.short;
    }

-- ---- what a node writes

pub appends_none : (old : Option Bytes) → Appends old old []
appends_none None = tt
appends_none (Some xs) = sym (append-nil xs)

module _ (c : Config) (host : ℕ) (sink sink' : Device) where
  -- all of it
  writes_all : (es : List Event) → Appends sink.bytes sink'.bytes (record_head c host ++ lines_of (host_of c host) [] es) → WritesFront c host es sink.bytes sink'.bytes
  writes_all es written = record { part = record_head c host ++ lines_of (host_of c host) [] es; rest = []; whole = append-nil _; written = written }

  -- a first part of the first lines
  writes_head : (count : ℕ) → Appends sink.bytes sink'.bytes (take count (record_head c host)) → WritesFront c host [] sink.bytes sink'.bytes
  writes_head count written = record {
    part = take count (record_head c host);
    rest = drop count (record_head c host) ++ lines_of (host_of c host) [] [];
    whole = sym (append_assoc (take count (record_head c host)) (drop count (record_head c host)) (lines_of (host_of c host) [] [])) ∙ ap (λ (t : Bytes). t ++ lines_of (host_of c host) [] []) (take-append-drop count (record_head c host));
    written = written;
  }

  -- the last event stopped on the way
  writes_cut : (begun : Option Bytes) (sent sent' : Option (List (ℕ × Bytes))) (halted : Bool) (es : List Event) → Appends sink.bytes begun (record_head c host) → AreCutOff (host_of c host) [] (record { written = begun; sent = sent }) (record { written = sink'.bytes; sent = sent' }) halted es
      → WritesFront c host es sink.bytes sink'.bytes
  writes_cut begun sent sent' halted [] head cut = writes_all [] (appended_both sink.bytes begun sink'.bytes (record_head c host) (lines_of (host_of c host) [] []) head cut.written)
  writes_cut begun sent sent' halted (e ∷ es) head cut =
      let me = host_of c host in
      let lines = lines_of me [] es in
      let more_is : lines_of me [] (e ∷ es) ≡ lines ++ (cut.text ++ cut.part.some_lines.rest) = lines_more me [] es e cut.unstopped ∙ ap (λ (t : Bytes). lines ++ t) (sym cut.part.some_lines.joined) in
      record {
        part = record_head c host ++ (lines ++ cut.text);
        rest = cut.part.some_lines.rest;
        whole =
            append_assoc (record_head c host) (lines ++ cut.text) cut.part.some_lines.rest
            ∙ ap (λ (t : Bytes). record_head c host ++ t) (append_assoc lines cut.text cut.part.some_lines.rest ∙ sym more_is);
        written = appended_both sink.bytes begun sink'.bytes (record_head c host) (lines ++ cut.text) head cut.adds.written;
      }

-- The events of what was received are of bytes.
writes_events : (c : Config) (host : ℕ) (sink sink' : Device) (before after : LinkState) (receives : Receives) → HasListened c host before after receives → WritesFront c host (events_of c host receives) sink.bytes sink'.bytes
    → WritesReceived c host before after sink.bytes sink'.bytes
writes_events c host sink sink' before after receives heard writes = record {
  receives = receives;
  received = heard.received;
  of_bytes = events_of_bytes (host_of c host) [] receives heard.of_bytes;
  writes = writes;
}

pub writes_front : (c : Config) (host budget status : ℕ) (sink sink' : Device) (before after : LinkState) → Serves c host budget status sink sink' before after → WritesReceived c host before after sink.bytes sink'.bytes
unfolding events
writes_front c host budget status sink sink' before after (stopped receives zero heard whole ends few) =
    writes_events c host sink sink' before after receives heard (writes_all c host sink sink' (events_of c host receives) whole.written)
writes_front c host budget status sink sink' before after (exhausted receives nine heard whole none all) =
    writes_events c host sink sink' before after receives heard (writes_all c host sink sink' (events_of c host receives) whole.written)
writes_front c host budget status sink sink' before after (cut_short receives fails heard cut few) =
    writes_events c host sink sink' before after receives heard (writes_cut c host sink sink' cut.begun before.sent after.sent cut.halted (events_of c host receives) cut.head cut.part)
writes_front c host budget status sink sink' before after (unbegun (headless fails heard kept part)) = writes_events c host sink sink' before after [] heard (writes_head c host sink sink' part.count part.appended)
writes_front c host budget status sink sink' before after (unbegun (unopened fails kept opens received sent)) = record {
  receives = [];
  received = received ∙ sym (with_more-nil before.received);
  of_bytes = tt;
  writes = writes_head c host sink sink' 0 (subst (λ (d : Device). Appends sink.bytes d.bytes []) kept (appends_none sink.bytes));
}

-- ---- where it is cut off

-- a first part that has the first lines
behind_head : (head lines part rest : Bytes) → part ++ rest ≡ head ++ lines → length head ≤ length part → (more : Bytes) × (head ++ more ≡ part) × (more ++ rest ≡ lines)
behind_head head lines part rest is long =
    let front = split_front head lines part rest (sym is) long in
    let more : Bytes = front.0 in
    let joined : head ++ (more ++ rest) ≡ head ++ lines = sym (append_assoc head more rest) ∙ ap (λ (t : Bytes). t ++ rest) front.1 ∙ is in
    (more, front.1, sym (drop_at head (more ++ rest) (length head) refl) ∙ ap (drop (length head)) joined ∙ drop_at head lines (length head) refl)

front_is_left : (c : Config) (host : ℕ) (es : List Event) (written part rest : Bytes) → SettingsFit c → host < host_count c.shape → AllByRecursion EventFits es → (writes : WritesFront c host es (Some []) (Some written))
    → part ++ rest ≡ written → length (record_head c host) ≤ length part → length part ≤ max_record → IsLeft c host es part
front_is_left c host es written part rest settings there of_bytes writes is long within =
    let lines = lines_of (host_of c host) [] es in
    let whole : part ++ (rest ++ writes.rest) ≡ record_head c host ++ lines =
    sym (append_assoc part rest writes.rest) ∙ ap (λ (t : Bytes). t ++ writes.rest) (is ∙ writes.written) ∙ writes.whole in
    let behind = behind_head (record_head c host) lines part (rest ++ writes.rest) whole long in
    record {
      settings = settings;
      there = there;
      of_bytes = of_bytes;
      part = behind.0;
      rest = rest ++ writes.rest;
      whole = behind.2;
      text_is = sym behind.1;
      within = within;
    }

pub parts_are_left : (c : Config) (host : ℕ) (es : List Event) (written : Bytes) (old new : Option Bytes) → SettingsFit c → host < host_count c.shape → AllByRecursion EventFits es → WritesFront c host es old new → old ≡ Some [] → new ≡ Some written
    → LeavesParts c host es written
parts_are_left c host es written old new settings there of_bytes writes empty all part rest joined long within =
    let known : WritesFront c host es (Some []) (Some written) =
    subst (λ (o : Option Bytes). WritesFront c host es o (Some written)) empty (subst (λ (o : Option Bytes). WritesFront c host es old o) all writes) in
    front_is_left c host es written part rest settings there of_bytes known joined long within

pub nodes_leave_records : NodesLeaveRecords
nodes_leave_records text c host budget status sink sink' before after written is there serves empty all =
    let w = writes_front c host budget status sink sink' before after serves in
    (w.receives, w.received, parts_are_left c host (events_of c host w.receives) written sink.bytes sink'.bytes (settings_fit text c is) there w.of_bytes w.writes empty all)

-- ---- what is answered to it

said_same : (wanted : ℕ) (out : Bytes) (status : ℕ) (sink sink' : Device) → wanted ≡ 0 → ¬ Rose sink.faults sink'.faults → Says wanted out status sink sink' → (status ≡ 4) ⊎ ((status ≡ 0) × Appends sink.bytes sink'.bytes out)
said_same wanted out status sink sink' zero calm (said is grew) = inr (is ∙ zero, grew)
said_same wanted out status sink sink' zero calm (failed six rose part) = absurd (calm rose)
said_same wanted out status sink sink' zero calm (part_said four part) = inl four

-- the answer to the text of a record of own entries
same_said : (r : Record) (wanted : ℕ) (out : Bytes) → IsOwnRecord r → AnswersRecord r wanted out → (wanted ≡ 0) × (out ≡ same_text (length r.entries))
same_said r wanted out own (same also zero text_is) = (zero, text_is)
same_said r wanted out own (differs number recorded found d ten text_is) = absurd (none_differs (recorded_host r) r.entries number recorded found own d)

text_said : (text : Bytes) (r : Record) (wanted : ℕ) (out : Bytes) → IsRecordText text r → IsOwnRecord r → AnswersRecordText text wanted out → (wanted ≡ 0) × (out ≡ same_text (length r.entries))
text_said text r wanted out is own (too_long long two text_is) = let short = is.0 in absurd (omega (arith, long, short))
text_said text r wanted out is own (bad_line n short fault two text_is) = let e = sym fault ∙ is.1 in absurd cc
text_said text r wanted out is own (right s is' answers) =
    let one : s ≡ r = same_record text s r is' is in
    same_said r wanted out own (subst (λ (x : Record). AnswersRecord x wanted out) one answers)

pub retraces_left : (text : Bytes) (status : ℕ) (source source' sink sink' : Device) → Retraces text status source source' sink sink'
    → RetracesLeft text status (Rose source.faults source'.faults ⊎ Rose sink.faults sink'.faults) sink sink'
retraces_left text status source source' sink sink' (answered wanted out a says) c host es left calm =
    let own = own_so_far c host es left.part left.rest left.settings left.there left.of_bytes left.whole (subst (λ (t : Bytes). length t ≤ max_record) left.text_is left.within) in
    let told = text_said (record_head c host ++ left.part) own.read wanted out own.is own.own (subst (λ (t : Bytes). AnswersRecordText t wanted out) left.text_is a) in
    elim (said_same wanted out status sink sink' told.0 (λ rose. calm (inr rose)) says) [
      | inl four ↦ inl four
      | inr done ↦ inr (done.0, (own, subst (Appends sink.bytes sink'.bytes) told.1 done.1))
    ]
retraces_left text status source source' sink sink' (unread five rose kept) c host es left calm = absurd (calm (inl rose))
retraces_left text status source source' sink sink' (starved four kept) c host es left calm = inl four
