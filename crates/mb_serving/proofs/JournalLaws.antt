-- What making and opening a journal say of a host, what a node with one says, and which statuses it can have.
use Rattle.std.proofs.Common.{◌≡◌, ◌≢◌, ◌⊎◌, inl, inr, ℕ, suc, ◌+◌, ◌≤◌, ◌<◌, false, List, [], ◌∷◌, ◌++◌, length, reverse, take, drop, get_or, Option, Some, Ok, Err, refl, sym, ap, subst, ◌∙◌, arith, append-nil, append_assoc, length-append, take-append-drop}
use Rattle.std.specs.Prelude.{Contains, Result, IsErrOf, IfOk, IfErr, OnOk, codes}
use Rattle.std.specs.List.{join_with_byte, flat_map, AllByRecursion}
use Rattle.std.specs.Str.{byte}
use Rattle.std.specs.Io.KnownBytes.{Appends}
use Rattle.std.proofs.lemmas.List.{take_more, take_at, take-append-le}
use Rattle.std.proofs.lemmas.List.Concat.{flat_map-append}
use Rattle.std.proofs.lemmas.Result.{IfErr-weaker}
use Rattle.mb_base.specs.Shapes.{Bytes, host_count}
use Rattle.mb_base.specs.declared.writing.NoMemory.{NoMemory}
use Rattle.mb_edge.specs.declared.outside.Failed.{Failed}
use Rattle.mb_edge.specs.declared.outside.Failed.TheVariants as failed
use Rattle.mb_edge.specs.declared.writing.WriteStop.{WriteStop}
use Rattle.mb_edge.specs.declared.writing.WriteStop.TheVariants as writing
use Rattle.mb_edge.specs.Faults.{Rose}
use Rattle.mb_edge.specs.Pieces.{AppendsPart}
use Rattle.mb_edge.specs.Disks.{Moments, WhereTold}
use Rattle.mb_edge.proofs.PieceLemmas.{appended_both}
use Rattle.mb_msg.specs.declared.event.Event.{Event}
use Rattle.mb_kv.specs.Pairs.{Pairs}
use Rattle.mb_core.specs.declared.replica.Replica.{Replica}
use Rattle.mb_journal.specs.Files.{contents_of, Holds}
use Rattle.mb_journal.specs.Keeping.{JournalState, RestsAt, IsAtRest}
use Rattle.mb_journal.specs.declared.making.MakeStop.{MakeStop}
use Rattle.mb_journal.specs.declared.making.MakeStop.TheVariants as making
use Rattle.mb_journal.specs.declared.making.Opened.{Opened}
use Rattle.mb_journal.specs.declared.opening.OpenStop.{OpenStop}
use Rattle.mb_journal.specs.declared.opening.OpenStop.TheVariants as opening
use Rattle.mb_journal.specs.Making.{make_stop}
use Rattle.mb_journal.specs.Opening.{open_stop}
use Rattle.mb_journal.specs.Headers.{header_text}
use Rattle.mb_journal.proofs.Crashes.{all-append}
use Rattle.mb_node.specs.declared.stops.ServeStop.{ServeStop}
use Rattle.mb_node.specs.declared.stops.ServeStop.TheVariants as stop
use Rattle.mb_node.specs.Stops.{sink_stop, IsOfDisk}
use Rattle.mb_node.specs.Receives.{Receives}
use Rattle.mb_node.specs.Sends.{Sends}
use Rattle.mb_node.specs.Events.{events}
use Rattle.mb_node.specs.Recording.{entries_of}
use Rattle.mb_node.specs.Serving.{Ends}
use Rattle.mb_node.specs.Keeping.{EndsKept}
use Rattle.mb_sched.specs.declared.configs.Config.{Config}
use Rattle.mb_sched.specs.declared.records.Entry.{Entry}
use Rattle.mb_sched.specs.Records.{record_head, entry_text, event_words, EventFits}
use Rattle.mb_sched.specs.ScheduleText.{line_text}
use Rattle.hex.specs.Hex.{encode_lower}
use Rattle.std.specs.Fmt.{decimal}
use Rattle.mb_answer.specs.declared.answer.Output.{Output}
use Rattle.mb_answer.specs.Texts.{exists_text, bad_journal_text}
use Rattle.mb_answer.specs.Configs.{used, unused, lack_statuses}
use Rattle.mb_edge.specs.Seen.{Device, LinkState, DiskState}
use Rattle.mb_answer.specs.Devices.{Says, said, cut_short, IsToldBy}
use Rattle.mb_answer.specs.Devices as devices
use Rattle.mb_answer.proofs.Contained.{any_of}
use Rattle.mb_answer.proofs.ConfigLaws.{same_config, lacks_none}
use Rattle.mb_serving.specs.Nodes.{served_status, HasListened, Fails, IsUnbegun, headless, unopened, Begins}
use Rattle.mb_node.specs.Outside.{outside}
use Rattle.mb_serving.specs.Records.{host_of}
use Rattle.mb_serving.specs.declared.journals.TheConstants.{JOURNAL_LIMIT}
use Rattle.mb_serving.specs.Journals.{SparesFile, IsNew, IsThere, Makes, made, exists, unmade, Opens, IsOpen, IsBad, Rises, start_of, kept_head, ServesMore, served, unbegun, ServesKept, opened, bad, unread, no_host, KeptNodes, IsServedKept, making_statuses, kept_node_statuses, IsMade, IsOpened, IsOfWriting}

-- ---- entries are written

line_some : (words : List Bytes) → 1 ≤ length (line_text words)
line_some words =
    let end : length (codes "\n") ≡ 1 = refl in
    omega (arith, length-append (join_with_byte (byte " ") words) (codes "\n"))

entry_some : (e : Entry) → 1 ≤ length (entry_text e)
unfolding entry_text
entry_some e =
    let words = codes "sent" ∷ decimal e.count ∷ encode_lower e.digest ∷ [] in
    let some = line_some words in
    omega (arith, length-append (line_text (event_words e.event)) (line_text words))

-- a first part of some bytes, behind others
pub part_behind : (old mid new : Option Bytes) (front bytes : Bytes) → Appends old mid front → AppendsPart bytes mid new → AppendsPart (front ++ bytes) old new
part_behind old mid new front bytes first part = record {
  count = length front + part.count;
  part = let less = part.part in omega (arith, length-append front bytes);
  appended = subst (λ (l : Bytes). Appends old new l) (sym (taken front)) (appended_both old mid new front (take part.count bytes) first part.appended);
} where
  taken : (l : Bytes) → take (length l + part.count) (l ++ bytes) ≡ l ++ take part.count bytes
  taken [] = let same : 0 + part.count ≡ part.count = omega arith in ap (λ (n : ℕ). take n bytes) same
  taken (x ∷ l) = let same : length (x ∷ l) + part.count ≡ suc (length l + part.count) = omega arith in ap (λ (n : ℕ). take n (x ∷ (l ++ bytes))) same ∙ ap (λ (r : Bytes). x ∷ r) (taken l)

-- and before others
pub part_before : (old new : Option Bytes) (bytes more : Bytes) → AppendsPart bytes old new → AppendsPart (bytes ++ more) old new
part_before old new bytes more part =
    let less = part.part in
    record {
      count = part.count;
      part = omega (arith, length-append bytes more);
      appended = subst (λ (l : Bytes). Appends old new l) (sym (take-append-le part.count bytes more (omega arith))) part.appended;
    }

module _ (xs : List Entry) (i : ℕ) (e : Entry) (lt : i < length xs) (at : e ≡ get_or xs i e) where
  abbrev so_far : Bytes
  so_far = flat_map entry_text (take i xs)

  abbrev behind : Bytes
  behind = flat_map entry_text (drop (i + 1) xs)

  pub entries_more : flat_map entry_text (take (i + 1) xs) ≡ so_far ++ entry_text e
  entries_more =
      ap (flat_map entry_text) (take_more xs i e lt ∙ ap (λ (x : Entry). take i xs ++ x ∷ []) (sym at))
      ∙ flat_map-append entry_text (take i xs) (e ∷ []) ∙ ap (λ (l : Bytes). so_far ++ l) (append-nil (entry_text e))

  parts : flat_map entry_text xs ≡ so_far ++ (entry_text e ++ behind)
  parts =
      ap (flat_map entry_text) (sym (take-append-drop (i + 1) xs)) ∙ flat_map-append entry_text (take (i + 1) xs) (drop (i + 1) xs)
      ∙ ap (λ (l : Bytes). l ++ behind) entries_more ∙ append_assoc so_far (entry_text e) behind

  -- before this entry
  pub entries_cut : (old new : Option Bytes) → Appends old new so_far → AppendsPart (flat_map entry_text xs) old new
  entries_cut old new written =
      let some = entry_some e in
      let whole = ap length parts in
      record {
        count = length so_far;
        part = omega (arith, length-append so_far (entry_text e ++ behind), length-append (entry_text e) behind);
        appended = subst (λ (l : Bytes). Appends old new l) (sym (ap (take (length so_far)) parts ∙ take_at so_far (entry_text e ++ behind) (length so_far) refl)) written;
      }

  -- within it
  pub entry_cut : (old mid new : Option Bytes) (text : Bytes) → text ≡ entry_text e → Appends old mid so_far → AppendsPart text mid new → AppendsPart (flat_map entry_text xs) old new
  entry_cut old mid new text is written part =
      subst (λ (l : Bytes). AppendsPart l old new) (sym parts)
      (part_behind old mid new so_far (entry_text e ++ behind) written (part_before mid new (entry_text e) behind (subst (λ (l : Bytes). AppendsPart l mid new) is part)))

pub writing_of : (cause : WriteStop) → IsOfWriting (sink_stop cause)
writing_of writing.Fault = tt
writing_of writing.NoMemory = tt

-- ---- a journal is made

-- what is answered
pub told_answer : (answer : Result Output NoMemory) (wanted : ℕ) (text : Bytes) (status : ℕ) (sink sink' : Device) → IfOk answer (λ a. (a.status ≡ wanted) × (a.text.items ≡ text)) → IfOk answer (λ a. Says a.status a.text.items status sink sink')
    → IfErr answer (λ _. (status ≡ 4) × (sink ≡ sink')) → Says wanted text status sink sink' ⊎ ((status ≡ 4) × (sink ≡ sink'))
told_answer (Ok a) wanted text status sink sink' is wrote none = inl (subst (λ (n : ℕ). Says n text status sink sink') is.0 (subst (λ (t : Bytes). Says a.status t status sink sink') is.1 wrote))
told_answer (Err e) wanted text status sink sink' is wrote none = inr none

module _ (c : Config) (host : ℕ) (before after : DiskState) where
  pub not_made : (r : Result (Unit {0}) MakeStop) (s : MakeStop) (cause : Failed) → r ≡ Err s → s ≡ make_stop cause → IsMade c host r before after
  not_made r s failed.Device is same = rw (is, same) tt
  not_made r s failed.NoMemory is same = rw (is, same) tt

  pub made_of : (mid : Option Moments) (r : Result (Unit {0}) MakeStop) → mid ≡ before.moments
      → ((len : ℕ) → IsErrOf r (making.Exists len) → (len ≢ 0) × WhereTold mid (λ old. len ≡ length old.now.reads))
      → ((len : ℕ) → IsErrOf r (making.Exists len) → after.moments ≡ mid)
      → OnOk r (WhereTold mid (λ old. old.now.reads ≡ []))
      → OnOk r (WhereTold mid (λ old. WhereTold after.moments (λ new. RestsAt (header_text c host) 45 [] new.now)))
      → IsMade c host r before after
  made_of mid (Ok done) same there kept empty rests = record { empty = λ old is. empty old (same ∙ is); rests = λ old is. rests old (same ∙ is) }
  made_of mid (Err (making.Exists len)) same there kept empty rests = record {
    some = (there len refl).0;
    length_is = λ old is. (there len refl).1 old (same ∙ is);
    kept = kept len refl ∙ same;
  }
  made_of mid (Err making.DiskFault) same there kept empty rests = tt
  made_of mid (Err making.NoMemory) same there kept empty rests = tt

pub making_fault : {T X : Type 0} (cause : Failed) (s : MakeStop) (r : Result X MakeStop) → r ≡ Err s → s ≡ make_stop cause → IsErrOf r making.DiskFault → IsErrOf {T = T} (Err cause) failed.Device
making_fault failed.Device s r is same told = refl
making_fault failed.NoMemory s r is same told = let e : s ≡ making.DiskFault = cc in absurd cc

pub opening_fault : {T X : Type 0} (cause : Failed) (s : OpenStop) (r : Result X OpenStop) → r ≡ Err s → s ≡ open_stop cause → IsErrOf r opening.DiskFault → IsErrOf {T = T} (Err cause) failed.Device
opening_fault failed.Device s r is same told = refl
opening_fault failed.NoMemory s r is same told = let e : s ≡ opening.DiskFault = cc in absurd cc

-- ---- a journal is opened

module _ (c : Config) (host : ℕ) (before after : DiskState) where
  pub not_opened : (r : Result Opened OpenStop) (s : OpenStop) (cause : Failed) → r ≡ Err s → s ≡ open_stop cause → Opens c host before after → IsOpened c host r before after
  not_opened r s failed.Device is same opens = rw (is, same) opens
  not_opened r s failed.NoMemory is same opens = rw (is, same) opens

  pub opened_of : (mid : Option Moments) (r : Result Opened OpenStop) → mid ≡ before.moments → before.faults ≤ after.faults
      → IfOk r (λ o. o.journal ≡ record { header = header_text c host; end = o.journal.end; limit = JOURNAL_LIMIT; halted = false })
      → IfOk r (λ o. WhereTold mid (λ old. Holds (header_text c host) o.events.items old.now.reads))
      → ((at : ℕ) → IsErrOf r (opening.BadJournal at) → WhereTold mid (λ old. contents_of (header_text c host) old.now.reads ≡ Err at))
      → IfOk r (λ o. WhereTold mid (λ old. WhereTold after.moments (λ new. IsAtRest o.journal o.events.items new.now)))
      → IfOk r (λ o. AllByRecursion EventFits o.events.items) → Opens c host before after → IsOpened c host r before after
  opened_of mid (Ok o) same later journal says broken rests of_bytes opens = record {
    later = later;
    journal_is = journal;
    says = λ old is. says old (same ∙ is);
    of_bytes = of_bytes;
    rests = λ old is. rests old (same ∙ is);
    opens = opens;
  }
  opened_of mid (Err (opening.BadJournal at)) same later journal says broken rests of_bytes opens = record { says = λ old is. broken at refl old (same ∙ is); opens = opens }
  opened_of mid (Err opening.DiskFault) same later journal says broken rests of_bytes opens = opens
  opened_of mid (Err opening.NoMemory) same later journal says broken rests of_bytes opens = opens

-- ---- events of a journal are of bytes

pub events_more : (events : List Event) (i : ℕ) (e : Event) → i < length events → e ≡ get_or events i e → AllByRecursion EventFits (take i events) → EventFits e → AllByRecursion EventFits (take (i + 1) events)
events_more events i e lt at all fits =
    subst (AllByRecursion EventFits) (sym (take_more events i e lt ∙ ap (λ (x : Event). take i events ++ x ∷ []) (sym at))) (all-append EventFits (take i events) (e ∷ []) all (fits, tt))

-- ---- beginning behind it

-- a stop of writing
writing_fails : (s : ServeStop) (before now : ℕ) → IsOfWriting s → (s ≡ stop.SinkFault → Rose before now) → Fails 6 (served_status (Err s)) before now
writing_fails stop.LinkFault before now of rose = absurd of
writing_fails stop.SinkFault before now of rose = inl (refl, rose refl)
writing_fails stop.DiskFault before now of rose = absurd of
writing_fails (stop.Budget n) before now of rose = absurd of
writing_fails (stop.Full length) before now of rose = absurd of
writing_fails stop.NoMemory before now of rose = inr refl

writing_alone : (s : ServeStop) → IsOfWriting s → ¬ IsOfDisk s
writing_alone stop.LinkFault of = λ disk. absurd of
writing_alone stop.SinkFault of = λ disk. disk
writing_alone stop.DiskFault of = λ disk. absurd of
writing_alone (stop.Budget n) of = λ disk. absurd of
writing_alone (stop.Full length) of = λ disk. absurd of
writing_alone stop.NoMemory of = λ disk. disk

writing_unlinked : (s : ServeStop) → IsOfWriting s → s ≡ stop.LinkFault → ⊥
writing_unlinked s of is = subst IsOfWriting is of

module _ (r : Result (Unit {0}) ServeStop) where
  pub written_alone : IfErr r IsOfWriting → IfErr r (λ s. ¬ IsOfDisk s)
  written_alone of = IfErr-weaker r IsOfWriting (λ s. ¬ IsOfDisk s) writing_alone of

  pub written_unlinked : IfErr r IsOfWriting → IsErrOf r stop.LinkFault → ⊥
  written_unlinked of is = subst (λ (x : Result (Unit {0}) ServeStop). IfErr x IsOfWriting) is of

module _ (c : Config) (host : ℕ) (head more : Bytes) where
  -- What failed before a receive failed so too where more was to be written.
  unbegun_longer : (status : ℕ) (sink sink' : Device) (l l' : LinkState) → IsUnbegun c host head status sink sink' l l' → IsUnbegun c host (head ++ more) status sink sink' l l'
  unbegun_longer status sink sink' l l' (headless fails heard sent part) = headless fails heard sent (part_before sink.bytes sink'.bytes head more part)
  unbegun_longer status sink sink' l l' (unopened fails same opens received sent) = unopened fails same opens received sent

  pub begins_longer : (r : Result (Unit {0}) ServeStop) (s e : ServeStop) → r ≡ Err s → s ≡ e → (sink sink' : Device) (l l' : LinkState) → IsUnbegun c host head (served_status (Err e)) sink sink' l l' → Begins c host (head ++ more) r sink sink' l l'
  begins_longer r s e is same sink sink' l l' fails = rw (is, same) (unbegun_longer (served_status (Err e)) sink sink' l l' fails)

  -- More was written behind what it began with.
  pub begins_behind : (r : Result (Unit {0}) ServeStop) (sink between sink' : Device) (l l' : LinkState) → HasListened c host l l' [] × (l'.sent ≡ l.sent) × Appends sink.bytes between.bytes head
      → OnOk r (Appends between.bytes sink'.bytes more) → IfErr r (λ _. AppendsPart more between.bytes sink'.bytes) → IfErr r IsOfWriting → (IsErrOf r stop.SinkFault → Rose sink.faults sink'.faults) → Begins c host (head ++ more) r sink sink' l l'
  begins_behind (Ok done) sink between sink' l l' begun all part of rose = (begun.0, begun.1, appended_both sink.bytes between.bytes sink'.bytes head more begun.2 all)
  begins_behind (Err s) sink between sink' l l' begun all part of rose =
      headless (writing_fails s sink.faults sink'.faults of (λ is. rose (ap Err is))) begun.0 begun.1 (part_behind sink.bytes between.bytes sink'.bytes head more begun.2 part)

-- ---- serving behind it

pub starved_kept : (c : Config) (host : ℕ) (kept : List Event) (journal : JournalState) (budget : ℕ) (r : Result (Unit {0}) ServeStop) (e : ServeStop) → r ≡ Err e → e ≡ stop.NoMemory → (sink : Device) (l : LinkState) (disk : DiskState)
    → ServesMore c host kept journal budget (served_status r) sink sink l l disk disk
starved_kept c host kept journal budget r e is same sink l disk = rw (is, same) (unbegun (unopened (inr refl) refl refl refl refl) refl)

module _ (c : Config) (host : ℕ) (kept : List Event) (entries : List Entry) (are : entries ≡ entries_of (host_of c host) [] (reverse kept)) where
  -- beginning failed
  pub fails_behind : (journal : JournalState) (budget : ℕ) (r : Result (Unit {0}) ServeStop) (s e : ServeStop) → r ≡ Err s → s ≡ e → (sink sink' : Device) (l l' : LinkState) (disk : DiskState)
      → IsUnbegun c host (record_head c host ++ flat_map entry_text entries) (served_status (Err e)) sink sink' l l' → ServesMore c host kept journal budget (served_status r) sink sink' l l' disk disk
  fails_behind journal budget r s e is same sink sink' l l' disk fails =
      rw (is, same) (unbegun (subst (λ (x : List Entry). IsUnbegun c host (record_head c host ++ flat_map entry_text x) (served_status (Err e)) sink sink' l l') are fails) refl)

  pub kept_begun : (old new : Option Bytes) → Appends old new (record_head c host ++ flat_map entry_text entries) → Appends old new (kept_head c host kept)
  kept_begun old new begun = subst (λ (x : List Entry). Appends old new (record_head c host ++ flat_map entry_text x)) are begun

pub begun_undisked : (s : ServeStop) → ¬ IsOfDisk s → s ≡ stop.DiskFault → ⊥
begun_undisked s alone is = alone (subst IsOfDisk (sym is) tt)

rises : (ended : Result (Unit {0}) ServeStop) (sink sink' : Device) (l l' : LinkState) (before after : DiskState) → (IsErrOf ended stop.LinkFault → Rose l.faults l'.faults) → (IsErrOf ended stop.SinkFault → Rose sink.faults sink'.faults)
    → (IsErrOf ended stop.DiskFault → Rose before.faults after.faults) → Rises ended sink sink' l l' before after
rises (Ok done) sink sink' l l' before after link sinks disk = tt
rises (Err (stop.Budget n)) sink sink' l l' before after link sinks disk = tt
rises (Err stop.LinkFault) sink sink' l l' before after link sinks disk = link refl
rises (Err stop.SinkFault) sink sink' l l' before after link sinks disk = sinks refl
rises (Err stop.DiskFault) sink sink' l l' before after link sinks disk = disk refl
rises (Err (stop.Full length)) sink sink' l l' before after link sinks disk = tt
rises (Err stop.NoMemory) sink sink' l l' before after link sinks disk = tt

-- It served behind the record's first lines; the link had sent as much before.
pub serves_behind : (c : Config) (host : ℕ) (kept : List Event) (journal journal' : JournalState) (budget : ℕ) (ended : Result (Unit {0}) ServeStop) (sink sink' : Device) (l l' : LinkState) (between after : DiskState)
    (receives : Receives) → HasListened c host l l' receives → (begun : Option Bytes) → Appends sink.bytes begun (kept_head c host kept) → (r : Replica Pairs) (sent : Option Sends) → sent ≡ l.sent
    → Ends (host_of c host) (start_of c host kept) budget (record { written = begun; sent = sent }) (outside sink' l') r receives ended
    × EndsKept (host_of c host) (start_of c host kept) (record { written = begun; sent = sent }) (outside sink' l') r journal journal' between.moments after.moments (events (host_of c host) (start_of c host kept) receives) ended
    → (IsErrOf ended stop.LinkFault → Rose l.faults l'.faults) → (IsErrOf ended stop.SinkFault → Rose sink.faults sink'.faults) → (IsErrOf ended stop.DiskFault → Rose between.faults after.faults)
    → ServesMore c host kept journal budget (served_status ended) sink sink' l l' between after
serves_behind c host kept journal journal' budget ended sink sink' l l' between after receives heard begun head r sent same is link sinks disk =
    let both = subst (λ (s : Option Sends). Ends (host_of c host) (start_of c host kept) budget (record { written = begun; sent = s }) (outside sink' l') r receives ended
    × EndsKept (host_of c host) (start_of c host kept) (record { written = begun; sent = s }) (outside sink' l') r journal journal' between.moments after.moments (events (host_of c host) (start_of c host kept) receives) ended) same is in
    served journal' ended refl (record {
      receives = receives;
      heard = heard;
      begun = begun;
      head = head;
      replica = r;
      ends = both.0;
      keeps = both.1;
      cause = rises ended sink sink' l l' between after link sinks disk;
    })

-- ---- a host by its number

pub opened_as : (c : Config) (number host budget given status : ℕ) (kept : List Event) (journal : JournalState) (sink sink' : Device) (l l' : LinkState) (before between after : DiskState) → number ≡ host → status ≡ given → host < host_count c.shape
    → IsOpen c number kept journal before between → ServesMore c number kept journal budget given sink sink' l l' between after → ServesKept c host budget status sink sink' l l' before after
opened_as c number host budget given status kept journal sink sink' l l' before between after same is below is_open serves =
    opened kept journal between below (subst (λ (h : ℕ). IsOpen c h kept journal before between) same is_open) (subst (λ (h : ℕ). ServesMore c h kept journal budget status sink sink' l l' between after) same (rw is serves))

pub bad_as : (c : Config) (number host budget status at : ℕ) (sink sink' : Device) (l : LinkState) (before after : DiskState) → number ≡ host → host < host_count c.shape → Says 17 (bad_journal_text at) status sink sink' ⊎ ((status ≡ 4) × (sink ≡ sink'))
    → IsBad c number at before after → ServesKept c host budget status sink sink' l l before after
bad_as c number host budget status at sink sink' l before after same below says is = bad at below says (subst (λ (h : ℕ). IsBad c h at before after) same is) refl

pub unread_as : (c : Config) (number host budget status : ℕ) (sink : Device) (l : LinkState) (before after : DiskState) → number ≡ host → host < host_count c.shape → Fails 14 status before.faults after.faults → Opens c number before after
    → ServesKept c host budget status sink sink l l before after
unread_as c number host budget status sink l before after same below fails opens = unread below fails (subst (λ (h : ℕ). Opens c h before after) same opens) refl refl

pub made_as : (c : Config) (number host : ℕ) (sink : Device) (before after : DiskState) → number ≡ host → host < host_count c.shape → IsNew c number before after → SparesFile c number before after → Makes c host 0 sink sink before after
made_as c number host sink before after same below new leaves = made below refl (subst (λ (h : ℕ). IsNew c h before after) same new) (subst (λ (h : ℕ). SparesFile c h before after) same leaves) refl

pub exists_as : (c : Config) (number host status len : ℕ) (sink sink' : Device) (before after : DiskState) → number ≡ host → host < host_count c.shape → Says 16 (exists_text len) status sink sink' ⊎ ((status ≡ 4) × (sink ≡ sink')) → IsThere c number len before after
    → Makes c host status sink sink' before after
exists_as c number host status len sink sink' before after same below says there = exists len below says (subst (λ (h : ℕ). IsThere c h len before after) same there)

pub unmade_as : (c : Config) (number host status : ℕ) (sink : Device) (before after : DiskState) → number ≡ host → host < host_count c.shape → Fails 14 status before.faults after.faults → SparesFile c number before after → Makes c host status sink sink before after
unmade_as c number host status sink before after same below fails leaves = unmade below fails (subst (λ (h : ℕ). SparesFile c h before after) same leaves) refl

-- What is done from one sink is done from the same by another name.
pub made_from : (c : Config) (host status : ℕ) (sink same sink' : Device) (before after : DiskState) → sink ≡ same → Makes c host status sink sink' before after → Makes c host status same sink' before after
made_from c host status sink same sink' before after is makes = subst (λ (d : Device). Makes c host status d sink' before after) is makes

pub kept_from : (c : Config) (host budget status : ℕ) (sink same sink' : Device) (l l' : LinkState) (before after : DiskState) → sink ≡ same → ServesKept c host budget status sink sink' l l' before after → ServesKept c host budget status same sink' l l' before after
kept_from c host budget status sink same sink' l l' before after is serves = subst (λ (d : Device). ServesKept c host budget status d sink' l l' before after) is serves

-- ---- where nothing fails

abbrev IsUnbroken : ℕ → Type 0
IsUnbroken status = (status ≡ 0) ⊎ ((status ≡ 4) ⊎ ((status ≡ 9) ⊎ (status ≡ 15)))

fails_not : (fault status before now : ℕ) → ¬ Rose before now → Fails fault status before now → IsUnbroken status
fails_not fault status before now calm (inl failed) = absurd (calm failed.1)
fails_not fault status before now calm (inr four) = inr (inl four)

said_not : (wanted : ℕ) (text : Bytes) (status : ℕ) (sink sink' : Device) → ¬ Rose sink.faults sink'.faults → Says wanted text status sink sink' ⊎ ((status ≡ 4) × (sink ≡ sink')) → (status ≡ wanted) ⊎ (status ≡ 4)
said_not wanted text status sink sink' calm (inl (said is grew)) = inl is
said_not wanted text status sink sink' calm (inl (devices.failed six rose part)) = absurd (calm rose)
said_not wanted text status sink sink' calm (inl (cut_short four part)) = inr four
said_not wanted text status sink sink' calm (inr none) = inr none.0

module _ (sink sink' : Device) (l l' : LinkState) (before after : DiskState) (well : ¬ Rose sink.faults sink'.faults) (calm : ¬ Rose l.faults l'.faults) where
  ended_unbroken : ¬ Rose before.faults after.faults → (status : ℕ) (ended : Result (Unit {0}) ServeStop) → status ≡ served_status ended → Rises ended sink sink' l l' before after → IsUnbroken status
  ended_unbroken still status (Ok done) is rose = inl is
  ended_unbroken still status (Err (stop.Budget n)) is rose = inr (inr (inl is))
  ended_unbroken still status (Err stop.LinkFault) is rose = absurd (calm rose)
  ended_unbroken still status (Err stop.SinkFault) is rose = absurd (well rose)
  ended_unbroken still status (Err stop.DiskFault) is rose = absurd (still rose)
  ended_unbroken still status (Err (stop.Full length)) is rose = inr (inr (inr is))
  ended_unbroken still status (Err stop.NoMemory) is rose = inr (inl is)

  behind_unbroken : (c : Config) (host budget status : ℕ) (kept : List Event) (journal : JournalState) → ¬ Rose before.faults after.faults → ServesMore c host kept journal budget status sink sink' l l' before after → IsUnbroken status
  behind_unbroken c host budget status kept journal still (served journal' ended is on) = ended_unbroken still status ended is on.cause
  behind_unbroken c host budget status kept journal still (unbegun (headless fails heard sent part) same) = fails_not 6 status sink.faults sink'.faults well fails
  behind_unbroken c host budget status kept journal still (unbegun (unopened fails same_sink opens received sent) same) = fails_not 7 status l.faults l'.faults calm fails

no_fault_says : (header file : Bytes) (kept : List Event) (at : ℕ) → Holds header kept file → contents_of header file ≡ Err at → ⊥
no_fault_says header file kept at holds broken = let e = sym broken ∙ holds.says in absurd cc

serves_unbroken : (c d : Config) (host budget status : ℕ) (sink sink' : Device) (l l' : LinkState) (before after : DiskState) (old : Moments) (kept : List Event) → d ≡ c → host < host_count c.shape → before.moments ≡ Some old → Holds (header_text c host) kept old.now.reads
    → ¬ Rose sink.faults sink'.faults → ¬ Rose l.faults l'.faults → ¬ Rose before.faults after.faults → ServesKept d host budget status sink sink' l l' before after → IsUnbroken status
serves_unbroken c d host budget status sink sink' l l' before after old kept same has told holds well calm still (opened found journal between below is_open serves) =
    behind_unbroken sink sink' l l' between after well calm d host budget status found journal (λ rose. still (let later = is_open.later in omega (arith, rose, later))) serves
serves_unbroken c d host budget status sink sink' l l' before after old kept same has told holds well calm still (bad at below says is idle) =
    absurd (no_fault_says (header_text d host) old.now.reads kept at (subst (λ (x : Config). Holds (header_text x host) kept old.now.reads) (sym same) holds) (is.says old told))
serves_unbroken c d host budget status sink sink' l l' before after old kept same has told holds well calm still (unread below fails opens same_sink same_link) = fails_not 14 status before.faults after.faults still fails
serves_unbroken c d host budget status sink sink' l l' before after old kept same has told holds well calm still (no_host beyond says same_link same_disk) =
    let far : host_count c.shape ≤ host = subst (λ (x : Config). host_count x.shape ≤ host) same beyond in absurd (omega (arith, far, has))

pub kept_node_completes : (text : Bytes) (host budget status : ℕ) (source source' sink sink' : Device) (l l' : LinkState) (before after : DiskState) → KeptNodes text host budget status source source' sink sink' l l' before after
    → IsServedKept text host status before (Rose source.faults source'.faults ⊎ (Rose sink.faults sink'.faults ⊎ (Rose l.faults l'.faults ⊎ Rose before.faults after.faults)))
kept_node_completes text host budget status source source' sink sink' l l' before after (used d is serves) c old kept reads has told holds none =
    serves_unbroken c d host budget status sink sink' l l' before after old kept (same_config text d c is reads) has told holds (λ rose. none (inr (inl rose))) (λ rose. none (inr (inr (inl rose)))) (λ rose. none (inr (inr (inr rose)))) serves
kept_node_completes text host budget status source source' sink sink' l l' before after (unused lacks idle) c old kept reads has told holds none =
    inr (inl (lacks_none text c status source source' sink sink' reads (λ rose. none (inl rose)) (λ rose. none (inr (inl rose))) lacks))

-- ---- statuses

served_in : (ended : Result (Unit {0}) ServeStop) → Contains kept_node_statuses (served_status ended)
served_in (Ok done) = (0, omega arith, refl)
served_in (Err (stop.Budget n)) = (7, omega arith, refl)
served_in (Err stop.LinkFault) = (6, omega arith, refl)
served_in (Err stop.SinkFault) = (5, omega arith, refl)
served_in (Err stop.DiskFault) = (8, omega arith, refl)
served_in (Err (stop.Full length)) = (9, omega arith, refl)
served_in (Err stop.NoMemory) = (3, omega arith, refl)

pub kept_known : (ended : Result (Unit {0}) ServeStop) (status : ℕ) → status ≡ served_status ended → Contains kept_node_statuses status
kept_known ended status is = subst (Contains kept_node_statuses) (sym is) (served_in ended)

pub kept_unread : (ended : Result (Unit {0}) ServeStop) (status : ℕ) → status ≡ served_status ended → ¬ (status ≡ 5)
kept_unread (Ok done) status is = λ five. absurd (omega (arith, is, five))
kept_unread (Err (stop.Budget n)) status is = λ five. absurd (omega (arith, is, five))
kept_unread (Err stop.LinkFault) status is = λ five. absurd (omega (arith, is, five))
kept_unread (Err stop.SinkFault) status is = λ five. absurd (omega (arith, is, five))
kept_unread (Err stop.DiskFault) status is = λ five. absurd (omega (arith, is, five))
kept_unread (Err (stop.Full length)) status is = λ five. absurd (omega (arith, is, five))
kept_unread (Err stop.NoMemory) status is = λ five. absurd (omega (arith, is, five))

pub disk_served : (ended : Result (Unit {0}) ServeStop) (status : ℕ) → status ≡ served_status ended → status ≡ 14 → IsErrOf ended stop.DiskFault
disk_served (Ok done) status is failed = absurd (omega (arith, is, failed))
disk_served (Err (stop.Budget n)) status is failed = absurd (omega (arith, is, failed))
disk_served (Err stop.LinkFault) status is failed = absurd (omega (arith, is, failed))
disk_served (Err stop.SinkFault) status is failed = absurd (omega (arith, is, failed))
disk_served (Err stop.DiskFault) status is failed = refl
disk_served (Err (stop.Full length)) status is failed = absurd (omega (arith, is, failed))
disk_served (Err stop.NoMemory) status is failed = absurd (omega (arith, is, failed))

-- where there is no config
pub lack_kept : (status : ℕ) → Contains lack_statuses status → Contains kept_node_statuses status
lack_kept status lack = any_of (Contains kept_node_statuses) lack_statuses status ((2, omega arith, refl), ((3, omega arith, refl), ((4, omega arith, refl), ((5, omega arith, refl), tt)))) lack

pub lack_made : (status : ℕ) → Contains lack_statuses status → Contains making_statuses status
lack_made status lack = any_of (Contains making_statuses) lack_statuses status ((2, omega arith, refl), ((3, omega arith, refl), ((4, omega arith, refl), ((5, omega arith, refl), tt)))) lack

-- a text goes with both
pub there_told : (status : ℕ) → status ≡ 16 → IsToldBy status
there_told status is = inr (inr (inr (inr (inl is))))

pub bad_told : (status : ℕ) → status ≡ 17 → IsToldBy status
bad_told status is = inr (inr (inr (inr (inr is))))
