-- What a node with a journal writes is a record of its host's own steps: of the journal's events, and of those behind them.
use Rattle.std.proofs.Common.{◌≡◌, ℕ, ◌≤◌, ◌<◌, Bool, true, false, ◌||◌, List, [], ◌∷◌, ◌++◌, length, reverse, take, drop, Option, Some, Ok, Err, refl, sym, ap, subst, ◌∙◌, append-nil, append_assoc, inl, inr, arith}
use Rattle.std.specs.Prelude.{Result}
use Rattle.std.specs.List.{flat_map, AllByRecursion}
use Rattle.std.specs.Io.KnownBytes.{Appends}
use Rattle.std.proofs.lemmas.List.{take-append-drop, reverse-append}
use Rattle.std.proofs.lemmas.List.Concat.{flat_map-append}
use Rattle.mb_base.specs.Shapes.{Bytes, host_count}
use Rattle.mb_edge.specs.Told.{with_more}
use Rattle.mb_edge.proofs.PieceLemmas.{appended_both}
use Rattle.mb_edge.proofs.ToldLemmas.{with_more-nil}
use Rattle.mb_msg.specs.declared.event.Event.{Event}
use Rattle.mb_model.specs.Histories.{History, Identity}
use Rattle.mb_model.specs.HostStep.{transition}
use Rattle.mb_kv.specs.Pairs.{Pairs}
use Rattle.mb_core.specs.declared.replica.Replica.{Replica}
use Rattle.mb_journal.specs.Keeping.{JournalState}
use Rattle.mb_journal.proofs.Crashes.{all-append}
use Rattle.mb_node.specs.declared.stops.ServeStop.{ServeStop}
use Rattle.mb_node.specs.declared.stops.ServeStop.TheVariants as stop
use Rattle.mb_node.specs.Receives.{Receives}
use Rattle.mb_node.specs.Events.{left_by, stops, has_stop, events}
use Rattle.mb_node.specs.Recording.{end_line, entry_at, entries_of, lines_of}
use Rattle.mb_node.specs.Outside.{Outside, outside}
use Rattle.mb_node.specs.Serving.{AreDone, AreCutOff, Ends}
use Rattle.mb_node.proofs.OfBytes.{events_of_bytes}
use Rattle.mb_node.proofs.Runs.{lines_more}
use Rattle.mb_sched.specs.declared.configs.Config.{Config}
use Rattle.mb_sched.specs.declared.records.Entry.{Entry}
use Rattle.mb_sched.specs.Records.{record_head, entry_text, EventFits}
use Rattle.mb_edge.specs.Seen.{Device, LinkState, DiskState}
use Rattle.mb_serving.specs.Nodes.{headless, unopened}
use Rattle.mb_serving.specs.Records.{host_of}
use Rattle.mb_serving.specs.Journals.{start_of, kept_head, ServesOn, served, unbegun, opened, bad, unread, no_host, ServesMore}
use Rattle.mb_serving.specs.Written.{WritesFront, KeptNodesLeaveRecords}
use Rattle.mb_serving.proofs.ReadConfigs.{settings_fit}
use Rattle.mb_serving.proofs.WrittenLaws.{appends_none, parts_are_left}

or_assoc : (a b c : Bool) → ((a || b) || c) ≡ (a || (b || c))
or_assoc true b c = refl
or_assoc false b c = refl

-- ---- the lines of events, and of more events behind them

-- the line `end` once one of both parts has a right STOP, and what is missing of it behind the second part
ends_on : (a b : Bool) → (more : Bytes) × (end_line a ++ more ≡ end_line (a || b))
ends_on true b = ([], append-nil (end_line true))
ends_on false b = (end_line b, refl)

module _ {S : Type 0} (me : Identity S) (before : List Event) where
  abbrev there : History
  there = left_by me [] before

  stands_on : (es : List Event) → left_by me there es ≡ left_by me [] (es ++ before)
  unfolding left_by
  stands_on [] = refl
  stands_on (e ∷ es) = ap (λ (d : History). (transition me d e).left.history) (stands_on es)

  entries_on : (es : List Event) → entries_of me [] (es ++ before) ≡ entries_of me [] before ++ entries_of me there es
  unfolding entries_of
  entries_on [] = sym (append-nil (entries_of me [] before))
  entries_on (e ∷ es) =
      let last : List Entry = entry_at me (left_by me there es) e ∷ [] in
      ap (λ (d : History). entries_of me [] (es ++ before) ++ entry_at me d e ∷ []) (sym (stands_on es))
      ∙ ap (λ (l : List Entry). l ++ last) (entries_on es) ∙ append_assoc (entries_of me [] before) (entries_of me there es) last

  stops_on : (es : List Event) → has_stop me [] (es ++ before) ≡ (has_stop me there es || has_stop me [] before)
  unfolding has_stop
  stops_on [] = refl
  stops_on (e ∷ es) =
      ap (λ (d : History). stops me d e || has_stop me [] (es ++ before)) (sym (stands_on es))
      ∙ ap (λ (b : Bool). stops me (left_by me there es) e || b) (stops_on es)
      ∙ sym (or_assoc (stops me (left_by me there es) e) (has_stop me there es) (has_stop me [] before))

  lines_on : (es : List Event) → (more : Bytes) × (flat_map entry_text (entries_of me [] before) ++ (lines_of me there es ++ more) ≡ lines_of me [] (es ++ before))
  unfolding lines_of
  lines_on es =
      let first = flat_map entry_text (entries_of me [] before) in
      let second = flat_map entry_text (entries_of me there es) in
      let ends = ends_on (has_stop me there es) (has_stop me [] before) in
      let last : Bytes = end_line (has_stop me there es || has_stop me [] before) in (
        ends.0,
        ap (λ (t : Bytes). first ++ t) (append_assoc second (end_line (has_stop me there es)) ends.0 ∙ ap (λ (t : Bytes). second ++ t) ends.1)
            ∙ sym (append_assoc first second last)
            ∙ ap (λ (t : Bytes). t ++ last) (sym (flat_map-append entry_text (entries_of me [] before) (entries_of me there es)) ∙ ap (flat_map entry_text) (sym (entries_on es)))
            ∙ ap (λ (b : Bool). flat_map entry_text (entries_of me [] (es ++ before)) ++ end_line b) (sym (stops_on es)),
      )

-- ---- what is written

module _ (c : Config) (host : ℕ) (kept : List Event) where
  abbrev me : Identity Pairs
  me = host_of c host

  abbrev start : History
  start = start_of c host kept

  -- the first lines, the journal's entries, and a first part of the lines behind them
  writes_on : (old mid new : Option Bytes) (es : List Event) (part rest : Bytes) → Appends old mid (kept_head c host kept) → Appends mid new part → part ++ rest ≡ lines_of me start es → WritesFront c host (es ++ reverse kept) old new
  writes_on old mid new es part rest head written joined =
      let first = flat_map entry_text (entries_of me [] (reverse kept)) in
      let on = lines_on me (reverse kept) es in
      let behind : part ++ (rest ++ on.0) ≡ lines_of me start es ++ on.0 = sym (append_assoc part rest on.0) ∙ ap (λ (t : Bytes). t ++ on.0) joined in
      record {
        part = kept_head c host kept ++ part;
        rest = rest ++ on.0;
        whole = append_assoc (kept_head c host kept) part (rest ++ on.0) ∙ ap (λ (t : Bytes). kept_head c host kept ++ t) behind
            ∙ append_assoc (record_head c host) first (lines_of me start es ++ on.0) ∙ ap (λ (t : Bytes). record_head c host ++ t) on.1;
        written = appended_both old mid new (kept_head c host kept) part head written;
      }

  -- a first part of the first lines and the journal's entries
  writes_before : (old new : Option Bytes) (count : ℕ) → Appends old new (take count (kept_head c host kept)) → WritesFront c host (reverse kept) old new
  writes_before old new count written =
      let first = flat_map entry_text (entries_of me [] (reverse kept)) in
      let on = lines_on me (reverse kept) [] in
      let rest : Bytes = lines_of me start [] ++ on.0 in
      let head : Bytes = kept_head c host kept in
      record {
        part = take count head;
        rest = drop count head ++ rest;
        whole = sym (append_assoc (take count head) (drop count head) rest) ∙ ap (λ (t : Bytes). t ++ rest) (take-append-drop count head)
            ∙ append_assoc (record_head c host) first rest ∙ ap (λ (t : Bytes). record_head c host ++ t) on.1;
        written = written;
      }

  module _ (old begun : Option Bytes) (head : Appends old begun (kept_head c host kept)) (sent : Option (List (ℕ × Bytes))) (now : Outside) where
    abbrev here : Outside
    here = record { written = begun; sent = sent }

    writes_done : (es : List Event) → AreDone me start here now es → WritesFront c host (es ++ reverse kept) old now.written
    writes_done es done = writes_on old begun now.written es (lines_of me start es) [] head done.written (append-nil (lines_of me start es))

    writes_cut : (halted : Bool) (es : List Event) → AreCutOff me start here now halted es → WritesFront c host (es ++ reverse kept) old now.written
    writes_cut halted [] done = writes_done [] done
    writes_cut halted (e ∷ es) cut =
        let lines = lines_of me start es in
        writes_on old begun now.written (e ∷ es) (lines ++ cut.text) cut.part.some_lines.rest head cut.adds.written
        (append_assoc lines cut.text cut.part.some_lines.rest ∙ ap (λ (t : Bytes). lines ++ t) cut.part.some_lines.joined ∙ sym (lines_more me start es e cut.unstopped))

    writes_ended : (budget : ℕ) (r : Replica Pairs) (receives : Receives) (ended : Result (Unit {0}) ServeStop) → Ends me start budget here now r receives ended → WritesFront c host (events me start receives ++ reverse kept) old now.written
    writes_ended budget r receives (Ok done) ends = writes_done (events me start receives) ends.0
    writes_ended budget r receives (Err (stop.Budget n)) ends = writes_done (events me start receives) ends.0
    writes_ended budget r receives (Err stop.LinkFault) ends = writes_cut r.halted (events me start receives) ends.0
    writes_ended budget r receives (Err stop.SinkFault) ends = writes_cut r.halted (events me start receives) ends.0
    writes_ended budget r receives (Err stop.DiskFault) ends = writes_cut r.halted (events me start receives) ends.0
    writes_ended budget r receives (Err (stop.Full n)) ends = writes_cut r.halted (events me start receives) ends.0
    writes_ended budget r receives (Err stop.NoMemory) ends = writes_cut r.halted (events me start receives) ends.0

  -- what was received, and what was written of the events
  record WritesKept (l l' : LinkState) (old new : Option Bytes) : Type 0 where
    receives : Receives
    received : l'.received ≡ with_more l.received (reverse receives)
    of_bytes : AllByRecursion EventFits (events me start receives)
    writes : WritesFront c host (events me start receives ++ reverse kept) old new

  writes_kept : (journal : JournalState) (budget status : ℕ) (sink sink' : Device) (l l' : LinkState) (between after : DiskState) → ServesMore c host kept journal budget status sink sink' l l' between after → WritesKept l l' sink.bytes sink'.bytes
  unfolding events
  writes_kept journal budget status sink sink' l l' between after (served journal' ended is on) = record {
    receives = on.receives;
    received = on.heard.received;
    of_bytes = events_of_bytes me start on.receives on.heard.of_bytes;
    writes = writes_ended sink.bytes on.begun on.head l.sent (outside sink' l') budget on.replica on.receives ended on.ends;
  }
  writes_kept journal budget status sink sink' l l' between after (unbegun (headless fails heard kept_sent part) same) = record {
    receives = [];
    received = heard.received;
    of_bytes = tt;
    writes = writes_before sink.bytes sink'.bytes part.count part.appended;
  }
  writes_kept journal budget status sink sink' l l' between after (unbegun (unopened fails kept_sink opens received kept_sent) same) = record {
    receives = [];
    received = received ∙ sym (with_more-nil l.received);
    of_bytes = tt;
    writes = writes_before sink.bytes sink'.bytes 0 (subst (λ (d : Device). Appends sink.bytes d.bytes []) kept_sink (appends_none sink.bytes));
  }

-- ---- what is left

all_reversed : {A : Type 0} (P : A → Type 0) (xs : List A) → AllByRecursion P xs → AllByRecursion P (reverse xs)
all_reversed P [] all = tt
all_reversed P (x ∷ xs) all = subst (AllByRecursion P) (sym (reverse-append (x ∷ []) xs)) (all-append P (reverse xs) (x ∷ []) (all_reversed P xs all.1) (all.0, tt))

nothing_written : (written : Bytes) (old new : Option Bytes) → old ≡ new → old ≡ Some [] → new ≡ Some written → written ≡ []
nothing_written written old new same empty all = cc

pub kept_nodes_leave_records : KeptNodesLeaveRecords
kept_nodes_leave_records text c host budget status sink sink' l l' before after written is there (opened kept journal between below found serves) empty all =
    let w = writes_kept c host kept journal budget status sink sink' l l' between after serves in
    let es : List Event = events (host_of c host) (start_of c host kept) w.receives in
    let of_bytes = all-append EventFits es (reverse kept) w.of_bytes (all_reversed EventFits kept found.of_bytes) in
    inl (record {
      kept = kept;
      says = found.says;
      receives = w.receives;
      received = w.received;
      leaves = parts_are_left c host (es ++ reverse kept) written sink.bytes sink'.bytes (settings_fit text c is) there of_bytes w.writes empty all;
    })
kept_nodes_leave_records text c host budget status sink sink' l l' before after written is there (bad at below says broken idle) empty all = inr (inl (at, broken))
kept_nodes_leave_records text c host budget status sink sink' l l' before after written is there (unread below fails opens same idle) empty all =
    inr (inr (nothing_written written sink.bytes sink'.bytes (ap (λ (d : Device). d.bytes) same) empty all))
kept_nodes_leave_records text c host budget status sink sink' l l' before after written is there (no_host beyond says same_link same_disk) empty all = absurd (omega (arith, beyond, there))
