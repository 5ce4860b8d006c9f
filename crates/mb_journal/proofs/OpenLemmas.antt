-- How the file of a journal is read from left to right, and what a crash leaves while its last gate is shut.
use Rattle.std.proofs.Common.{◌≡◌, ◌≢◌, ◌⊎◌, inl, inr, ℕ, suc, ◌+◌, ◌<◌, ◌≤◌, ◌==◌, nat_le, cond, List, [], ◌∷◌, ◌++◌, length, get_or, take, drop, Option, Some, None, Result, Ok, Err, refl, sym, ◌∙◌, ap, subst, arith, append_assoc, length-append, length-drop, take-append-drop}
use Rattle.std.proofs.lemmas.Bool.{cases_eq, cond-true, cond-false, eq-eqb, ne_eqb, le-leb}
use Rattle.std.proofs.lemmas.List.{append-nil, drop_more, drop_all, drop-drop, get_or-drop, get_or_at, length-take-le}
use Rattle.std.proofs.Math.Seq.{take-add}
use Rattle.std.specs.List.{AllByRecursion}
use Rattle.mb_base.specs.Shapes.{Bytes}
use Rattle.mb_base.specs.Spelling.{IsBytes}
use Rattle.mb_base.proofs.Laws.{IsBytes-drop}
use Rattle.mb_edge.specs.Disks.{Content, Moments, settled, overwritten, next, IsImage, HoldsInImages, LeavesOnly}
use Rattle.mb_msg.specs.declared.event.Event.{Event}
use Rattle.mb_journal.specs.Files.{bytes_of, record_text, entry, entries, EventFits, first_event, Contents, contents, difference, contents_behind, contents_of, Holds}
use Rattle.mb_journal.specs.Keeping.{RestsAt, IsShut, IsCut, Lands}
use Rattle.mb_journal.specs.declared.opening.Found.{Found}
use Rattle.mb_journal.specs.declared.opening.OpenStop.{OpenStop}
use Rattle.mb_journal.specs.declared.opening.OpenStop.TheVariants.{BadJournal, DiskFault, NoMemory}
use Rattle.mb_journal.specs.Opening.{StandsBefore, IsParted, ReadsRecords, ReadsJournal, KeepsEvents, StaysWhole, MayShut, shut_at}
use Rattle.mb_journal.proofs.RecordLemmas.{length-record_text, record_read}
use Rattle.mb_journal.proofs.Reading.{entries-push, fit_push, ends_read, fault_read, shut_holds, whole_opened, whole_closed}
use Rattle.mb_journal.proofs.Lists.{settled_image, overwritten_at}
use Rattle.mb_journal.proofs.Crashes.{gate_lands, leaves_weaker, leaves_both}

-- ---- the header

pub difference-step : (at : ℕ) (header file : Bytes) → at < length header → at < length file
    → difference at (drop at header) (drop at file) ≡ cond (get_or header at 0 == get_or file at 0) (difference (at + 1) (drop (at + 1) header) (drop (at + 1) file)) (Some at)
difference-step at header file in_header in_file = λ i. difference at (drop_more header at 0 in_header i) (drop_more file at 0 in_file i)

pub difference-header : (at : ℕ) (header file : Bytes) → length header ≤ at → difference at (drop at header) (drop at file) ≡ None
difference-header at header file past = ap (λ (l : Bytes). difference at l (drop at file)) (drop_all at header past)

no_bytes : (at : ℕ) (header : Bytes) → difference at header [] ≡ None
no_bytes at [] = refl
no_bytes at (x ∷ header) = refl

pub difference-file : (at : ℕ) (header file : Bytes) → length file ≤ at → difference at (drop at header) (drop at file) ≡ None
difference-file at header file past = ap (λ (l : Bytes). difference at (drop at header) l) (drop_all at file past) ∙ no_bytes at (drop at header)

-- the bytes at a place are the same
pub difference_more : (at : ℕ) (header file : Bytes) (first : Option ℕ) → difference at (drop at header) (drop at file) ≡ first → at < length header → at < length file → get_or header at 0 ≡ get_or file at 0
    → difference (at + 1) (drop (at + 1) header) (drop (at + 1) file) ≡ first
difference_more at header file first is in_header in_file same =
    sym (difference-step at header file in_header in_file ∙ cond-true (get_or header at 0 == get_or file at 0) (difference (at + 1) (drop (at + 1) header) (drop (at + 1) file)) (Some at) (eq-eqb (get_or header at 0) (get_or file at 0) same)) ∙ is

-- or they are not
pub difference_here : (at : ℕ) (header file : Bytes) (first : Option ℕ) → difference at (drop at header) (drop at file) ≡ first → at < length header → at < length file → get_or header at 0 ≢ get_or file at 0 → Some at ≡ first
difference_here at header file first is in_header in_file other =
    sym (difference-step at header file in_header in_file ∙ cond-false (get_or header at 0 == get_or file at 0) (difference (at + 1) (drop (at + 1) header) (drop (at + 1) file)) (Some at) (ne_eqb (get_or header at 0) (get_or file at 0) other)) ∙ is

-- or one of the two has ended
pub difference_end : (at : ℕ) (header file : Bytes) (first : Option ℕ) → difference at (drop at header) (drop at file) ≡ first → (length header ≤ at) ⊎ (length file ≤ at) → None ≡ first
difference_end at header file first is (inl past) = sym (difference-header at header file past) ∙ is
difference_end at header file first is (inr past) = sym (difference-file at header file past) ∙ is

pub same_front : (at : ℕ) (header file : Bytes) → difference at header file ≡ None → length header ≤ length file → take (length header) file ≡ header
same_front at [] file none long = refl
same_front at (x ∷ header) [] none long = absurd (omega arith)
same_front at (x ∷ header) (y ∷ file) none long = elim (cases_eq x y) [
  | inl same ↦
      let rest : difference (at + 1) header file ≡ None = sym (cond-true (x == y) (difference (at + 1) header file) (Some at) (eq-eqb x y same)) ∙ none in
      (λ i. sym_of same i ∷ same_front (at + 1) header file rest (omega arith) i)
  | inr other ↦ let some : Some at ≡ None = sym (cond-false (x == y) (difference (at + 1) header file) (Some at) (ne_eqb x y other)) ∙ none in absurd cc
]
  where
    sym_of : {a b : ℕ} → a ≡ b → b ≡ a
    sym_of e = sym e

-- ---- records

-- before the first record
pub stands_first : (start : ℕ) (file : Bytes) → start < length file → StandsBefore start file [] start
stands_first start file within = record { front = sym (append-nil (take start file)); within = within; fit = tt }

-- one record more
pub stands_next : (start gate : ℕ) (file : Bytes) (events : List Event) (event : Event) → IsBytes file → StandsBefore start file events gate → get_or file gate 0 ≡ 1 → first_event (drop (gate + 1) file) ≡ Some event
    → StandsBefore start file (events ++ event ∷ []) (gate + (length (bytes_of event) + 6))
stands_next start gate file events event bytes stands one is =
    let read = record_read (drop (gate + 1) file) event (IsBytes-drop (gate + 1) file bytes) is in
    let n = length (record_text event) in
    let size : length (bytes_of event) + 6 ≡ suc n = omega (arith, length-record_text event) in
    let here : drop gate file ≡ 1 ∷ drop (gate + 1) file = drop_more file gate 0 stands.within ∙ ap (λ (k : ℕ). k ∷ drop (gate + 1) file) one in
    let record_is : take (length (bytes_of event) + 6) (drop gate file) ≡ entry event = (λ i. take (size i) (here i)) ∙ ap (λ (l : Bytes). 1 ∷ l) read.front in
    record {
      front = take-add gate (length (bytes_of event) + 6) file ∙ (λ i. stands.front i ++ record_is i)
          ∙ append_assoc (take start file) (entries events) (entry event) ∙ ap (λ (l : Bytes). take start file ++ l) (sym (entries-push events event));
      within = omega (arith, read.long, length-drop (gate + 1) file, stands.within);
      fit = fit_push events event stands.fit read.fits;
    }

module _ (header file : Bytes) (events : List Event) (gate : ℕ) (front_is : take (length header) file ≡ header) (stands : StandsBefore (length header) file events gate) where
  front : take gate file ≡ header ++ entries events
  front = stands.front ∙ ap (λ (l : Bytes). l ++ entries events) front_is

  parted : file ≡ (header ++ entries events) ++ drop gate file
  parted = sym (take-append-drop gate file) ∙ ap (λ (l : Bytes). l ++ drop gate file) front

  gate_is : gate ≡ length (header ++ entries events)
  gate_is = sym (length-take-le gate file (omega (arith, stands.within))) ∙ ap length front

  some : 1 ≤ length (drop gate file)
  some = omega (arith, length-drop gate file, stands.within)

  first : get_or (drop gate file) 0 0 ≡ get_or file gate 0
  first = let same : gate + 0 ≡ gate = omega arith in get_or-drop gate file 0 0 ∙ ap (λ (k : ℕ). get_or file k 0) same

  pub journal_parted : get_or file gate 0 ≢ 1 → IsParted header file events gate
  journal_parted other = record {
    says = ends_read header file events (drop gate file) parted stands.fit some (λ one. other (sym first ∙ one)) ∙ ap (λ (k : ℕ). Ok (contents events k)) (sym gate_is);
    parts = parted;
    gate_is = gate_is;
    within = stands.within;
    other = other;
    fit = stands.fit;
  }

  pub journal_broken : get_or file gate 0 ≡ 1 → first_event (drop (gate + 1) file) ≡ None → contents_of header file ≡ Err gate
  journal_broken one none =
      fault_read header file events (drop gate file) parted stands.fit some (first ∙ one) (ap first_event (drop-drop 1 gate file) ∙ none) ∙ ap (λ (k : ℕ). Err k) (sym gate_is)

-- a file with another header, or without its first gate
pub header_differs : (header file : Bytes) (at : ℕ) → difference 0 header file ≡ Some at → contents_of header file ≡ Err at
unfolding contents_of
header_differs header file at is = ap (contents_behind header file) is

pub file_ends : (header file : Bytes) → difference 0 header file ≡ None → length file ≤ length header → contents_of header file ≡ Err (length file)
unfolding contents_of
file_ends header file none short = ap (contents_behind header file) none ∙ cond-true (nat_le (length file) (length header)) _ _ (le-leb (length file) (length header) short)

-- what is read of the records is what is read of the file
pub journal_read : (header file : Bytes) (result : Result Found OpenStop) → difference 0 header file ≡ None → length header < length file → ReadsRecords (length header) file result → ReadsJournal header file result
journal_read header file (Ok found) none long read = journal_parted header file found.events.items found.gate (same_front 0 header file none (omega arith)) read.0 read.1
journal_read header file (Err (BadJournal at)) none long broken = journal_broken header file broken.events at (same_front 0 header file none (omega arith)) broken.before broken.one broken.none
journal_read header file (Err DiskFault) none long read = read
journal_read header file (Err NoMemory) none long read = tt

-- ---- the last gate

pub contents_once : (read : Result Contents ℕ) (a b : Contents) → read ≡ Ok a → read ≡ Ok b → a ≡ b
contents_once read a b is_a is_b = cc

gate_once : (header file : Bytes) (events found : List Event) (gate place : ℕ) → contents_of header file ≡ Ok (contents events place) → contents_of header file ≡ Ok (contents found gate) → place ≡ gate
gate_once header file events found gate place says other = ap (λ (c : Contents). c.gate) (contents_once (contents_of header file) (contents events place) (contents found gate) says other)

-- the gate that ends a file's events is the shut one
shut_gate_is : (header file : Bytes) (events found : List Event) (gate : ℕ) → AllByRecursion EventFits events → IsShut header events file → contents_of header file ≡ Ok (contents found gate) → get_or file gate 0 ≡ 0
shut_gate_is header file events found gate fit shut says =
    let head = header ++ entries events in
    let at : length head ≡ gate = gate_once header file events found gate (length head) (ends_read header file events (0 ∷ shut.tail) shut.file_is fit (omega arith) (omega arith)) says in
    ap (λ (k : ℕ). get_or file k 0) (sym at) ∙ ap (λ (l : Bytes). get_or l (length head) 0) shut.file_is ∙ get_or_at head 0 shut.tail 0 (length head) refl

-- while a gate that is neither 0 nor 1 is shut, a record that stands whole behind it stays so
pub gate_keeps : (header file : Bytes) (found : List Event) (gate : ℕ) → contents_of header file ≡ Ok (contents found gate) → get_or file gate 0 ≢ 0
    → (image : Bytes) → Lands gate (0 ∷ []) file image → KeepsEvents header file image
gate_keeps header file found gate says not_shut image lands events event fit fits (inl shut) = absurd (not_shut (shut_gate_is header file events found gate fit shut says))
gate_keeps header file found gate says not_shut image lands events event fit fits (inr whole) = elim (cases_eq whole.gate 1) [
  | inl one ↦ absurd (not_shut (shut_gate_is header file (events ++ event ∷ []) found gate (fit_push events event fit fits) (whole_opened header events event file whole one) says))
  | inr other ↦
      let head = header ++ entries events in
      let at : length head ≡ gate = gate_once header file events found gate (length head) (whole_closed header events event file fit whole other) says in
      gate_lands header events event gate whole.gate 0 whole.tail (sym at) image (subst (λ (l : Bytes). Lands gate (0 ∷ []) l image) whole.file_is lands)
]

pub keeps_same : (header file image : Bytes) → image ≡ file → KeepsEvents header file image
keeps_same header file image same events event fit fits cut = subst (λ (l : Bytes). IsCut header events event l) (sym same) cut

-- ---- opening, call by call

module _ (header : Bytes) (old : Moments) where
  -- what a crash may leave while the file is opened
  abbrev pub Opens : Bytes → Type 0
  Opens image = IsImage old.now image ⊎ StaysWhole header old.now.reads image

  abbrev pub synced : Moments
  synced = next old (settled old.now.reads)

  stays_same : (image : Bytes) → image ≡ old.now.reads → StaysWhole header old.now.reads image
  stays_same image same = record { touched = inl same; keeps = keeps_same header old.now.reads image same }

  synced_image : HoldsInImages Opens (settled old.now.reads)
  synced_image image is = inr (stays_same image (settled_image old.now.reads image is))

  pub opens_synced : (mid : Option Moments) → mid ≡ Some synced → LeavesOnly Opens old mid
  opens_synced mid is = record { since = settled old.now.reads ∷ []; is = is; each = (synced_image, tt) }

  -- the gate that ends its events is shut
  pub opens_shut : (file : Bytes) (found : List Event) (gate byte : ℕ) (mid new : Option Moments) → file ≡ old.now.reads → mid ≡ Some synced → contents_of header file ≡ Ok (contents found gate) → byte ≡ get_or file gate 0
      → (synced.now ≡ settled synced.now.reads → LeavesOnly (MayShut gate byte synced.now.reads) synced new) → LeavesOnly Opens old new
  unfolding opens_synced
  opens_shut file found gate byte mid new file_is mid_is says byte_is shut =
      let first : LeavesOnly Opens old mid = opens_synced mid mid_is in
      let says_old : contents_of header old.now.reads ≡ Ok (contents found gate) = ap (contents_of header) (sym file_is) ∙ says in
      let byte_old : byte ≡ get_or old.now.reads gate 0 = byte_is ∙ ap (λ (l : Bytes). get_or l gate 0) file_is in
      leaves_both Opens old mid new first (leaves_weaker (MayShut gate byte old.now.reads) Opens synced new (λ image may. inr (kept_of image may says_old byte_old)) (shut refl))
    where
      kept_of : (image : Bytes) → MayShut gate byte old.now.reads image → contents_of header old.now.reads ≡ Ok (contents found gate) → byte ≡ get_or old.now.reads gate 0 → StaysWhole header old.now.reads image
      kept_of image (inl same) says is = stays_same image same
      kept_of image (inr lands) says is = record {
        touched = inr (contents found gate, says, lands.1);
        keeps = gate_keeps header old.now.reads found gate says (λ zero. lands.0 (is ∙ zero)) image lands.1;
      }

  -- then the journal is at rest
  pub rests_opened : (file : Bytes) (found : List Event) (gate byte : ℕ) (content : Content) → file ≡ old.now.reads → IsParted header file found gate → byte ≡ get_or file gate 0
      → content ≡ settled (shut_at gate byte synced.now.reads) → RestsAt header (gate + 1) found content
  rests_opened file found gate byte content file_is parted byte_is content_is =
      let head = header ++ entries found in
      let len = parted.gate_is in
      let tail = drop (gate + 1) file in
      let here : drop gate file ≡ byte ∷ tail = drop_more file gate 0 parted.within ∙ ap (λ (k : ℕ). k ∷ tail) (sym byte_is) in
      let whole : file ≡ head ++ byte ∷ tail = parted.parts ∙ ap (λ (l : Bytes). head ++ l) here in
      let shut : shut_at gate byte file ≡ head ++ 0 ∷ tail = elim (cases_eq byte 0) [
        | inl zero ↦ cond-true (byte == 0) file (overwritten gate (0 ∷ []) file) (eq-eqb byte 0 zero) ∙ whole ∙ ap (λ (k : ℕ). head ++ k ∷ tail) zero
        | inr other ↦
            cond-false (byte == 0) file (overwritten gate (0 ∷ []) file) (ne_eqb byte 0 other)
            ∙ ap (overwritten gate (0 ∷ [])) whole ∙ overwritten_at head (byte ∷ tail) (0 ∷ []) gate (sym len)
      ] in
      record {
        tail = tail;
        file = content_is ∙ ap (λ (l : Bytes). settled (shut_at gate byte l)) (sym file_is) ∙ ap settled shut;
        end_is = omega (arith, len);
        fit = parted.fit;
      }

-- ---- making

pub made_file : (header start : Bytes) (old content : Content) → start ≡ header ++ 0 ∷ [] → old.reads ≡ [] → content ≡ settled (overwritten 0 start old.reads) → length header ≡ 44 → RestsAt header 45 [] content
made_file header start old content start_is empty is len = record {
  tail = [];
  file = is ∙ ap (λ (l : Bytes). settled (overwritten 0 start l)) empty
      ∙ ap settled (ap (λ (l : Bytes). start ++ l) (drop_all (0 + length start) [] (omega arith)) ∙ append-nil start ∙ start_is ∙ ap (λ (l : Bytes). l ++ 0 ∷ []) (sym (append-nil header)));
  end_is = omega (arith, len, length-append header []);
  fit = tt;
}

pub no_bytes_read : (content : Content) (len : ℕ) → len ≡ length content.reads → len ≡ 0 → content.reads ≡ []
no_bytes_read content len is none = nothing content.reads (sym is ∙ none)
  where
    nothing : (l : Bytes) → length l ≡ 0 → l ≡ []
    nothing [] e = refl
    nothing (x ∷ l) e = absurd (omega arith)

-- a journal at rest says its events
pub rests_hold : (header : Bytes) (end : ℕ) (events : List Event) (content : Content) → RestsAt header end events content → Holds header events content.reads
rests_hold header end events content rests =
    shut_holds header events content.reads rests.fit (record { tail = rests.tail; file_is = ap (λ (c : Content). c.reads) rests.file })
