-- What a file says that is spelled as a journal.
use Rattle.std.proofs.Common.{◌≡◌, ◌≢◌, inl, inr, ℕ, zero, suc, ◌+◌, ◌-◌, ◌≤◌, ◌==◌, nat_le, List, [], ◌∷◌, ◌++◌, length, get_or, drop, Option, Some, None, Result, Ok, Err, refl, sym, ◌∙◌, ap, arith, append_assoc, length-append}
use Rattle.std.proofs.lemmas.Bool.{cond-true, cond-false, eq-eqb, ne_eqb, lt-leb, cases_eq}
use Rattle.std.proofs.lemmas.List.{drop_at, append-nil}
use Rattle.std.specs.List.{AllByRecursion}
use Rattle.mb_base.specs.Shapes.{Bytes}
use Rattle.mb_msg.specs.declared.event.Event.{Event}
use Rattle.mb_journal.specs.Files.{record_text, record_size, entry, entries, EventFits, first_event, Contents, contents, with_first, behind, contents_from, difference, contents_behind, contents_of, Holds}
use Rattle.mb_journal.specs.Keeping.{IsShut, IsWhole, IsCut, HoldsWithOrWithout}
use Rattle.mb_journal.proofs.RecordLemmas.{length-entry, first_event-record}

-- ---- records

-- the same behind more events
pub with_all : List Event → Result Contents ℕ → Result Contents ℕ
with_all [] read = read
with_all (event ∷ events) read = with_first event (with_all events read)

pub with_all-Ok : (events : List Event) (gate : ℕ) → with_all events (Ok (contents [] gate)) ≡ Ok (contents events gate)
unfolding with_all
with_all-Ok [] gate = refl
with_all-Ok (event ∷ events) gate = ap (with_first event) (with_all-Ok events gate)

pub with_all-Err : (events : List Event) (at : ℕ) → with_all events (Err at) ≡ Err at
unfolding with_all
with_all-Err [] at = refl
with_all-Err (event ∷ events) at = ap (with_first event) (with_all-Err events at)

-- the records of two lists
pub entries-append : (events more : List Event) → entries (events ++ more) ≡ entries events ++ entries more
entries-append [] more = refl
entries-append (event ∷ events) more = ap (λ (l : Bytes). entry event ++ l) (entries-append events more) ∙ sym (append_assoc (entry event) (entries events) (entries more))

pub entries-push : (events : List Event) (event : Event) → entries (events ++ event ∷ []) ≡ entries events ++ entry event
entries-push events event = entries-append events (event ∷ []) ∙ ap (λ (l : Bytes). entries events ++ l) (append-nil (entry event))

-- one more event at the end fits
pub fit_push : (events : List Event) (event : Event) → AllByRecursion EventFits events → EventFits event → AllByRecursion EventFits (events ++ event ∷ [])
fit_push [] event all fits = (fits, tt)
fit_push (first ∷ events) event all fits = (all.0, fit_push events event all.1 fits)

one_entry : (most gate : ℕ) (event : Event) (rest : Bytes) → EventFits event → 1 ≤ length rest → contents_from (suc most) gate (entry event ++ rest) ≡ with_first event (contents_from most (gate + record_size event) rest)
unfolding contents_from
one_entry most gate event rest fits some =
    (λ i. behind gate (first_event-record event rest fits some i) (λ e. contents_from most (gate + record_size e) (drop (record_size e) (entry event ++ rest))))
    ∙ ap (λ (l : Bytes). with_first event (contents_from most (gate + record_size event) l)) (drop_at (entry event) rest (record_size event) (length-entry event))

-- whole records are read one after the other
pub entries_read : (events : List Event) (fuel most gate : ℕ) (rest : Bytes) → fuel ≡ length events + most → AllByRecursion EventFits events → 1 ≤ length rest
    → contents_from fuel gate (entries events ++ rest) ≡ with_all events (contents_from most (gate + length (entries events)) rest)
unfolding with_all
entries_read [] fuel most gate rest enough fit some =
    let m : fuel ≡ most = omega arith in
    let g : gate ≡ gate + 0 = omega arith in
    (λ i. contents_from (m i) (g i) rest)
entries_read (event ∷ events) zero most gate rest enough fit some = absurd (omega arith)
entries_read (event ∷ events) (suc fuel) most gate rest enough fit some =
    let long : 1 ≤ length (entries events ++ rest) = omega (arith, length-append (entries events) rest) in
    let place : gate + record_size event + length (entries events) ≡ gate + length (entry event ++ entries events) = omega (arith, length-append (entry event) (entries events), length-entry event) in
    ap (contents_from (suc fuel) gate) (append_assoc (entry event) (entries events) rest)
    ∙ one_entry fuel gate event (entries events ++ rest) fit.0 long
    ∙ ap (with_first event) (entries_read events fuel most (gate + record_size event) rest (omega arith) fit.1 some)
    ∙ ap (λ (n : ℕ). with_first event (with_all events (contents_from most n rest))) place

-- each has a byte at least
entries_long : (events : List Event) → length events ≤ length (entries events)
entries_long [] = omega arith
entries_long (event ∷ events) = omega (arith, entries_long events, length-append (entry event) (entries events), length-entry event)

-- ---- the header

no_difference : (at : ℕ) (header rest : Bytes) → difference at header (header ++ rest) ≡ None
no_difference at [] rest = refl
no_difference at (x ∷ header) rest = cond-true (x == x) (difference (at + 1) header (header ++ rest)) (Some at) (eq-eqb x x refl) ∙ no_difference (at + 1) header rest

-- a file with the header, whole records, and what stands behind them
pub record ReadsAs (header file : Bytes) (events : List Event) (rest : Bytes) : Type 0 where
  pub more : ℕ
  pub says : contents_of header file ≡ with_all events (contents_from (suc more) (length (header ++ entries events)) rest)

pub file_read : (header file : Bytes) (events : List Event) (rest : Bytes) → file ≡ (header ++ entries events) ++ rest → AllByRecursion EventFits events → 1 ≤ length rest → ReadsAs header file events rest
unfolding contents_of
file_read header file events rest is fit some =
    let text = entries events ++ rest in
    let file_is : file ≡ header ++ text = is ∙ append_assoc header (entries events) rest in
    let len : length file ≡ length header + (length (entries events) + length rest) = ap length file_is ∙ omega (arith, length-append header text, length-append (entries events) rest) in
    let more = length file - length events - 1 in
    let low = entries_long events in
    let place : length header + length (entries events) ≡ length (header ++ entries events) = omega (arith, length-append header (entries events)) in
    record {
      more = more;
      says = ap (contents_behind header file) (ap (difference 0 header) file_is ∙ no_difference 0 header text)
          ∙ cond-false (nat_le (length file) (length header)) (Err (length file)) (contents_from (length file) (length header) (drop (length header) file)) (lt-leb (length file) (length header) (omega (arith, len)))
          ∙ ap (λ (l : Bytes). contents_from (length file) (length header) (drop (length header) l)) file_is
          ∙ ap (contents_from (length file) (length header)) (drop_at header text (length header) refl)
          ∙ entries_read events (length file) (suc more) (length header) rest (omega (arith, len, low)) fit some
          ∙ ap (λ (n : ℕ). with_all events (contents_from (suc more) n rest)) place;
    }

-- a gate other than 1 ends them
pub ended : (most gate : ℕ) (bytes : Bytes) → get_or bytes 0 0 ≢ 1 → contents_from (suc most) gate bytes ≡ Ok (contents [] gate)
unfolding contents_from
ended most gate bytes other = cond-false (get_or bytes 0 0 == 1) _ _ (ne_eqb (get_or bytes 0 0) 1 other)

pub ends_read : (header file : Bytes) (events : List Event) (rest : Bytes) → file ≡ (header ++ entries events) ++ rest → AllByRecursion EventFits events → 1 ≤ length rest → get_or rest 0 0 ≢ 1
    → contents_of header file ≡ Ok (contents events (length (header ++ entries events)))
ends_read header file events rest is fit some other =
    let read = file_read header file events rest is fit some in
    read.says ∙ ap (with_all events) (ended read.more (length (header ++ entries events)) rest other) ∙ with_all-Ok events (length (header ++ entries events))

-- a gate of 1 without a whole record behind it is at fault
pub broken : (most gate : ℕ) (bytes : Bytes) → get_or bytes 0 0 ≡ 1 → first_event (drop 1 bytes) ≡ None → contents_from (suc most) gate bytes ≡ Err gate
unfolding contents_from
broken most gate bytes one none =
    cond-true (get_or bytes 0 0 == 1) _ _ (eq-eqb (get_or bytes 0 0) 1 one)
    ∙ ap (λ (o : Option Event). behind gate o (λ event. contents_from most (gate + record_size event) (drop (record_size event) bytes))) none

pub fault_read : (header file : Bytes) (events : List Event) (rest : Bytes) → file ≡ (header ++ entries events) ++ rest → AllByRecursion EventFits events → 1 ≤ length rest → get_or rest 0 0 ≡ 1 → first_event (drop 1 rest) ≡ None
    → contents_of header file ≡ Err (length (header ++ entries events))
fault_read header file events rest is fit some one none =
    let read = file_read header file events rest is fit some in
    read.says ∙ ap (with_all events) (broken read.more (length (header ++ entries events)) rest one none) ∙ with_all-Err events (length (header ++ entries events))

-- ---- one event more

-- a record behind an open gate is one event more
pub one_more : (header : Bytes) (events : List Event) (event : Event) (tail : Bytes)
    → (header ++ entries events) ++ 1 ∷ (record_text event ++ 0 ∷ tail) ≡ (header ++ entries (events ++ event ∷ [])) ++ 0 ∷ tail
one_more header events event tail =
    sym (append_assoc (header ++ entries events) (entry event) (0 ∷ tail))
    ∙ ap (λ (l : Bytes). l ++ 0 ∷ tail) (append_assoc header (entries events) (entry event) ∙ ap (λ (l : Bytes). header ++ l) (sym (entries-push events event)))

pub shut_holds : (header : Bytes) (events : List Event) (file : Bytes) → AllByRecursion EventFits events → IsShut header events file → Holds header events file
shut_holds header events file fit shut = record {
  gate = length (header ++ entries events);
  says = ends_read header file events (0 ∷ shut.tail) shut.file_is fit (omega arith) (omega arith);
}

pub whole_opened : (header : Bytes) (events : List Event) (event : Event) (file : Bytes) (whole : IsWhole header events event file) → whole.gate ≡ 1 → IsShut header (events ++ event ∷ []) file
whole_opened header events event file whole one = record {
  tail = whole.tail;
  file_is = whole.file_is ∙ ap (λ (gate : ℕ). (header ++ entries events) ++ gate ∷ (record_text event ++ 0 ∷ whole.tail)) one ∙ one_more header events event whole.tail;
}

pub whole_closed : (header : Bytes) (events : List Event) (event : Event) (file : Bytes) → AllByRecursion EventFits events → (whole : IsWhole header events event file) → whole.gate ≢ 1
    → contents_of header file ≡ Ok (contents events (length (header ++ entries events)))
whole_closed header events event file fit whole other =
    ends_read header file events (whole.gate ∷ (record_text event ++ 0 ∷ whole.tail)) whole.file_is fit (omega arith) other

-- whatever a crash left while an event was appended, the file says the events, or these and the one
pub cut_holds : (header : Bytes) (events : List Event) (event : Event) (file : Bytes) → AllByRecursion EventFits events → EventFits event → IsCut header events event file → HoldsWithOrWithout header events event file
cut_holds header events event file fit fits (inl shut) = inl (shut_holds header events file fit shut)
cut_holds header events event file fit fits (inr whole) = elim (cases_eq whole.gate 1) [
  | inl one ↦ inr (shut_holds header (events ++ event ∷ []) file (fit_push events event fit fits) (whole_opened header events event file whole one))
  | inr other ↦ inl (record { gate = length (header ++ entries events); says = whole_closed header events event file fit whole other })
]
