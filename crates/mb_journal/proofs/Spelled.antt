-- What is read of a file is spelled in it.
use Rattle.std.proofs.Common.{◌≡◌, ◌≢◌, inl, inr, ℕ, zero, suc, ◌+◌, ◌≤◌, nat_le, List, [], ◌∷◌, ◌++◌, length, drop, Option, Some, None, Result, Ok, Err, refl, sym, ◌∙◌, ap, subst, arith, append_assoc, length-append, length-drop, take-append-drop}
use Rattle.std.proofs.lemmas.Bool.{cases_eq, cases_lt, cond-true, cond-false, le-leb, lt-leb}
use Rattle.std.specs.List.{AllByRecursion}
use Rattle.mb_base.specs.Shapes.{Bytes}
use Rattle.mb_base.specs.Spelling.{IsBytes}
use Rattle.mb_base.proofs.Laws.{IsBytes-drop}
use Rattle.mb_msg.specs.declared.event.Event.{Event}
use Rattle.mb_journal.specs.Files.{record_text, record_size, entry, entries, EventFits, first_event, Contents, contents, with_first, behind, contents_from, difference, contents_behind, contents_of, Holds, Spells}
use Rattle.mb_journal.proofs.RecordLemmas.{length-record_text, record_read}
use Rattle.mb_journal.proofs.Reading.{ended, ends_read}
use Rattle.mb_journal.proofs.OpenLemmas.{same_front, contents_once}

-- ---- records

-- These bytes are the records of events, and then another gate than 1.
record AreSpelled (events : List Event) (bytes : Bytes) : Type 0 where
  gate : ℕ
  tail : Bytes
  is : bytes ≡ entries events ++ gate ∷ tail
  other : gate ≢ 1
  fit : AllByRecursion EventFits events

-- what was read behind the first event
record HasRest (event : Event) (read : Result Contents ℕ) (events : List Event) (gate : ℕ) : Type 0 where
  rest : List Event
  read_is : read ≡ Ok (contents rest gate)
  events_are : event ∷ rest ≡ events

rest_of : (event : Event) (read : Result Contents ℕ) (events : List Event) (gate : ℕ) → with_first event read ≡ Ok (contents events gate) → HasRest event read events gate
rest_of event (Ok found) events gate is =
    let same = contents_once (with_first event (Ok found)) (contents (event ∷ found.events) found.gate) (contents events gate) refl is in
    record { rest = found.events; read_is = ap (λ (c : Contents). Ok (contents found.events c.gate)) same; events_are = ap (λ (c : Contents). c.events) same }
rest_of event (Err at) events gate is = absurd cc

-- what is read of any bytes is spelled there
abbrev IsReadAt : ℕ → Type 0
IsReadAt most = (at : ℕ) (bytes : Bytes) (events : List Event) (gate : ℕ) → IsBytes bytes → 1 ≤ length bytes → contents_from most at bytes ≡ Ok (contents events gate) → AreSpelled events bytes

-- one record behind a gate of 1
one_spelled : (most at : ℕ) (bytes : Bytes) (events : List Event) (gate : ℕ) (first : Option Event) → IsReadAt most → IsBytes bytes → first_event bytes ≡ first
    → behind at first (λ event. contents_from most (at + record_size event) (drop (record_size event) (1 ∷ bytes))) ≡ Ok (contents events gate) → AreSpelled events (1 ∷ bytes)
one_spelled most at bytes events gate None again fits first is = absurd cc
one_spelled most at bytes events gate (Some event) again fits first is =
    let read = record_read bytes event fits first in
    let n = length (record_text event) in
    let size : record_size event ≡ suc n = omega (arith, length-record_text event) in
    let behind_it = drop (record_size event) (1 ∷ bytes) in
    let more = rest_of event (contents_from most (at + record_size event) behind_it) events gate is in
    let here : behind_it ≡ drop n bytes = ap (λ (k : ℕ). drop k (1 ∷ bytes)) size in
    let some : 1 ≤ length (drop n bytes) = omega (arith, length-drop n bytes, length-record_text event, read.long) in
    let rest = again (at + record_size event) (drop n bytes) more.rest gate (IsBytes-drop n bytes fits) some (ap (contents_from most (at + record_size event)) (sym here) ∙ more.read_is) in
    record {
      gate = rest.gate;
      tail = rest.tail;
      is = ap (λ (l : Bytes). 1 ∷ l) (sym (take-append-drop n bytes) ∙ (λ i. read.front i ++ rest.is i))
          ∙ sym (append_assoc (entry event) (entries more.rest) (rest.gate ∷ rest.tail))
          ∙ ap (λ (l : List Event). entries l ++ rest.gate ∷ rest.tail) more.events_are;
      other = rest.other;
      fit = subst (AllByRecursion EventFits) more.events_are (read.fits, rest.fit);
    }

all_spelled : (most : ℕ) → IsReadAt most
unfolding contents_from
all_spelled zero at bytes events gate fits some is = absurd cc
all_spelled (suc most) at [] events gate fits some is = absurd (omega arith)
all_spelled (suc most) at (x ∷ bytes) events gate fits some is = elim (cases_eq x 1) [
  | inl one ↦
      let opened : contents_from (suc most) at (1 ∷ bytes) ≡ Ok (contents events gate) = ap (λ (y : ℕ). contents_from (suc most) at (y ∷ bytes)) (sym one) ∙ is in
      subst (λ (y : ℕ). AreSpelled events (y ∷ bytes)) (sym one) (one_spelled most at bytes events gate (first_event bytes) (all_spelled most) (IsBytes-drop 1 (x ∷ bytes) fits) refl opened)
  | inr other ↦
      let same = contents_once (contents_from (suc most) at (x ∷ bytes)) (contents [] at) (contents events gate) (ended most at (x ∷ bytes) other) is in
      let none : [] ≡ events = ap (λ (c : Contents). c.events) same in
      record { gate = x; tail = bytes; is = ap (λ (l : List Event). entries l ++ x ∷ bytes) none; other = other; fit = subst (AllByRecursion EventFits) none tt }
]

-- ---- the file

behind_header : (header file : Bytes) (events : List Event) (gate : ℕ) (first : Option ℕ) → IsBytes file → difference 0 header file ≡ first → contents_behind header file first ≡ Ok (contents events gate) → Spells header events file
behind_header header file events gate (Some at) fits first is = absurd cc
behind_header header file events gate None fits first is = elim (cases_lt (length header) (length file)) [
  | inl long ↦
      let n = length header in
      let read : contents_from (length file) n (drop n file) ≡ Ok (contents events gate) =
      sym (cond-false (nat_le (length file) n) (Err (length file)) (contents_from (length file) n (drop n file)) (lt-leb (length file) n long)) ∙ is in
      let spelled = all_spelled (length file) n (drop n file) events gate (IsBytes-drop n file fits) (omega (arith, length-drop n file, long)) read in
      record {
        gate = spelled.gate;
        tail = spelled.tail;
        file_is = sym (take-append-drop n file) ∙ (λ i. same_front 0 header file first (omega (arith, long)) i ++ spelled.is i) ∙ sym (append_assoc header (entries events) (spelled.gate ∷ spelled.tail));
        other = spelled.other;
        fit = spelled.fit;
      }
  | inr short ↦
      let none : Err (length file) ≡ Ok (contents events gate) =
      sym (cond-true (nat_le (length file) (length header)) (Err (length file)) (contents_from (length file) (length header) (drop (length header) file)) (le-leb (length file) (length header) short)) ∙ is in
      absurd cc
]

pub holds_spelled : (header : Bytes) (events : List Event) (file : Bytes) → IsBytes file → Holds header events file → Spells header events file
unfolding contents_of
holds_spelled header events file fits holds = behind_header header file events holds.gate (difference 0 header file) fits refl holds.says

pub spelled_holds : (header : Bytes) (events : List Event) (file : Bytes) → Spells header events file → Holds header events file
spelled_holds header events file spells = record {
  gate = length (header ++ entries events);
  says = ends_read header file events (spells.gate ∷ spells.tail) spells.file_is spells.fit (omega arith) spells.other;
}
