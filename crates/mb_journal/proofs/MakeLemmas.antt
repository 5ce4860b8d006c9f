-- What a crash leaves while a journal is made: no journal, or one without events.
use Rattle.std.proofs.Common.{◌≡◌, inl, inr, ℕ, ◌+◌, ◌<◌, ◌≤◌, [], ◌∷◌, ◌++◌, length, get_or, take, drop, Option, Some, None, refl, ◌∙◌, ap, subst, arith, length-append, length-drop}
use Rattle.std.proofs.lemmas.Bool.{cases_eq, cases_lt, cond-true, lt-ltb}
use Rattle.std.proofs.lemmas.List.{append-nil, drop_all}
use Rattle.mb_base.specs.Shapes.{Bytes}
use Rattle.mb_edge.specs.Disks.{Moments, settled, WhereTold, LeavesOnly}
use Rattle.mb_journal.specs.Files.{event_of, told_length, first_event, difference}
use Rattle.mb_journal.specs.Keeping.{Lands}
use Rattle.mb_journal.specs.Making.{SaysNothing}
use Rattle.mb_journal.proofs.Crashes.{settled_reads, reads_are, leaves_weaker}
use Rattle.mb_journal.proofs.OpenLemmas.{same_front, stands_first, journal_parted, journal_broken, header_differs, file_ends}

-- ---- short files

no_record : (bytes : Bytes) → length bytes ≡ 0 → first_event bytes ≡ None
no_record bytes none = cond-true _ None (event_of (get_or bytes 4 0) (take (told_length bytes) (drop 5 bytes))) (lt-ltb (length bytes) (told_length bytes + 6) (omega (arith, none)))

-- a file that ends with the gate behind its header
ends_with_gate : (header file : Bytes) → difference 0 header file ≡ None → length header < length file → length file ≤ length header + 1 → SaysNothing header file
ends_with_gate header file none long short =
    let front = same_front 0 header file none (omega arith) in
    let stands = stands_first (length header) file long in
    elim (cases_eq (get_or file (length header) 0) 1) [
      | inl one ↦ inr (length header, journal_broken header file [] (length header) front stands one (no_record (drop (length header + 1) file) (omega (arith, length-drop (length header + 1) file))))
      | inr other ↦ inl (record { gate = length header; says = (journal_parted header file [] (length header) front stands other).says })
    ]

short_by : (header file : Bytes) (first : Option ℕ) → difference 0 header file ≡ first → length file ≤ length header + 1 → SaysNothing header file
short_by header file (Some at) is short = inr (at, header_differs header file at is)
short_by header file None is short = elim (cases_lt (length header) (length file)) [
  | inl long ↦ ends_with_gate header file is long short
  | inr ends ↦ inr (length file, file_ends header file is ends)
]

pub short_says_nothing : (header file : Bytes) → length file ≤ length header + 1 → SaysNothing header file
short_says_nothing header file short = short_by header file (difference 0 header file) refl short

-- ---- making

module _ (header start : Bytes) (start_is : start ≡ header ++ 0 ∷ []) where
  length-start : length start ≡ length header + 1
  length-start = ap length start_is ∙ length-append header (0 ∷ [])

  lands_short : (image : Bytes) → Lands 0 start [] image → length image ≤ length header + 1
  lands_short image (inl torn) = omega (arith, torn.no_longer, length-start)
  lands_short image (inr written) =
      let whole : image ≡ start = written ∙ ap (λ (l : Bytes). start ++ l) (drop_all (0 + length start) [] (omega arith)) ∙ append-nil start in
      omega (arith, ap length whole, length-start)

  pub leaves_nothing : (old : Moments) (mid new : Option Moments) → mid ≡ Some old → old.now ≡ settled []
      → WhereTold mid (λ m. m.now ≡ settled m.now.reads → LeavesOnly (Lands 0 start m.now.reads) m new) → LeavesOnly (SaysNothing header) old new
  leaves_nothing old mid new is empty leaves =
      leaves_weaker (Lands 0 start old.now.reads) (SaysNothing header) old new
      (λ image lands. short_says_nothing header image (lands_short image (subst (λ (l : Bytes). Lands 0 start l image) (reads_are old.now [] empty) lands)))
      (leaves old is (settled_reads old.now [] empty))
