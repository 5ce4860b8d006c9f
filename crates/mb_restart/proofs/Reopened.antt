-- What is read of a journal again behind runs that ended at any moment.
use Rattle.std.proofs.Common.{◌≡◌, inl, inr, ℕ, List, [], ◌∷◌, ◌++◌, length, drop, Option, Some, None, Result, Ok, refl, sym, ap, subst, ◌∙◌, arith, append_assoc}
use Rattle.std.specs.Int.{w32, to_be_bytes}
use Rattle.std.specs.List.{AllByRecursion}
use Rattle.std.proofs.lemmas.List.{drop_at}
use Rattle.mb_base.specs.Shapes.{Bytes}
use Rattle.mb_msg.specs.declared.event.Event.{Event}
use Rattle.mb_msg.specs.declared.event.Event.TheVariants as event
use Rattle.mb_edge.specs.Disks.{Content, IsImage}
use Rattle.mb_journal.specs.Files.{Contents, contents, contents_of, record_text, entries, EventFits, Holds}
use Rattle.mb_journal.specs.Keeping.{IsShut, IsWhole, IsCut}
use Rattle.mb_journal.specs.Opening.{KeepsEvents}
use Rattle.mb_journal.proofs.Lists.{settled_image}
use Rattle.mb_journal.proofs.Reading.{cut_holds, shut_holds}
use Rattle.mb_restart.specs.Runs.{known_to, IsLeft, IsOpenedBy}
use Rattle.mb_restart.specs.Restarts.{HasAllAndOne, RestingFilesAreLeft, LeftFilesOpen, JournalsKeep}

-- ---- a file says one list of events

contents_same : (read : Result Contents ℕ) (c d : Contents) → read ≡ Ok c → read ≡ Ok d → c ≡ d
contents_same read c d is_c is_d = cc

says_once : (header file : Bytes) (a b : List Event) → Holds header a file → Holds header b file → a ≡ b
says_once header file a b x y = ap (λ (c : Contents). c.events) (contents_same (contents_of header file) (contents a x.gate) (contents b y.gate) x.says y.says)

-- ---- what is left at rest

pub resting_files_are_left : RestingFilesAreLeft
resting_files_are_left header end events content image rests is = (
  rests.fit,
  record { tail = rests.tail; file_is = settled_image ((header ++ entries events) ++ 0 ∷ rests.tail) image (subst (λ (c : Content). IsImage c image) rests.file is) },
)

-- ---- a shut gate stays shut

-- the records of two kinds differ
kinds_differ : (front tail more : Bytes) (gate other : ℕ) → gate ∷ ((front ++ 3 ∷ []) ++ 0 ∷ tail) ≡ other ∷ ((front ++ 2 ∷ []) ++ 0 ∷ more) → ⊥
kinds_differ front tail more gate other is =
    let rest : (front ++ 3 ∷ []) ++ 0 ∷ tail ≡ (front ++ 2 ∷ []) ++ 0 ∷ more = cc in
    let here : front ++ 3 ∷ (0 ∷ tail) ≡ front ++ 2 ∷ (0 ∷ more) = sym (append_assoc front (3 ∷ []) (0 ∷ tail)) ∙ rest ∙ append_assoc front (2 ∷ []) (0 ∷ more) in
    let last : 3 ∷ (0 ∷ tail) ≡ 2 ∷ (0 ∷ more) = sym (drop_at front (3 ∷ (0 ∷ tail)) (length front) refl) ∙ ap (drop (length front)) here ∙ drop_at front (2 ∷ (0 ∷ more)) (length front) refl in
    let kinds : ◌≡◌ {A = ℕ} 3 2 = cc in
    absurd (omega (arith, kinds))

not_both : (header : Bytes) (events : List Event) (file : Bytes) → IsWhole header events event.Nudge file → IsWhole header events event.Patience file → ⊥
not_both header events file nudge patience =
    let head = header ++ entries events in
    let a = nudge.gate ∷ (record_text event.Nudge ++ 0 ∷ nudge.tail) in
    let b = patience.gate ∷ (record_text event.Patience ++ 0 ∷ patience.tail) in
    kinds_differ (to_be_bytes w32 0) nudge.tail patience.tail nudge.gate patience.gate
    (sym (drop_at head a (length head) refl) ∙ ap (drop (length head)) (sym nudge.file_is ∙ patience.file_is) ∙ drop_at head b (length head) refl)

still_shut : (header : Bytes) (events : List Event) (file : Bytes) → IsCut header events event.Nudge file → IsCut header events event.Patience file → IsShut header events file
still_shut header events file (inl shut) patience = shut
still_shut header events file (inr nudge) (inl shut) = shut
still_shut header events file (inr nudge) (inr patience) = absurd (not_both header events file nudge patience)

kept_shut : (header : Bytes) (events : List Event) (left file : Bytes) → AllByRecursion EventFits events → IsShut header events left → KeepsEvents header left file → IsShut header events file
kept_shut header events left file fit shut keeps = still_shut header events file (keeps events event.Nudge fit tt (inl shut)) (keeps events event.Patience fit tt (inl shut))

-- ---- what is read again

pub left_files_open : LeftFilesOpen
left_files_open header events None left file (fit, shut) keeps = (events, shut_holds header events file fit (kept_shut header events left file fit shut keeps), inl refl)
left_files_open header events (Some one) left file by keeps = elim (cut_holds header events one file by.fit by.fits (keeps events one by.fit by.fits by.cut)) [
  | inl without ↦ (events, without, inl refl)
  | inr all ↦ (events ++ one ∷ [], all, inr (one, refl, refl))
]

opened_again : (header before : Bytes) (events kept : List Event) (begun : Option Event) → IsLeft header events begun before → IsOpenedBy header before kept → HasAllAndOne events begun kept
opened_again header before events kept begun left opened =
    let reads = left_files_open header events begun before opened.file left opened.keeps in
    subst (λ (l : List Event). HasAllAndOne events begun l) (says_once header opened.file reads.0 kept reads.1 opened.says) reads.2

none_begun : (one : Event) → None ≡ Some one → ⊥
none_begun one is = absurd cc

made_again : (header made : Bytes) (kept : List Event) → IsLeft header [] None made → IsOpenedBy header made kept → kept ≡ []
made_again header made kept left opened = elim (opened_again header made [] kept None left opened) [
  | inl none ↦ none
  | inr one ↦ absurd (none_begun one.0 one.1)
]

-- ---- all runs

pub journals_keep : (S : Type 0) → JournalsKeep S
journals_keep S self header made run [] are = made_again header made run.kept are.2 are.0
journals_keep S self header made run (before ∷ runs) are = opened_again header before.left (known_to before) run.kept before.begun are.2.1.leaves are.0
