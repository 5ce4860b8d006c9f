-- What a crash leaves while a journal is written.
use Rattle.std.proofs.Common.{◌≡◌, inl, inr, ℕ, ◌+◌, ◌-◌, List, [], ◌∷◌, ◌++◌, length, get_or, drop, Option, Some, Err, refl, sym, ◌∙◌, ap, subst, arith, append_assoc, length-append}
use Rattle.std.specs.List.{AllByRecursion}
use Rattle.mb_base.specs.Shapes.{Bytes}
use Rattle.mb_edge.specs.declared.outside.Failed.{Failed}
use Rattle.mb_edge.specs.declared.outside.Failed.TheVariants.{Device, NoMemory}
use Rattle.mb_edge.specs.Disks.{Range, Content, Moments, settled, overwritten, after_write, next, next_all, IsTorn, AfterFailedWrite, Writes, WhereTold, HoldsInImages, LeavesOnly}
use Rattle.mb_msg.specs.declared.event.Event.{Event}
use Rattle.mb_journal.specs.Files.{record_text, record_size, entries, EventFits}
use Rattle.mb_journal.specs.Keeping.{RestsAt, IsCut, Lands}
use Rattle.mb_journal.proofs.Lists.{overwritten_at, settled_image, torn_image, torn_front, torn_byte}
use Rattle.mb_journal.proofs.RecordLemmas.{length-record_text, length-entry}
use Rattle.mb_journal.proofs.Reading.{one_more, entries-push, fit_push}

-- ---- moments

pub next_all-append : (old : Moments) (first second : List Content) → next_all (next_all old first) second ≡ next_all old (second ++ first)
next_all-append old first [] = refl
next_all-append old first (content ∷ second) = ap (λ (m : Moments). next m content) (next_all-append old first second)

pub all-append : {A : Type 0} (P : A → Type 0) (xs ys : List A) → AllByRecursion P xs → AllByRecursion P ys → AllByRecursion P (xs ++ ys)
all-append P [] ys all more = more
all-append P (x ∷ xs) ys all more = (all.0, all-append P xs ys all.1 more)

all_weaker : {A : Type 0} (P Q : A → Type 0) → ((x : A) → P x → Q x) → (xs : List A) → AllByRecursion P xs → AllByRecursion Q xs
all_weaker P Q is [] all = tt
all_weaker P Q is (x ∷ xs) all = (is x all.0, all_weaker P Q is xs all.1)

-- nothing was done
pub leaves_same : (P : Bytes → Type 0) (old : Moments) (new : Option Moments) → new ≡ Some old → LeavesOnly P old new
leaves_same P old new same = record { since = []; is = same; each = tt }

pub leaves_weaker : (P Q : Bytes → Type 0) (old : Moments) (new : Option Moments) → ((image : Bytes) → P image → Q image) → LeavesOnly P old new → LeavesOnly Q old new
leaves_weaker P Q old new is leaves = record {
  since = leaves.since;
  is = leaves.is;
  each = all_weaker (HoldsInImages P) (HoldsInImages Q) (λ x holds image left. is image (holds image left)) leaves.since leaves.each;
}

-- one call after another
pub leaves_both : (P : Bytes → Type 0) (old : Moments) (mid new : Option Moments) (first : LeavesOnly P old mid) → LeavesOnly P (next_all old first.since) new → LeavesOnly P old new
leaves_both P old mid new first second = record {
  since = second.since ++ first.since;
  is = second.is ∙ ap Some (next_all-append old first.since second.since);
  each = all-append (HoldsInImages P) second.since first.since second.each first.each;
}

-- ---- a write and a sync

module _ (at : ℕ) (bytes : Bytes) (old : Moments) (rests : old.now ≡ settled old.now.reads) where
  abbrev range : Range
  range = record { at = at; count = length bytes }

  written_image : HoldsInImages (Lands at bytes old.now.reads) (after_write at bytes old.now)
  written_image image is = inl (torn_image range old.now (after_write at bytes old.now) old.now.reads rests refl refl image is)

  failed_image : (content : Content) → AfterFailedWrite range old.now content → HoldsInImages (Lands at bytes old.now.reads) content
  failed_image content after image is = inl (torn_image range old.now content old.now.reads rests after.synced after.written image is)

  pub leaves_failed_write : (cause : Failed) (new : Option Moments) → Writes {T = Unit} at bytes (Err cause) old new → LeavesOnly (Lands at bytes old.now.reads) old new
  leaves_failed_write Device new (inl same) = leaves_same (Lands at bytes old.now.reads) old new same
  leaves_failed_write Device new (inr torn) = record { since = torn.0 ∷ []; is = torn.2; each = (failed_image torn.0 torn.1, tt) }
  leaves_failed_write NoMemory new same = leaves_same (Lands at bytes old.now.reads) old new same

  pub leaves_written : (new : Option Moments) → new ≡ Some (next old (after_write at bytes old.now)) → LeavesOnly (Lands at bytes old.now.reads) old new
  leaves_written new is = record { since = after_write at bytes old.now ∷ []; is = is; each = (written_image, tt) }

  pub leaves_synced : (new : Option Moments) → new ≡ Some (next (next old (after_write at bytes old.now)) (settled (overwritten at bytes old.now.reads))) → LeavesOnly (Lands at bytes old.now.reads) old new
  leaves_synced new is = record {
    since = settled (overwritten at bytes old.now.reads) ∷ after_write at bytes old.now ∷ [];
    is = is;
    each = ((λ image left. inr (settled_image (overwritten at bytes old.now.reads) image left)), (written_image, tt));
  }

-- ---- a record behind the gate

module _ (header : Bytes) (events : List Event) (event : Event) where
  abbrev head : Bytes
  head = header ++ entries events

  abbrev shut : Bytes
  shut = head ++ 0 ∷ []

  length-shut : length shut ≡ length head + 1
  length-shut = length-append head (0 ∷ [])

  shut_parts : (tail : Bytes) → head ++ 0 ∷ tail ≡ shut ++ tail
  shut_parts tail = sym (append_assoc head (0 ∷ []) tail)

  -- what stands behind the record once it was written
  abbrev tail_left : Bytes → Bytes
  tail_left tail = drop (length (record_text event ++ 0 ∷ [])) tail

  abbrev staged : Bytes → Bytes
  staged tail = head ++ 0 ∷ (record_text event ++ 0 ∷ tail_left tail)

  pub record_written : (at : ℕ) (tail : Bytes) → at ≡ length head + 1 → overwritten at (record_text event ++ 0 ∷ []) (head ++ 0 ∷ tail) ≡ staged tail
  record_written at tail is =
      ap (overwritten at (record_text event ++ 0 ∷ [])) (shut_parts tail)
      ∙ overwritten_at shut tail (record_text event ++ 0 ∷ []) at (omega (arith, length-shut))
      ∙ append_assoc head (0 ∷ []) ((record_text event ++ 0 ∷ []) ++ tail_left tail)
      ∙ ap (λ (l : Bytes). head ++ 0 ∷ l) (append_assoc (record_text event) (0 ∷ []) (tail_left tail))

  -- while it is written the gate before it stays shut
  pub record_lands : (at : ℕ) (tail : Bytes) → at ≡ length head + 1 → (image : Bytes) → Lands at (record_text event ++ 0 ∷ []) (head ++ 0 ∷ tail) image → IsCut header events event image
  record_lands at tail is image (inl torn) =
      let range : Range = record { at = at; count = length (record_text event ++ 0 ∷ []) } in
      let torn_here : IsTorn range (shut ++ tail) image = subst (λ (l : Bytes). IsTorn range l image) (shut_parts tail) torn in
      inl (record {
        tail = drop (length shut) image;
        file_is = torn_front range shut tail image (omega (arith, length-shut)) torn_here ∙ append_assoc head (0 ∷ []) (drop (length shut) image);
      })
  record_lands at tail is image (inr written) =
      inl (record { tail = record_text event ++ 0 ∷ tail_left tail; file_is = written ∙ record_written at tail is })

  -- ---- the gate

  abbrev behind_gate : ℕ → Bytes → Bytes
  behind_gate gate tail = head ++ gate ∷ (record_text event ++ 0 ∷ tail)

  pub gate_written : (at gate byte : ℕ) (tail : Bytes) → at ≡ length head → overwritten at (byte ∷ []) (behind_gate gate tail) ≡ behind_gate byte tail
  gate_written at gate byte tail is = overwritten_at head (gate ∷ (record_text event ++ 0 ∷ tail)) (byte ∷ []) at (sym is)

  -- while a byte is written on the gate, the record stands whole behind it
  pub gate_lands : (at gate byte : ℕ) (tail : Bytes) → at ≡ length head → (image : Bytes) → Lands at (byte ∷ []) (behind_gate gate tail) image → IsCut header events event image
  gate_lands at gate byte tail is image (inl torn) =
      let here : IsTorn (record { at = length head; count = 1 }) (behind_gate gate tail) image = subst (λ (k : ℕ). IsTorn (record { at = k; count = 1 }) (behind_gate gate tail) image) is torn in
      inr (record { gate = get_or image (length head) 0; tail = tail; file_is = torn_byte head (record_text event ++ 0 ∷ tail) image gate here })
  gate_lands at gate byte tail is image (inr written) =
      inr (record { gate = byte; tail = tail; file_is = written ∙ gate_written at gate byte tail is })

  -- ---- both, one after the other

  length-more : length (header ++ entries (events ++ event ∷ [])) ≡ length head + record_size event
  length-more =
      let entry_len = length-entry event in
      ap (λ (l : Bytes). length (header ++ l)) (entries-push events event)
      ∙ omega (arith, length-append header (entries events ++ 1 ∷ record_text event), length-append (entries events) (1 ∷ record_text event), length-append header (entries events), length-record_text event)

  -- the journal with one event more
  pub rests_with : (end : ℕ) (tail : Bytes) (content : Content) → end ≡ length head + 1 → AllByRecursion EventFits events → EventFits event
      → content ≡ settled (overwritten (end - 1) (1 ∷ []) (staged tail)) → RestsAt header (end + record_size event) (events ++ event ∷ []) content
  rests_with end tail content is fit fits content_is =
      let at : end - 1 ≡ length head = omega arith in
      record {
        tail = tail_left tail;
        file = content_is ∙ ap settled (gate_written (end - 1) 0 1 (tail_left tail) at ∙ one_more header events event (tail_left tail));
        end_is = omega (arith, length-more);
        fit = fit_push events event fit fits;
      }

pub settled_reads : (content : Content) (file : Bytes) → content ≡ settled file → content ≡ settled content.reads
settled_reads content file is = is ∙ ap (λ (c : Content). settled c.reads) (sym is)

pub reads_are : (content : Content) (file : Bytes) → content ≡ settled file → content.reads ≡ file
reads_are content file is = ap (λ (c : Content). c.reads) is

-- what is told is one
pub told_once : (told : Option Moments) (m n : Moments) → told ≡ Some m → told ≡ Some n → n ≡ m
told_once told m n is_m is_n = cc

module _ (header : Bytes) (events : List Event) (event : Event) (end : ℕ) (old : Moments) (rests : RestsAt header end events old.now) where
  abbrev before : Bytes
  before = (header ++ entries events) ++ 0 ∷ rests.tail

  old_reads : old.now.reads ≡ before
  old_reads = reads_are old.now before rests.file

  -- the first of the two writes
  pub record_leaves : (bytes : Bytes) (mid : Option Moments) → bytes ≡ record_text event ++ 0 ∷ [] → (old.now ≡ settled old.now.reads → LeavesOnly (Lands end bytes old.now.reads) old mid)
      → LeavesOnly (IsCut header events event) old mid
  record_leaves bytes mid bytes_are leaves =
      leaves_weaker (Lands end bytes old.now.reads) (IsCut header events event) old mid
      (λ image lands. record_lands header events event end rests.tail rests.end_is image
      (subst (λ (l : Bytes). Lands end l before image) bytes_are (subst (λ (l : Bytes). Lands end bytes l image) old_reads lands)))
      (leaves (settled_reads old.now before rests.file))

  -- after it
  pub record_stands : (bytes : Bytes) (content : Content) → bytes ≡ record_text event ++ 0 ∷ [] → content ≡ settled (overwritten end bytes old.now.reads) → content ≡ settled (staged header events event rests.tail)
  record_stands bytes content bytes_are is =
      is ∙ (λ i. settled (overwritten end (bytes_are i) (old_reads i))) ∙ ap settled (record_written header events event end rests.tail rests.end_is)

  -- the second
  pub gate_leaves : (mid : Moments) (new : Option Moments) → mid.now ≡ settled (staged header events event rests.tail) → (mid.now ≡ settled mid.now.reads → LeavesOnly (Lands (end - 1) (1 ∷ []) mid.now.reads) mid new)
      → LeavesOnly (IsCut header events event) mid new
  gate_leaves mid new stands leaves =
      let file = staged header events event rests.tail in
      let at : end - 1 ≡ length (header ++ entries events) = omega (arith, rests.end_is) in
      leaves_weaker (Lands (end - 1) (1 ∷ []) mid.now.reads) (IsCut header events event) mid new
      (λ image lands. gate_lands header events event (end - 1) 0 1 (tail_left header events event rests.tail) at image
      (subst (λ (l : Bytes). Lands (end - 1) (1 ∷ []) l image) (reads_are mid.now file stands) lands))
      (leaves (settled_reads mid.now file stands))

  -- and after both
  pub both_stand : (mid : Content) (content : Content) → mid ≡ settled (staged header events event rests.tail) → EventFits event → content ≡ settled (overwritten (end - 1) (1 ∷ []) mid.reads)
      → RestsAt header (end + record_size event) (events ++ event ∷ []) content
  both_stand mid content stands fits is =
      rests_with header events event end rests.tail content rests.end_is rests.fit fits
      (is ∙ ap (λ (l : Bytes). settled (overwritten (end - 1) (1 ∷ []) l)) (reads_are mid (staged header events event rests.tail) stands))

  -- the first call stopped
  pub first_only : (bytes : Bytes) (mid : Option Moments) → bytes ≡ record_text event ++ 0 ∷ []
      → (WhereTold (Some old) (λ o. o.now ≡ settled o.now.reads → LeavesOnly (Lands end bytes o.now.reads) o mid)) → LeavesOnly (IsCut header events event) old mid
  first_only bytes mid bytes_are leaves = record_leaves bytes mid bytes_are (leaves old refl)

  -- the second call was made too
  pub first_and_second : (bytes : Bytes) (mid new : Option Moments) → bytes ≡ record_text event ++ 0 ∷ []
      → (old.now ≡ settled old.now.reads → LeavesOnly (Lands end bytes old.now.reads) old mid)
      → WhereTold mid (λ m. m.now ≡ settled (overwritten end bytes old.now.reads))
      → WhereTold mid (λ m. m.now ≡ settled m.now.reads → LeavesOnly (Lands (end - 1) (1 ∷ []) m.now.reads) m new)
      → LeavesOnly (IsCut header events event) old new
  first_and_second bytes mid new bytes_are leaves stands more =
      let first = record_leaves bytes mid bytes_are leaves in
      let middle = next_all old first.since in
      leaves_both (IsCut header events event) old mid new first (gate_leaves middle new (record_stands bytes middle.now bytes_are (stands middle first.is)) (more middle first.is))

  -- both succeeded
  pub rests_after : (bytes : Bytes) (mid : Option Moments) (new : Moments) → bytes ≡ record_text event ++ 0 ∷ [] → EventFits event
      → (old.now ≡ settled old.now.reads → LeavesOnly (Lands end bytes old.now.reads) old mid)
      → WhereTold mid (λ m. m.now ≡ settled (overwritten end bytes old.now.reads))
      → WhereTold mid (λ m. new.now ≡ settled (overwritten (end - 1) (1 ∷ []) m.now.reads))
      → RestsAt header (end + record_size event) (events ++ event ∷ []) new.now
  rests_after bytes mid new bytes_are fits leaves stands more =
      let first = record_leaves bytes mid bytes_are leaves in
      let middle = next_all old first.since in
      both_stand middle.now new.now (record_stands bytes middle.now bytes_are (stands middle first.is)) fits (more middle first.is)
