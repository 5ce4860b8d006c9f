-- Bytes with other bytes written over a part of them.
use Rattle.std.proofs.Common.{◌≡◌, inl, inr, ℕ, suc, ◌+◌, ◌-◌, ◌<◌, ◌≤◌, max, List, [], ◌∷◌, ◌++◌, length, get_or, take, drop, replicate, sym, ◌∙◌, ap, subst, arith, length-append}
use Rattle.std.proofs.lemmas.List.{take_at, take_all, drop_at, drop_more, drop_all, drop-drop, append-nil, get_or_append_left, get_or-append-add, ext_get_or}
use Rattle.std.proofs.lemmas.List.Prefix.{front_from_reads, at_from_reads}
use Rattle.std.proofs.Math.Seq.{take-add}
use Rattle.std.specs.List.{AllByRecursion}
use Rattle.mb_base.specs.Shapes.{Bytes}
use Rattle.mb_edge.specs.Disks.{Range, Content, settled, overwritten, IsOutside, furthest, IsImage, IsTorn, ReadsAt}

-- bytes written at a place that is not past the end
pub overwritten_at : (front tail bytes : Bytes) (at : ℕ) → length front ≡ at → overwritten at bytes (front ++ tail) ≡ front ++ (bytes ++ drop (length bytes) tail)
overwritten_at front tail bytes at len =
    let long : at - length (front ++ tail) ≡ 0 = omega (arith, length-append front tail) in
    let rest : drop (at + length bytes) (front ++ tail) ≡ drop (length bytes) tail = sym (drop-drop (length bytes) at (front ++ tail)) ∙ ap (λ (l : Bytes). drop (length bytes) l) (drop_at front tail at len) in
    (λ i. (take_at front tail at len i ++ replicate (long i) 0) ++ (bytes ++ rest i)) ∙ ap (λ (l : Bytes). l ++ (bytes ++ drop (length bytes) tail)) (append-nil front)

-- a crash leaves what is settled
pub settled_image : (file image : Bytes) → IsImage (settled file) image → image ≡ file
settled_image file image is = ext_get_or 0 image file (omega (arith, is.no_shorter, is.no_longer)) (λ i lt. is.stays i (omega (arith, lt, is.no_longer)) tt)

-- after one write over what is settled, a crash leaves what this write tears
pub torn_image : (range : Range) (old new : Content) (file : Bytes) → old ≡ settled file → new.synced ≡ old.synced → new.written ≡ range ∷ old.written → (image : Bytes) → IsImage new image → IsTorn range file image
torn_image range old new file rests synced written image is =
    let s : new.synced ≡ file = synced ∙ ap (λ (c : Content). c.synced) rests in
    let w : new.written ≡ range ∷ [] = written ∙ ap (λ (c : Content). range ∷ c.written) rests in
    let far : furthest (length new.synced) new.written ≡ max (range.at + range.count) (length file) = (λ i. furthest (length (s i)) (w i)) in
    let len : length new.synced ≡ length file = ap length s in
    record {
      no_shorter = omega (arith, len, is.no_shorter);
      no_longer = omega (arith, far, is.no_longer);
      stays = λ place lt outside. is.stays place (omega (arith, len, lt)) (subst (λ (l : List Range). AllByRecursion (IsOutside place) l) (sym w) (outside, tt)) ∙ ap (λ (l : Bytes). get_or l place 0) s;
    }

-- what stands before a range stays
pub torn_front : (range : Range) (front tail image : Bytes) → length front ≤ range.at → IsTorn range (front ++ tail) image → image ≡ front ++ drop (length front) image
torn_front range front tail image le torn =
    let len = length-append front tail in
    front_from_reads 0 image front (omega (arith, len, torn.no_shorter))
    (λ i lt. torn.stays i (omega (arith, len)) (inl (omega arith)) ∙ get_or_append_left front tail 0 i lt)

-- where a byte is written over, the others stay
pub torn_byte : (front rest image : Bytes) (old : ℕ) → IsTorn (record { at = length front; count = 1 }) (front ++ old ∷ rest) image → image ≡ front ++ get_or image (length front) 0 ∷ rest
torn_byte front rest image old torn =
    let g = length front in
    let len : length (front ++ old ∷ rest) ≡ g + 1 + length rest = omega (arith, length-append front (old ∷ rest)) in
    let size : length image ≡ g + 1 + length rest = omega (arith, len, torn.no_shorter, torn.no_longer) in
    let first = torn_front (record { at = g; count = 1 }) front (old ∷ rest) image (omega arith) torn in
    let gate : drop g image ≡ get_or image g 0 ∷ drop (g + 1) image = drop_more image g 0 (omega arith) in
    let same : (i : ℕ) → i < length rest → get_or image (g + 1 + i) 0 ≡ get_or rest i 0 = λ i lt.
    let later : g + 1 + i ≡ g + suc i = omega arith in
    torn.stays (g + 1 + i) (omega (arith, len)) (inr (omega arith))
    ∙ ap (λ (k : ℕ). get_or (front ++ old ∷ rest) k 0) later ∙ get_or-append-add front (old ∷ rest) (suc i) 0 in
    let behind : drop (g + 1) image ≡ rest = at_from_reads 0 image rest (g + 1) (omega arith) same
    ∙ ap (λ (l : Bytes). rest ++ l) (drop_all (g + 1 + length rest) image (omega arith)) ∙ append-nil rest in
    first ∙ ap (λ (l : Bytes). front ++ l) (gate ∙ ap (λ (l : Bytes). get_or image g 0 ∷ l) behind)

-- more of a file was read
pub read_more : (reads file into : Bytes) (at room count : ℕ) → file ≡ take (length file) reads → ReadsAt reads at room count into → at ≡ length file → length (take count into) ≡ count
    → file ++ take count into ≡ take (length (file ++ take count into)) reads
read_more reads file into at room count so_far read at_is len =
    let size : length file + count ≡ length (file ++ take count into) = omega (arith, len, length-append file (take count into)) in
    (λ i. so_far i ++ read.same i) ∙ ap (λ (k : ℕ). take (length file) reads ++ take count (drop k reads)) at_is
    ∙ sym (take-add (length file) count reads) ∙ ap (λ (k : ℕ). take k reads) size

-- all of it was read
pub read_all : (reads file : Bytes) → file ≡ take (length file) reads → length reads ≤ length file → file ≡ reads
read_all reads file so_far long = so_far ∙ take_all (length file) reads long
