-- How far the header of a datagram goes, where reading a datagram fails, and that a datagram that was made is read again.
use Rattle.std.proofs.Common.{◌≡◌, ℕ, ◌+◌, ◌-◌, ◌^◌, ◌<◌, ◌≤◌, Bool, true, false, cond, ltb, leb, ◌&&◌, ◌⊎◌, inl, inr, List, ◌++◌, length, take, drop, Ok, Err, refl, sym, ap, subst, ◌∙◌, arith, length-append, length-drop}
use Rattle.std.specs.Int.{Width, w8, w16, w32, byte_len, from_be_bytes}
use Rattle.std.proofs.lemmas.Bool.{ltb-false, ltb-true, le-ltb, lt-ltb, leb-true, and_parts}
use Rattle.std.proofs.lemmas.List.{drop-drop, take_rest, drop_at}
use Rattle.std.proofs.lemmas.Nat.{be_bytes_4, from_be_bytes-to_be_bytes_4}
use Rattle.mb_base.specs.Shapes.{Bytes}
use Rattle.mb_base.specs.Spelling.{number}
use Rattle.mb_base.specs.Reading.{◌>>=◌, Cursor, cursor, onward, Reads, number_at, number_in, then_at, map_at}
use Rattle.mb_base.proofs.Laws.{bind_ok, bind_err, guard_ok, guard_err, allow_ok, allow_err, ok_is, Takes, IsField, IsWide, wide8, wide16, number_field, ranged_field, pair_field, then_field, map_field, iff_field, number_length}
use Rattle.mb_frag.specs.declared.piece.Header.{Header}
use Rattle.mb_frag.specs.declared.limits.TheConstants.{PIECE, MAX_COUNT}
use Rattle.mb_frag.specs.Pieces.{header_text, datagram_of}
use Rattle.mb_frag.specs.Reading.{count_at, header_of_fields, header_at, least_bytes, piece_at, piece_of}

-- ---- how far a field goes

-- a field of so many bytes, which fails at most so far in
pub record Spans {A : Type 0} (f : Cursor → Reads A) (len last : ℕ) : Type 0 where
  pub onwards : (s : Cursor) (x : A) (t : Cursor) → f s ≡ Ok (x, t) → (t ≡ onward len s) × (len ≤ length s.rest)
  pub fault : (s : Cursor) (at : ℕ) → f s ≡ Err at → at ≤ s.at + last

number_spans : (w : Width) → Spans (number_at w) (byte_len w) 0
number_spans w = record {
  onwards = λ s n t e.
      let g = guard_ok (ltb (length s.rest) (byte_len w)) s.at (from_be_bytes w (take (byte_len w) s.rest), onward (byte_len w) s) (n, t) e in
      (sym (ap (λ (v : ℕ × Cursor). v.1) g.1), ltb-false _ _ g.0);
  fault = λ s at e. omega (arith, guard_err (ltb (length s.rest) (byte_len w)) s.at at (from_be_bytes w (take (byte_len w) s.rest), onward (byte_len w) s) e);
}

-- a field whose value is tested
abbrev pub tested : {A : Type 0} → (Cursor → Reads A) → (A → Bool) → Cursor → Reads A
tested f p s = f s >>= λ x. cond (p x.0) (Ok x) (Err s.at)

tested_spans : {A : Type 0} (f : Cursor → Reads A) (p : A → Bool) (len : ℕ) → Spans f len 0 → Spans (tested f p) len 0
tested_spans {A} f p len hf = record {
  onwards = λ s x t e.
      let a = bind_ok (f s) (λ (v : A × Cursor). cond (p v.0) (Ok v) (Err s.at)) (x, t) e in
      let g = allow_ok (p a.0.0) s.at a.0 (x, t) a.2 in
      subst (λ (v : A × Cursor). (v.1 ≡ onward len s) × (len ≤ length s.rest)) g.1 (hf.onwards s a.0.0 a.0.1 a.1);
  fault = λ s at e.
      elim (bind_err (f s) (λ (v : A × Cursor). cond (p v.0) (Ok v) (Err s.at)) at e) [
        | inl failed ↦ hf.fault s at failed
        | inr a ↦ omega (arith, allow_err (p a.0.0) s.at at a.0 a.2)
      ];
}

onward_both : (m n : ℕ) (s : Cursor) → onward n (onward m s) ≡ onward (m + n) s
onward_both m n s =
    let at : (s.at + m) + n ≡ s.at + (m + n) = omega arith in
    rw (at, drop-drop n m s.rest) refl

then_spans : {A B : Type 0} (f : Cursor → Reads A) (m j : ℕ) (g : A → Cursor → Reads B) (n k : ℕ) → j ≤ m + k → Spans f m j → ((a : A) → Spans (g a) n k) → Spans (then_at f g) (m + n) (m + k)
then_spans {A} {B} f m j g n k le hf hg = record {
  onwards = λ s x t e.
      let a = bind_ok (f s) (λ (v : A × Cursor). g v.0 v.1 >>= λ (w : B × Cursor). Ok ((v.0, w.0), w.1)) (x, t) e in
      let b = bind_ok (g a.0.0 a.0.1) (λ (w : B × Cursor). Ok ((a.0.0, w.0), w.1)) (x, t) a.2 in
      let first = hf.onwards s a.0.0 a.0.1 a.1 in
      let second = (hg a.0.0).onwards a.0.1 b.0.0 b.0.1 b.1 in
      let end : t ≡ b.0.1 = sym (ap (λ (v : (A × B) × Cursor). v.1) (ok_is ((a.0.0, b.0.0), b.0.1) (x, t) b.2)) in
      let left : n ≤ length (drop m s.rest) = subst (λ (u : Cursor). n ≤ length u.rest) first.0 second.1 in
      (end ∙ second.0 ∙ ap (onward n) first.0 ∙ onward_both m n s, omega (arith, left, length-drop m s.rest, first.1));
  fault = λ s at e.
      elim (bind_err (f s) (λ (v : A × Cursor). g v.0 v.1 >>= λ (w : B × Cursor). Ok ((v.0, w.0), w.1)) at e) [
        | inl failed ↦ omega (arith, hf.fault s at failed)
        | inr a ↦
            let first = hf.onwards s a.0.0 a.0.1 a.1 in
            let place : a.0.1.at ≡ s.at + m = ap (λ (u : Cursor). u.at) first.0 in
            elim (bind_err (g a.0.0 a.0.1) (λ (w : B × Cursor). Ok ((a.0.0, w.0), w.1)) at a.2) [
              | inl failed ↦ omega (arith, (hg a.0.0).fault a.0.1 at failed)
              | inr b ↦ absurd (let never = b.2 in cc)
            ]
      ];
}

map_spans : {A B : Type 0} (to : A → B) (f : Cursor → Reads A) (len last : ℕ) → Spans f len last → Spans (map_at to f) len last
map_spans {A} {B} to f len last hf = record {
  onwards = λ s x t e.
      let a = bind_ok (f s) (λ (v : A × Cursor). Ok (to v.0, v.1)) (x, t) e in
      subst (λ (v : B × Cursor). (v.1 ≡ onward len s) × (len ≤ length s.rest)) (ok_is (to a.0.0, a.0.1) (x, t) a.2) (hf.onwards s a.0.0 a.0.1 a.1);
  fault = λ s at e.
      elim (bind_err (f s) (λ (v : A × Cursor). Ok (to v.0, v.1)) at e) [
        | inl failed ↦ hf.fault s at failed
        | inr a ↦ absurd (let never = a.2 in cc)
      ];
}

count_spans : (index : ℕ) → Spans (count_at index) 2 0
unfolding number_in
count_spans index = tested_spans _ (λ n. ltb index n) 2 (tested_spans _ (λ n. leb 1 n && leb n MAX_COUNT) 2 (number_spans w16))

pub header_spans : Spans header_at 9 7
unfolding header_at
header_spans =
    map_spans header_of_fields _ 9 7
    (then_spans (number_at w8) 1 0 (λ _. _) 8 6 (omega arith) (number_spans w8) (λ _.
    then_spans (number_at w32) 4 0 (λ _. _) 4 2 (omega arith) (number_spans w32) (λ _.
    then_spans (number_at w16) 2 0 count_at 2 0 (omega arith) (number_spans w16) count_spans)))

-- ---- what a header says

-- an index below a count that is allowed
pub count_fits : (index count : ℕ) (s t : Cursor) → count_at index s ≡ Ok (count, t) → (index < count) × (count ≤ MAX_COUNT)
unfolding number_in
count_fits index count s t e =
    let a = bind_ok (number_in w16 1 MAX_COUNT s) (λ (v : ℕ × Cursor). cond (ltb index v.0) (Ok v) (Err s.at)) (count, t) e in
    let above = allow_ok (ltb index a.0.0) s.at a.0 (count, t) a.2 in
    let b = bind_ok (number_at w16 s) (λ (v : ℕ × Cursor). cond (leb 1 v.0 && leb v.0 MAX_COUNT) (Ok v) (Err s.at)) a.0 a.1 in
    let allowed = allow_ok (leb 1 b.0.0 && leb b.0.0 MAX_COUNT) s.at b.0 a.0 b.2 in
    let most : b.0.0 ≤ MAX_COUNT = leb-true b.0.0 MAX_COUNT (and_parts (leb 1 b.0.0) (leb b.0.0 MAX_COUNT) allowed.0).1 in
    let same : b.0.0 ≡ count = ap (λ (v : ℕ × Cursor). v.0) (allowed.1 ∙ above.1) in
    let same' : a.0.0 ≡ count = ap (λ (v : ℕ × Cursor). v.0) above.1 in
    (omega (arith, ltb-true index a.0.0 above.0), omega arith)

wide32 : IsWide w32 (2 ^ 32)
wide32 = record {
  len = λ n. refl;
  back = λ bytes len fits. be_bytes_4 bytes _ len fits refl;
  again = λ n lt. from_be_bytes-to_be_bytes_4 n lt;
  below = λ bytes fits. omega (arith, fits 0, fits 1, fits 2, fits 3);
}

tested_field : {A : Type 0} (f : Cursor → Reads A) (p : A → Bool) (text : A → List ℕ) (P : A → Type 0) → IsField f text P → IsField (tested f p) text (λ x. P x × (p x ≡ true))
tested_field {A} f p text P hf = record {
  takes = λ s x t fits e.
      let a = bind_ok (f s) (λ (v : A × Cursor). cond (p v.0) (Ok v) (Err s.at)) (x, t) e in
      let g = allow_ok (p a.0.0) s.at a.0 (x, t) a.2 in
      let read = hf.takes s a.0.0 a.0.1 fits a.1 in
      subst (λ (v : A × Cursor). Takes s (text v.0) v.1 × (P v.0 × (p v.0 ≡ true))) g.1 (read.0, (read.1, g.0));
  again = λ x at rest h. rw (hf.again x at rest h.0, h.1) refl;
}

-- a header that is within its limits
pub record IsHeader (h : Header) : Type 0 where
  pub sender : h.sender < 2 ^ 8
  pub number : h.number < 2 ^ 32
  pub above : h.index < h.count
  pub most : h.count ≤ MAX_COUNT

header_field : IsField header_at header_text IsHeader
unfolding header_at header_text
header_field =
    iff_field _ _ _ IsHeader
    (λ h e. record { sender = e.0; number = e.1.0; above = ltb-true _ _ e.1.1.1.1; most = e.1.1.1.0.1 })
    (λ h e. (e.sender, (e.number, (omega (arith, e.above, e.most), ((omega (arith, e.above), e.most), lt-ltb _ _ e.above)))))
    (map_field header_of_fields (λ h. (h.sender, (h.number, (h.index, h.count)))) (λ p. refl) (λ h. refl) _ _ _
    (pair_field _ _ _ _ _ _ (number_field w8 (2 ^ 8) wide8)
    (pair_field _ _ _ _ _ _ (number_field w32 (2 ^ 32) wide32)
    (then_field _ _ _ _ _ _ (number_field w16 (2 ^ 16) wide16)
    (λ index e. tested_field _ (λ n. ltb index n) _ _ (ranged_field w16 (2 ^ 16) 1 MAX_COUNT (omega arith) wide16))))))

pub header_length : (h : Header) → length (header_text h) ≡ 9
unfolding header_text
header_length h = omega (
  arith,
  length-append (number w8 h.sender) (number w32 h.number ++ (number w16 h.index ++ number w16 h.count)),
  length-append (number w32 h.number) (number w16 h.index ++ number w16 h.count),
  length-append (number w16 h.index) (number w16 h.count),
  number_length w8 _ h.sender wide8,
  number_length w32 _ h.number wide32,
  number_length w16 _ h.index wide16,
  number_length w16 _ h.count wide16,
)

-- ---- datagrams

-- what a header and the bytes behind it make of a datagram
pub piece_read : (datagram : Bytes) (s : Cursor) (h : Header) (t : Cursor) → s ≡ cursor 0 datagram → header_at s ≡ Ok (h, t) → (9 ≤ length datagram) × (piece_of datagram ≡ piece_at h (cursor 9 (drop 9 datagram)))
unfolding piece_of
piece_read datagram s h t start e =
    let read : header_at (cursor 0 datagram) ≡ Ok (h, t) = subst (λ (u : Cursor). header_at u ≡ Ok (h, t)) start e in
    let on = header_spans.onwards (cursor 0 datagram) h t read in
    (on.1, rw (read, on.0) refl)

pub header_failed : (datagram : Bytes) (s : Cursor) (at : ℕ) → s ≡ cursor 0 datagram → header_at s ≡ Err at → piece_of datagram ≡ Err at
unfolding piece_of
header_failed datagram s at start e =
    let read : header_at (cursor 0 datagram) ≡ Err at = subst (λ (u : Cursor). header_at u ≡ Err at) start e in
    rw read refl

-- what stands behind the header
abbrev pub behind : Bytes → Bytes
behind datagram = take (length datagram - 9) (drop 9 datagram)

module _ (datagram : Bytes) (s : Cursor) (h : Header) (t : Cursor) (least : ℕ) (start : s ≡ cursor 0 datagram) (e : header_at s ≡ Ok (h, t)) (least_is : least ≡ least_bytes h) where
  rest : drop 9 datagram ≡ behind datagram
  rest = sym (take_rest datagram 9)

  read : piece_of datagram ≡ piece_at h (cursor 9 (behind datagram))
  read = (piece_read datagram s h t start e).1 ∙ ap (λ (r : Bytes). piece_at h (cursor 9 r)) rest

  pub piece_short : length (behind datagram) < least → piece_of datagram ≡ Err 9
  piece_short short =
      let test : ltb (length (behind datagram)) (least_bytes h) ≡ true = lt-ltb _ _ (rw least_is at short) in
      read ∙ rw test refl

  pub piece_long : least ≤ length (behind datagram) → PIECE < length (behind datagram) → piece_of datagram ≡ Err (9 + PIECE)
  piece_long enough long =
      let test : ltb (length (behind datagram)) (least_bytes h) ≡ false = le-ltb _ _ (rw least_is at enough) in
      let test' : ltb PIECE (length (behind datagram)) ≡ true = lt-ltb _ _ long in
      read ∙ rw (test, test') refl

  pub piece_whole : least ≤ length (behind datagram) → length (behind datagram) ≤ PIECE → piece_of datagram ≡ Ok (record { header = h; bytes = behind datagram })
  piece_whole enough short =
      let test : ltb (length (behind datagram)) (least_bytes h) ≡ false = le-ltb _ _ (rw least_is at enough) in
      let test' : ltb PIECE (length (behind datagram)) ≡ false = le-ltb _ _ short in
      read ∙ rw (test, test') refl

-- the offset of a fault
pub piece_fault : (datagram : Bytes) (at : ℕ) → piece_of datagram ≡ Err at → at ≤ 9 + PIECE
unfolding piece_of
piece_fault datagram at e =
    elim (bind_err (header_at (cursor 0 datagram)) (λ (v : Header × Cursor). piece_at v.0 v.1) at e) [
      | inl failed ↦ omega (arith, header_spans.fault (cursor 0 datagram) at failed)
      | inr a ↦
          let place : a.0.1.at ≡ 9 = ap (λ (u : Cursor). u.at) (header_spans.onwards (cursor 0 datagram) a.0.0 a.0.1 a.1).0 in
          let which : (a.0.1.at ≡ at) ⊎ (a.0.1.at + PIECE ≡ at) = bytes_fault _ _ _ _ _ _ a.2 in
          elim which [ inl is ↦ omega arith | inr is ↦ omega arith ]
    ]
  where
    bytes_fault : {A : Type 0} (b c : Bool) (d d' at : ℕ) (x : A) → cond b (Err d) (cond c (Err d') (Ok x)) ≡ Err at → (d ≡ at) ⊎ (d' ≡ at)
    bytes_fault true c d d' at x e = inl cc
    bytes_fault false true d d' at x e = inr cc
    bytes_fault false false d d' at x e = absurd cc

-- a datagram that was made is read again
pub datagram_again : (h : Header) (bytes : Bytes) → IsHeader h → least_bytes h ≤ length bytes → length bytes ≤ PIECE → piece_of (datagram_of h bytes) ≡ Ok (record { header = h; bytes = bytes })
unfolding piece_of
datagram_again h bytes fits enough short =
    let read : header_at (cursor 0 (header_text h ++ bytes)) ≡ Ok (h, cursor (0 + length (header_text h)) bytes) = header_field.again h 0 bytes fits in
    let test : ltb (length bytes) (least_bytes h) ≡ false = le-ltb _ _ enough in
    let test' : ltb PIECE (length bytes) ≡ false = le-ltb _ _ short in
    rw (read, test, test') refl

-- the bytes behind the header
pub drop-datagram : (h : Header) (bytes : Bytes) → drop 9 (datagram_of h bytes) ≡ bytes
drop-datagram h bytes = drop_at (header_text h) bytes 9 (header_length h)
