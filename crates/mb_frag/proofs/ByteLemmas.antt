-- Where what was pushed is of bytes, so is what is held.
use Rattle.std.proofs.Common.{◌≡◌, inl, inr, ℕ, ◌+◌, ◌-◌, Bool, true, false, eqb, ltb, cond, [], ◌++◌, length, Result, Ok, Err, refl, sym, ap, subst, ◌∙◌, arith}
use Rattle.std.proofs.lemmas.Bool.{cases_Bool, cases_lt}
use Rattle.std.proofs.lemmas.List.{get_or_append_left, get_or-append_right}
use Rattle.mb_base.specs.Shapes.{Bytes}
use Rattle.mb_base.specs.Spelling.{IsBytes}
use Rattle.mb_base.specs.Reading.{Cursor, cursor}
use Rattle.mb_base.proofs.Laws.{IsBytes-drop, bind_ok}
use Rattle.mb_frag.specs.declared.piece.Header.{Header}
use Rattle.mb_frag.specs.declared.limits.TheConstants.{PIECE}
use Rattle.mb_frag.specs.Pieces.{Piece}
use Rattle.mb_frag.specs.Reading.{header_at, least_bytes, piece_at, piece_of}
use Rattle.mb_frag.specs.Stages.{goes_on}
use Rattle.mb_frag.specs.Held.{Held, with_piece, taken, push_of}
use Rattle.mb_frag.proofs.ReadingLemmas.{header_spans}

pub IsBytes-nil : IsBytes []
IsBytes-nil i = omega arith

IsBytes-append : (front back : Bytes) → IsBytes front → IsBytes back → IsBytes (front ++ back)
IsBytes-append front back fits more i = elim (cases_lt i (length front)) [
  | inl lt ↦ rw (get_or_append_left front back 0 i lt) (fits i)
  | inr ge ↦ rw (get_or-append_right front back (length front) i 0 refl ge) (more (i - length front))
]

-- ---- a piece

last_of : {A : Type 0} (short long : Bool) (at at' : ℕ) (x y : A) → cond short (Err at) (cond long (Err at') (Ok x)) ≡ Ok y → x ≡ y
last_of true long at at' x y is = absurd cc
last_of false true at at' x y is = absurd cc
last_of false false at at' x y is = cc

piece_bytes : (datagram : Bytes) (p : Piece) → IsBytes datagram → piece_of datagram ≡ Ok p → IsBytes p.bytes
unfolding piece_of
piece_bytes datagram p fits is =
    let a = bind_ok (header_at (cursor 0 datagram)) (λ (v : Header × Cursor). piece_at v.0 v.1) p is in
    let read : record { header = a.0.0; bytes = a.0.1.rest } ≡ p = last_of (ltb (length a.0.1.rest) (least_bytes a.0.0)) (ltb PIECE (length a.0.1.rest)) a.0.1.at (a.0.1.at + PIECE) (record { header = a.0.0; bytes = a.0.1.rest }) p a.2 in
    let rest = (header_spans.onwards (cursor 0 datagram) a.0.0 a.0.1 a.1).0 in
    subst IsBytes (sym (ap (λ (u : Cursor). u.rest) rest) ∙ ap (λ (q : Piece). q.bytes) read) (IsBytes-drop 9 datagram fits)

-- ---- a push

joined_bytes : (before : Bytes) (p : Piece) → IsBytes before → IsBytes p.bytes → IsBytes (with_piece before p).1.bytes
joined_bytes before p fits more =
    let both = IsBytes-append before p.bytes fits more in
    elim (cases_Bool (eqb (p.header.index + 1) p.header.count)) [ inl last ↦ rw last both | inr other ↦ rw other both ]

taken_bytes : (held : Held) (p : Piece) → IsBytes held.bytes → IsBytes p.bytes → IsBytes (taken held p).1.bytes
taken_bytes held p fits more = elim (cases_Bool (eqb p.header.index 0)) [
  | inl first ↦ rw first (joined_bytes [] p IsBytes-nil more)
  | inr later ↦ elim (cases_Bool (goes_on held.stage p.header)) [
    | inl next ↦ rw (later, next) (joined_bytes held.bytes p fits more)
    | inr other ↦ rw (later, other) fits
  ]
]

pub push_bytes : (held : Held) (datagram : Bytes) → IsBytes held.bytes → IsBytes datagram → IsBytes (push_of held datagram).1.bytes
unfolding push_of
push_bytes held datagram fits more = by_piece (piece_of datagram) refl where
  by_piece : (read : Result Piece ℕ) → piece_of datagram ≡ read → IsBytes (push_of held datagram).1.bytes
  by_piece (Ok p) is = rw is (taken_bytes held p fits (piece_bytes datagram p more is))
  by_piece (Err at) is = rw is fits
