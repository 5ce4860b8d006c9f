-- A message that is whole came piece by piece.
use Rattle.std.proofs.Common.{◌≡◌, ℕ, ◌+◌, inl, inr, true, eqb, List, [], ◌∷◌, ◌++◌, length, Result, Ok, Err, refl, sym, subst, ◌∙◌, arith, append_assoc, append-nil}
use Rattle.std.proofs.lemmas.Bool.{cases_Bool, eqb-true, and_parts}
use Rattle.std.proofs.lemmas.List.{length_push}
use Rattle.std.proofs.lemmas.List.Concat.{flat_map-append}
use Rattle.mb_base.specs.Shapes.{Bytes}
use Rattle.mb_frag.specs.declared.stage.Stage.{Stage}
use Rattle.mb_frag.specs.declared.stage.Stage.TheVariants.{Empty, Begun, Whole}
use Rattle.mb_frag.specs.Pieces.{Piece}
use Rattle.mb_frag.specs.Reading.{piece_of}
use Rattle.mb_frag.specs.Stages.{goes_on}
use Rattle.mb_frag.specs.Held.{Held, nothing_held, with_piece, taken, push_of}
use Rattle.mb_frag.specs.Promises.{held_after, ComeIn, AreInOrder, CameInOrder, CameWhole, MessagesComeWholeAndInOrder}

-- ---- one more datagram, one more piece

come_still : (ps : List Piece) (ds : List Bytes) (d : Bytes) → ComeIn ps ds → ComeIn ps (ds ++ d ∷ [])
come_still [] ds d come = tt
come_still (p ∷ ps) [] d come = absurd come
come_still (p ∷ ps) (x ∷ ds) d (inl here) = inl (here.0, come_still ps ds d here.1)
come_still (p ∷ ps) (x ∷ ds) d (inr later) = inr (come_still (p ∷ ps) ds d later)

come_more : (ps : List Piece) (ds : List Bytes) (p : Piece) (d : Bytes) → piece_of d ≡ Ok p → ComeIn ps ds → ComeIn (ps ++ p ∷ []) (ds ++ d ∷ [])
come_more [] [] p d is come = inl (is, tt)
come_more [] (x ∷ ds) p d is come = inr (come_more [] ds p d is tt)
come_more (q ∷ ps) [] p d is come = absurd come
come_more (q ∷ ps) (x ∷ ds) p d is (inl here) = inl (here.0, come_more ps ds p d is here.1)
come_more (q ∷ ps) (x ∷ ds) p d is (inr later) = inr (come_more (q ∷ ps) ds p d is later)

order_more : (number count index : ℕ) (ps : List Piece) (p : Piece) → AreInOrder number count index ps → p.header.number ≡ number → p.header.count ≡ count → p.header.index ≡ index + length ps → AreInOrder number count index (ps ++ p ∷ [])
order_more number count index [] p so_far same same' place = (same, same', omega arith, tt)
order_more number count index (q ∷ ps) p so_far same same' place =
    (so_far.0, so_far.1, so_far.2, order_more number count (index + 1) ps p so_far.3 same same' (omega arith))

-- the datagram is left out
came_still : (ds : List Bytes) (d : Bytes) (number count next : ℕ) (bytes : Bytes) → CameInOrder ds number count next bytes → CameInOrder (ds ++ d ∷ []) number count next bytes
came_still ds d number count next bytes so_far = record {
  pieces = so_far.pieces;
  came = come_still so_far.pieces ds d so_far.came;
  ordered = so_far.ordered;
  all = so_far.all;
  joined = so_far.joined;
}

-- the datagram is the next piece
came_more : (ds : List Bytes) (d : Bytes) (p : Piece) (next : ℕ) (bytes : Bytes) → piece_of d ≡ Ok p → p.header.index ≡ next → CameInOrder ds p.header.number p.header.count next bytes
    → CameInOrder (ds ++ d ∷ []) p.header.number p.header.count (p.header.index + 1) (bytes ++ p.bytes)
came_more ds d p next bytes is place so_far = record {
  pieces = so_far.pieces ++ p ∷ [];
  came = come_more so_far.pieces ds p d is so_far.came;
  ordered = order_more p.header.number p.header.count 0 so_far.pieces p so_far.ordered refl refl (omega (arith, so_far.all));
  all = omega (arith, length_push so_far.pieces p, so_far.all);
  joined = flat_map-append (λ (q : Piece). q.bytes) so_far.pieces (p ∷ []) ∙ rw (so_far.joined, append-nil) refl;
}

-- ---- what is held came in order

abbrev IsCome : List Bytes → Stage → Bytes → Type 0
IsCome ds Empty bytes = Unit {0}
IsCome ds (Begun number count next) bytes = CameInOrder ds number count next bytes
IsCome ds Whole bytes = CameWhole ds bytes

come_with : (ds : List Bytes) (d : Bytes) (p : Piece) (before : Bytes) → CameInOrder (ds ++ d ∷ []) p.header.number p.header.count (p.header.index + 1) (before ++ p.bytes)
    → IsCome (ds ++ d ∷ []) (with_piece before p).1.stage (with_piece before p).1.bytes
come_with ds d p before came =
    elim (cases_Bool (eqb (p.header.index + 1) p.header.count)) [
      | inl last ↦
          let all : p.header.index + 1 ≡ p.header.count = eqb-true _ _ last in
          rw last (p.header.number, p.header.count, subst (λ (n : ℕ). CameInOrder (ds ++ d ∷ []) p.header.number p.header.count n (before ++ p.bytes)) all came)
      | inr other ↦ rw other came
    ]

still : (ds : List Bytes) (d : Bytes) (stage : Stage) (bytes : Bytes) → IsCome ds stage bytes → IsCome (ds ++ d ∷ []) stage bytes
still ds d Empty bytes come = tt
still ds d (Begun number count next) bytes come = came_still ds d number count next bytes come
still ds d Whole bytes come = (come.0, come.1, came_still ds d come.0 come.1 come.1 bytes come.2)

-- a piece that begins a message
come_first : (ds : List Bytes) (d : Bytes) (p : Piece) → piece_of d ≡ Ok p → p.header.index ≡ 0 → IsCome (ds ++ d ∷ []) (with_piece [] p).1.stage (with_piece [] p).1.bytes
come_first ds d p is place =
    come_with ds d p [] (came_more ds d p 0 [] is place (record { pieces = []; came = tt; ordered = tt; all = refl; joined = refl }))

-- a piece that goes on
come_next : (ds : List Bytes) (d : Bytes) (p : Piece) (stage : Stage) (bytes : Bytes) → piece_of d ≡ Ok p → goes_on stage p.header ≡ true → IsCome ds stage bytes → IsCome (ds ++ d ∷ []) (with_piece bytes p).1.stage (with_piece bytes p).1.bytes
come_next ds d p Empty bytes is next come = absurd cc
come_next ds d p Whole bytes is next come = absurd cc
come_next ds d p (Begun number count index) bytes is next come =
    let both = and_parts _ _ next in
    let first = and_parts _ _ both.0 in
    let number_is : number ≡ p.header.number = eqb-true _ _ first.0 in
    let count_is : count ≡ p.header.count = eqb-true _ _ first.1 in
    let index_is : index ≡ p.header.index = eqb-true _ _ both.1 in
    let so_far : CameInOrder ds p.header.number p.header.count index bytes = rw (← number_is, ← count_is) come in
    come_with ds d p bytes (came_more ds d p index bytes is (sym index_is) so_far)

come_taken : (ds : List Bytes) (d : Bytes) (p : Piece) (held : Held) → piece_of d ≡ Ok p → IsCome ds held.stage held.bytes → IsCome (ds ++ d ∷ []) (taken held p).1.stage (taken held p).1.bytes
come_taken ds d p held is come =
    elim (cases_Bool (eqb p.header.index 0)) [
      | inl first ↦ rw first (come_first ds d p is (eqb-true _ _ first))
      | inr later ↦ rw later (elim (cases_Bool (goes_on held.stage p.header)) [
        | inl next ↦ rw next (come_next ds d p held.stage held.bytes is next come)
        | inr other ↦ rw other (still ds d held.stage held.bytes come)
      ])
    ]

come_pushed : (ds : List Bytes) (d : Bytes) (held : Held) (read : Result Piece ℕ) → piece_of d ≡ read → IsCome ds held.stage held.bytes → IsCome (ds ++ d ∷ []) (push_of held d).1.stage (push_of held d).1.bytes
unfolding push_of
come_pushed ds d held (Ok p) is come = rw is (come_taken ds d p held is come)
come_pushed ds d held (Err at) is come = rw is (still ds d held.stage held.bytes come)

come_after : (before ds : List Bytes) (held : Held) → IsCome before held.stage held.bytes → IsCome (before ++ ds) (held_after held ds).stage (held_after held ds).bytes
come_after before [] held come = rw append-nil come
come_after before (d ∷ ds) held come =
    let rest = come_after (before ++ d ∷ []) ds (push_of held d).1 (come_pushed before d held (piece_of d) refl come) in
    rw append_assoc at rest

pub messages_come : MessagesComeWholeAndInOrder
messages_come datagrams message is =
    subst (λ (held : Held). IsCome datagrams held.stage held.bytes) is (come_after [] datagrams nothing_held tt)
