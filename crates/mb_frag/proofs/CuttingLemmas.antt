-- The parts of a message: how long they are, and that they are the message when they are joined.
use Rattle.std.proofs.Common.{◌≡◌, ℕ, zero, suc, ◌+◌, ◌-◌, ◌*◌, ◌<◌, ◌≤◌, min, eqb, inl, inr, lit<, List, [], ◌∷◌, ◌++◌, map, length, take, drop, refl, sym, ap, ◌∙◌, arith, length-take, length-drop, take-add, flat_map}
use Rattle.std.specs.List.{range_with_len}
use Rattle.std.proofs.lemmas.Bool.{cases_lt, cond_both, eqb-true, eqb-false}
use Rattle.std.proofs.lemmas.Grind.{div_ceil_times}
use Rattle.std.proofs.lemmas.List.FromFn.{map-range_with_len_more}
use Rattle.std.proofs.lemmas.List.{take_all, drop-drop, take_rest}
use Rattle.mb_base.specs.Shapes.{Bytes}
use Rattle.mb_frag.specs.declared.limits.TheConstants.{PIECE}
use Rattle.mb_frag.specs.Pieces.{datagram_of}
use Rattle.mb_frag.specs.Cutting.{piece_count, part, header_of, piece_text, pieces_of}
use Rattle.mb_frag.specs.Reading.{least_bytes}
use Rattle.mb_frag.proofs.ReadingLemmas.{drop-datagram}

take_short : (xs : Bytes) (n : ℕ) → n ≡ min (length xs) PIECE → take n xs ≡ take PIECE xs
take_short xs n is =
    elim (cases_lt PIECE (length xs)) [
      | inl long ↦ let same : n ≡ PIECE = omega arith in ap (λ (k : ℕ). take k xs) same
      | inr short ↦ let most : length xs ≤ n = omega arith in take_all n xs most ∙ sym (take_all PIECE xs short)
    ]

-- the part that stands from a place on
pub part_given : (message : Bytes) (start n : ℕ) → n ≡ min (length (take (length message - start) (drop start message))) PIECE → take n (take (length message - start) (drop start message)) ≡ take PIECE (drop start message)
part_given message start n is =
    take_short (take (length message - start) (drop start message)) n is ∙ ap (λ (xs : Bytes). take PIECE xs) (take_rest message start)

-- as many pieces as are needed, and no more
pub count_bounds : (message : Bytes) → (length message ≤ piece_count message * PIECE) × (piece_count message * PIECE < length message + PIECE)
count_bounds message = div_ceil_times (length message) PIECE (lit< tt)

pub part_short : (message : Bytes) (index : ℕ) → length (part message index) ≤ PIECE
part_short message index = omega (arith, length-take PIECE (drop (index * PIECE) message))

enough : (len count index bytes : ℕ) → len ≤ count * PIECE → count * PIECE < len + PIECE → index < count → bytes ≡ min PIECE (len - index * PIECE) → (index + 1 ≡ count → 1 ≤ bytes) × (index + 1 < count → PIECE ≤ bytes)
enough len count index bytes fits no_more lt is = (λ last. omega arith, λ more. omega arith)

-- each part but the last is full
pub part_enough : (sender number : ℕ) (message : Bytes) (index : ℕ) → index < piece_count message → least_bytes (header_of sender number message index) ≤ length (part message index)
part_enough sender number message index lt =
    let bounds = count_bounds message in
    let len : length (part message index) ≡ min PIECE (length message - index * PIECE) = length-take PIECE (drop (index * PIECE) message) ∙ ap (min PIECE) (length-drop (index * PIECE) message) in
    let both = enough (length message) (piece_count message) index (length (part message index)) bounds.0 bounds.1 lt len in
    cond_both (eqb (index + 1) (piece_count message)) 1 PIECE (λ (n : ℕ). n ≤ length (part message index))
    (λ last. both.0 (eqb-true (index + 1) (piece_count message) last))
    (λ other. let ne = eqb-false (index + 1) (piece_count message) other in both.1 (omega arith))

-- the bytes before a part, and that part
pub take_part : (message : Bytes) (index : ℕ) → take (index * PIECE) message ++ part message index ≡ take ((index + 1) * PIECE) message
take_part message index =
    let place : (index + 1) * PIECE ≡ index * PIECE + PIECE = omega arith in
    sym (ap (λ (n : ℕ). take n message) place ∙ take-add (index * PIECE) PIECE message)

-- a part, and those behind it
part_take : (message : Bytes) (index more : ℕ) → part message index ++ take (more * PIECE) (drop ((index + 1) * PIECE) message) ≡ take (suc more * PIECE) (drop (index * PIECE) message)
part_take message index more =
    let size : suc more * PIECE ≡ PIECE + more * PIECE = omega arith in
    let place : (index + 1) * PIECE ≡ index * PIECE + PIECE = omega arith in
    let rest : drop ((index + 1) * PIECE) message ≡ drop PIECE (drop (index * PIECE) message) = ap (λ (n : ℕ). drop n message) place ∙ sym (drop-drop PIECE (index * PIECE) message) in
    ap (λ (xs : Bytes). part message index ++ take (more * PIECE) xs) rest
    ∙ sym (ap (λ (n : ℕ). take n (drop (index * PIECE) message)) size ∙ take-add PIECE (more * PIECE) (drop (index * PIECE) message))

joined_from : (sender number : ℕ) (message : Bytes) (more index : ℕ) → flat_map (drop 9) (map (piece_text sender number message) (range_with_len index more)) ≡ take (more * PIECE) (drop (index * PIECE) message)
joined_from sender number message zero index = refl
joined_from sender number message (suc more) index =
    let first : drop 9 (piece_text sender number message index) ≡ part message index = drop-datagram (header_of sender number message index) (part message index) in
    rw (first, joined_from sender number message more (index + 1)) (part_take message index more)

-- what stands behind the headers is the message
pub pieces_joined : (sender number : ℕ) (message : Bytes) → flat_map (drop 9) (pieces_of sender number message) ≡ message
unfolding pieces_of
pieces_joined sender number message =
    joined_from sender number message (piece_count message) 0 ∙ take_all (piece_count message * PIECE) message (count_bounds message).0

-- one piece more
pub cut_more : (sender number index count : ℕ) (message bytes text : Bytes) (old new : List Bytes) → count ≡ piece_count message → bytes ≡ part message index
    → text ≡ datagram_of (record { sender = sender; number = number; index = index; count = count }) bytes
    → old ≡ map (piece_text sender number message) (range_with_len 0 index) → new ≡ old ++ text ∷ [] → new ≡ map (piece_text sender number message) (range_with_len 0 (index + 1))
cut_more sender number index count message bytes text old new count_is bytes_is text_is so_far more =
    let last : text ≡ piece_text sender number message index = text_is ∙ rw (count_is, bytes_is) refl in
    more ∙ rw (so_far, last) (sym (map-range_with_len_more (piece_text sender number message) 0 index index (omega arith)))

-- all of them
pub cut_all : (sender number index : ℕ) (message : Bytes) (texts : List Bytes) → texts ≡ map (piece_text sender number message) (range_with_len 0 index) → index ≡ piece_count message → texts ≡ pieces_of sender number message
unfolding pieces_of
cut_all sender number index message texts so_far all = so_far ∙ ap (λ (n : ℕ). map (piece_text sender number message) (range_with_len 0 n)) all
