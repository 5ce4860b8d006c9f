-- The pieces of a message, pushed in order.
use Rattle.std.proofs.Common.{◌≡◌, ℕ, zero, suc, ◌+◌, ◌-◌, ◌*◌, ◌^◌, ◌<◌, ◌≤◌, ◌⊎◌, inl, inr, true, false, eqb, List, [], ◌∷◌, ◌++◌, map, length, take, Ok, refl, ap, subst, ◌∙◌, arith}
use Rattle.std.specs.List.{range_with_len}
use Rattle.std.proofs.lemmas.Bool.{eq-eqb, ne_eqb}
use Rattle.std.proofs.lemmas.List.{take_all}
use Rattle.mb_base.specs.Shapes.{Bytes}
use Rattle.mb_frag.specs.declared.pushed.Pushed.{Pushed}
use Rattle.mb_frag.specs.declared.pushed.Pushed.TheVariants.{NotYet, Whole}
use Rattle.mb_frag.specs.declared.stage.Stage.TheVariants.{Begun}
use Rattle.mb_base.specs.declared.limits.TheConstants.{MESSAGE_LIMIT}
use Rattle.mb_frag.specs.declared.limits.TheConstants.{PIECE, MAX_COUNT}
use Rattle.mb_frag.specs.Pieces.{Piece}
use Rattle.mb_frag.specs.Cutting.{piece_count, part, header_of, piece_text, pieces_of}
use Rattle.mb_frag.specs.Reading.{piece_of}
use Rattle.mb_frag.specs.Held.{Held, whole, Step, with_piece, taken, push_of}
use Rattle.mb_frag.specs.Promises.{answers, held_after, PiecesGiveTheMessage}
use Rattle.mb_frag.proofs.ReadingLemmas.{datagram_again}
use Rattle.mb_frag.proofs.CuttingLemmas.{count_bounds, part_short, part_enough, take_part}

same : (n : ℕ) → eqb n n ≡ true
same n = eq-eqb n n refl

-- a piece of a message
abbrev piece_on : ℕ → ℕ → Bytes → ℕ → Piece
piece_on sender number message index = record { header = header_of sender number message index; bytes = part message index }

-- what is held after the pieces before one
abbrev begun : ℕ → Bytes → ℕ → Held
begun number message index = record { stage = Begun number (piece_count message) index; bytes = take (index * PIECE) message }

-- the piece begins the message, or those before it were pushed
abbrev IsReady : ℕ → Bytes → ℕ → Held → Type 0
IsReady number message index held = (index ≡ 0) ⊎ (held ≡ begun number message index)

module _ (sender number : ℕ) (message : Bytes) (sender_fits : sender < 2 ^ 8) (number_fits : number < 2 ^ 32) (fits : length message ≤ MESSAGE_LIMIT) where
  piece_again : (index : ℕ) → index < piece_count message → piece_of (piece_text sender number message index) ≡ Ok (piece_on sender number message index)
  piece_again index lt =
      let bounds = count_bounds message in
      let most : piece_count message ≤ MAX_COUNT = omega arith in
      datagram_again (header_of sender number message index) (part message index)
      (record { sender = sender_fits; number = number_fits; above = lt; most = most })
      (part_enough sender number message index lt) (part_short message index)

  push_text : (held : Held) (index : ℕ) → index < piece_count message → push_of held (piece_text sender number message index) ≡ taken held (piece_on sender number message index)
  unfolding push_of
  push_text held index lt = rw (piece_again index lt) refl

  taken_next : (index : ℕ) (held : Held) → IsReady number message index held → taken held (piece_on sender number message index) ≡ with_piece (take (index * PIECE) message) (piece_on sender number message index)
  taken_next zero held ready = refl
  taken_next (suc index) held (inl never) = absurd cc
  taken_next (suc index) held (inr is) =
      let later : eqb (suc index) 0 ≡ false = ne_eqb (suc index) 0 (λ e. omega arith) in
      rw (is, later, same number, same (piece_count message), same (suc index)) refl

  -- a piece that isn't the last
  push_next : (index : ℕ) (held : Held) → IsReady number message index held → index + 1 < piece_count message
      → push_of held (piece_text sender number message index) ≡ (NotYet (index + 1), begun number message (index + 1))
  push_next index held ready more =
      let test : eqb (index + 1) (piece_count message) ≡ false = ne_eqb (index + 1) (piece_count message) (λ e. omega arith) in
      let step : with_piece (take (index * PIECE) message) (piece_on sender number message index) ≡ (NotYet (index + 1), begun number message (index + 1)) = rw (test, take_part message index) refl in
      push_text held index (omega arith) ∙ taken_next index held ready ∙ step

  -- the last piece
  push_last : (index : ℕ) (held : Held) → IsReady number message index held → index + 1 ≡ piece_count message
      → push_of held (piece_text sender number message index) ≡ (Whole, whole message)
  push_last index held ready last =
      let bounds = count_bounds message in
      let test : eqb (index + 1) (piece_count message) ≡ true = eq-eqb (index + 1) (piece_count message) last in
      let all : take (index * PIECE) message ++ part message index ≡ message = take_part message index ∙ take_all ((index + 1) * PIECE) message (omega arith) in
      let step : with_piece (take (index * PIECE) message) (piece_on sender number message index) ≡ (Whole, whole message) = rw (test, all) refl in
      push_text held index (omega arith) ∙ taken_next index held ready ∙ step

  -- the pieces from one on
  push_rest : (more index : ℕ) (held : Held) → IsReady number message index held → index + suc more ≡ piece_count message
      → (answers held (map (piece_text sender number message) (range_with_len index (suc more))) ≡ map NotYet (range_with_len (index + 1) more) ++ Whole ∷ [])
      × (held_after held (map (piece_text sender number message) (range_with_len index (suc more))) ≡ whole message)
  push_rest zero index held ready end =
      let step = push_last index held ready (omega arith) in
      (ap (λ (p : Step). p.0 ∷ []) step, ap (λ (p : Step). p.1) step)
  push_rest (suc more) index held ready end =
      let step = push_next index held ready (omega arith) in
      let texts = map (piece_text sender number message) (range_with_len (index + 1) (suc more)) in
      let rest = push_rest more (index + 1) (begun number message (index + 1)) (inr refl) (omega arith) in (
        ap (λ (p : Step). p.0 ∷ answers p.1 texts) step ∙ ap (λ (xs : List Pushed). NotYet (index + 1) ∷ xs) rest.0,
        ap (λ (p : Step). held_after p.1 texts) step ∙ rest.1,
      )

pub pieces_give : PiecesGiveTheMessage
unfolding pieces_of
pieces_give held sender number message sender_fits number_fits some fits =
    let bounds = count_bounds message in
    let count : suc (piece_count message - 1) ≡ piece_count message = omega arith in
    let text = piece_text sender number message in
    subst (λ (n : ℕ). (answers held (map text (range_with_len 0 n)) ≡ map NotYet (range_with_len 1 (piece_count message - 1)) ++ Whole ∷ []) × (held_after held (map text (range_with_len 0 n)) ≡ whole message)) count
    (push_rest sender number message sender_fits number_fits fits (piece_count message - 1) 0 held (inl refl) (omega arith))
