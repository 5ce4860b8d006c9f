use Rattle.std.proofs.lemmas.Result.{err_from_is_err_and}
use Rattle.mb_frag.proofs.ReadingLemmas.{piece_read, header_failed, piece_short, piece_long, piece_whole}
use Rattle.mb_frag.proofs.piece.Piece.read.Goals as goal

pub returns-in_err-header-clause-read : goal.returns-in_err-header-clause-read
returns-in_err-header-clause-read c =
    let error = err_from_is_err_and c.from_residual.result c.from_residual.ensures.1 in
    rw (error.1, error.2) (header_failed _ _ _ c.over-fields.ensures c.in_err-header.ensures.read.0)

pub slice_bounds-bytes-count : goal.slice_bounds-bytes-count
slice_bounds-bytes-count c = (piece_read _ _ _ _ c.over-fields.ensures c.in_ok-header.ensures.read).0

pub slice_bounds-bytes-start : goal.slice_bounds-bytes-start
slice_bounds-bytes-start c = (piece_read _ _ _ _ c.over-fields.ensures c.in_ok-header.ensures.read).0

pub returns-then-bytes-least_bytes-clause-read : goal.returns-then-bytes-least_bytes-clause-read
returns-then-bytes-least_bytes-clause-read c =
    piece_short _ _ _ _ _ c.over-fields.ensures c.in_ok-header.ensures.read c.least_bytes.ensures c.if-bytes-least_bytes.true

pub returns-then-bytes-gt-PIECE-clause-read : goal.returns-then-bytes-gt-PIECE-clause-read
returns-then-bytes-gt-PIECE-clause-read c =
    piece_long _ _ _ _ _ c.over-fields.ensures c.in_ok-header.ensures.read c.least_bytes.ensures c.if-bytes-least_bytes.false c.if-bytes-gt-PIECE.true

pub returns-clause-read : goal.returns-clause-read
returns-clause-read c =
    piece_whole _ _ _ _ _ c.over-fields.ensures c.in_ok-header.ensures.read c.least_bytes.ensures c.if-bytes-least_bytes.false c.if-bytes-gt-PIECE.false
