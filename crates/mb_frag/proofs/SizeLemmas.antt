-- How many bytes a message has that its last piece makes whole.
use Rattle.std.proofs.Common.{◌≡◌, ◌+◌, ◌*◌, ◌≤◌, true, false, ◌++◌, length, arith, length-append}
use Rattle.std.specs.Prelude.{◌==◌, if◌then◌else◌}
use Rattle.mb_base.specs.Shapes.{Bytes}
use Rattle.mb_frag.specs.declared.piece.Header.{Header}
use Rattle.mb_frag.specs.declared.piece.Piece.{Piece as Borrowed}
use Rattle.mb_frag.specs.declared.limits.TheConstants.{PIECE}
use Rattle.mb_frag.specs.Reading.{least_bytes}
use Rattle.mb_frag.specs.Seen.{PieceFits}
use Rattle.mb_frag.specs.Stages.{IsSized}

some_bytes : (h : Header) → 1 ≤ least_bytes h
some_bytes h = elim (h.index + 1 == h.count) as (λ last. 1 ≤ (if last then 1 else PIECE)) [ true ↦ omega arith | false ↦ omega arith ]

pub last_sized : (p : Borrowed) (before : Bytes) → PieceFits p → length before ≡ p.header.index * PIECE → IsSized (before ++ p.bytes.now)
last_sized p before fits place =
    let some = some_bytes p.header in
    let enough = fits.enough in
    let short = fits.short in
    let below = fits.header.0 in
    let few = fits.header.1 in
    (omega (arith, length-append before p.bytes.now), omega (arith, length-append before p.bytes.now))
