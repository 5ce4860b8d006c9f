use Rattle.std.proofs.Common.{◌≡◌, map}
use Rattle.std.specs.List.{range_with_len}
use Rattle.mb_frag.specs.Cutting.{piece_count, piece_text}
use Rattle.mb_frag.proofs.cutting.cut.Given as goal

abbrev pub invariant-loop-index : goal.invariant-loop-index
invariant-loop-index l = record {
  count_is : l.count ≡ piece_count l.message;
  cut_so_far : l.pieces.items ≡ map (piece_text l.sender l.number l.message) (range_with_len 0 l.index);
}
