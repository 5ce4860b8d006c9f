use Rattle.std.proofs.Common.{arith}
use Rattle.mb_frag.proofs.ReadingLemmas.{piece_fault}
use Rattle.mb_frag.proofs.reassembler.Reassembler.push.Goals as goal

pub overflow_cast-result : goal.overflow_cast-result
overflow_cast-result c = omega (arith, piece_fault _ _ c.in-Err.ensures.read)
