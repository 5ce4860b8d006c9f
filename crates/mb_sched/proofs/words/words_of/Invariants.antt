use Rattle.std.proofs.Common.{◌≡◌, ◌++◌}
use Rattle.mb_sched.specs.Words.{words, texts}
use Rattle.mb_sched.proofs.Pieces.{words_left, bytes_left}
use Rattle.mb_sched.proofs.words.words_of.Given as goal

abbrev pub invariant-loop-rest : goal.invariant-loop-rest
invariant-loop-rest l = texts l.list.items ++ words_left l.rest ≡ words l.line

abbrev pub decreases-loop-rest : goal.decreases-loop-rest
decreases-loop-rest l = bytes_left l.rest
