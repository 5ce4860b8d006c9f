use Rattle.std.proofs.Common.{◌≡◌}
use Rattle.std.specs.Option.{option_copied}
use Rattle.mb_base.specs.Shapes.{host_count, client_count}
use Rattle.mb_sched.specs.Words.{all_of, name_in, words_behind, after}
use Rattle.mb_sched.proofs.Pieces.{words_left, bytes_left}
use Rattle.mb_sched.proofs.header.names_behind.Given as goal

abbrev pub invariant-loop-rest : goal.invariant-loop-rest
invariant-loop-rest l = after l.names (all_of (name_in (host_count l.shape) (client_count l.shape)) (words_left l.rest))
    ≡ all_of (name_in (host_count l.shape) (client_count l.shape)) (words_behind (option_copied l.fn.behind))

abbrev pub decreases-loop-rest : goal.decreases-loop-rest
decreases-loop-rest l = bytes_left l.rest
