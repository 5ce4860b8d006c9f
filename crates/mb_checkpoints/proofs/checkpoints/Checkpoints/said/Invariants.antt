use Rattle.std.proofs.Common.{◌≡◌}
use Rattle.std.specs.List.{filter_map}
use Rattle.mb_checkpoints.specs.Agreement.{said_in}
use Rattle.mb_checkpoints.specs.Certificates.{row}
use Rattle.mb_checkpoints.proofs.checkpoints.Checkpoints.said.Given as goal

abbrev pub invariant-loop-host : goal.invariant-loop-host
invariant-loop-host l = l.all ≡ filter_map (said_in l.owner) (row l.self l.number l.host)
