use Rattle.std.proofs.Common.{◌≡◌, ◌<◌, ◌^◌, ◌++◌, drop}
use Rattle.mb_model.specs.Making.{fitting}
use Rattle.mb_executor.specs.Sent.{kept_at}
use Rattle.mb_executor.proofs.snapshots.add_fitting.Given as goal

abbrev pub invariant-loop-number : goal.invariant-loop-number
invariant-loop-number l = record {
  parts : l.parts ++ fitting l.used (drop l.number (kept_at l.shelf l.pos)) ≡ l.initial.parts ++ fitting l.taken (drop l.next (kept_at l.shelf l.pos));
  short : l.used < 2 ^ 63;
}
