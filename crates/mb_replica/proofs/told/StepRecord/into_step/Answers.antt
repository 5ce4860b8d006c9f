use Rattle.std.proofs.Common.{sym, subst}
use Rattle.mb_replica.specs.Lengths.{AreMessageLong}
use Rattle.mb_replica.proofs.SentLengths.{plain_long}
use Rattle.mb_replica.proofs.told.StepRecord.into_step.Goals as goal

-- src/told.rt
pub returns-clause-lengths : goal.returns-clause-lengths
returns-clause-lengths c = subst AreMessageLong (sym c.in_ok-plain_all.ensures) (plain_long c.args.self.sent c.requires)
