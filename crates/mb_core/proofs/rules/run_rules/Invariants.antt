use Rattle.std.proofs.Common.{◌-◌}
use Rattle.mb_base.specs.Limits.{rule_limit}
use Rattle.mb_replica.specs.Represents.{IsInStep}
use Rattle.mb_core.proofs.RuleLoop.{Runs}
use Rattle.mb_core.proofs.rules.run_rules.Given as goal

abbrev pub invariant-loop-round : goal.invariant-loop-round
invariant-loop-round g l = record {
  stepping : IsInStep g.V.Service.machine l.replica l.done;
  runs : Runs g.V.Service.machine l.fn.replica l.fn.done l.replica l.done (rule_limit - l._round);
}
