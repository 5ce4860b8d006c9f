use Rattle.std.proofs.Common.{◌≡◌, ◌+◌, ◌≤◌, length}
use Rattle.mb_sched.specs.Lines.{lines, is_ended}
use Rattle.mb_sched.specs.TextLines.{all_lines}
use Rattle.mb_sched.specs.Configs.{max_config, op_line}
use Rattle.mb_sched.proofs.AllLines.{with_front}
use Rattle.mb_sched.proofs.configs.read_ops.Given as goal

abbrev pub invariant-loop-line : goal.invariant-loop-line
invariant-loop-line l = record {
  so_far : with_front l.ops (all_lines op_line (is_ended l.unread.rest.now) l.number (lines l.unread.rest.now))
      ≡ all_lines op_line (is_ended l.fn.unread.rest.now) 7 (lines l.fn.unread.rest.now);
  few : l.number + length l.unread.rest.now ≤ max_config + 7;
}

abbrev pub decreases-loop-line : goal.decreases-loop-line
decreases-loop-line l = length l.unread.rest.now
