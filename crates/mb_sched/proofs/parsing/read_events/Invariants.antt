use Rattle.std.proofs.Common.{◌≡◌, ◌+◌, ◌≤◌, length}
use Rattle.mb_base.specs.Shapes.{host_count, client_count}
use Rattle.mb_sched.specs.Lines.{lines, is_ended}
use Rattle.mb_sched.specs.Schedules.{events_from}
use Rattle.mb_schedule.specs.Limits.{max_text}
use Rattle.mb_sched.proofs.AllLines.{with_front}
use Rattle.mb_sched.proofs.parsing.read_events.Given as goal

abbrev pub invariant-loop-line : goal.invariant-loop-line
invariant-loop-line l = record {
  so_far : with_front l.events (events_from (host_count l.shape) (client_count l.shape) (is_ended l.unread.rest.now) l.number (lines l.unread.rest.now))
      ≡ events_from (host_count l.shape) (client_count l.shape) (is_ended l.fn.unread.rest.now) 7 (lines l.fn.unread.rest.now);
  few : l.number + length l.unread.rest.now ≤ max_text + 7;
}

abbrev pub decreases-loop-line : goal.decreases-loop-line
decreases-loop-line l = length l.unread.rest.now
