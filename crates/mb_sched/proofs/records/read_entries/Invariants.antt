use Rattle.std.proofs.Common.{◌≡◌, ◌+◌, ◌≤◌, length}
use Rattle.mb_sched.specs.Lines.{lines, is_ended}
use Rattle.mb_sched.specs.Records.{max_record, entries_from}
use Rattle.mb_sched.proofs.AllLines.{with_front}
use Rattle.mb_sched.proofs.records.read_entries.Given as goal

abbrev pub invariant-loop-entries : goal.invariant-loop-entries
invariant-loop-entries l = record {
  so_far : with_front l.entries (entries_from (is_ended l.unread.rest.now) l.number (lines l.unread.rest.now))
      ≡ entries_from (is_ended l.fn.unread.rest.now) 8 (lines l.fn.unread.rest.now);
  few : l.number + length l.unread.rest.now ≤ max_record + 8;
}

abbrev pub decreases-loop-entries : goal.decreases-loop-entries
decreases-loop-entries l = length l.unread.rest.now
