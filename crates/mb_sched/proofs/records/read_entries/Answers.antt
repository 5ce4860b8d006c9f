use Rattle.std.proofs.Common.{◌≡◌, ◌++◌, ◌∷◌, [], Err, arith, rules}
use Rattle.mb_sched.specs.Lines.{lines, is_ended}
use Rattle.mb_sched.proofs.RecordLines.{goes_on, is_done, fails}
use Rattle.mb_sched.proofs.records.read_entries.Goals as goal

pub returns-in_err-entry : goal.returns-in_err-entry
returns-in_err-entry c =
    let failed : c.from_residual.result ≡ Err c.in_err-entry.field-0.0 = search rules in
    rw failed (fails (is_ended c.loop-entries.unread.rest.now) c.loop-entries.entries c.loop-entries.number (lines c.loop-entries.unread.rest.now) _ c.in_err-entry.field-0.0 c.in_err-entry.ensures.read c.loop-entries.invariant.so_far)

pub loop-entries-preserved : goal.loop-entries-preserved
loop-entries-preserved c =
    let read = rw c.in-Some.is at c.in_ok-entry.ensures.read in
    let left = rw c.in-Some.is at c.in_ok-entry.ensures.left in
    let shorter = rw c.in-Some.is at c.in_ok-entry.ensures.shorter in
    let items : c.push.new.self ≡ c.loop-entries.entries ++ c.in-Some.entry ∷ [] = search rules in
    record {
      so_far = rw (items, left, c.next_entry.ensures.ended) (goes_on (is_ended c.loop-entries.unread.rest.now) c.loop-entries.entries c.loop-entries.number (lines c.loop-entries.unread.rest.now) _ c.in-Some.entry read c.loop-entries.invariant.so_far);
      few = omega (arith, shorter);
    }

pub returns : goal.returns
returns c =
    let read = rw c.in_default.is at c.in_ok-entry.ensures.read in
    is_done (is_ended c.loop-entries.unread.rest.now) c.loop-entries.entries c.loop-entries.number (lines c.loop-entries.unread.rest.now) _ read c.loop-entries.invariant.so_far
