use Rattle.std.proofs.Common.{◌≡◌, [], None}
use Rattle.mb_model.specs.Verified.{verifies}
use Rattle.mb_model.specs.UsableLogs.{entries_fault}
use Rattle.mb_plan.proofs.TakenEntries.{at_end}
use Rattle.mb_plan.proofs.shown.check_entries.Goals as goal

pub returns-clause-fault : goal.returns-clause-fault
returns-clause-fault c =
    let s = c.args.shape.now in
    let secret = c.args.usig.now.secret in
    let host = c.args.change.now.ui.host in
    let none : entries_fault s secret (verifies secret) host c.args.body.now.stable.pos c.args.floor [] c.args.body.now.entries ≡ None =
    rw (← c.as_slice-entries.ensures) (c.in_ok-take_entries.ensures.fault c.args.floor c.from-gate.ensures) in
    rw (none, ← at_end s host c.args.floor c.args.body.now.entries c.args.change.now.view c.args.change.now.ui.counter)
    (rw (← c.as_slice-entries.ensures) (c.check_end.ensures _ (c.in_ok-take_entries.ensures.stands c.args.floor c.from-gate.ensures)))
