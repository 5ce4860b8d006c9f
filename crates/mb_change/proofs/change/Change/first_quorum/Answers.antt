use Rattle.std.proofs.Common.{ℕ, Option, take}
use Rattle.mb_base.specs.Shapes.{quorum}
use Rattle.mb_msg.specs.declared.change.ViewChange.{ViewChange}
use Rattle.mb_change.specs.Evidences.{changes_to, change_of}
use Rattle.mb_change.proofs.Answering.{put_more, put_none}
use Rattle.mb_change.proofs.change.Change.first_quorum.Goals as goal
use Rattle.mb_change.proofs.change.Change.first_quorum.Goals.{in-Some+in_ok-duplicate+in_ok-push, in_default}

pub loop-host-preserved : goal.loop-host-preserved
loop-host-preserved c =
    let t = c.args.self.now in
    let find : ℕ → Option ViewChange = λ h. change_of h (take (quorum t.shape) (changes_to c.args.view t.changes)) in
    let at = c.loop-host in
    let found = c.among_first.ensures in
    elim c.match-among_first.branch [
      | in-Some+in_ok-duplicate+in_ok-push w ↦ rw w.chosen-is (put_more find at.host at.chosen.items _ c.among_first.result w.in-Some.change _ at.invariant found w.in-Some.is w.in_ok-duplicate.ensures w.in_ok-push.ensures.items)
      | in_default w ↦ rw w.chosen-is (put_none find at.host at.chosen.items c.among_first.result at.invariant found w.in_default.is)
    ]
