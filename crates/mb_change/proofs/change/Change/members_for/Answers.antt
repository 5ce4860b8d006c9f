use Rattle.std.proofs.Common.{◌<◌, ◌≤◌, length, ap, ◌∙◌, arith}
use Rattle.mb_base.specs.Shapes.{max_faults}
use Rattle.mb_change.specs.Tables.{Table, enter_at}
use Rattle.mb_change.proofs.Answering.{member_put, member_none, members_full}
use Rattle.mb_change.proofs.change.Change.members_for.Goals as goal
use Rattle.mb_change.proofs.change.Change.members_for.Goals.{then-len-from+in-Some+in_ok-push, then-len-from+in_default, else-len-from}

pub loop-host-preserved : goal.loop-host-preserved
loop-host-preserved c =
    let enter = enter_at c.args.self.now in
    let n = c.args.new_view.now in
    let f = max_faults c.args.self.now.shape in
    let at = c.loop-host in
    let same = ap (λ (t : Table). max_faults t.shape) c.self.view_is in
    let len = c.len.ensures in
    let from = c.from.ensures in
    let most = c.f.ensures in
    elim c.if-len-from.branch [
      | then-len-from+in-Some+in_ok-push w ↦
          let few : length at.members < f = omega (arith, same, len, from, most, w.if-len-from.true) in
          w.members-is ∙ member_put enter n f at.host at.members _ w.answer_of.result w.in-Some.enter at.invariant few w.answer_of.ensures w.in-Some.is w.in_ok-push.ensures.ok
      | then-len-from+in_default w ↦ w.members-is ∙ member_none enter n f at.host at.members w.answer_of.result at.invariant w.answer_of.ensures w.in_default.is
      | else-len-from w ↦
          let full : f ≤ length at.members = omega (arith, same, len, from, most, w.if-len-from.false) in
          w.members-is ∙ members_full enter n f at.host at.members at.invariant full
    ]
