use Rattle.std.proofs.Common.{◌∙◌, arith}
use Rattle.mb_change.specs.Tables.{enter_at}
use Rattle.mb_change.proofs.Answering.{told, count_more, count_same}
use Rattle.mb_change.proofs.change.Change.is_answered.Goals as goal
use Rattle.mb_change.proofs.change.Change.is_answered.Goals.{then-is_some, else-is_some}

pub loop-host-preserved : goal.loop-host-preserved
loop-host-preserved c =
    let enter = enter_at c.args.self.now in
    let n = c.args.new_view.now in
    let at = c.loop-host in
    let few = at.invariant.0 in
    elim c.if-is_some.branch [
      | then-is_some w ↦ (omega (arith, few, w.count-is), w.count-is ∙ count_more enter n at.host at.count at.invariant.1 (told c.answer_of.result _ _ c.answer_of.ensures w.if-is_some.ensures))
      | else-is_some w ↦ (omega (arith, few, w.count-is), w.count-is ∙ count_same enter n at.host at.count at.invariant.1 (told c.answer_of.result _ _ c.answer_of.ensures w.if-is_some.ensures))
    ]
