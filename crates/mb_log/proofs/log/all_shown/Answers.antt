use Rattle.std.proofs.Common.{rules, ◌≡◌, ◌++◌, [], ◌∷◌, slice_get, Some, sym, ap, ◌∙◌}
use Rattle.mb_model.specs.OwnLog.{as_shown}
use Rattle.mb_log.proofs.Keeping.{shown_more}
use Rattle.mb_log.proofs.log.all_shown.Goals as goal

pub loop-index-preserved : goal.loop-index-preserved
loop-index-preserved c =
    let l = c.loop-index in
    let items = c.args.entries.now.items in
    let x = c.kept_at.result.now in
    let at : slice_get items l.index ≡ Some x = search rules in
    let new : c.push.new.self ≡ l.shown ++ as_shown x ∷ [] = search rules in
    new ∙ (ap (λ s. s ++ as_shown x ∷ []) l.invariant ∙ sym (shown_more as_shown items l.index x at))
