use Rattle.std.proofs.Common.{rules, ◌≡◌, ◌++◌, [], ◌∷◌, nat_eq, None, ap, ◌∙◌}
use Rattle.indexmap.specs.IndexMap.{get, shift_remove_entry}
use Rattle.indexmap.proofs.CallerLemmas.{insert_entry-new}
use Rattle.mb_change.proofs.change.put_last.Goals as goal

pub returns-clause-ok : goal.returns-clause-ok
returns-clause-ok c =
    let m = c.args.change in
    let gone : get nat_eq c.shift_remove.new.self m.ui.host ≡ None = c.shift_remove.ensures.updates.1 in
    let kept : c.reserve.new.self.entries ≡ c.args.changes.now.entries = search rules in
    c.in_ok-insert.ensures.entries
    ∙ (insert_entry-new nat_eq c.shift_remove.new.self m.ui.host m gone
    ∙ ap (λ es. es ++ (m.ui.host, m) ∷ []) (c.shift_remove.ensures.entries ∙ ap (shift_remove_entry (nat_eq m.ui.host)) kept))
