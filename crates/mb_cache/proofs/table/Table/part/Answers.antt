use Rattle.std.proofs.Common.{◌≡◌, ◌≤◌, length, ap, sym, subst, ◌∙◌, List, Ok}
use Rattle.std.specs.List.{AllByRecursion}
use Rattle.std.proofs.lemmas.Result.{IfOk-weaker}
use Rattle.mb_base.specs.Limits.{part_limit}
use Rattle.mb_base.specs.Shapes.{Bytes}
use Rattle.mb_model.specs.declared.known.LastReply.{LastReply}
use Rattle.mb_model.specs.States.{table_bytes, table_of}
use Rattle.mb_cache.specs.Tables.{IsLast, IsTable}
use Rattle.mb_cache.proofs.Back.{table_back}
use Rattle.mb_cache.proofs.Clients.{table_short}
use Rattle.mb_cache.proofs.table.Table.part.Goals as goal

pub returns-clause-back : goal.returns-clause-back
returns-clause-back c =
    let table = c.args.self.now in
    let same : c.as_slice.result.now ≡ table = c.as_slice.ensures.value ∙ c.self.view_is in
    let back = table_back table (subst (λ (t : List LastReply). AllByRecursion IsLast t) c.self.view_is c.self.invariant.each) in
    IfOk-weaker c.write_table.result (λ p. p ≡ table_bytes c.as_slice.result.now) (λ p. table_of (length table) p ≡ Ok table)
    (λ p is. ap (table_of (length table)) (is ∙ ap table_bytes same) ∙ back) c.write_table.ensures

pub returns-clause-short : goal.returns-clause-short
returns-clause-short c =
    let table = c.args.self.now in
    let same : c.as_slice.result.now ≡ table = c.as_slice.ensures.value ∙ c.self.view_is in
    let short = table_short table (subst IsTable c.self.view_is c.self.invariant) in
    IfOk-weaker c.write_table.result (λ p. p ≡ table_bytes c.as_slice.result.now) (λ p. length p ≤ part_limit)
    (λ p is. subst (λ (b : Bytes). length b ≤ part_limit) (sym (is ∙ ap table_bytes same)) short) c.write_table.ensures
