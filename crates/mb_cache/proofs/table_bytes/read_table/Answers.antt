use Rattle.std.proofs.Common.{sym, ◌∙◌}
use Rattle.std.proofs.lemmas.Result.{err_from_is_err_and}
use Rattle.mb_base.specs.Fields.{place_of}
use Rattle.mb_cache.proofs.Faults.{table_fails, table_surplus}
use Rattle.mb_cache.proofs.table_bytes.read_table.Goals as goal

pub returns-in_err-replies-clause-read : goal.returns-in_err-replies-clause-read
returns-in_err-replies-clause-read c =
    let p = err_from_is_err_and c.from_residual.result c.from_residual.ensures.1 in
    rw (p.1, p.2) (table_fails c.args.clients c.args.part.now c.requires (place_of c.over-fields.result) c.over-fields.ensures c.in_err-replies.field-0.0 _ c.in_err-replies.ensures.read)

pub returns-clause-read : goal.returns-clause-read
returns-clause-read c =
    rw c.place.ensures
    (table_surplus c.args.clients c.args.part.now c.requires (place_of c.over-fields.result) c.over-fields.ensures c.in_ok-replies.replies.items (place_of c.read_each.new.fields) c.in_ok-replies.ensures.read (sym c.is_at_end.ensures ∙ c.if-is_at_end.false))
