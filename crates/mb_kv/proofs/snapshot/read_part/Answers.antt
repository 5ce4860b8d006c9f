use Rattle.std.proofs.Common.{sym, ◌∙◌, arith}
use Rattle.std.proofs.lemmas.Result.{err_from_is_err_and}
use Rattle.std.proofs.lemmas.List.{length-map}
use Rattle.mb_base.specs.Fields.{place_of}
use Rattle.mb_kv.specs.Seen.{pair_seen, pairs_seen}
use Rattle.mb_kv.specs.Laws.PairLaws.{part_has_room}
use Rattle.mb_kv.proofs.PartLaws.{count_fault, entries_fault, part_whole, part_surplus}
use Rattle.mb_kv.proofs.snapshot.read_part.Goals as goal

pub returns-in_err-count-clause-read : goal.returns-in_err-count-clause-read
returns-in_err-count-clause-read c =
    let p = err_from_is_err_and c.from_residual.result c.from_residual.ensures.1 in
    rw (p.1, p.2) (count_fault c.args.bucket c.args.room c.args.part.now (place_of c.over-fields.result) c.over-fields.ensures c.in_err-count.field-0.0.at c.in_err-count.ensures.read.0)

pub returns-in_err-entries-clause-read : goal.returns-in_err-entries-clause-read
returns-in_err-entries-clause-read c =
    let p = err_from_is_err_and c.from_residual-in_err-entries.result c.from_residual-in_err-entries.ensures.1 in
    rw (p.1, p.2) (entries_fault c.args.bucket c.args.room c.args.part.now (place_of c.over-fields.result) c.over-fields.ensures c.in_ok-count.count (place_of c.get_u16.new.self) c.in_ok-count.ensures.read c.in_err-entries.field-0.0 c.requires c.in_err-entries.ensures.read)

pub returns-then-is_at_end-clause-read : goal.returns-then-is_at_end-clause-read
returns-then-is_at_end-clause-read c =
    part_whole c.args.bucket c.args.room c.args.part.now (place_of c.over-fields.result) c.over-fields.ensures c.in_ok-count.count (place_of c.get_u16.new.self) c.in_ok-count.ensures.read (pairs_seen c.in_ok-entries.entries.items) (place_of c.read_pairs.new.fields) c.in_ok-entries.ensures.read (sym c.is_at_end.ensures ∙ c.if-is_at_end.true)

pub returns-then-is_at_end-clause-few : goal.returns-then-is_at_end-clause-few
returns-then-is_at_end-clause-few c =
    let es = c.in_ok-entries.entries.items in
    omega (arith, part_has_room c.args.bucket c.args.room c.args.part.now (pairs_seen es) (returns-then-is_at_end-clause-read c), length-map es pair_seen)

pub returns-clause-read : goal.returns-clause-read
returns-clause-read c =
    rw c.place.ensures
    (part_surplus c.args.bucket c.args.room c.args.part.now (place_of c.over-fields.result) c.over-fields.ensures c.in_ok-count.count (place_of c.get_u16.new.self) c.in_ok-count.ensures.read (pairs_seen c.in_ok-entries.entries.items) (place_of c.read_pairs.new.fields) c.in_ok-entries.ensures.read c.requires (sym c.is_at_end.ensures ∙ c.if-is_at_end.false))
