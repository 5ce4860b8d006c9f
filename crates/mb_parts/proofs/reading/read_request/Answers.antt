use Rattle.std.proofs.Common.{rules}
use Rattle.mb_base.specs.Shapes.{IsShape}
use Rattle.mb_base.proofs.Laws.{IsBytes-drop}
use Rattle.mb_parts.proofs.Fields.{request_field}
use Rattle.mb_parts.proofs.Public.{is_spelled, reads_again}
use Rattle.mb_parts.proofs.reading.read_request.Goals as goal

pub returns : goal.returns
returns c =
    let s = c.args.shape.now in
    let h : IsShape s = search rules in
    let behind = IsBytes-drop c.args.fields.now.place c.args.fields.now.bytes.now c.args.fields.now.in_range in
    record {
      exact = c.read_or_stay.ensures.exact;
      found = is_spelled _ _ _ (request_field s h) c.read_or_stay.result c.args.fields.now c.read_or_stay.new.fields behind c.read_or_stay.ensures.exact;
      only = reads_again _ _ _ (request_field s h) c.read_or_stay.result c.args.fields.now c.read_or_stay.new.fields c.read_or_stay.ensures.exact;
      kept = c.read_or_stay.ensures.kept;
    }
