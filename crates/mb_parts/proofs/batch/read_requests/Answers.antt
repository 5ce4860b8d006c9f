use Rattle.std.proofs.lemmas.Result.{err_from_is_err_and}
use Rattle.mb_base.specs.Limits.{batch_bytes_limit}
use Rattle.mb_base.specs.Fields.{place_of}
use Rattle.mb_base.specs.Reading.{bounded_at}
use Rattle.mb_base.proofs.Loops.{bounded_goes_on, bounded_is_done}
use Rattle.mb_parts.specs.Spelling.{request_bytes}
use Rattle.mb_parts.specs.Reading.{request_at}
use Rattle.mb_parts.proofs.Faults.{bounded_fails}
use Rattle.mb_parts.proofs.batch.read_requests.Goals as goal

pub returns-in_err-request : goal.returns-in_err-request
returns-in_err-request c =
    let f = request_at c.args.shape.now in
    let p = err_from_is_err_and c.from_residual.result c.from_residual.ensures.1 in
    rw (p.1, p.2) (bounded_fails request_bytes batch_bytes_limit f c.in_err-request.field-0.0 c.loop.requests c.args.count c.loop.counter c.loop.used (place_of c.loop.fields) _ (bounded_at request_bytes batch_bytes_limit f c.args.count 0 (place_of c.args.fields.now)) c.loop-test.true c.in_err-request.ensures.read c.loop.invariant.1)

pub loop-preserved : goal.loop-preserved
loop-preserved c =
    let f = request_at c.args.shape.now in
    let on = bounded_goes_on request_bytes batch_bytes_limit f c.loop.requests c.args.count c.loop.counter c.loop.used (place_of c.loop.fields) c.in_ok-request.request (place_of c.read_next.new.fields) (bounded_at request_bytes batch_bytes_limit f c.args.count 0 (place_of c.args.fields.now)) c.loop-test.true c.in_ok-request.ensures.read c.loop.invariant.1 in
    rw (c.size-used.ensures.bytes, c.in_ok-push.ensures.ok) (c.in_ok-request.ensures.size.1, on)

pub returns : goal.returns
returns c =
    let f = request_at c.args.shape.now in
    bounded_is_done request_bytes batch_bytes_limit f c.loop.requests c.args.count c.loop.counter c.loop.used (place_of c.loop.fields) (bounded_at request_bytes batch_bytes_limit f c.args.count 0 (place_of c.args.fields.now)) c.loop-test.false c.loop.invariant.1
