use Rattle.std.proofs.lemmas.Result.{err_from_is_err_and}
use Rattle.mb_base.specs.Fields.{place_of}
use Rattle.mb_base.specs.Reading.{repeat_at}
use Rattle.mb_base.proofs.Loops.{goes_on, is_done}
use Rattle.mb_parts.proofs.Faults.{part_fails}
use Rattle.mb_parts.proofs.part.read_parts.Goals as goal

pub returns-in_err-part : goal.returns-in_err-part
returns-in_err-part g c =
    let f = g.T.Readable.reads c.args.shape.now in
    let p = err_from_is_err_and c.from_residual.result c.from_residual.ensures.1 in
    rw (p.1, p.2) (part_fails f c.in_err-part.field-0.0 c.loop.all c.args.count c.loop.counter (place_of c.loop.fields) _ (repeat_at f c.args.count (place_of c.args.fields.now)) c.loop-test.true c.in_err-part.ensures c.loop.invariant)

pub loop-preserved : goal.loop-preserved
loop-preserved g c =
    let f = g.T.Readable.reads c.args.shape.now in
    rw c.in_ok-push.ensures.ok (goes_on f c.loop.all c.args.count c.loop.counter (place_of c.loop.fields) c.in_ok-part.part (place_of c.read.new.fields) (repeat_at f c.args.count (place_of c.args.fields.now)) c.loop-test.true c.in_ok-part.ensures c.loop.invariant)

pub returns : goal.returns
returns g c =
    let f = g.T.Readable.reads c.args.shape.now in
    is_done f c.loop.all c.args.count c.loop.counter (place_of c.loop.fields) (repeat_at f c.args.count (place_of c.args.fields.now)) c.loop-test.false c.loop.invariant
