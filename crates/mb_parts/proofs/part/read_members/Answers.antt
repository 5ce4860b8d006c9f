use Rattle.std.proofs.Common.{◌+◌, ◌≤◌, arith}
use Rattle.std.proofs.lemmas.Result.{err_from_is_err_and}
use Rattle.mb_base.specs.Shapes.{host_count}
use Rattle.mb_base.specs.Fields.{place_of}
use Rattle.mb_base.specs.Reading.{rising_at}
use Rattle.mb_base.proofs.Loops.{rising_goes_on, rising_is_done}
use Rattle.mb_parts.proofs.Faults.{member_fails}
use Rattle.mb_parts.proofs.part.read_members.Goals as goal

pub returns-in_err-member : goal.returns-in_err-member
returns-in_err-member g c =
    let f = g.T.Member.member_reads c.args.shape.now c.args.left_out in
    let p = err_from_is_err_and c.from_residual.result c.from_residual.ensures.1 in
    rw (p.1, p.2) (member_fails f g.T.Member.host_of c.in_err-member.field-0.0 c.loop.all c.args.count c.loop.counter c.loop.least (place_of c.loop.fields) _ (rising_at f g.T.Member.host_of c.args.count 0 (place_of c.args.fields.now)) c.loop-test.true c.in_err-member.ensures.read c.loop.invariant.1)

pub loop-preserved : goal.loop-preserved
loop-preserved g c =
    let f = g.T.Member.member_reads c.args.shape.now c.args.left_out in
    let m = c.in_ok-member.member in
    let low : g.T.Member.host_of m + 1 ≤ host_count c.args.shape.now = omega (arith, c.in_ok-member.ensures.host) in
    let on = rising_goes_on f g.T.Member.host_of c.loop.all c.args.count c.loop.counter c.loop.least (place_of c.loop.fields) m (place_of c.read_member.new.fields) (rising_at f g.T.Member.host_of c.args.count 0 (place_of c.args.fields.now)) c.loop-test.true c.in_ok-member.ensures.read c.loop.invariant.1 in
    rw (c.host-least.ensures, c.in_ok-push.ensures.ok) (low, on)

pub returns : goal.returns
returns g c =
    let f = g.T.Member.member_reads c.args.shape.now c.args.left_out in
    rising_is_done f g.T.Member.host_of c.loop.all c.args.count c.loop.counter c.loop.least (place_of c.loop.fields) (rising_at f g.T.Member.host_of c.args.count 0 (place_of c.args.fields.now)) c.loop-test.false c.loop.invariant.1
