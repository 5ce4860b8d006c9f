use Rattle.std.proofs.Common.{◌≡◌, ◌+◌, ◌≤◌, length, arith, length-append, [], ◌∷◌, ◌++◌}
use Rattle.std.proofs.lemmas.Result.{err_from_is_err_and}
use Rattle.mb_base.specs.Fields.{place_of}
use Rattle.mb_base.specs.Reading.{repeat_at}
use Rattle.mb_base.proofs.Loops.{goes_on, is_done}
use Rattle.mb_parts.proofs.Faults.{part_fails}
use Rattle.mb_model.specs.States.{last_reply_at}
use Rattle.mb_cache.proofs.Clients.{each_push}
use Rattle.mb_cache.proofs.table_bytes.read_each.Goals as goal

pub returns-in_err-read_last-clause-read : goal.returns-in_err-read_last-clause-read
returns-in_err-read_last-clause-read c =
    let p = err_from_is_err_and c.from_residual.result c.from_residual.ensures.1 in
    rw (p.1, p.2) (part_fails last_reply_at c.in_err-read_last.field-0.0 c.loop.all.items c.args.clients c.loop.counter (place_of c.loop.fields) _ (repeat_at last_reply_at c.args.clients (place_of c.args.fields.now)) c.loop-test.true c.in_err-read_last.ensures.read c.loop.invariant.read)

pub loop-preserved : goal.loop-preserved
loop-preserved c =
    let a = c.in_ok-read_last.field-0 in
    let all = c.loop.all.items in
    let total = repeat_at last_reply_at c.args.clients (place_of c.args.fields.now) in
    let len : length (all ++ a ∷ []) ≡ c.loop.counter + 1 = omega (arith, length-append all (a ∷ []), c.loop.invariant.len) in
    let within : c.loop.counter + 1 ≤ c.args.clients = omega (arith, c.loop-test.true) in
    record {
      read = rw c.in_ok-push.ensures.items (goes_on last_reply_at all c.args.clients c.loop.counter (place_of c.loop.fields) a (place_of c.read_last.new.fields) total c.loop-test.true c.in_ok-read_last.ensures.read c.loop.invariant.read);
      fit = rw c.in_ok-push.ensures.items (each_push all a c.in_ok-read_last.ensures.fits c.loop.invariant.fit);
      len = rw c.in_ok-push.ensures.items len;
      within = within;
    }

pub returns-clause-read : goal.returns-clause-read
returns-clause-read c =
    is_done last_reply_at c.loop.all.items c.args.clients c.loop.counter (place_of c.loop.fields) (repeat_at last_reply_at c.args.clients (place_of c.args.fields.now)) c.loop-test.false c.loop.invariant.read
