use Rattle.std.proofs.Common.{◌≡◌, ◌+◌, Err, refl}
use Rattle.std.proofs.lemmas.Result.{err_from_is_err_and}
use Rattle.mb_edge.specs.Told.{with_more}
use Rattle.mb_cluster.specs.Hearing.{asked}
use Rattle.mb_cluster.specs.Posts.{to_all, request_bytes, request_each}
use Rattle.mb_cluster.specs.Sends.{SendsFront}
use Rattle.mb_edge.specs.declared.outside.Failed.{Failed}
use Rattle.mb_cluster.specs.Runs.{wire}
use Rattle.mb_cluster.proofs.SendLemmas.{fronts_all}
use Rattle.mb_cluster.proofs.StepLemmas.{op_awaited, fails_first, fails_asking}
use Rattle.mb_cluster.proofs.asking.Program.exchange.Goals as goal

pub returns-clause-exchanges : goal.returns-clause-exchanges
returns-clause-exchanges g c = λ s secret side listens.
    let link = g.L.Link in
    let post = c.args.self.now.post in
    let request = request_bytes secret (side.asker.number + 1) c.args.op.now in
    let is : c.in_ok-request.request.items ≡ request = c.in_ok-request.ensures.request s secret side listens in
    let told : (link.seen c.send.new.link).sent ≡ with_more (link.seen c.args.link.now).sent (to_all post.hosts post.number request) =
    fronts_all (to_all post.hosts post.number request) (link.seen c.args.link.now).sent (link.seen c.send.new.link).sent (rw (c.deref.ensures.value, is) at c.in_ok-send.ensures.sent) in
    op_awaited s secret c.args.op.now side c.args.self.now _ c.await_answer.new.self
    (wire (link.seen c.args.link.now).received (link.seen c.args.link.now).sent) (wire (link.seen c.send.new.link).received (link.seen c.send.new.link).sent) (wire (link.seen c.await_answer.new.link).received (link.seen c.await_answer.new.link).sent)
    refl c.in_ok-send.ensures.hosts c.in_ok-send.ensures.number c.in_ok-send.ensures.received told c.await_answer.result
    (rw (c.deref-2.ensures.value, is) at (c.await_answer.ensures.awaits s secret (asked side) (c.in_ok-request.ensures.stands s secret side listens) refl))

pub returns-in_err-request-clause-exchanges : goal.returns-in_err-request-clause-exchanges
returns-in_err-request-clause-exchanges g c = λ s secret side listens.
    let link = g.L.Link in
    let at = wire (link.seen c.args.link.now).received (link.seen c.args.link.now).sent in
    let p = err_from_is_err_and c.from_residual.result c.from_residual.ensures.1 in
    rw p.1 (fails_first s secret c.args.self.now.turns (request_each (request_bytes secret (side.asker.number + 1) c.args.op.now)) p.0 (asked side) c.args.self.now _ at at refl refl refl)

pub returns-in_err-send-clause-exchanges : goal.returns-in_err-send-clause-exchanges
returns-in_err-send-clause-exchanges g c = λ s secret side listens.
    let link = g.L.Link in
    let post = c.args.self.now.post in
    let request = request_bytes secret (side.asker.number + 1) c.args.op.now in
    let is : c.in_ok-request.request.items ≡ request = c.in_ok-request.ensures.request s secret side listens in
    let p = err_from_is_err_and c.from_residual-in_err-send.result c.from_residual-in_err-send.ensures.1 in
    let cause = c.in_err-send.field-0.0 in
    let sent : SendsFront {E = Failed} (to_all post.hosts post.number request) (Err cause) (link.seen c.args.link.now).sent (link.seen c.send.new.link).sent = rw (c.deref.ensures.value, is) at c.in_err-send.ensures.sent in
    rw (p.1, p.2)
    (fails_asking s secret c.args.self.now.turns request cause (asked side) c.args.self.now _
    (wire (link.seen c.args.link.now).received (link.seen c.args.link.now).sent) (wire (link.seen c.send.new.link).received (link.seen c.send.new.link).sent) c.in_err-send.ensures.received sent c.in_err-send.ensures.number)
