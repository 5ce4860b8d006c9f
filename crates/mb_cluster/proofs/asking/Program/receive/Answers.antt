use Rattle.std.proofs.Common.{Err, refl, sym, subst, ◌∙◌}
use Rattle.mb_edge.specs.declared.outside.Failed.{Failed}
use Rattle.mb_cluster.specs.Posts.{to_all, repeats}
use Rattle.mb_cluster.specs.Sends.{SendsFront}
use Rattle.mb_cluster.specs.Runs.{wire}
use Rattle.mb_cluster.proofs.WireLemmas.{more_none}
use Rattle.mb_cluster.proofs.StepLemmas.{fails_first, fails_quiet, fails_datagram}
use Rattle.mb_cluster.proofs.asking.Program.receive.Goals as goal

pub returns-in-Err-clause-receives : goal.returns-in-Err-clause-receives
returns-in-Err-clause-receives g c = λ s secret side listens.
    let link = g.L.Link in
    fails_datagram s secret c.args.request.now _ side c.args.self.now _ (wire (link.seen c.args.link.now).received (link.seen c.args.link.now).sent) (wire (link.seen c.recv.new.self).received (link.seen c.recv.new.self).sent)
    c.in-Datagram.ensures.received c.recv.ensures.sent refl

pub returns-in-Err-send-clause-receives : goal.returns-in-Err-send-clause-receives
returns-in-Err-send-clause-receives g c = λ s secret side listens.
    let link = g.L.Link in
    let post = c.args.self.now.post in
    let request = c.args.request.now in
    let cause = c.in-Err-send.cause in
    fails_quiet s secret request cause side c.args.self.now _ (wire (link.seen c.args.link.now).received (link.seen c.args.link.now).sent) (wire (link.seen c.send.new.link).received (link.seen c.send.new.link).sent)
    (c.send.ensures.received ∙ c.in-Quiet.ensures.received)
    (subst (λ told. SendsFront {E = Failed} (to_all post.hosts post.number request) (Err cause) told (link.seen c.send.new.link).sent) c.recv.ensures.sent c.in-Err-send.ensures.sent)
    c.send.ensures.number

pub returns-in-Failed-clause-receives : goal.returns-in-Failed-clause-receives
returns-in-Failed-clause-receives g c = λ s secret side listens.
    let link = g.L.Link in
    fails_first s secret 1 (repeats c.args.request.now) c.in-Failed.cause side c.args.self.now _ (wire (link.seen c.args.link.now).received (link.seen c.args.link.now).sent) (wire (link.seen c.recv.new.self).received (link.seen c.recv.new.self).sent)
    (c.in-Failed.ensures.received ∙ sym (more_none (link.seen c.args.link.now).received)) c.recv.ensures.sent refl
