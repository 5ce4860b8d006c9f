use Rattle.std.proofs.Common.{arith}
use Rattle.std.proofs.lemmas.Bool.{false≢true}
use Rattle.std.proofs.lemmas.Result.{IfOk-weaker}
use Rattle.mb_node.proofs.Joining.{none_taken, client_taken, host_taken, other_taken, none_is}
use Rattle.mb_node.proofs.inbox.Inbox.take.Goals as goal

pub returns-in-None-clause-message : goal.returns-in-None-clause-message
returns-in-None-clause-message c = λ s before has. none_taken s before c.args.self.now c.args.datagram.now (none_is c.args.datagram.now c.in-None.ensures.value) has

pub returns-in-Some-eq255-clause-message : goal.returns-in-Some-eq255-clause-message
returns-in-Some-eq255-clause-message c = λ s before has.
    IfOk-weaker c.push.result _ _
    (λ made is. client_taken s before c.args.self.now c.args.datagram.now c.in-Some-eq255.field-0.now c.in-Some-eq255.ensures.value c.in-Some-eq255.field-0-test has made c.push.new.joiner is c.push.ensures.held)
    c.push.ensures.message

pub returns-in-None-get_mut-clause-message : goal.returns-in-None-get_mut-clause-message
returns-in-None-get_mut-clause-message c = λ s before has.
    other_taken s before c.args.self.now c.args.datagram.now c.in-Some.field-0.now c.from.result c.in-Some.ensures.value c.from.ensures (λ lt. false≢true (c.in-None-get_mut.ensures.variant.1 (omega (arith, lt, c.args.self.now.hosts.ok.0)))) c.in-Some.field-0-test.1 has

pub returns-in-Some-get_mut-clause-message : goal.returns-in-Some-get_mut-clause-message
returns-in-Some-get_mut-clause-message c = λ s before has.
    let item = c.in-Some-get_mut.ensures.item in
    IfOk-weaker c.push-in-Some-get_mut.result _ _
    (λ made is.
    let taken = host_taken s before c.args.self.now c.args.datagram.now c.in-Some.field-0.now c.from.result c.in-Some.ensures.value c.from.ensures item.3.0 has made c.in-Some-get_mut.joiner.now c.push-in-Some-get_mut.new.joiner
    c.in-Some-get_mut.ensures.value is c.push-in-Some-get_mut.ensures.held in
    (taken.0, record { hosts = taken.1.0; client = taken.1.1 }))
    c.push-in-Some-get_mut.ensures.message
