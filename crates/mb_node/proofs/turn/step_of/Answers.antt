use Rattle.mb_node.proofs.Counting.{step_few}
use Rattle.mb_node.proofs.Lengths.{messages_are}
use Rattle.mb_node.proofs.turn.step_of.Goals as goal

pub returns-in-Ok-clause-messages : goal.returns-in-Ok-clause-messages
returns-in-Ok-clause-messages g c = messages_are c.in-Ok.step.sent c.in-Ok.ensures.lengths

pub returns-in-Ok-clause-few : goal.returns-in-Ok-clause-few
returns-in-Ok-clause-few g c =
    let r = c.requires.rests in
    step_few r.me r.history c.args.event.now c.args.replica.now c.in-Ok.step r.represents r.whole c.args.replica.now.state.protocol.host_in (c.in-Ok.ensures.stands r.me r.history r.serves r.represents r.whole).0
