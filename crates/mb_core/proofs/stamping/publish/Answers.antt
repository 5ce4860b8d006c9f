use Rattle.std.proofs.Common.{◌∙◌, ap}
use Rattle.mb_msg.specs.Stamps.{mark_of}
use Rattle.mb_core.proofs.Signing.{own_gate_follows}
use Rattle.mb_core.proofs.StillSigned.{still}
use Rattle.mb_core.proofs.stamping.publish.Goals as goal

-- src/stamping.rt
pub returns-clause-gates : goal.returns-clause-gates
returns-clause-gates g c = λ me d who sound adds stands.
    let same = still c.send_stamped.result c.args.message c.in_ok-message.message c.in_ok-message.ensures in
    own_gate_follows c.args.replica.now c.gate_follows.new.self c.args.message c.mark.result (c.mark.ensures ∙ ap mark_of same) c.gate_follows.ensures me d who sound adds stands
