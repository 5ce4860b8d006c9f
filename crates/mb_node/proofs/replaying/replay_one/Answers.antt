use Rattle.std.proofs.Common.{List, ◌∙◌, ap}
use Rattle.mb_msg.specs.declared.event.Sent.{Sent}
use Rattle.mb_node.specs.Recording.{entry_with}
use Rattle.mb_node.proofs.Replayed.{replayed_one}
use Rattle.mb_node.proofs.replaying.replay_one.Goals as goal

pub returns-clause-replays : goal.returns-clause-replays
returns-clause-replays g c = λ me d serves rep whole.
    replayed_one me d c.args.event c.in_ok-step.step c.step_of.new.replica c.entry_of.result (c.in_ok-step.ensures.stands me d serves rep whole)
    (c.entry_of.ensures ∙ ap (λ (l : List Sent). entry_with c.args.event l) c.as_slice.ensures)
