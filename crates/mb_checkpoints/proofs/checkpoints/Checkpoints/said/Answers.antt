use Rattle.std.proofs.Common.{◌++◌, [], ap, sym, ◌∙◌}
use Rattle.std.specs.List.{cons_option}
use Rattle.std.specs.Prelude.{option_and_then}
use Rattle.mb_checkpoints.specs.Agreement.{said_in}
use Rattle.mb_checkpoints.specs.Certificates.{message_at}
use Rattle.mb_checkpoints.proofs.Rows.{found_in_more}
use Rattle.mb_checkpoints.proofs.checkpoints.Checkpoints.said.Goals as goal

pub loop-host-preserved : goal.loop-host-preserved
loop-host-preserved c =
    let t = c.args.self.now in
    let host = c.loop-host.host in
    c.in_ok-push_some.ensures
    ∙ ap (λ o. c.loop-host.all ++ cons_option o []) c.said_by.ensures
    ∙ ap (λ l. l ++ cons_option (option_and_then (said_in c.args.owner) (message_at t c.args.number host)) []) c.loop-host.invariant
    ∙ sym (found_in_more (said_in c.args.owner) (message_at t c.args.number) host)
