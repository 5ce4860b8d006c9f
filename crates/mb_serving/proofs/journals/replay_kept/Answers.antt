use Rattle.std.proofs.Common.{[], sym}
use Rattle.mb_serving.specs.Records.{host_of}
use Rattle.mb_serving.proofs.NodeLaws.{kv_serves}
use Rattle.mb_serving.proofs.journals.replay_kept.Goals as goal

pub returns-in-Ok-clause-stands : goal.returns-in-Ok-clause-stands
returns-in-Ok-clause-stands c =
    let me = host_of c.args.config.now c.args.host in
    let serves = kv_serves c.args.config.now c.args.host in
    let made = c.in_ok-replica.ensures in
    c.in-Ok.ensures.replays me [] serves (made.stands me serves (sym c.new.ensures) (record { shape = sym made.host.0; host = sym made.host.1; secret = sym made.host.2 })) tt
