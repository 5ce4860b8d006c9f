use Rattle.mb_unforged.proofs.Sent.{sent_is_unforged}
use Rattle.mb_unforged.proofs.hosts_send_nothing_forged.Goals as goal

pub returns : goal.returns
returns g c = sent_is_unforged _
