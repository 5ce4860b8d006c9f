use Rattle.mb_frag.proofs.CameLemmas.{messages_come}
use Rattle.mb_frag.proofs.laws.messages_come_whole_and_in_order.Goals as goal

pub returns : goal.returns
returns c = messages_come
