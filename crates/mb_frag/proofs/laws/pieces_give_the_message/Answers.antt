use Rattle.mb_frag.proofs.PushLemmas.{pieces_give}
use Rattle.mb_frag.proofs.laws.pieces_give_the_message.Goals as goal

pub returns : goal.returns
returns c = pieces_give
