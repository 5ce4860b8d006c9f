use Rattle.std.proofs.Common.{arith, sym}
use Rattle.mb_node.proofs.Nothing.{digest_of_none}
use Rattle.mb_node.proofs.entries.sent_digest.Goals as goal

pub returns-in-empty : goal.returns-in-empty
returns-in-empty c = sym (digest_of_none c.args.sent.now (omega (arith, c.in-empty.len_below)))
