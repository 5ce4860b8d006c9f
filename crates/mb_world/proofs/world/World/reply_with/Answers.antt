use Rattle.std.proofs.Common.{rules}
use Rattle.mb_msg.specs.declared.normal.Reply.{Reply}
use Rattle.mb_msg.specs.Fits.{FitsReply}
use Rattle.mb_msg.proofs.Sizes.{small_reply}
use Rattle.mb_world.proofs.world.World.reply_with.Goals as goal

pub returns-clause-fits : goal.returns-clause-fits
returns-clause-fits g c =
    let reply : Reply = record { host = c.args.host; client = c.args.client; seq = c.args.seq; pos = c.args.pos; result = c.in_ok-duplicate.field-0; tag = c.tag_reply.result } in
    let fits : FitsReply c.args.self.now.shape reply =
    record { host = c.requires.host; client = c.requires.client; seq = c.requires.seq; pos = c.requires.pos; result = rw c.in_ok-duplicate.ensures c.requires.answer; tag = search rules } in
    small_reply c.args.self.now.shape reply fits
