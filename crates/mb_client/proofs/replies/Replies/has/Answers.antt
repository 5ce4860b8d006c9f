use Rattle.std.proofs.Common.{◌<◌, ap, sym, ◌∙◌, is_some, length, rules}
use Rattle.mb_client.proofs.CountedReplies.{has_told, read_is}
use Rattle.mb_client.proofs.replies.Replies.has.Goals as goal

pub returns : goal.returns
returns c = λ rs stands.
    let table = c.args.self.now.by_host.items in
    let lt : c.args.host < length table = search rules in
    c.is_some.ensures ∙ ap is_some (sym (read_is table c.from.result c.args.host c.index.result.now c.from.ensures lt c.index.ensures)) ∙ has_told table rs c.args.host stands
