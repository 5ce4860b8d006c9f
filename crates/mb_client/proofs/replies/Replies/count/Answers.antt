use Rattle.std.proofs.Common.{◌∙◌}
use Rattle.mb_client.proofs.CountedReplies.{first_counts, later_is_dropped}
use Rattle.mb_client.proofs.replies.Replies.count.Goals as goal

pub returns-then-is_none-clause-stands : goal.returns-then-is_none-clause-stands
returns-then-is_none-clause-stands c = λ rs stands.
    first_counts c.args.self.now.by_host.items rs c.args.reply stands c.from.result (c.from.ensures ∙ c.host.ensures) c.requires c.index_mut-kept.result.now c.index_mut-kept.ensures.value c.is_none.result c.is_none.ensures c.if-is_none.true

pub returns-else-is_none-clause-stands : goal.returns-else-is_none-clause-stands
returns-else-is_none-clause-stands c = λ rs stands.
    later_is_dropped c.args.self.now.by_host.items rs c.args.reply stands c.from.result (c.from.ensures ∙ c.host.ensures) c.requires c.index_mut-kept.result.now c.index_mut-kept.ensures.value c.is_none.result c.is_none.ensures c.if-is_none.false
