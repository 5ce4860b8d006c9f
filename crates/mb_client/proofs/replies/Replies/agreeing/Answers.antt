use Rattle.std.proofs.Common.{◌∙◌, rules}
use Rattle.std.proofs.lemmas.Iterator.{YieldsList-from_slice}
use Rattle.std.proofs.lemmas.Iterator.Consumers.{YieldsList-from_filter, count_from_yields_List}
use Rattle.std.proofs.lemmas.List.Sums.{length-filter}
use Rattle.mb_client.specs.Replies.{kept_agrees}
use Rattle.mb_client.proofs.CountedReplies.{agreeing_told}
use borrow.Author.Tests.{tests}
use Rattle.mb_client.proofs.replies.Replies.agreeing.Goals as goal

pub returns-clause-kept : goal.returns-clause-kept
returns-clause-kept c =
    let agrees = kept_agrees c.args.reply.now in
    let table = c.args.self.now.by_host.items in
    count_from_yields_List c.filter.result _ c.count.ensures.ran (YieldsList-from_filter _ agrees (YieldsList-from_slice table (cc)) c.filter.ensures.closure (λ x r q k. search (rules, tests))) ∙ length-filter agrees table

pub returns-clause-counts : goal.returns-clause-counts
returns-clause-counts c = λ rs stands. returns-clause-kept c ∙ agreeing_told c.args.reply.now rs c.args.self.now.by_host.items stands
