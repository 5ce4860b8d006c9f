use Rattle.std.proofs.Common.{◌≤◌, length, arith}
use Rattle.mb_client.proofs.CountedReplies.{all_seen}
use Rattle.mb_client.proofs.replies.Replies.most_agreeing.Goals as goal

pub returns : goal.returns
returns c = λ rs stands.
    let table = c.args.self.now.by_host.items in
    let end : length table ≤ c.loop-kept.kept-index = omega arith in
    all_seen rs table c.loop-kept.kept-index c.loop-kept.most end (rw c.deref-kept-items.ensures.value at c.loop-kept.invariant) stands
