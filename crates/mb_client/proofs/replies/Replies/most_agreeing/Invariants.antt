use Rattle.std.proofs.Common.{◌≡◌, ℕ, max, drop}
use Rattle.std.specs.Prelude.{count_by}
use Rattle.mb_msg.specs.declared.normal.Reply.{Reply}
use Rattle.mb_client.specs.Replies.{kept_agrees}
use Rattle.mb_client.proofs.CountedReplies.{greatest_kept}
use Rattle.mb_client.proofs.replies.Replies.most_agreeing.Given as goal

abbrev pub invariant-loop-kept : goal.invariant-loop-kept
invariant-loop-kept l =
    let agreeing : Reply → ℕ = λ r. count_by (kept_agrees r) l.self.by_host.items in
    max l.most (greatest_kept agreeing (drop l.kept-index l.kept-items)) ≡ greatest_kept agreeing l.self.by_host.items
