use Rattle.std.proofs.Common.{◌≡◌, ◌<◌, ℕ, length, get_or, None}
use Rattle.mb_client.proofs.replies.Replies.clear.Given as goal

abbrev pub invariant-loop-kept : goal.invariant-loop-kept
invariant-loop-kept l = record {
  places : length l.kept-items ≡ length l.fn.self.by_host.items;
  cleared : (h : ℕ) → h < l.kept-index → get_or l.kept-items h None ≡ None;
}
