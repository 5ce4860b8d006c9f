use Rattle.std.proofs.Common.{◌++◌, take, List, ℕ}
use Rattle.std.specs.List.{flat_map}
use Rattle.mb_node.specs.Recording.{sent_text}
use Rattle.mb_node.proofs.entries.feed_all.Given as goal

abbrev pub invariant-loop-message : goal.invariant-loop-message
invariant-loop-message g l = (m : List ℕ) → g.H.Digest.holds l.initial.hasher m → g.H.Digest.holds l.hasher (m ++ flat_map sent_text (take l.message-index l.sent))
