use Rattle.std.proofs.Common.{◌≡◌, false, ◌++◌, length, reverse}
use Rattle.std.specs.List.{AllByRecursion}
use Rattle.mb_msg.specs.Fits.{FitsStamped}
use Rattle.mb_forgery.specs.Contents.{entries_of}
use Rattle.mb_forgery.proofs.contents.entries_of.Given as goal

-- what was written, and what is still to come
abbrev pub invariant-loop-message : goal.invariant-loop-message
invariant-loop-message l = record {
  fits : AllByRecursion (FitsStamped l.shape) l.messages.items;
  written : l.entries.items ++ entries_of l.behind_opening (reverse l.messages.items) ≡ entries_of false (reverse l.initial.messages.items);
}

abbrev pub decreases-loop-message : goal.decreases-loop-message
decreases-loop-message l = length l.messages.items
