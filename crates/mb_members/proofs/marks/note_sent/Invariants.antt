use Rattle.std.proofs.Common.{◌≡◌, ◌++◌, map, take}
use Rattle.mb_members.specs.Marks.{lengthened, sent_mark}
use Rattle.mb_members.proofs.marks.note_sent.Given as goal

-- src/marks.rt
abbrev pub invariant-loop-outgoing : goal.invariant-loop-outgoing
invariant-loop-outgoing l = l.marks.items ≡ take l.count (lengthened l.fn.marks.items l.count) ++ map sent_mark (take l.outgoing-index l.sent)
