use Rattle.std.proofs.Common.{◌≡◌, ◌++◌, replicate}
use Rattle.mb_members.specs.Marks.{unmarked}
use Rattle.mb_members.proofs.marks.lengthen.Given as goal

-- src/marks.rt
abbrev pub invariant-loop : goal.invariant-loop
invariant-loop l = l.marks.items ≡ l.fn.marks.items ++ replicate l.counter unmarked
