use Rattle.std.proofs.Common.{take}
use Rattle.mb_learn.proofs.Lowest.{LowestOf}
use Rattle.mb_learn.proofs.learner.Learner.lowest_difference.Given as goal

abbrev pub invariant-loop-pos : goal.invariant-loop-pos
invariant-loop-pos g l = LowestOf l.self.heard l.self.line (take l.pos-index l.self.heard.newly_said.items) l.lowest
