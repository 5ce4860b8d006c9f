use Rattle.std.proofs.Common.{◌∙◌}
use Rattle.mb_learn.proofs.learner.Learner.line.Goals as goal

pub returns : goal.returns
returns g c s secret initial taken slots rep = c.slots.ensures ∙ rep.executes.slots_are
