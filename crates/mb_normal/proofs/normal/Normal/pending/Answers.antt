use Rattle.std.proofs.Common.{◌∙◌}
use Rattle.mb_normal.proofs.Tables.{request_is}
use Rattle.mb_normal.proofs.normal.Normal.pending.Goals as goal

pub returns : goal.returns
returns c = λ s h x st. c.get.ensures.found ∙ request_is c.args.self.now s h x st c.args.client c.requires
