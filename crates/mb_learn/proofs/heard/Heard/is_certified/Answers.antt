use Rattle.std.proofs.Common.{◌∙◌}
use Rattle.mb_audit.proofs.Keeping.{verified_by}
use Rattle.mb_learn.proofs.heard.Heard.is_certified.Goals as goal

pub returns : goal.returns
returns c = verified_by c.args.self.now.usig.secret c.args.stamp.now c.ui.result c.as_slice.result.now c.verify_ui.result c.verify_ui.ensures c.ui.ensures (c.as_slice.ensures.value ∙ c.in_ok-bare.ensures)
