use Rattle.std.proofs.Common.{◌∙◌}
use Rattle.mb_learn.proofs.Voting.{commit_told}
use Rattle.mb_learn.proofs.heard.Heard.is_commit_certified.Goals as goal

pub returns-then-verify_ui : goal.returns-then-verify_ui
returns-then-verify_ui c = commit_told c.args.self.now.shape c.args.self.now.usig.secret c.args.m.now c.args.digest.now c.requires c.as_slice.result.now c.verify_ui.result (c.as_slice.ensures.value ∙ c.in_ok-bare.ensures) c.verify_ui.ensures c.if-verify_ui.true
