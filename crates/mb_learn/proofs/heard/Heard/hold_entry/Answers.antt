use Rattle.mb_learn.proofs.Voting.{shows_other}
use Rattle.mb_learn.proofs.heard.Heard.hold_entry.Goals as goal

pub returns-in_default : goal.returns-in_default
returns-in_default c = shows_other c.args.self.now c.args.entry.now c.requires.ready c.in_default.not-Prepare c.in_default.not-Commit c.in_default.not-Open
