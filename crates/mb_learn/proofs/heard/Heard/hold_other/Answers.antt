use Rattle.std.proofs.Common.{[]}
use Rattle.mb_learn.specs.Shown.{shown_in}
use Rattle.mb_learn.proofs.Going.{holds_none, holds_alike}
use Rattle.mb_learn.proofs.Walking.{none_shown}
use Rattle.mb_learn.proofs.heard.Heard.hold_other.Goals as goal

pub returns-in_default : goal.returns-in_default
returns-in_default c =
    holds_alike [] (shown_in c.args.message.now) c.args.self.now c.args.self.now (none_shown c.args.message.now c.requires.fits.1 c.in_default.not-Log) (holds_none c.args.self.now c.requires.ready)
